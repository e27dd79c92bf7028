-- A width that is not 4 is 8.
use Rattle.std.proofs.Common.{arith}
use Rattle.variable.proofs.Reading.{facts}
use Rattle.variable.proofs.take.take_variable.Goals as goal

pub take_variable_at-requires-in_default-clause-offset_width : goal.take_variable_at-requires-in_default-clause-offset_width
take_variable_at-requires-in_default-clause-offset_width c =
    let w = (facts c.requires.ready c.requires.layout).width in
    grind arith
