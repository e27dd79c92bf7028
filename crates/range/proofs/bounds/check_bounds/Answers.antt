-- An index width is 2, 4, 8 or 1.
use Rattle.std.proofs.Common.{arith}
use Rattle.bits.proofs.Numbers.{width_one}
use Rattle.tables.proofs.Facts.{index-formed}
use Rattle.range.proofs.bounds.check_bounds.Goals as goal

pub check_bounds_at-requires-in_default-clause-width : goal.check_bounds_at-requires-in_default-clause-width
check_bounds_at-requires-in_default-clause-width c =
    width_one _ (index-formed _ c.requires).width (λ e. omega arith) (λ e. omega arith) (λ e. omega arith)
