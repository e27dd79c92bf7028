-- That the column passed refusals 1 to 3 says that its offsets can be read.
use Rattle.std.proofs.Common.{refl}
use Rattle.tables.proofs.Stages.{sized-row-fits}
use Rattle.offsets.proofs.Found.{none-bad, unit-listed, offsets-there, bad-answered}
use Rattle.offsets.proofs.check.check_offsets.Goals as goal

pub layout_at-requires : goal.layout_at-requires
layout_at-requires c = sized-row-fits _ c.requires refl

pub returns-in_default : goal.returns-in_default
returns-in_default c = none-bad c.requires refl c.layout_at.ensures c.in_default.not-VariableWidth

pub entries_in-most-requires : goal.entries_in-most-requires
entries_in-most-requires c = unit-listed c.requires refl c.in-VariableWidth.ensures

pub bad_offset-found-requires-clause-offsets : goal.bad_offset-found-requires-clause-offsets
bad_offset-found-requires-clause-offsets c = offsets-there c.requires refl c.in-VariableWidth.ensures

pub returns-in-Some : goal.returns-in-Some
returns-in-Some c = bad-answered c.requires refl c.in-VariableWidth.ensures c.entries_in-most.ensures c.in-Some.ensures

pub returns-in-None : goal.returns-in-None
returns-in-None c = bad-answered c.requires refl c.in-VariableWidth.ensures c.entries_in-most.ensures c.in-None.ensures
