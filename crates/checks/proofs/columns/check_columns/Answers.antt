-- The answer of the two stages is that of the first that refuses.
use Rattle.std.proofs.Common.{sym, ap, ◌∙◌}
use Rattle.tables.specs.Stages.{checked_numbers}
use Rattle.tables.proofs.Stages.{stage-refused, stage-passed, fit-sized}
use Rattle.checks.proofs.columns.check_columns.Goals as goal

pub check_offsets-requires : goal.check_offsets-requires
check_offsets-requires c = fit-sized _ _ c.check_lent.ensures c.in_default.is

pub returns-in_default : goal.returns-in_default
returns-in_default c = stage-passed _ _ c.check_lent.ensures c.in_default.is c.check_offsets.ensures

pub returns : goal.returns
returns c = sym (ap checked_numbers c.in-Err.is) ∙ stage-refused _ _ c.check_lent.ensures c.in-Err.is
