-- Each return by the stage that led to it.
use Rattle.std.proofs.Common.{refl, inl, ◌∙◌}
use Rattle.tables.proofs.Stages.{passed-up}
use Rattle.described.proofs.Placed.{sizes-let-pass}
use Rattle.entries.proofs.Gathering.{sizes-refused, through-refused, all_tested}
use Rattle.entries.proofs.check.check.Goals as goal

pub returns-in_err-check_lent : goal.returns-in_err-check_lent
returns-in_err-check_lent c =
    passed-up _ c.in_err-check_lent.was c.from_residual.ensures.1 ∙ sizes-refused _ _ _ c.check_lent.ensures _ c.in_err-check_lent.was

pub check_column-requires : goal.check_column-requires
check_column-requires c = let p = sizes-let-pass _ _ c.check_lent.ensures c.in_ok-check_lent.was in record { sized = p.0; tested_for = inl refl; index_passes = p.1 }

pub returns-in_err-needed : goal.returns-in_err-needed
returns-in_err-needed c =
    passed-up _ c.in_err-needed.was c.from_residual-in_err-needed.ensures.1
    ∙ through-refused _ _ _ c.check_lent.ensures c.in_ok-check_lent.was _ c.check_column.ensures _ c.in_err-needed.was

pub returns : goal.returns
returns c =
    all_tested _ _ _ c.check_lent.ensures c.in_ok-check_lent.was _ c.check_column.ensures c.in_ok-needed.was _ (rw c.lengths.ensures at c.check_space.ensures)
