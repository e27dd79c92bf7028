-- Each return by the stage that led to it.
use Rattle.std.proofs.Common.{◌∙◌}
use Rattle.tables.proofs.Stages.{passed-up}
use Rattle.arrays.proofs.Tested.{batch-stopped, columns-stopped, all_tested}
use Rattle.arrays.proofs.check.check.Goals as goal

pub returns-in_err-check_batch : goal.returns-in_err-check_batch
returns-in_err-check_batch c =
    passed-up _ c.in_err-check_batch.was c.from_residual.ensures.1
    ∙ batch-stopped _ _ _ (c.check_batch.ensures _) c.in_err-check_batch.was

pub returns-in_err-joined : goal.returns-in_err-joined
returns-in_err-joined c =
    passed-up _ c.in_err-joined.was c.from_residual-in_err-joined.ensures.1
    ∙ columns-stopped _ _ _ (c.check_batch.ensures _) c.in_ok-check_batch.was c.check_columns.ensures
    c.in_err-joined.was

pub returns : goal.returns
returns c =
    all_tested _ _ _ (c.check_batch.ensures _) c.in_ok-check_batch.was c.check_columns.ensures
    c.in_ok-joined.was (rw c.lengths.ensures at c.check_space.ensures)
