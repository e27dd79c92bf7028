-- The total decides.
use Rattle.std.proofs.lemmas.Result.{err_from_is_err_and}
use Rattle.stages.proofs.Routines.{ready-count}
use Rattle.stages.proofs.Spaces.{rows_fit, bounds-told}
use Rattle.described.proofs.Columns.{measure-stopped, measure-passed}
use Rattle.described.proofs.column.measure_column.Goals as goal

pub returns-in_err-total : goal.returns-in_err-total
returns-in_err-total c =
    let p = err_from_is_err_and c.from_residual.result c.from_residual.ensures.1 in
    rw (p.1, p.2) (measure-stopped _ _ c.measure.ensures c.in_err-total.was)

pub needed_lengths-requires : goal.needed_lengths-requires
needed_lengths-requires c =
    let r = c.requires in
    record { row_fits = rows_fit _ r.column; bounds = bounds-told _ r.column; few = ready-count _ _ r }

pub returns : goal.returns
returns c = measure-passed _ _ c.measure.ensures c.in_ok-total.was c.needed_lengths.ensures
