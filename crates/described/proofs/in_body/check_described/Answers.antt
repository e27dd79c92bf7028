-- Refusals 1 to 3 on stated lengths, and the rest on the parts of the body.
use Rattle.std.proofs.Common.{sym, subst}
use Rattle.std.proofs.lemmas.Result.{err_from_is_err_and}
use Rattle.tables.specs.Columns.{Column, index_column_of}
use Rattle.tables.specs.Bounds.{Sized}
use Rattle.tables.proofs.Stages.{sized-whole}
use Rattle.described.specs.Told.{RestToldOf, TestedFor}
use Rattle.described.proofs.Placed.{sizes-let-pass, stated-stopped, stated-passed}
use Rattle.described.proofs.in_body.check_described.Goals as goal

pub returns-in_err-check_stated : goal.returns-in_err-check_stated
returns-in_err-check_stated c =
    let p = err_from_is_err_and c.from_residual.result c.from_residual.ensures.1 in
    rw (p.1, p.2) (stated-stopped _ c.requires c.check_stated.ensures c.in_err-check_stated.was)

pub column_in-requires : goal.column_in-requires
column_in-requires c = sized-whole _ (sizes-let-pass _ _ c.check_stated.ensures c.in_ok-check_stated.was).0

pub check_column-requires : goal.check_column-requires
check_column-requires c =
    let p = sizes-let-pass _ _ c.check_stated.ensures c.in_ok-check_stated.was in
    let e = sym c.column_in.ensures in
    let t = index_column_of c.args.tested.now in
    let x = index_column_of c.args.indices.now in
    record { sized = subst Sized e p.0; tested_for = subst (λ (b : Column). TestedFor b.table.rows t x) e c.requires; index_passes = p.1 }

pub returns : goal.returns
returns c =
    stated-passed _ c.requires c.check_stated.ensures c.in_ok-check_stated.was _
    (subst (λ (b : Column). RestToldOf b (index_column_of c.args.indices.now) c.check_column.result) c.column_in.ensures c.check_column.ensures)
