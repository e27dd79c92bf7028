-- Refusals 1 to 3 on stated lengths, and 4 and 5 on the parts of the body.
use Rattle.std.proofs.Common.{sym, ap, subst, ◌∙◌}
use Rattle.tables.specs.Columns.{Column, index_column_of}
use Rattle.tables.specs.Bounds.{Sized}
use Rattle.tables.specs.Stages.{offsets_refusal}
use Rattle.gathers.specs.Stages.{range_refusal}
use Rattle.tables.proofs.Stages.{passed-up, sized-whole}
use Rattle.described.proofs.Placed.{sizes-stopped, sizes-let-pass, form-stopped, form-passed-on}
use Rattle.described.proofs.in_body.check_rows.Goals as goal

pub returns-in_err-check_stated : goal.returns-in_err-check_stated
returns-in_err-check_stated c =
    passed-up _ c.in_err-check_stated.was c.from_residual.ensures.1 ∙ sizes-stopped _ _ c.check_stated.ensures c.in_err-check_stated.was

pub column_in-column-requires : goal.column_in-column-requires
column_in-column-requires c = sized-whole _ (sizes-let-pass _ _ c.check_stated.ensures c.in_ok-check_stated.was).0

pub check_offsets-requires : goal.check_offsets-requires
check_offsets-requires c = subst Sized (sym c.column_in-column.ensures) (sizes-let-pass _ _ c.check_stated.ensures c.in_ok-check_stated.was).0

pub returns-in_err-check_offsets : goal.returns-in_err-check_offsets
returns-in_err-check_offsets c =
    passed-up _ c.in_err-check_offsets.was c.from_residual-in_err-check_offsets.ensures.1
    ∙ form-stopped _ _ c.check_stated.ensures c.in_ok-check_stated.was (c.check_offsets.ensures ∙ ap offsets_refusal c.column_in-column.ensures) c.in_err-check_offsets.was

pub check_bounds-requires : goal.check_bounds-requires
check_bounds-requires c = (sizes-let-pass _ _ c.check_stated.ensures c.in_ok-check_stated.was).1

pub returns : goal.returns
returns c =
    form-passed-on _ _ c.check_stated.ensures c.in_ok-check_stated.was (c.check_offsets.ensures ∙ ap offsets_refusal c.column_in-column.ensures) c.in_ok-check_offsets.was
    (c.check_bounds.ensures.checked ∙ ap (λ (b : Column). range_refusal b.table.rows (index_column_of c.args.indices.now)) c.column_in-column.ensures)
