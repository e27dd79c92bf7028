-- Each test that fails says that there is no such row.
use Rattle.std.proofs.Common.{sym, ◌∙◌}
use Rattle.reader.proofs.Rows.{unfit, other-kind, absent-row, row-bit, by-bit}
use Rattle.reader.proofs.row.has_row.Goals as goal

pub returns-then-is_err : goal.returns-then-is_err
returns-then-is_err c = sym (unfit _ _ _ c.check_table.ensures (sym c.if-is_err.ensures.value))

pub returns-in_default : goal.returns-in_default
returns-in_default c =
    sym (other-kind _ _ _ c.check_table.ensures (sym c.if-is_err.ensures.value) (λ e. c.in_default.not-VariableBytes (c.from.ensures ∙ e)))

pub returns-then-table-row : goal.returns-then-table-row
returns-then-table-row c = sym (absent-row _ _ _ c.check_table.ensures (sym c.if-is_err.ensures.value) c.if-table-row.true)

pub is_valid-requires : goal.is_valid-requires
is_valid-requires c = row-bit _ _ _ c.check_table.ensures (sym c.if-is_err.ensures.value) c.in-VariableBytes.ensures c.if-table-row.false

pub returns : goal.returns
returns c = c.is_valid.ensures ∙ by-bit _ _ _ c.check_table.ensures (sym c.if-is_err.ensures.value) c.in-VariableBytes.ensures c.if-table-row.false
