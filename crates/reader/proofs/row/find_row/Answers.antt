-- Good offsets lie in the data.
use Rattle.std.proofs.Common.{◌+◌, sym, arith}
use Rattle.tables.specs.Columns.{column_at}
use Rattle.reader.proofs.Rows.{nothing, offset-can, row_inside, row_at, row-numbered}
use Rattle.reader.proofs.row.find_row.Goals as goal

pub returns-then-not-has_row : goal.returns-then-not-has_row
returns-then-not-has_row c = nothing _ _ _ (sym c.if-not-has_row.ensures)

pub number_at-from-requires : goal.number_at-from-requires
number_at-from-requires c =
    let p = offset-can (column_at c.args.table c.args.«data» c.args.offsets c.args.validity) _ (sym c.if-not-has_row.ensures) c.args.row (omega arith) in
    record { width = p.0; there = p.1 }

pub overflow_add-at : goal.overflow_add-at
overflow_add-at c = omega (arith, row-numbered (column_at c.args.table c.args.«data» c.args.offsets c.args.validity) _ (sym c.if-not-has_row.ensures))

pub number_at-to-requires : goal.number_at-to-requires
number_at-to-requires c =
    let p = offset-can (column_at c.args.table c.args.«data» c.args.offsets c.args.validity) _ (sym c.if-not-has_row.ensures) (c.args.row + 1) (omega arith) in
    record { width = p.0; there = p.1 }

pub slice_bounds-result-count : goal.slice_bounds-result-count
slice_bounds-result-count c = (row_inside _ _ (sym c.if-not-has_row.ensures) c.number_at-from.ensures c.number_at-to.ensures).0

pub slice_bounds-result-start : goal.slice_bounds-result-start
slice_bounds-result-start c = (row_inside _ _ (sym c.if-not-has_row.ensures) c.number_at-from.ensures c.number_at-to.ensures).0

pub slice_bounds-result-end : goal.slice_bounds-result-end
slice_bounds-result-end c = (row_inside _ _ (sym c.if-not-has_row.ensures) c.number_at-from.ensures c.number_at-to.ensures).1

pub returns : goal.returns
returns c = row_at (column_at c.args.table c.args.«data» c.args.offsets c.args.validity) _ (sym c.if-not-has_row.ensures) c.number_at-from.ensures c.number_at-to.ensures _
