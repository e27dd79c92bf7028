-- The rows of the first k turns are taken, and `total` is their entries; there are lists for a turn's rows.
use Rattle.std.proofs.Common.{◌≡◌, length}
use Rattle.tables.specs.Columns.{column_of, index_column_of}
use Rattle.gathers.specs.Buffers.{taken_bytes}
use Rattle.variable.proofs.Reading.{shown_of}
use Rattle.variable.proofs.Writing.{RowsTaken, rows_in}
use Rattle.variable.proofs.take.take_variable_at.Given as goal

abbrev pub invariant-loop-k : goal.invariant-loop-k
invariant-loop-k g l = record {
  taken : RowsTaken (shown_of g.row.OW (column_of l.column) (index_column_of l.indices) l.out_validity) (taken_bytes l.unit (column_of l.column) (index_column_of l.indices)) l.unit
      l.fn.out_offsets l.fn.out_data l.out_offsets l.out_data l.total (rows_in l.count l.k);
  lists : (length l.starts ≡ 32) × (length l.lengths ≡ 32);
}
