-- After i columns, what the outputs hold and where the next one goes.
use Rattle.tables.specs.Columns.{index_column_of}
use Rattle.gathers.specs.Stored.{output_at}
use Rattle.arrays.specs.Told.{batch_of}
use Rattle.arrays.proofs.Laid.{Laid}
use Rattle.arrays.proofs.write.write.Given as goal

abbrev pub invariant-loop-i : goal.invariant-loop-i
invariant-loop-i l = Laid (batch_of l.batch) (index_column_of l.indices) (output_at l.fn.out_validity l.fn.out_offsets l.fn.out_data) l.i l.written l.nulls l.out_validity l.out_offsets l.out_data
