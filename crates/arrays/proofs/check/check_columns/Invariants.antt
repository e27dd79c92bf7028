-- After i columns, what they need together.
use Rattle.tables.specs.Columns.{index_column_of}
use Rattle.arrays.specs.Told.{batch_of}
use Rattle.arrays.proofs.Counted.{Counted}
use Rattle.arrays.proofs.check.check_columns.Given as goal

abbrev pub invariant-loop-i : goal.invariant-loop-i
invariant-loop-i l = Counted (batch_of l.batch) (index_column_of l.indices) l.i l.joined
