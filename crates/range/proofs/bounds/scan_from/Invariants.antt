-- Nothing is found yet, and no index below j is out of range.
use Rattle.std.proofs.Common.{◌≡◌, false, ℕ, ◌<◌}
use Rattle.std.specs.Prelude.{None}
use Rattle.tables.specs.Columns.{index_column_of}
use Rattle.gathers.specs.Gather.{is_outside}
use Rattle.range.proofs.bounds.scan_from.Given as goal

abbrev pub invariant-loop-j : goal.invariant-loop-j
invariant-loop-j g l = record {
  none : l.place ≡ None;
  before : (k : ℕ) → k < l.j → is_outside l.rows (index_column_of l.indices) k ≡ false;
}
