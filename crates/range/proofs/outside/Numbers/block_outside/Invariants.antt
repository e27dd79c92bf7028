-- No number before the block names no row.
use Rattle.std.proofs.Common.{◌≡◌, false, ◌-◌, ◌%◌, ◌≤◌, ◌<◌}
use Rattle.std.specs.Prelude.{nat_le}
use Rattle.bits.specs.Sequences.{any}
use Rattle.bits.specs.Numbers.{number_at}
use Rattle.range.proofs.outside.Numbers.block_outside.Given as goal

abbrev pub invariant-loop-from : goal.invariant-loop-from
invariant-loop-from g l = record {
  inside : l.from ≤ l.self.count;
  start : l.from < l.self.count → l.from % 512 ≡ 0;
  before : any l.from (λ j. nat_le l.self.rows (number_at g.row.W l.self.bytes.now j)) ≡ false;
}

abbrev pub decreases-loop-from : goal.decreases-loop-from
decreases-loop-from g l = l.self.count - l.from
