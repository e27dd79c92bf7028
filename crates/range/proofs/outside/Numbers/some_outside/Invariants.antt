-- Whether some of the first k numbers names no row.
use Rattle.std.proofs.Common.{◌≡◌}
use Rattle.std.specs.Prelude.{nat_le}
use Rattle.bits.specs.Sequences.{any}
use Rattle.bits.specs.Numbers.{number_at}
use Rattle.range.proofs.outside.Numbers.some_outside.Given as goal

abbrev pub invariant-loop-k : goal.invariant-loop-k
invariant-loop-k g l = l.outside ≡ any l.k (λ i. nat_le l.self.rows (number_at g.row.W l.self.bytes.now i))
