-- Of the offsets that were looked at some is below the one before.
use Rattle.std.proofs.Common.{◌≡◌, ◌+◌}
use Rattle.bits.specs.Sequences.{any}
use Rattle.bits.specs.Numbers.{number_at}
use Rattle.tables.specs.Bounds.{falls}
use Rattle.offsets.proofs.check.OffsetBuffer.falls_in_turn.Given as goal

abbrev pub invariant-loop-k : goal.invariant-loop-k
invariant-loop-k g l = record {
  before_is : l.before ≡ number_at g.row.W l.self.bytes.now (l.i + l.k);
  falls_is : l.falls ≡ any l.k (λ k. falls (number_at g.row.W l.self.bytes.now) (l.i + k));
}
