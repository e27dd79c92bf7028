-- Of both loops: of the offsets that were looked at none is above the next.
use Rattle.std.proofs.Common.{◌≡◌, ◌*◌, false}
use Rattle.bits.specs.Sequences.{any}
use Rattle.bits.specs.Numbers.{number_at}
use Rattle.tables.specs.Bounds.{falls}
use Rattle.offsets.proofs.check.OffsetBuffer.falls.Given as goal

abbrev pub invariant-loop-turn : goal.invariant-loop-turn
invariant-loop-turn g l = any (l.turn * 16) (falls (number_at g.row.W l.self.bytes.now)) ≡ false

abbrev pub invariant-loop-i : goal.invariant-loop-i
invariant-loop-i g l = any l.i (falls (number_at g.row.W l.self.bytes.now)) ≡ false
