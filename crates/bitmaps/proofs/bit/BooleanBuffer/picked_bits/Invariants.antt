-- The bits of `picked` that are not left have been looked at.
use Rattle.std.proofs.Common.{◌+◌}
use Rattle.bits.specs.Numbers.{number_at}
use Rattle.bits.specs.Bits.{bit_at}
use Rattle.bits.proofs.Words.{Gathered}
use Rattle.bitmaps.proofs.bit.BooleanBuffer.picked_bits.Given as goal

abbrev pub invariant-loop-left : goal.invariant-loop-left
invariant-loop-left g l = Gathered l.picked (λ t. bit_at l.self.values.now (l.self.offset + number_at g.row.W l.numbers t)) l.left l.word

abbrev pub decreases-loop-left : goal.decreases-loop-left
decreases-loop-left g l = l.left
