-- The first 8 * k + t bits are the highest of the word.
use Rattle.std.proofs.Common.{◌+◌, ◌*◌}
use Rattle.bits.specs.Numbers.{number_at}
use Rattle.bits.specs.Bits.{bit_value, bit_of, bit_at}
use Rattle.bits.proofs.Words.{PutIn}
use Rattle.bitmaps.proofs.bit.BooleanBuffer.masked_bits.Given as goal

abbrev pub invariant-loop-k : goal.invariant-loop-k
invariant-loop-k g l =
    PutIn (λ t. bit_at l.self.values.now (l.self.offset + number_at g.row.W l.numbers t * bit_value (bit_of l.picked t))) (8 * l.k) l.word

abbrev pub invariant-loop-t : goal.invariant-loop-t
invariant-loop-t g l =
    PutIn (λ t. bit_at l.self.values.now (l.self.offset + number_at g.row.W l.numbers t * bit_value (bit_of l.picked t))) (8 * l.k + l.t) l.word
