-- The lowest bit that is left names the next row; the word gets its bit there.
use Rattle.std.proofs.Common.{mul-one, arith}
use Rattle.bits.proofs.Words.{lowest_bit, masked-lt, gathered-none, gathered-next, gathered-all}
use Rattle.bitmaps.proofs.bit.BooleanBuffer.picked_bits.Goals as goal

pub loop-left-init : goal.loop-left-init
loop-left-init g c = gathered-none

pub row_bit-requires : goal.row_bit-requires
row_bit-requires g c = c.requires _ (c.loop-left.invariant.among _ (lowest_bit 32 c.loop-left.left c.loop-left.auto.left-fits.fits c.loop-left-test.true).set)

pub overflow_mul-word : goal.overflow_mul-word
overflow_mul-word g c = record { fits = masked-lt 32 _ c.loop-left.auto.left-fits.fits c.row_bit.ensures }

pub loop-left-preserved : goal.loop-left-preserved
loop-left-preserved g c = gathered-next c.loop-left.invariant 32 c.loop-left.auto.left-fits.fits c.loop-left-test.true (rw mul-one at c.row_bit.ensures)

pub returns : goal.returns
returns g c = gathered-all c.loop-left.invariant (omega arith)
