-- Bit t of byte k of picked masks number 8 * k + t.
use Rattle.std.proofs.Common.{◌≡◌, ◌+◌, ◌*◌, arith}
use Rattle.bits.specs.Numbers.{number_at}
use Rattle.bits.proofs.Words.{bit_of-steps, put-next}
use Rattle.bitmaps.proofs.Reading.{masked-bits}
use Rattle.bitmaps.proofs.bit.BooleanBuffer.masked_bits.Goals as goal

pub row_bit-requires : goal.row_bit-requires
row_bit-requires g c = rw (bit_of-steps c.args.picked (8 * c.loop-k.k) c.loop-t.t) (c.requires (8 * c.loop-k.k + c.loop-t.t) (omega arith))

pub loop-t-preserved : goal.loop-t-preserved
loop-t-preserved g c =
    let next : 8 * c.loop-k.k + (c.loop-t.t + 1) ≡ 8 * c.loop-k.k + c.loop-t.t + 1 = omega arith in
    rw next (put-next (omega arith) c.loop-t.auto.word-fits.fits (rw (bit_of-steps c.args.picked (8 * c.loop-k.k) c.loop-t.t) at c.row_bit.ensures) c.loop-t.invariant)

pub returns : goal.returns
returns g c =
    let end : 8 * c.loop-k.k ≡ 32 = omega arith in
    masked-bits c.args.self.now.values.now c.args.self.now.offset (number_at g.row.W c.args.numbers.now) c.args.picked c.loop-k.word c.ranges.picked.fits (rw end at c.loop-k.invariant)
