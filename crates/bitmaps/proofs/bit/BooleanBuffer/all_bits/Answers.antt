-- One bit more above those before it; then they are shifted down.
use Rattle.std.proofs.Common.{◌≡◌, mul-one, arith}
use Rattle.bits.proofs.Words.{put-next, put-all}
use Rattle.bitmaps.proofs.bit.BooleanBuffer.all_bits.Goals as goal

pub loop-t-preserved : goal.loop-t-preserved
loop-t-preserved g c = put-next (omega (arith, c.requires.few.1)) c.loop-t.auto.word-fits.fits (rw mul-one at c.row_bit.ensures) c.loop-t.invariant

pub returns : goal.returns
returns g c =
    let end : c.loop-t.t ≡ c.args.n = omega arith in
    put-all c.requires.few.1 c.loop-t.auto.word-fits.fits (rw end at c.loop-t.invariant)
