-- A turn copies 16 bytes right after those before.
use Rattle.std.proofs.Common.{◌≡◌, ◌+◌, ◌*◌, arith}
use Rattle.bits.proofs.Copies.{carried-next}
use Rattle.copies.proofs.piece.copy_64.Goals as goal

pub loop-k-preserved : goal.loop-k-preserved
loop-k-preserved c =
    let at = c.loop-k in
    let next : 16 * (at.k + 1) ≡ 16 * at.k + 16 = omega arith in
    record {
      copied =
          rw next
          (carried-next (16 * at.k) 16 c.args.p c.args.src.now c.args.dst.now (omega (arith, c.requires)) (omega (arith, c.requires)) at.invariant.copied c.copy_16.ensures);
    }
