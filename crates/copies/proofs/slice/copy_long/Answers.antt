-- The last 64 bytes end the copy, wherever the turns end.
use Rattle.std.proofs.Common.{◌≡◌, ◌*◌, ◌+◌, ◌-◌, length, arith}
use Rattle.bits.proofs.Copies.{copied_more, copied_all}
use Rattle.copies.proofs.slice.copy_long.Goals as goal

pub loop-i-preserved : goal.loop-i-preserved
loop-i-preserved c =
    let at = c.loop-i in
    let next : (at.i + 1) * 64 ≡ at.i * 64 + 64 = omega arith in
    record {
      copied =
          rw next
          (copied_more 64 (at.i * 64) (at.i * 64) c.args.src.now c.args.dst.now (omega arith) (omega arith) (omega arith) at.invariant.copied c.copy_64.ensures);
    }

pub returns : goal.returns
returns c =
    let s = c.args.src.now in
    let d = c.args.dst.now in
    copied_all (length s - 64 + 64) s d (omega arith)
    (copied_more 64 (length s - 64) (c.loop-i.i * 64) s d (omega arith) (omega arith) (omega arith) c.loop-i.invariant.copied c.copy_64-2.ensures)
