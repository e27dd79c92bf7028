-- The last 16 bytes end the copy, wherever k is.
use Rattle.std.proofs.Common.{◌+◌, ◌-◌, length, arith}
use Rattle.bits.proofs.Copies.{copied_more, copied_all}
use Rattle.copies.proofs.slice.copy_turns.Goals as goal

pub loop-k-preserved : goal.loop-k-preserved
loop-k-preserved c =
    let at = c.loop-k in
    record {
      within = omega arith;
      copied =
          copied_more 16 at.k at.k c.args.src.now c.args.dst.now (omega arith) (omega arith) (omega arith) at.invariant.copied c.copy_16.ensures;
    }

pub returns : goal.returns
returns c =
    let s = c.args.src.now in
    let d = c.args.dst.now in
    copied_all (length s - 16 + 16) s d (omega arith)
    (copied_more 16 (length s - 16) c.loop-k.k s d (omega arith) (omega arith) (omega arith) c.loop-k.invariant.copied c.copy_16-2.ensures)
