-- The rows of whole bytes of the validity, and then the rows that are left, are all of them.
use Rattle.std.proofs.Common.{◌≡◌, ◌+◌, ◌*◌, arith}
use Rattle.blocks.proofs.Blocks.{named_first, blocks_next}
use Rattle.blocks.proofs.valid.take_valid.Goals as goal

pub take_byte-requires-clause-named : goal.take_byte-requires-clause-named
take_byte-requires-clause-named c = named_first c.requires (8 * c.loop-k.k + 8) (omega arith) c.loop-k.auto.out_data

pub loop-k-preserved : goal.loop-k-preserved
loop-k-preserved c =
    let at = c.loop-k in
    let e : 8 * (at.k + 1) ≡ 8 * at.k + 8 = omega arith in
    rw e (blocks_next c.requires (8 * at.k) 8 (omega arith) at.invariant c.take_byte.ensures)
