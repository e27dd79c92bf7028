-- Bit t of the byte says whether row t is valid, and a turn writes one more block.
use Rattle.std.proofs.Common.{◌*◌, arith}
use Rattle.blocks.proofs.Blocks.{block_after, valid_bit}
use Rattle.blocks.proofs.valid.take_byte.Goals as goal

pub loop-t-preserved : goal.loop-t-preserved
loop-t-preserved c =
    let a = c.args in
    let at = c.loop-t in
    let v = valid_bit a.valid.bytes.now a.k at.t a.valid.present (omega arith) in
    block_after c.requires.named (8 * a.k) at.t (omega arith) c.number_at-row.ensures v at.invariant c.take_block.ensures
