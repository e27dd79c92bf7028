-- A turn writes the lowest byte of what is left of the number.
use Rattle.std.proofs.Common.{arith}
use Rattle.bits.proofs.Numbers.{number_set}
use Rattle.bits.proofs.number.write_up_to.Goals as goal

pub loop-i-preserved : goal.loop-i-preserved
loop-i-preserved c =
    let at = c.loop-i in
    let next = number_set c.args.p at.i c.args.v c.args.buf.now (omega arith) (omega arith) at.invariant.written at.invariant.left c.low.ensures in
    record { written = next.0; left = next.1 }
