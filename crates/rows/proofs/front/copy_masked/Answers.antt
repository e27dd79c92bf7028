-- A number of which the lowest bytes are kept is written as those bytes and zeros.
use Rattle.std.proofs.Common.{arith}
use Rattle.rows.proofs.Fronts.{masked}
use Rattle.rows.proofs.front.copy_masked.Goals as goal

pub returns : goal.returns
returns c =
    masked c.args.n c.args.src.now c.args.dst.now c.type_inv.src (omega arith) (omega arith) c.read_number.ensures c.low_bits.ensures c.write_number.ensures
