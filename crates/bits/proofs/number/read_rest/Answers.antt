-- There are at most 7 bytes from i up to n, and a turn puts one more before them.
use Rattle.std.proofs.Common.{◌-◌, arith}
use Rattle.bits.proofs.Numbers.{little_endian-room}
use Rattle.bits.proofs.number.read_rest.Goals as goal

pub overflow_mul-word : goal.overflow_mul-word
overflow_mul-word c =
    let at = c.loop-i in
    omega (arith, little_endian-room (c.args.n - at.i) at.i c.args.buf.now c.type_inv.buf (omega arith))

pub overflow_add-word : goal.overflow_add-word
overflow_add-word c =
    let at = c.loop-i in
    omega (arith, little_endian-room (c.args.n - at.i) at.i c.args.buf.now c.type_inv.buf (omega arith))
