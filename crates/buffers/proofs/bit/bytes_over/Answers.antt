-- Five bytes are four and one more.
use Rattle.std.proofs.Common.{◌≡◌, ◌+◌, arith}
use Rattle.bits.proofs.Numbers.{little_endian-lt, little_endian-byte, little_endian-halves}
use Rattle.buffers.proofs.bit.bytes_over.Goals as goal

pub overflow_add-result : goal.overflow_add-result
overflow_add-result c =
    let a = c.args in
    record { fits = omega (arith, c.read_number-low.ensures, little_endian-lt 4 a.q a.src.now c.type_inv.src, c.from.ensures, (c.type_inv.src (a.q + 4)).fits) }

pub returns : goal.returns
returns c =
    let a = c.args in
    let five : a.n ≡ 5 = omega arith in
    let halves = little_endian-halves 4 1 a.q a.src.now (omega arith) in
    let last = little_endian-byte (a.q + 4) a.src.now (omega arith) in
    rw five (omega (arith, halves, last, c.read_number-low.ensures, c.from.ensures))
