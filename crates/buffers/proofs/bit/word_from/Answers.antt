-- The bits lie in the number of eight bytes, or of nine.
use Rattle.std.proofs.Common.{◌≡◌, ◌+◌, ◌/◌, ◌%◌, ◌^◌, ◌<◌, ◌≤◌, length, arith}
use Rattle.bits.specs.Bytes.{part}
use Rattle.bits.specs.Numbers.{little_endian}
use Rattle.bits.proofs.Words.{packed-window, joined_word}
use Rattle.buffers.proofs.bit.word_from.Goals as goal

pub returns-then-shift-eq0 : goal.returns-then-shift-eq0
returns-then-shift-eq0 c =
    let a = c.args in
    let y = c.read_number-y.result in
    let h : a.q + 8 ≤ length a.src.now = omega arith in
    let e : y ≡ little_endian (part a.q 8 a.src.now) / 2 ^ a.shift % 2 ^ 64 = rw (c.if-shift-eq0.true, ← c.read_number-y.ensures) (omega (arith, c.read_number-y.type_inv)) in
    packed-window 8 8 a.q a.shift y a.src.now c.type_inv.src h (omega arith) e

pub returns : goal.returns
returns c =
    let a = c.args in
    let g = c.type_inv.src in
    let h : a.q + 9 ≤ length a.src.now = omega arith in
    let l : a.shift < 64 = omega arith in
    packed-window 8 9 a.q a.shift _ a.src.now g h (omega (arith, c.requires))
    (joined_word a.q a.shift c.read_number-y.result c.from-next.result a.src.now g h l c.read_number-y.ensures c.from-next.ensures)
