-- The bits lie in the number of one byte, or of two neighbours.
use Rattle.std.proofs.Common.{ℕ, ◌+◌, ◌/◌, ◌%◌, ◌^◌, ◌<◌, ◌≤◌, length, sym, ap, ◌∙◌, arith}
use Rattle.bits.proofs.Numbers.{little_endian-byte}
use Rattle.bits.proofs.Words.{byte-window}
use Rattle.buffers.proofs.bit.byte_from.Goals as goal

pub returns-then-shift-left-le8 : goal.returns-then-shift-left-le8
returns-then-shift-left-le8 c =
    let a = c.args in
    let h : a.q + 1 ≤ length a.src.now = omega arith in
    let l : a.q < length a.src.now = omega arith in
    c.lowest.ensures
    ∙ ap (λ (y : ℕ). y / 2 ^ a.shift % 2 ^ a.left % 256) (c.from.ensures ∙ sym (little_endian-byte a.q a.src.now l))
    ∙ byte-window 1 a.q a.shift a.left a.src.now c.type_inv.src h (λ j m k. omega (arith, c.if-shift-left-le8.true))

pub returns : goal.returns
returns c =
    let a = c.args in
    let h : a.q + 2 ≤ length a.src.now = omega arith in
    c.lowest-2.ensures
    ∙ ap (λ (y : ℕ). y / 2 ^ a.shift % 2 ^ a.left % 256) c.read_number.ensures
    ∙ byte-window 2 a.q a.shift a.left a.src.now c.type_inv.src h (λ j m k. omega (arith, c.requires))
