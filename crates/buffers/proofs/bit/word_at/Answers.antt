-- The bits lie in the number of their bytes, from the first one's place on.
use Rattle.std.proofs.Common.{ℕ, ◌/◌, ◌%◌, ◌^◌, ◌≤◌, ap, ◌∙◌, arith, pow_mono}
use native.Mathlib.Nat.{mod-lt}
use lib.Pow.{pow_pos}
use Rattle.bits.specs.Bits.{bit_of}
use Rattle.bits.proofs.Words.{lowest-bits, shifted-bits}
use Rattle.buffers.proofs.bit.word_at.Goals as goal

pub overflow_cast-result : goal.overflow_cast-result
overflow_cast-result c =
    let n = c.args.n in
    let most : 2 ^ n ≤ 2 ^ 32 = pow_mono {j = 32} (omega arith) in
    record { fits = omega (arith, most, c.low_bits.ensures, mod-lt (c.bytes_over-bytes.result / 2 ^ (c.args.p % 8)) (pow_pos n)) }

pub returns : goal.returns
returns c =
    let a = c.args in
    let shift : ℕ = a.p % 8 in
    lowest-bits a.n (c.bytes_over-bytes.result / 2 ^ shift)
    (λ t h.
    ap (λ (y : ℕ). bit_of (y / 2 ^ shift) t) c.bytes_over-bytes.ensures
    ∙ shifted-bits c.div_ceil.result (a.p / 8) shift a.p a.src.now c.type_inv.src (omega (arith, c.requires, c.div_ceil.ensures)) (omega arith) t (omega (arith, c.requires, c.div_ceil.ensures)))
    c.low_bits.ensures
