-- A turn writes the next eight bytes of ones, or the bytes that are left.
use Rattle.std.proofs.Common.{ℕ, Bool, ◌≡◌, true, ◌&&◌, ◌+◌, ◌-◌, ◌*◌, ◌/◌, nat_lt, ap, ◌∙◌, arith}
use Rattle.bits.specs.Bytes.{overwrite}
use Rattle.bits.specs.Bits.{pack_bytes}
use Rattle.bits.proofs.Packing.{word_more, bytes_more, bytes_end}
use Rattle.bits.proofs.Words.{packed-first}
use Rattle.nulls.proofs.Ones.{ones-left}
use Rattle.nulls.proofs.null.set_bits.Goals as goal

pub loop-k-preserved : goal.loop-k-preserved
loop-k-preserved c =
    let at = c.loop-k in
    let a = c.args in
    let p : ℕ → Bool = λ i. nat_lt i a.n && true in
    let next : 8 * at.k + 8 ≡ 8 * (at.k + 1) = omega arith in
    word_more p a.out.now (8 * at.k) at.invariant c.ones.result (ones-left a.n (8 * at.k) c.ones.result c.ones.ensures) c.write_number.ensures
    ∙ ap (λ (m : ℕ). overwrite (pack_bytes m p) a.out.now) next

pub returns : goal.returns
returns c =
    let a = c.args in
    let whole : c.loop-k.k ≡ (a.n + 7) / 8 / 8 = omega arith in
    let from = 8 * ((a.n + 7) / 8 / 8) in
    let m = (a.n + 7) / 8 - from in
    let g : ℕ → Bool = λ t. nat_lt (8 * from + t) a.n && true in
    bytes_end (λ i. true) a.n a.out.now (from + m) (omega arith)
    (bytes_more (λ p. nat_lt p a.n && true) a.out.now from (rw whole at c.loop-k.invariant) m c.ones-2.result
    (packed-first m 8 c.ones-2.result g (omega arith) (ones-left a.n from c.ones-2.result c.ones-2.ensures)) c.write_up_to.ensures)
