-- The mask leaves the remainder by 2, which is 1 where the bit is set.
use Rattle.std.proofs.Common.{ℕ, nat_eq, ap, ◌∙◌}
use Rattle.bits.specs.Bits.{bit_at}
use Rattle.bits.proofs.Bits.{bit_at-mask, bit_test}
use Rattle.buffers.proofs.bit.get_bit.Goals as goal

pub returns : goal.returns
returns c =
    let a = c.args in
    rw c.from-b.ensures (ap (λ (y : ℕ). nat_eq y 1) (bit_at-mask a.buf.now a.p) ∙ bit_test (bit_at a.buf.now a.p))
