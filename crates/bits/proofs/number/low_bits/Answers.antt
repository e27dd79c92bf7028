-- The mask is a power of 2, less 1.
use Rattle.std.proofs.Common.{ℕ, ◌-◌, ap, ◌∙◌, arith, bit_and}
use lib.Bits.{and_mask}
use Rattle.bits.proofs.Words.{power-of}
use Rattle.bits.proofs.number.low_bits.Goals as goal

pub returns : goal.returns
returns c = ap (λ (m : ℕ). bit_and c.args.v (m - 1)) (power-of c.args.n (omega arith)) ∙ and_mask c.args.v c.args.n
