-- A mask of 8 bits or more clears none of the lowest byte.
use Rattle.std.proofs.Common.{ℕ, ◌≡◌, ◌+◌, ◌-◌, ◌%◌, ◌^◌, sym, ap, ◌∙◌, arith}
use lib.Pow.{mod-mod-pow}
use Rattle.buffers.proofs.bit.lowest.Goals as goal

pub returns : goal.returns
returns c =
    let e : c.args.left - 8 + 8 ≡ c.args.left = omega arith in
    c.low-2.ensures ∙ sym (mod-mod-pow c.args.v (c.args.left - 8) 8) ∙ ap (λ (m : ℕ). c.args.v % 2 ^ m % 256) e
