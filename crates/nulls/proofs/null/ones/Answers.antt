-- All ones, those from `left` on cleared, if there are any.
use Rattle.std.proofs.Common.{◌≡◌, ◌%◌, ◌^◌, sym, ap, ◌∙◌, ◌≤◌, arith, mod-eq_of_lt, pow_mono}
use Rattle.bits.specs.Numbers.{to_little_endian}
use Rattle.bits.proofs.Words.{ones-word}
use Rattle.nulls.proofs.null.ones.Goals as goal

pub returns-then-left-ge64 : goal.returns-then-left-ge64
returns-then-left-ge64 c =
    let left = c.args.left in
    let most : 2 ^ 64 ≤ 2 ^ left = pow_mono {i = 64} (omega arith) in
    let whole : 18446744073709551615 % 2 ^ left ≡ 18446744073709551615 = mod-eq_of_lt (omega arith) in
    ap (to_little_endian 8) (sym whole) ∙ ones-word 8 left

pub returns : goal.returns
returns c = ap (to_little_endian 8) c.low_bits.ensures ∙ ones-word 8 c.args.left
