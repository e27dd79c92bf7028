-- Numbers of W bytes are below 256 ^ W, and so is a row count that they can hold.
use Rattle.std.proofs.Common.{sym, ◌∙◌, arith}
use borrow.Author.Tests.{leb-true, leb-false}
use Rattle.bits.proofs.Numbers.{number_at-lt}
use Rattle.range.proofs.outside.Numbers.new.Goals as goal

pub returns-then-is_too_narrow-clause-none : goal.returns-then-is_too_narrow-clause-none
returns-then-is_too_narrow-clause-none g c =
    let narrow = sym c.is_too_narrow.ensures ∙ c.if-is_too_narrow.true in
    (narrow, λ j. omega (arith, leb-true _ c.args.rows narrow, number_at-lt g.row.W c.args.bytes.now j c.type_inv.bytes))

pub invariant_of-result-clause-few : goal.invariant_of-result-clause-few
invariant_of-result-clause-few g c = leb-false _ c.args.rows (sym c.is_too_narrow.ensures ∙ c.if-is_too_narrow.false)

pub invariant_of-result-clause-below : goal.invariant_of-result-clause-below
invariant_of-result-clause-below g c = λ j. number_at-lt g.row.W c.args.bytes.now j c.type_inv.bytes
