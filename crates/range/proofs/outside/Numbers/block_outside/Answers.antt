-- A block in which each number names a row adds none that does not; the first other is the block of the first that names none.
use Rattle.std.proofs.Common.{◌≡◌, ℕ, ◌+◌, Bool, true, ◌∙◌, arith}
use Rattle.std.specs.Prelude.{nat_le}
use borrow.Author.Tests.{le-leb}
use Rattle.bits.specs.Sequences.{any}
use Rattle.bits.specs.Numbers.{number_at}
use Rattle.bits.proofs.Sequences.{any_at}
use Rattle.range.proofs.Numbers.{rest-there, rest-below, rest-found, none_more, block-met, none-met}
use Rattle.range.proofs.outside.Numbers.block_outside.Goals as goal
use Rattle.range.proofs.outside.Numbers.block_outside.Goals.{then-self-eq0-via-then-self-eq0, then-self-eq0-via-else-self-eq0+then-some_outside}

pub invariant_of-block-clause-there : goal.invariant_of-block-clause-there
invariant_of-block-clause-there g c =
    let b = c.args.self.now in
    rest-there g.row.W c.loop-from.from b.bytes.now c.min.result b.count (omega arith) b.there

pub invariant_of-block-clause-below : goal.invariant_of-block-clause-below
invariant_of-block-clause-below g c = rest-below g.row.W c.loop-from.from c.args.self.now.bytes.now c.args.self.now.below

pub loop-from-preserved : goal.loop-from-preserved
loop-from-preserved g c =
    let at = c.loop-from in
    let n = c.min.result in
    let b = c.args.self.now in
    let none = rest-found g.row.W at.from b.bytes.now n (nat_le b.rows) c.some_outside.ensures ∙ c.if-some_outside.false in
    let before = none_more (λ j. nat_le b.rows (number_at g.row.W b.bytes.now j)) at.from n at.invariant.before none in
    record { inside = omega arith; start = λ h. omega (arith, at.invariant.start c.loop-from-test.true); before = before }

pub returns : goal.returns
returns g c =
    let at = c.loop-from in
    let b = c.args.self.now in
    let all : b.count ≡ at.from = omega arith in
    none-met b.count (λ j. nat_le b.rows (number_at g.row.W b.bytes.now j)) (rw all at.invariant.before)

pub returns-then-self-eq0 : goal.returns-then-self-eq0
returns-then-self-eq0 g c =
    let at = c.loop-from in
    let n = c.min.result in
    let b = c.args.self.now in
    let p : ℕ → Bool = λ j. nat_le b.rows (number_at g.row.W b.bytes.now j) in
    let met : any n (λ k. p (at.from + k)) ≡ true = elim c.then-self-eq0.branch [
      | then-self-eq0-via-then-self-eq0 w ↦ any_at n (λ k. p (at.from + k)) 0 (omega arith) (le-leb b.rows _ (omega arith))
      | then-self-eq0-via-else-self-eq0+then-some_outside w ↦ rest-found g.row.W at.from b.bytes.now n (nat_le b.rows) w.some_outside.ensures ∙ w.if-some_outside.true
    ] in
    block-met b.count p at.from n (at.invariant.start c.loop-from-test.true) (omega arith) (omega arith) at.invariant.before met
