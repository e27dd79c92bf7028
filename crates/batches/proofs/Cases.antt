-- Each number of a batch is given in its case and in no other, and a refusal changes no output byte. Assumes nothing.
use mathlib.Core.Path.{◌≡◌, refl, sym, ap, ◌∙◌}
use mathlib.Core.Bool.{Bool, true, false, cond}
use mathlib.Core.List.{◌++◌}
use Prim.Native.Nat.{ℕ, ◌≤◌, ◌<◌}
use native.Mathlib.Omega.{arith}
use lib.Dec.{leb}
use borrow.Author.Tests.{eqb-true, eq-eqb, ne_eqb}
use Rattle.tables.specs.declared.answer.Answer.{Answer}
use Rattle.tables.specs.Columns.{Column, IndexColumn}
use Rattle.tables.specs.Answers.{passes, lines_of, first_of}
use Rattle.tables.specs.Cases.{line_at, FirstMet, CaseOf}
use Rattle.gathers.specs.Stored.{Output, lent_lengths, joined_lengths, store_joined}
use Rattle.gathers.specs.Gather.{space_lines, through_lines, Outcome}
use Rattle.batches.specs.Batch.{Batch, taken_from, batch_lines, arrays_refusals, gathered_all, gather_arrays}
use Rattle.tables.proofs.Lines.{every, every_append, every-lines, refusing-at}
use Rattle.gathers.proofs.Cases.{line-answers, given-in-case, case-of-given, number-below}
use Rattle.batches.proofs.Refused.{through, arrays-refusing, arrays-refused}

-- of a column's tests no number is above those of a batch
through-numbers : (c : Column) (x : IndexColumn) → every (λ a. leb a.number 8) (through_lines c x) ≡ true
unfolding through_lines
through-numbers c x = refl

module _ (b : Batch) (x : IndexColumn) (o : Output) where
  number-first : (gather_arrays b x o).answer.number ≡ (first_of (arrays_refusals b x o)).number
  unfolding gather_arrays gathered_all
  number-first = go (passes (first_of (arrays_refusals b x o))) refl
    where
      a : Answer
      a = first_of (arrays_refusals b x o)

      go : (t : Bool) → passes a ≡ t
          → (cond {A = Outcome} t (record { answer = gathered_all b.count (taken_from b x); output = store_joined b.count (taken_from b x) o }) (record { answer = a; output = o })
          ).answer.number
          ≡ a.number
      go true e = sym (eqb-true a.number 0 e)
      go false e = refl

  -- a number is given in its case ..
  pub arrays-in-its-case : (n : ℕ) → CaseOf (arrays_refusals b x o) n → (gather_arrays b x o).answer.number ≡ n
  arrays-in-its-case n e = number-first ∙ given-in-case (arrays_refusals b x o) n e

  -- .. and in no other
  pub arrays-in-no-other : (n : ℕ) → 0 < n → (gather_arrays b x o).answer.number ≡ n → CaseOf (arrays_refusals b x o) n
  arrays-in-no-other n z e = case-of-given (arrays_refusals b x o) n z (sym number-first ∙ e)

  -- a line is the answer in its case: whole, with its place and total
  pub arrays-line-given : (i : ℕ) → FirstMet (arrays_refusals b x o) i → gather_arrays b x o ≡ record { answer = (line_at (arrays_refusals b x o) i).answer; output = o }
  arrays-line-given i f =
      sym (arrays-refused b x o (sym (line-answers (arrays_refusals b x o) i f)) (refusing-at (arrays_refusals b x o) (arrays-refusing b x o) i f.inside))

  pub at-most-8 : (gather_arrays b x o).answer.number ≤ 8
  unfolding arrays_refusals
  at-most-8 =
      let below : Answer → Bool = λ a. leb a.number 8 in
      let columns = lines_of b.count (through b x) in
      let space = space_lines (joined_lengths b.count (taken_from b x)) (lent_lengths o) in
      rw number-first
      (number-below (arrays_refusals b x o) 8
      (every_append below (batch_lines b ++ columns) space
      (every_append below (batch_lines b) columns refl (every-lines below (through b x) (λ i. through-numbers (b.column i) x) b.count)) refl))

  -- a refusal changes no output byte, and its four numbers are those of the first line that is met
  pub arrays-refusal : 0 < (gather_arrays b x o).answer.number → gather_arrays b x o ≡ record { answer = first_of (arrays_refusals b x o); output = o }
  arrays-refusal h = sym (arrays-refused b x o refl (ne_eqb (first_of (arrays_refusals b x o)).number 0 (λ d. absurd (omega (arith, number-first)))))

  pub arrays-refusal-keeps : 0 < (gather_arrays b x o).answer.number → (gather_arrays b x o).output ≡ o
  arrays-refusal-keeps h = ap (λ (g : Outcome). g.output) (arrays-refusal h)

  -- gathered: nothing is refused
  pub arrays-gathered : (gather_arrays b x o).answer.number ≡ 0 → passes (first_of (arrays_refusals b x o)) ≡ true
  arrays-gathered e = eq-eqb (first_of (arrays_refusals b x o)).number 0 (sym number-first ∙ e)
