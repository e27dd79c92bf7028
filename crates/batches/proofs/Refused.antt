-- The answer of a batch stage by stage, as code goes: the tests of the batch, the columns through overflow, space. Assumes nothing.
use mathlib.Core.Path.{◌≡◌, refl}
use mathlib.Core.Bool.{true, false}
use mathlib.Core.List.{List, ◌++◌}
use Prim.Native.Nat.{ℕ, ◌<◌}
use Rattle.tables.specs.declared.answer.Answer.{Answer}
use Rattle.tables.specs.Columns.{IndexColumn}
use Rattle.tables.specs.Answers.{passes, Line, lines_of, first_of}
use Rattle.tables.specs.Cases.{Refusing}
use Rattle.tables.specs.Stages.{◌or_else◌}
use Rattle.bits.specs.Sequences.{sum}
use Rattle.tables.specs.Rows.{Rows}
use Rattle.gathers.specs.Stored.{Output, lent_lengths, data_length, null_count, joined_lengths, store_joined}
use Rattle.gathers.specs.Gather.{space_lines, through_lines}
use Rattle.batches.specs.Batch.{Batch, taken_from, batch_lines, arrays_refusals, gathered_all, gather_arrays}
use Rattle.batches.specs.Passed.{Passed}
use Rattle.tables.proofs.Lines.{first_of-append, refusing-append, lines-refusing, lines-passed, lines-pass, lines-refused, or_else-passes}
use Rattle.gathers.proofs.Stages.{through-refusing}

module _ (b : Batch) (x : IndexColumn) where
  -- the tests of column i
  abbrev pub through : ℕ → List Line
  through i = through_lines (b.column i) x

  pub columns-refusing : Refusing (lines_of b.count through)
  columns-refusing = lines-refusing through (λ i. through-refusing (b.column i) x) b.count

  module _ (o : Output) where
    abbrev space : List Line
    space = space_lines (joined_lengths b.count (taken_from b x)) (lent_lengths o)

    pub arrays-refusing : Refusing (arrays_refusals b x o)
    unfolding arrays_refusals
    arrays-refusing =
        refusing-append (batch_lines b ++ lines_of b.count through) space
        (refusing-append (batch_lines b) (lines_of b.count through) (refl, (refl, (refl, tt))) columns-refusing) (refl, (refl, (refl, tt)))

    pub by-stages : first_of (arrays_refusals b x o) ≡ first_of (batch_lines b) or_else first_of (lines_of b.count through) or_else first_of space
    unfolding arrays_refusals
    by-stages =
        let head : Refusing (batch_lines b) = (refl, (refl, (refl, tt))) in
        rw (
          first_of-append (batch_lines b ++ lines_of b.count through) space (refusing-append (batch_lines b) (lines_of b.count through) head columns-refusing),
          first_of-append (batch_lines b) (lines_of b.count through) head,
        )

    -- ---- the first refusal, by the stage that decides it

    pub stops-batch : passes (first_of (batch_lines b)) ≡ false → first_of (batch_lines b) ≡ first_of (arrays_refusals b x o)
    stops-batch e = rw (by-stages, e, e)

    module _ (f : passes (first_of (batch_lines b)) ≡ true) where
      -- the first column that is refused, through overflow, gives the answer: whatever comes after it, and whatever is lent
      pub stops-column : (k : ℕ) → k < b.count → ((i : ℕ) → i < k → passes (first_of (through i)) ≡ true) → passes (first_of (through k)) ≡ false
          → first_of (through k) ≡ first_of (arrays_refusals b x o)
      stops-column k h before e = rw (by-stages, f, lines-refused through (λ i. through-refusing (b.column i) x) b.count k h before e, e)

      pub stops-columns : passes (first_of (lines_of b.count through)) ≡ false → first_of (lines_of b.count through) ≡ first_of (arrays_refusals b x o)
      stops-columns e = rw (by-stages, f, e)

      -- space is last, and over the joined lengths
      pub ends-columns : passes (first_of (lines_of b.count through)) ≡ true → first_of space ≡ first_of (arrays_refusals b x o)
      ends-columns e = rw (by-stages, f, e)

      pub ends-space : ((i : ℕ) → i < b.count → passes (first_of (through i)) ≡ true) → first_of space ≡ first_of (arrays_refusals b x o)
      ends-space h = ends-columns (lines-pass through (λ i. through-refusing (b.column i) x) b.count h)

    -- ---- the outcome, by the first refusal

    pub arrays-refused : {a : Answer} → a ≡ first_of (arrays_refusals b x o) → passes a ≡ false → record { answer = a; output = o } ≡ gather_arrays b x o
    unfolding gather_arrays
    arrays-refused e d = rw (← e, d)

    pub arrays-stored : passes (first_of (arrays_refusals b x o)) ≡ true
        → record { answer = gathered_all b.count (taken_from b x); output = store_joined b.count (taken_from b x) o } ≡ gather_arrays b x o
    unfolding gather_arrays
    arrays-stored e = rw e

-- the answer, as code has it
pub gathered-all-by : (n : ℕ) (v : ℕ → Rows) {t k : ℕ} → t ≡ sum n (λ i. data_length (v i).layout (v i)) → k ≡ sum n (λ i. null_count (v i))
    → record { number = 0; place = 0; total = t; nulls = k } ≡ gathered_all n v
unfolding gathered_all
gathered-all-by n v e d = rw (e, d)

pub all-passed : (b : Batch) (x : IndexColumn) (o : Output) → passes (first_of (arrays_refusals b x o)) ≡ true → Passed b x o
all-passed b x o e =
    let h : Answer = first_of (batch_lines b) in
    let c : Answer = first_of (lines_of b.count (through b x)) in
    let s : Answer = first_of (space_lines (joined_lengths b.count (taken_from b x)) (lent_lengths o)) in
    let p : (passes (h or_else c) ≡ true) × (passes s ≡ true) = or_else-passes (h or_else c) s (rw (by-stages b x o) at e) in
    let q : (passes h ≡ true) × (passes c ≡ true) = or_else-passes h c p.0 in
    record { batch = q.0; columns = lines-passed (through b x) (λ i. through-refusing (b.column i) x) b.count q.1; space = p.1 }
