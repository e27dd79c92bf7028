-- Two batches whose columns are taken alike, each by its index column, are gathered alike. Assumes nothing.
use mathlib.Core.Path.{◌≡◌, refl, sym, ap, ◌∙◌}
use mathlib.Core.Bool.{Bool, true, false, cond, not}
use mathlib.Core.List.{List}
use Prim.Native.Nat.{ℕ, ◌<◌}
use native.Mathlib.Omega.{arith}
use lib.Dec.{eqb}
use Rattle.tables.specs.declared.answer.Answer.{Answer}
use Rattle.tables.specs.declared.table.Lengths.{Lengths}
use Rattle.tables.specs.Columns.{Column, IndexColumn}
use Rattle.tables.specs.Answers.{passes, Line, lines_of, first_of}
use Rattle.tables.specs.Stages.{◌or_else◌}
use Rattle.tables.specs.Rows.{Rows}
use Rattle.gathers.specs.Stored.{Output, lent_lengths, joined_lengths, store_joined}
use Rattle.gathers.specs.Gather.{space_lines, through_lines, Outcome}
use Rattle.batches.specs.Batch.{Batch, taken_from, batch_lines, arrays_refusals, gathered_all, gather_arrays}
use Rattle.bits.proofs.Sequences.{concat-cong, sum-cong, any-cong}
use Rattle.tables.proofs.Lines.{lines-cong, lines-passed, or_else-passes}
use Rattle.gathers.proofs.Stages.{through-refusing, passed-before}
use Rattle.gathers.proofs.Store.{StoredAlike, total-alike}
use Rattle.gathers.proofs.Exchanged.{TakenAlike, through-alike}
use Rattle.batches.proofs.Refused.{by-stages}

-- ---- rows that are stored alike are joined alike

module _ (n : ℕ) (v w : ℕ → Rows) (s : (i : ℕ) → i < n → StoredAlike (v i) (w i)) where
  joined-needed : joined_lengths n v ≡ joined_lengths n w
  joined-needed =
      rw (
        sum-cong n (λ i h. ap (λ (l : Lengths). l.validity) (s i h).needed),
        sum-cong n (λ i h. ap (λ (l : Lengths). l.offsets) (s i h).needed),
        sum-cong n (λ i h. total-alike (s i h)),
      )

  joined-stored : (o : Output) → store_joined n v o ≡ store_joined n w o
  unfolding store_joined
  joined-stored o = rw (concat-cong n (λ i h. (s i h).validity), concat-cong n (λ i h. (s i h).offsets), concat-cong n (λ i h. (s i h).«data»))

  joined-answer : gathered_all n v ≡ gathered_all n w
  unfolding gathered_all
  joined-answer = rw (sum-cong n (λ i h. total-alike (s i h)), sum-cong n (λ i h. (s i h).nulls))

-- ---- other columns in the place of a batch's, and another index column

module _ (b : Batch) (column : ℕ → Column) (x y : IndexColumn) (o : Output)
    (rows : (i : ℕ) → i < b.count → (column i).table.rows ≡ (b.column i).table.rows) (s : (i : ℕ) → i < b.count → TakenAlike (b.column i) x (column i) y) where
  abbrev d : Batch
  d = record { count = b.count; short = b.short; column = column }

  abbrev v : ℕ → Rows
  v = taken_from b x

  abbrev w : ℕ → Rows
  w = taken_from d y

  abbrev space : (ℕ → Rows) → Answer
  space v = first_of (space_lines (joined_lengths b.count v) (lent_lengths o))

  abbrev before : Answer
  before = first_of (batch_lines b) or_else first_of (lines_of b.count (λ i. through_lines (b.column i) x))

  same-batch : batch_lines d ≡ batch_lines b
  same-batch =
      let differs : (ℕ → Column) → ℕ → Bool = λ column i. not (eqb (column i).table.rows (column 0).table.rows) in
      rw (any-cong b.count {p = differs column} {q = differs b.column} (λ i h. rw (rows i h, rows 0 (omega arith))))

  same-through : first_of (lines_of b.count (λ i. through_lines (column i) y)) ≡ first_of (lines_of b.count (λ i. through_lines (b.column i) x))
  same-through =
      lines-cong (λ i. through_lines (column i) y) (λ i. through_lines (b.column i) x) (λ i. through-refusing (column i) y) (λ i. through-refusing (b.column i) x) b.count
      (λ i h. sym (through-alike (b.column i) x (column i) y (s i h)))

  stored : passes before ≡ true → (i : ℕ) → i < b.count → StoredAlike (v i) (w i)
  stored e i h =
      let p = or_else-passes (first_of (batch_lines b)) (first_of (lines_of b.count (λ i. through_lines (b.column i) x))) e in
      let q = lines-passed (λ i. through_lines (b.column i) x) (λ i. through-refusing (b.column i) x) b.count p.1 i h in
      (s i h).stored (passed-before (b.column i) x q)

  abbrev end : Answer → (ℕ → Rows) → Outcome
  end a v = cond (passes a) (record { answer = gathered_all b.count v; output = store_joined b.count v o }) (record { answer = a; output = o })

  module _ (e : passes before ≡ true) where
    end_same : (a : Answer) → end a v ≡ end a w
    end_same a = rw (joined-stored b.count v w (stored e) o, joined-answer b.count v w (stored e))

    space-same : end (space v) v ≡ end (space w) w
    space-same =
        ap (λ (l : Lengths). end (first_of (space_lines l (lent_lengths o))) v) (joined-needed b.count v w (stored e)) ∙ end_same (space w)

  same : (t : Bool) → passes before ≡ t → end (cond t (space v) before) v ≡ end (cond t (space w) before) w
  same true e = space-same e
  same false e = rw e

  same-refusals : first_of (arrays_refusals d y o) ≡ before or_else space w
  same-refusals =
      let through : Answer = first_of (lines_of b.count (λ i. through_lines (column i) y)) in
      by-stages d y o
      ∙ ap (λ (ls : List Line). first_of ls or_else through or_else space w) same-batch
      ∙ ap (λ (a : Answer). first_of (batch_lines b) or_else a or_else space w) same-through

  pub arrays-alike : gather_arrays b x o ≡ gather_arrays d y o
  unfolding gather_arrays
  arrays-alike = ap (λ (a : Answer). end a v) (by-stages b x o) ∙ same (passes before) refl ∙ ap (λ (a : Answer). end a w) (sym same-refusals)
