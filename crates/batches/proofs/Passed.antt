-- What a batch is whose tests let pass (specs/Passed.antt). Assumes nothing.
use mathlib.Core.Path.{◌≡◌, refl, sym, ◌∙◌}
use mathlib.Core.Bool.{Bool, true, false, not, true≢false}
use Prim.Native.Nat.{ℕ, ◌≤◌, ◌<◌}
use native.Mathlib.Omega.{arith}
use lib.Dec.{eqb, ltb}
use lib.ListN.{length}
use borrow.Author.Tests.{ltb-false, eqb-true, eq-eqb}
use Rattle.bits.specs.Sequences.{sum}
use Rattle.tables.specs.declared.table.Lengths.{Lengths}
use Rattle.tables.specs.Columns.{IndexColumn}
use Rattle.tables.specs.Answers.{passes, first_of}
use Rattle.tables.specs.Cases.{line_at}
use Rattle.tables.specs.Rows.{Rows}
use Rattle.gathers.specs.Stored.{Output, validity_bytes, written_offsets, validity_length, offset_length, data_length, lent_lengths, joined_lengths}
use Rattle.gathers.specs.Gather.{space_lines, through_lines}
use Rattle.gathers.specs.Ready.{Ready, NoOverflow}
use Rattle.batches.specs.Batch.{Batch, max_columns, taken_from, batch_lines}
use Rattle.batches.specs.Passed.{Passed}
use Rattle.bits.proofs.Tests.{or-false, not-false}
use Rattle.bits.proofs.Sequences.{any_none}
use Rattle.tables.proofs.Lines.{none-met-passes}
use Rattle.tables.proofs.Stages.{form-passed}
use Rattle.gathers.proofs.Stages.{PassedThrough, passed-through}
use Rattle.gathers.proofs.Regular.{length-validity, length-written}

-- ---- the tests of the batch

module _ (b : Batch) (e : passes (first_of (batch_lines b)) ≡ true) where
  met : (i : ℕ) → (line_at (batch_lines b) i).when ≡ false
  met = none-met-passes (batch_lines b) (refl, (refl, (refl, tt))) e

  counted : (eqb b.count 0 ≡ false) × (ltb max_columns b.count ≡ false)
  counted = or-false (eqb b.count 0) (ltb max_columns b.count) (met 0)

  pub some-columns : 0 < b.count
  some-columns = let n : (b.count ≡ 0 → ⊥) = λ z. true≢false (sym (eq-eqb b.count 0 z) ∙ counted.0) in omega arith

  pub few-columns : b.count ≤ max_columns
  few-columns = ltb-false max_columns b.count counted.1

  pub rows-equal : (i : ℕ) → i < b.count → (b.column i).table.rows ≡ (b.column 0).table.rows
  rows-equal i h =
      let same : ℕ → Bool = λ i. eqb (b.column i).table.rows (b.column 0).table.rows in
      eqb-true (b.column i).table.rows (b.column 0).table.rows (not-false (same i) (any_none b.count (λ i. not (same i)) (met 2) i h))

-- ---- a column that passes through overflow

module _ (b : Batch) (x : IndexColumn) (i : ℕ) (e : passes (first_of (through_lines (b.column i) x)) ≡ true) where
  through : PassedThrough (b.column i) x
  through = passed-through (b.column i) x e

  pub column-ready : Ready (b.column i) x
  column-ready =
      let f = form-passed (b.column i) x through.form in
      record { column = f.0; indices = record { passed = f.1; range = through.range } }

  pub column-small : NoOverflow (b.column i) x
  column-small = through.overflow

-- ---- the outputs

module _ (b : Batch) (x : IndexColumn) (i : ℕ) where
  pub validity-held : length (validity_bytes (taken_from b x i)) ≡ validity_length (taken_from b x i)
  validity-held = length-validity (taken_from b x i)

  pub offsets-held : length (written_offsets (taken_from b x i).layout (taken_from b x i)) ≡ offset_length (taken_from b x i).layout (taken_from b x i)
  offsets-held = length-written (taken_from b x i) (taken_from b x i).layout

module _ (b : Batch) (x : IndexColumn) (o : Output) (p : Passed b x o) where
  abbrev v : ℕ → Rows
  v = taken_from b x

  pub joined-room : (sum b.count (λ i. validity_length (v i)) ≤ length o.validity) × (sum b.count (λ i. offset_length (v i).layout (v i)) ≤ length o.offsets)
      × (sum b.count (λ i. data_length (v i).layout (v i)) ≤ length o.«data»)
  joined-room =
      let needed : Lengths = joined_lengths b.count v in
      let none = none-met-passes (space_lines needed (lent_lengths o)) (refl, (refl, (refl, tt))) p.space in (
        ltb-false (length o.validity) needed.validity (none 0),
        ltb-false (length o.offsets) needed.offsets (none 1),
        ltb-false (length o.«data») needed.«data» (none 2),
      )
