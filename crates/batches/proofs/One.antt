-- A batch of one column is that column's gather, answer and all. Assumes nothing.
use mathlib.Core.Path.{◌≡◌, refl, sym, ap, ◌∙◌}
use mathlib.Core.Bool.{Bool, false}
use Prim.Native.Nat.{ℕ}
use native.Mathlib.Nat.{zero-add}
use borrow.Author.Tests.{eq-eqb}
use Rattle.tables.specs.declared.answer.Answer.{Answer}
use Rattle.tables.specs.declared.table.Lengths.{Lengths}
use Rattle.tables.specs.Columns.{Column, IndexColumn}
use Rattle.tables.specs.Answers.{accept, first_of}
use Rattle.tables.specs.Stages.{◌or_else◌}
use Rattle.tables.specs.Rows.{Rows}
use Rattle.gathers.specs.Stored.{Output, data_length, needed_lengths, lent_lengths, null_count, store, joined_lengths, store_joined}
use Rattle.gathers.specs.Gather.{space_lines, through_lines, refusals, gathered, gather}
use Rattle.batches.specs.Batch.{Batch, batch_of, taken_from, batch_lines, arrays_refusals, gathered_all, gather_arrays}
use Rattle.gathers.proofs.Stages.{by-space, space_refusal-lines}
use Rattle.batches.proofs.Refused.{by-stages}

-- ---- one column's rows, joined

module _ (v : ℕ → Rows) where
  pub joined-one : joined_lengths 1 v ≡ needed_lengths (v 0)
  joined-one = rw (zero-add (needed_lengths (v 0)).validity, zero-add (needed_lengths (v 0)).offsets, zero-add (needed_lengths (v 0)).«data»)

  pub stored_one : (o : Output) → store_joined 1 v o ≡ store (v 0) o
  unfolding store_joined store
  stored_one o = refl

  pub gathered-one : gathered_all 1 v ≡ gathered (v 0)
  unfolding gathered_all gathered
  gathered-one = rw (zero-add (data_length (v 0).layout (v 0)), zero-add (null_count (v 0)))

-- ---- a batch of one column

module _ (column : ℕ → Column) (x : IndexColumn) (o : Output) where
  abbrev b : Batch
  b = batch_of 1 column

  abbrev v : ℕ → Rows
  v = taken_from b x

  batch-passes : first_of (batch_lines b) ≡ accept
  batch-passes = rw (eq-eqb (column 0).table.rows (column 0).table.rows refl)

  same-refusals : first_of (arrays_refusals b x o) ≡ first_of (refusals (column 0) x o)
  same-refusals =
      by-stages b x o
      ∙ ap (λ (a : Answer). a or_else first_of (through_lines (column 0) x) or_else first_of (space_lines (joined_lengths 1 v) (lent_lengths o))) batch-passes
      ∙ ap (λ (l : Lengths). first_of (through_lines (column 0) x) or_else first_of (space_lines l (lent_lengths o))) (joined-one v)
      ∙ ap (λ (a : Answer). first_of (through_lines (column 0) x) or_else a) (sym (space_refusal-lines (v 0) o))
      ∙ sym (by-space (column 0) x o)

  first_alone : gather_arrays b x o ≡ gather (column 0) x o
  unfolding gather_arrays gather
  first_alone = rw (same-refusals, stored_one v o, gathered-one v)

pub arrays-one : (b : Batch) (x : IndexColumn) (o : Output) → b.count ≡ 1 → b.short ≡ false → gather_arrays b x o ≡ gather (b.column 0) x o
arrays-one b x o e f =
    ap (λ (n : ℕ). gather_arrays (record { count = n; short = b.short; column = b.column }) x o) e
    ∙ ap (λ (s : Bool). gather_arrays (record { count = 1; short = s; column = b.column }) x o) f
    ∙ first_alone b.column x o
