-- The gather of several columns by what its tests answer: the laws that `take_arrays` cites at each return. Assumes nothing.
use mathlib.Core.Path.{◌≡◌, sym, ap, ◌∙◌}
use Rattle.tables.specs.Stages.{Checked}
use Rattle.std.specs.Prelude.{Ok, Err}
use Rattle.tables.specs.declared.refusal.Refusal.{Refusal}
use Rattle.tables.specs.Columns.{IndexColumn}
use Rattle.tables.specs.Answers.{refusal_numbers, first_of}
use Rattle.tables.specs.Stages.{checked_numbers}
use Rattle.gathers.specs.Stored.{Output, store_joined}
use Rattle.gathers.specs.Gather.{Outcome}
use Rattle.batches.specs.Batch.{Batch, taken_from, arrays_refusals, gather_arrays}
use Rattle.batches.specs.Passed.{Passed}
use Rattle.tables.specs.declared.answer.Gathered.{Gathered}
use Rattle.arrays.specs.Told.{written_of}
use Rattle.arrays.specs.Entry.{GathersArrays}
use Rattle.tables.proofs.Stages.{refusing}
use Rattle.described.proofs.Columns.{lets-pass}
use Rattle.batches.proofs.Refused.{arrays-refused, arrays-stored, gathered-all-by, all-passed}
use Rattle.batches.proofs.Blanked.{arrays-blank}

module _ (b : Batch) (x : IndexColumn) (o : Output) where
  -- demand 3: the definition's outcome is its outcome on the blanked columns
  pub both : {g : Outcome} → g ≡ gather_arrays b x o → GathersArrays gather_arrays b x o g
  both e = record { right = e; private = e ∙ arrays-blank b x o }

  module _ {t : Checked} (e : checked_numbers t ≡ first_of (arrays_refusals b x o)) where
    pub turned-away : {r : Refusal} → t ≡ Err r → record { answer = refusal_numbers r; output = o } ≡ gather_arrays b x o
    turned-away {r} f = arrays-refused b x o (sym (ap checked_numbers f) ∙ e) (refusing r)

    module _ (f : t ≡ Ok tt) where
      pub passed : Passed b x o
      passed = all-passed b x o (lets-pass e f)

      pub all-stored : (w : Gathered) → w ≡ written_of b.count (taken_from b x) → {p : Output} → p ≡ store_joined b.count (taken_from b x) o
          → record { answer = record { number = 0; place = 0; total = w.total; nulls = w.nulls }; output = p } ≡ gather_arrays b x o
      all-stored w d g =
          let a = gathered-all-by b.count (taken_from b x) (ap (λ (w : Gathered). w.total) d) (ap (λ (w : Gathered). w.nulls) d) in
          rw (a, g) (arrays-stored b x o (lets-pass e f))
