-- The first refusal of a batch by what its stages answer: the laws that `check` cites at each return. Assumes nothing.
use mathlib.Core.Path.{◌≡◌, ap, ◌∙◌}
use mathlib.Core.Bool.{true}
use Rattle.tables.specs.declared.answer.Answer.{Answer}
use Rattle.tables.specs.Stages.{Checked}
use Rattle.std.specs.Prelude.{Result, Ok, Err}
use Rattle.std.proofs.lemmas.Result.{IfOk-at_ok}
use Rattle.tables.specs.declared.refusal.Refusal.{Refusal}
use Rattle.tables.specs.declared.table.Lengths.{Lengths}
use Rattle.tables.specs.Columns.{IndexColumn}
use Rattle.tables.specs.Answers.{passes, first_of}
use Rattle.tables.specs.Stages.{checked_numbers}
use Rattle.gathers.specs.Stored.{Output, lent_lengths, joined_lengths}
use Rattle.gathers.specs.Gather.{space_lines}
use Rattle.batches.specs.Batch.{Batch, taken_from, batch_lines, arrays_refusals}
use Rattle.stages.specs.Space.{lengths_refusal}
use Rattle.arrays.specs.Told.{AllToldOf}
use Rattle.stages.proofs.Spaces.{lengths_refusal-lines}
use Rattle.batches.proofs.Refused.{stops-batch, stops-columns, ends-columns}
use Rattle.described.proofs.Columns.{lets-pass, refuses}

module _ (b : Batch) (x : IndexColumn) (o : Output) where
  pub batch-stopped : {s : Checked} {r : Refusal} → checked_numbers s ≡ first_of (batch_lines b) → s ≡ Err r → checked_numbers s ≡ first_of (arrays_refusals b x o)
  batch-stopped e f = e ∙ stops-batch b x o (refuses e f)

  module _ {s : Checked} (se : checked_numbers s ≡ first_of (batch_lines b)) (sf : s ≡ Ok tt) where
    pub batch-passed : passes (first_of (batch_lines b)) ≡ true
    batch-passed = lets-pass se sf

    module _ {q : Result Lengths Refusal} (qe : AllToldOf b x q) where
      pub columns-stopped : {r : Refusal} → q ≡ Err r → checked_numbers q ≡ first_of (arrays_refusals b x o)
      columns-stopped f = qe.0 ∙ stops-columns b x o batch-passed (refuses qe.0 f)

      pub all_tested : {joined : Lengths} → q ≡ Ok joined → {a : Answer} → a ≡ lengths_refusal joined (lent_lengths o) → a ≡ first_of (arrays_refusals b x o)
      all_tested {joined} qf e =
          e
          ∙ lengths_refusal-lines joined (lent_lengths o)
          ∙ ap (λ (n : Lengths). first_of (space_lines n (lent_lengths o))) (IfOk-at_ok (λ (n : Lengths). n ≡ joined_lengths b.count (taken_from b x)) qf qe.1)
          ∙ ends-columns b x o batch-passed (lets-pass qe.0 qf)
