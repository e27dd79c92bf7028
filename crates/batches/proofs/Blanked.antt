-- Demand 3 of a batch, without a premise: it is gathered as the batch of its columns, each that is well-formed blanked with buffers of its own, and each
-- other left as it is. Assumes nothing.
use mathlib.Core.Path.{◌≡◌, refl}
use mathlib.Core.Bool.{Bool, true, false, cond}
use Rattle.tables.specs.Columns.{Column, IndexColumn}
use Rattle.tables.specs.Answers.{passes}
use Rattle.tables.specs.Refusals.{column_refusal}
use Rattle.gathers.specs.Stored.{Output}
use Rattle.gathers.specs.Blank.{blank}
use Rattle.batches.specs.Batch.{Batch, gather_arrays, cleared, cleared_batch}
use Rattle.tables.proofs.Facts.{passed-well-formed}
use Rattle.gathers.proofs.Exchanged.{TakenAlike, alike_self}
use Rattle.gathers.proofs.Blanked.{blank-alike, blank-rows}
use Rattle.batches.proofs.Exchanged.{arrays-alike}

module _ (x : IndexColumn) (c : Column) where
  pub cleared-rows : (cleared x c).table.rows ≡ c.table.rows
  unfolding cleared
  cleared-rows = go (passes (column_refusal c))
    where
      go : (t : Bool) → (cond t (blank c x) c).table.rows ≡ c.table.rows
      go true = blank-rows c x
      go false = refl

  pub cleared-alike : TakenAlike c x (cleared x c) x
  unfolding cleared
  cleared-alike = go (passes (column_refusal c)) refl
    where
      go : (t : Bool) → passes (column_refusal c) ≡ t → TakenAlike c x (cond t (blank c x) c) x
      go true e = blank-alike c x (passed-well-formed c e)
      go false e = alike_self c x

pub arrays-blank : (b : Batch) (x : IndexColumn) (o : Output) → gather_arrays b x o ≡ gather_arrays (cleared_batch b x) x o
arrays-blank b x o = arrays-alike b (λ i. cleared x (b.column i)) x x o (λ i h. cleared-rows x (b.column i)) (λ i h. cleared-alike x (b.column i))
