-- What the writing of a batch asks: that every stage of its tests let pass.
use Rattle.std.specs.Prelude.{ℕ, ◌<◌, ◌≡◌, true}
use Rattle.tables.specs.Columns.{IndexColumn}
use Rattle.tables.specs.Answers.{passes, first_of}
use Rattle.gathers.specs.Stored.{Output, lent_lengths, joined_lengths}
use Rattle.gathers.specs.Gather.{space_lines, through_lines}
use Rattle.batches.specs.Batch.{Batch, taken_from, batch_lines}

pub record Passed (b : Batch) (x : IndexColumn) (o : Output) : Type 0 where
  pub batch : passes (first_of (batch_lines b)) ≡ true
  pub columns : (i : ℕ) → i < b.count → passes (first_of (through_lines (b.column i) x)) ≡ true
  pub space : passes (first_of (space_lines (joined_lengths b.count (taken_from b x)) (lent_lengths o))) ≡ true
