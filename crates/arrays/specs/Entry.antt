-- What every entry that gathers several columns promises of what it leaves.
use Rattle.std.specs.Prelude.{◌≡◌}
use Rattle.tables.specs.Columns.{IndexColumn}
use Rattle.gathers.specs.Stored.{Output}
use Rattle.batches.specs.Batch.{Batch, cleared_batch}

-- The promise of an entry that leaves r, where f defines what is left of a gather of the columns of b by x into o: r is what f says, for every input
-- (demands 1 and 2), and it is what f says of the batch whose well-formed columns are blanked (demand 3).
pub record GathersArrays {A : Type 0} (f : Batch → IndexColumn → Output → A) (b : Batch) (x : IndexColumn) (o : Output) (r : A) : Type 0 where
  pub right : r ≡ f b x o
  pub private : r ≡ f (cleared_batch b x) x o
