-- An index column as a gather reads it: how many rows it picks, which of its entries are valid, and the row number of each. This is all that a gather
-- may look at of it; the width of its numbers and its bit offset leave no trace.
use Rattle.std.specs.Prelude.{ℕ, Bool}
use Rattle.tables.specs.Columns.{IndexColumn, index_valid, index}

pub record Picks : Type 0 where
  pub count : ℕ
  pub valid : ℕ → Bool
  pub row : ℕ → ℕ  -- under a null entry any number

abbrev pub picks_of : IndexColumn → Picks
picks_of x = record { count = x.indices.count; valid = λ j. index_valid x j; row = λ j. index x j }
