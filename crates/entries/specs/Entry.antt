-- What every entry that gathers a column promises of what it leaves.
use Rattle.std.specs.Prelude.{◌≡◌}
use Rattle.tables.specs.Columns.{Column, IndexColumn}
use Rattle.tables.specs.Refusals.{WellFormed}
use Rattle.gathers.specs.Stored.{Output}
use Rattle.gathers.specs.Blank.{blank}

-- The promise of an entry that leaves r, where f defines what is left of a gather of c by x into o: r is what f says, for every input (demands 1
-- and 2), and for a well-formed table it is what f says of the blanked one (demand 3).
pub record Gathers {A : Type 0} (f : Column → IndexColumn → Output → A) (c : Column) (x : IndexColumn) (o : Output) (r : A) : Type 0 where
  pub right : r ≡ f c x o
  pub private : WellFormed c → r ≡ f (blank c x) x o
