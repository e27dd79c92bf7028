-- What makes one column gather as another does, or one index column as another, does so of a batch, column by column. Assumes nothing.
use mathlib.Core.Path.{◌≡◌, refl}
use mathlib.Core.Bool.{true}
use Prim.Native.Nat.{ℕ, ◌<◌}
use Rattle.tables.specs.Columns.{Column, IndexColumn}
use Rattle.tables.specs.Answers.{passes}
use Rattle.tables.specs.Refusals.{index_refusal, WellFormed}
use Rattle.tables.specs.Rows.{rows_of}
use Rattle.tables.specs.Picks.{picks_of}
use Rattle.gathers.specs.Stored.{Output}
use Rattle.gathers.specs.Alike.{SameRows, SamePicks}
use Rattle.batches.specs.Batch.{Batch, gather_arrays}
use Rattle.gathers.proofs.Reach.{rows_alike, same_count}
use Rattle.gathers.proofs.Picked.{passed-alike}
use Rattle.batches.proofs.Exchanged.{arrays-alike}

pub arrays-same-rows : (b : Batch) (column : ℕ → Column) (x : IndexColumn) (o : Output) → ((i : ℕ) → i < b.count → WellFormed (b.column i))
    → ((i : ℕ) → i < b.count → WellFormed (column i)) → ((i : ℕ) → i < b.count → SameRows (rows_of (b.column i)) (rows_of (column i)))
    → gather_arrays b x o ≡ gather_arrays (record { count = b.count; short = b.short; column = column }) x o
arrays-same-rows b column x o p q s =
    arrays-alike b column x x o (λ i h. same_count (b.column i) (column i) (s i h)) (λ i h. rows_alike (b.column i) (column i) x (p i h) (q i h) (s i h))

pub arrays-same-picks : (b : Batch) (x y : IndexColumn) (o : Output) → passes (index_refusal x) ≡ true → passes (index_refusal y) ≡ true
    → SamePicks (picks_of x) (picks_of y) → gather_arrays b x o ≡ gather_arrays b y o
arrays-same-picks b x y o p q s = arrays-alike b b.column x y o (λ i h. refl) (λ i h. passed-alike x y s (b.column i) p q)
