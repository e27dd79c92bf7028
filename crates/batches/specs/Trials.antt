-- Worked examples of several columns as one table: gathered, refused in their order, and the columns that demand 3 speaks of.
use Rattle.std.specs.Prelude.{ℕ, ◌≡◌, true, if◌then◌else◌, List, [], ◌∷◌, ◌++◌, map, ◌==◌}
use Rattle.tables.specs.Columns.{Column, IndexColumn}
use Rattle.gathers.specs.Stored.{Output}
use Rattle.gathers.specs.Gather.{Outcome}
use Rattle.gathers.specs.Trials.{numbers, col, idx, out, answer, sevens, twenty, A}
use Rattle.batches.specs.Batch.{Batch, batch_of, batch_in, gather_arrays, cleared, cleared_batch}

pub record Trial : Type 0 where
  pub batch : Batch
  pub indices : IndexColumn
  pub lent : Output
  pub outcome : Outcome

abbrev pub run : Trial → Outcome
run t = gather_arrays t.batch t.indices t.lent

-- the same over the cleared batch
abbrev pub run_cleared : Trial → Outcome
run_cleared t = gather_arrays (cleared_batch t.batch t.indices) t.indices t.lent

abbrev pub expected : Trial → Outcome
expected t = t.outcome

-- every trial of a table has its outcome, and has it over the cleared batch too
abbrev pub Hold : List Trial → Type 0
Hold ts = (map run ts ≡ map expected ts) × (map run_cleared ts ≡ map expected ts)

-- ---- columns, indices and outputs in short

abbrev pub pair : Column → Column → ℕ → Column
pair c d i = if i == 0 then c else d

-- four rows of a byte each
abbrev pub P : Column
P = col 1 1 0 0 4 (10 ∷ 20 ∷ 30 ∷ 40 ∷ []) [] []

-- the paper's A with an offset below the one before
abbrev pub unfit : Column
unfit = col 3 0 0 4 4 (97 ∷ 98 ∷ 120 ∷ 121 ∷ 122 ∷ []) (numbers 4 (0 ∷ 2 ∷ 1 ∷ 2 ∷ 5 ∷ [])) []

-- 3, 0, null over 9, 1
abbrev pub four : IndexColumn
four = idx 2 4 (3 ∷ 0 ∷ 9 ∷ 1 ∷ []) (0x0B ∷ [])

-- with so many bytes of validity
abbrev pub lent_with : List ℕ → Output
lent_with v = out v (twenty ++ sevens) (sevens ++ sevens ++ sevens)

abbrev pub lent : Output
lent = lent_with (7 ∷ 7 ∷ 7 ∷ [])

-- P and A by these indices, one after the other, and the bytes that are kept
abbrev pub both : Outcome
both =
    answer 0 0 9 3
    (out (0x0B ∷ 0x03 ∷ 7 ∷ []) (numbers 4 (0 ∷ 3 ∷ 5 ∷ 5 ∷ 5 ∷ []) ++ sevens) (40 ∷ 10 ∷ 0 ∷ 20 ∷ 120 ∷ 121 ∷ 122 ∷ 97 ∷ 98 ∷ 7 ∷ 7 ∷ 7 ∷ []))

-- P and A in one body: their data, A's offsets and A's validity. P has no offsets: what its record states of them is ignored
abbrev pub body : List ℕ
body = 10 ∷ 20 ∷ 30 ∷ 40 ∷ 97 ∷ 98 ∷ 120 ∷ 121 ∷ 122 ∷ numbers 4 (0 ∷ 2 ∷ 2 ∷ 2 ∷ 5 ∷ []) ++ (0x0D ∷ [])

abbrev pub records : List ℕ
records =
    numbers 8 (1 ∷ 1 ∷ 0 ∷ 0 ∷ 4 ∷ 0 ∷ 0 ∷ 0 ∷ 4 ∷ 99 ∷ 99 ∷ 0 ∷ 0 ∷ [])
    ++ numbers 8 (3 ∷ 0 ∷ 0 ∷ 4 ∷ 4 ∷ 0 ∷ 0 ∷ 4 ∷ 5 ∷ 9 ∷ 20 ∷ 29 ∷ 1 ∷ [])

-- A alone, its validity one byte past the body
abbrev pub cut : List ℕ
cut = numbers 8 (3 ∷ 0 ∷ 0 ∷ 4 ∷ 4 ∷ 0 ∷ 0 ∷ 4 ∷ 5 ∷ 9 ∷ 20 ∷ 29 ∷ 2 ∷ [])

-- ---- the table

unfoldable pub trials : List Trial
trials =
    record { batch = batch_of 2 (pair P A); indices = four; lent = lent; outcome = both }
    ∷ record { batch = batch_in 2 records body; indices = four; lent = lent; outcome = both }
    -- one column by itself
    ∷ record { batch = batch_of 1 (pair P A); indices = four; lent = lent; outcome = answer 0 0 4 1 (out (0x0B ∷ 7 ∷ 7 ∷ []) (twenty ++ sevens) (40 ∷ 10 ∷ 0 ∷ 20 ∷ sevens ++ sevens)) }
    -- no column, and one too many
    ∷ record { batch = batch_of 0 (pair P A); indices = four; lent = lent; outcome = answer 2 0 0 0 lent }
    ∷ record { batch = batch_of 33 (pair P A); indices = four; lent = lent; outcome = answer 2 0 0 0 lent }
    -- a record that is one byte short
    ∷ record { batch = record { count = 1; short = true; column = pair P A }; indices = four; lent = lent; outcome = answer 3 0 0 0 lent }
    -- other rows, and a kind that is unknown: 8 comes before the columns' tests
    ∷ record { batch = batch_of 2 (pair (col 9 0 0 0 3 [] [] []) A); indices = four; lent = lent; outcome = answer 8 0 0 0 lent }
    -- an extent that ends past the body
    ∷ record { batch = batch_in 1 cut body; indices = four; lent = lent; outcome = answer 3 0 0 0 lent }
    -- the second column is refused, and the first is not written
    ∷ record { batch = batch_of 2 (pair P unfit); indices = four; lent = lent; outcome = answer 4 2 0 0 lent }
    -- the index column is refused with the first column
    ∷ record { batch = batch_of 2 (pair P unfit); indices = idx 2 1 (4 ∷ []) []; lent = lent; outcome = answer 5 0 0 0 lent }
    -- room for each, and not for both
    ∷ record { batch = batch_of 2 (pair P A); indices = four; lent = lent_with (7 ∷ []); outcome = answer 7 1 2 0 (lent_with (7 ∷ [])) }
    ∷ []

-- ---- the columns that demand 3 speaks of, by 3 and 0

abbrev pub two : IndexColumn
two = idx 2 2 (3 ∷ 0 ∷ []) []

pub record Clearing : Type 0 where
  pub column : Column
  pub becomes : Column

abbrev pub run_clearing : Clearing → Column
run_clearing c = cleared two c.column

abbrev pub expected_clear : Clearing → Column
expected_clear c = c.becomes

unfoldable pub clearings : List Clearing
clearings =
    record { column = P; becomes = col 1 1 0 0 4 (10 ∷ 0 ∷ 0 ∷ 40 ∷ []) [] (0x09 ∷ []) }
    -- refused by itself, for its offsets: not blanked
    ∷ record { column = unfit; becomes = unfit }
    ∷ []
