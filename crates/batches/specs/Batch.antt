-- Several columns gathered by one index column: all of them are written, or a refusal is told and nothing is.
use Rattle.std.specs.Prelude.{ℕ, ◌*◌, Bool, false, if◌then◌else◌, not, ◌||◌, List, [], ◌∷◌, ◌++◌, ◌==◌, nat_lt, length}
use Rattle.std.specs.Borrow.{Bor}
use Rattle.bits.specs.Sequences.{sum, any}
use Rattle.tables.specs.declared.answer.Answer.{Answer}
use Rattle.tables.specs.Columns.{Column, IndexColumn}
use Rattle.tables.specs.Bodies.{column_in, record_bytes, described_at}
use Rattle.tables.specs.Answers.{refuse, passes, Line, line, lines_of, first_of}
use Rattle.tables.specs.Refusals.{column_refusal}
use Rattle.tables.specs.Rows.{Rows}
use Rattle.gathers.specs.Taken.{taken}
use Rattle.gathers.specs.Stored.{Output, lent_lengths, data_length, null_count, joined_lengths, store_joined}
use Rattle.gathers.specs.Gather.{space_lines, through_lines, Outcome}
use Rattle.gathers.specs.Blank.{blank}

-- columns 0 to count - 1; `short` says that the lent descriptions end before the last record does
pub record Batch : Type 0 where
  pub count : ℕ
  pub short : Bool
  pub column : ℕ → Column

-- columns with buffers of their own
abbrev pub batch_of : ℕ → (ℕ → Column) → Batch
batch_of n column = record { count = n; short = false; column = column }

-- so many columns, by their records, in a body
abbrev pub batch_in : ℕ → List ℕ → List ℕ → Batch
batch_in n descriptions body = record {
  count = n;
  short = nat_lt (length descriptions) (n * record_bytes);
  column = λ i. column_in body (described_at descriptions i);
}

-- as lent to a function
abbrev pub batch_at : ℕ → Bor (List ℕ) → Bor (List ℕ) → Batch
batch_at n descriptions body = batch_in n descriptions.now body.now

abbrev pub max_columns : ℕ
max_columns = 32

-- the rows that an index column takes from column i
abbrev pub taken_from : Batch → IndexColumn → ℕ → Rows
taken_from b x i = taken (b.column i) x

-- ---- the tests

-- 8: the row counts, as they are stated
abbrev pub rows_differ : Batch → Bool
rows_differ b = any b.count (λ i. not ((b.column i).table.rows == (b.column 0).table.rows))

-- of the batch, before any column is tested
abbrev pub batch_lines : Batch → List Line
batch_lines b =
    line (b.count == 0 || nat_lt max_columns b.count) (refuse 2 0 0)
    ∷ line b.short (refuse 3 0 0)
    ∷ line (rows_differ b) (refuse 8 0 0)
    ∷ []

-- of the columns, one by one, each through overflow
abbrev pub columns_lines : Batch → IndexColumn → List Line
columns_lines b x = lines_of b.count (λ i. through_lines (b.column i) x)

-- in their order; space is last, over the joined lengths
unfoldable pub arrays_refusals : Batch → IndexColumn → Output → List Line
arrays_refusals b x o = batch_lines b ++ columns_lines b x ++ space_lines (joined_lengths b.count (taken_from b x)) (lent_lengths o)

-- ---- the outcome

-- total and nulls are the columns' sums
unfoldable pub gathered_all : ℕ → (ℕ → Rows) → Answer
gathered_all n v = record {
  number = 0;
  place = 0;
  total = sum n (λ i. data_length (v i).layout (v i));
  nulls = sum n (λ i. null_count (v i));
}

-- every column's rows are stored, or no output byte changes
unfoldable pub gather_arrays : Batch → IndexColumn → Output → Outcome
gather_arrays b x o =
    let a : Answer = first_of (arrays_refusals b x o) in
    let v : ℕ → Rows = taken_from b x in
    (if passes a then record { answer = gathered_all b.count v; output = store_joined b.count v o } else record { answer = a; output = o })

-- ---- demand 3, column by column

-- a well-formed column is blanked, with buffers of its own; one that is refused by itself is left as it is
unfoldable pub cleared : IndexColumn → Column → Column
cleared x c = if passes (column_refusal c) then blank c x else c

abbrev pub cleared_batch : Batch → IndexColumn → Batch
cleared_batch b x = record { count = b.count; short = b.short; column = λ i. cleared x (b.column i) }
