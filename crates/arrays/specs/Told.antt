-- What the tests of a batch and of its columns tell each other, and the writing.
use Rattle.std.specs.Prelude.{ℕ, ◌≡◌, Bool, not, List, ◌==◌, Result, IfOk}
use Rattle.bits.specs.Sequences.{sum, any}
use Rattle.tables.specs.declared.table.Lengths.{Lengths}
use Rattle.tables.specs.declared.refusal.Refusal.{Refusal}
use Rattle.tables.specs.Columns.{IndexColumn}
use Rattle.tables.specs.Bodies.{described_at}
use Rattle.tables.specs.Answers.{lines_of, first_of}
use Rattle.tables.specs.Stages.{checked_numbers}
use Rattle.tables.specs.Rows.{Rows}
use Rattle.gathers.specs.Stored.{data_length, null_count, joined_lengths}
use Rattle.gathers.specs.Gather.{through_lines}
use Rattle.batches.specs.Batch.{Batch, batch_at, taken_from}
use Rattle.tables.specs.declared.answer.Gathered.{Gathered}
use Rattle.arrays.specs.declared.batch.Batch.{Batch as LentBatch}

-- several columns as they are lent to a function
abbrev pub batch_of : LentBatch → Batch
batch_of b = batch_at b.columns b.descriptions b.body

-- the row counts of the first n records are not all that of the first
abbrev pub records_differ : ℕ → List ℕ → Bool
records_differ n s = any n (λ i. not ((described_at s i).table.rows == (described_at s 0).table.rows))

-- the columns' first refusal; and where there is none, what their rows need together
abbrev pub AllToldOf : Batch → IndexColumn → Result Lengths Refusal → Type 0
AllToldOf b x r =
    (checked_numbers r ≡ first_of (lines_of b.count (λ i. through_lines (b.column i) x)))
    × IfOk r (λ needed. needed ≡ joined_lengths b.count (taken_from b x))

-- the data bytes and the null rows of n columns
abbrev pub written_of : ℕ → (ℕ → Rows) → Gathered
written_of n v = record { total = sum n (λ i. data_length (v i).layout (v i)); nulls = sum n (λ i. null_count (v i)) }
