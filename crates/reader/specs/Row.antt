-- The row reader: which part of the data of a column of variable bytes is a row's.
use Rattle.std.specs.Prelude.{ℕ, ◌+◌, Bool, if◌then◌else◌, ◌&&◌, List, [], ◌==◌, nat_lt}
use Rattle.tables.specs.Columns.{Column, offset_at}
use Rattle.tables.specs.Answers.{passes}
use Rattle.tables.specs.Refusals.{column_refusal}
use Rattle.tables.specs.Rows.{rows_of}

-- a valid row r is found: no refusal of 1 to 4 meets the column, it is of kind 3, and it has that row, which is valid
unfoldable pub has_row : Column → ℕ → Bool
has_row c r = passes (column_refusal c) && c.table.kind == 3 && nat_lt r c.table.rows && (rows_of c).valid r

-- the bytes that the reader hands back: the row's, or none
unfoldable pub read_row : Column → ℕ → List ℕ
read_row c r = if has_row c r then (rows_of c).bytes r else []

-- where in the data they start; where there is no such row, the empty part lies at the start
unfoldable pub row_start : Column → ℕ → ℕ
row_start c r = if has_row c r then offset_at c r else 0

-- so many bytes after a place: a place is a block of memory and a position in it
abbrev pub place_of : ℕ → ℕ × ℕ → ℕ × ℕ
place_of n p = (p.0, n + p.1)
