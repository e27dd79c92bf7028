-- What the functions of the row reader tell each other.
use Rattle.std.specs.Prelude.{ℕ, if◌then◌else◌, List, Option, Some, None}
use Rattle.std.specs.Borrow.{Bor}
use Rattle.tables.specs.Columns.{Column, offset_at}
use Rattle.tables.specs.Rows.{rows_of}
use Rattle.reader.specs.Row.{has_row, place_of}

-- the row's bytes, where they lie in the data of c, which is lent as d
unfoldable pub row_found : Bor (List ℕ) → Column → ℕ → Option (Bor (List ℕ))
row_found d c r = if has_row c r then Some (record { ref_ptr = place_of (offset_at c r) d.ref_ptr; now = (rows_of c).bytes r }) else None
