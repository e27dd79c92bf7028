-- The rows of a turn that are copied, by what is read; what the routines that copy them ask of each other.
use Rattle.std.specs.Prelude.{ℕ, ◌+◌, ◌-◌, ◌*◌, ◌≤◌, ◌<◌, ◌≡◌, true, false, List, get_or, length, drop}
use Rattle.std.specs.Borrow.{Bor}
use Rattle.bits.specs.Bytes.{part}
use Rattle.bits.specs.Routines.{overwrite_at}
use Rattle.bits.specs.Bits.{bit_of}
use Rattle.rows.specs.Front.{front_bytes}

-- the bytes of an entry, the data, the first entry of each row, and how many it has
pub record Stretches : Type 0 where
  pub unit : ℕ
  pub «data» : List ℕ
  pub starts : List ℕ
  pub lengths : List ℕ

-- as lent to a function
abbrev pub stretches_at : ℕ → Bor (List ℕ) → Bor (List ℕ) → Bor (List ℕ) → Stretches
stretches_at u d s l = record { unit = u; «data» = d.now; starts = s.now; lengths = l.now }

-- in bytes
abbrev pub row_from : Stretches → ℕ → ℕ
row_from b t = get_or b.starts t 0 * b.unit

abbrev pub row_length : Stretches → ℕ → ℕ
row_length b t = get_or b.lengths t 0 * b.unit

unfoldable pub row_bytes : Stretches → ℕ → List ℕ
row_bytes b t = part (row_from b t) (row_length b t) b.«data»

-- s with row t written from byte p on, where all of the data may be read and all of s be written
unfoldable pub written_row : Stretches → ℕ → ℕ → List ℕ → List ℕ
written_row b t p s = overwrite_at p (front_bytes (row_length b t) (length b.«data» - row_from b t) (length s - p) (drop (row_from b t) b.«data»)) s

-- row t is there: in the data, and from byte p on in an output of so many bytes
pub record RowThere (b : Stretches) (room t p : ℕ) : Type 0 where
  pub listed : (t < length b.starts) × (t < length b.lengths)
  pub read : row_from b t + row_length b t ≤ length b.«data»
  pub ends : p + row_length b t ≤ room

-- of so many rows those are there whose bits are set in the word, which has no others; the others have no entries
pub record RowsThere (b : Stretches) (word rows : ℕ) : Type 0 where
  pub listed : (rows ≤ length b.starts) × (rows ≤ length b.lengths)
  pub spare : (t : ℕ) → bit_of word t ≡ true → t < rows
  pub empty : (t : ℕ) → t < rows → bit_of word t ≡ false → get_or b.lengths t 0 ≡ 0
  pub read : (t : ℕ) → t < rows → bit_of word t ≡ true → row_from b t + row_length b t ≤ length b.«data»
