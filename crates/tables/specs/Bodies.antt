-- Columns whose buffers lie in one lent slice, the body, at stated starts and lengths; and the records that describe them.
use Rattle.std.specs.Prelude.{ℕ, ◌+◌, ◌*◌, Bool, if◌then◌else◌, not, ◌&&◌, ◌||◌, List, [], ◌++◌, ◌==◌, nat_lt, length, take, drop, replicate}
use Rattle.bits.specs.Numbers.{number_at}
use Rattle.tables.specs.declared.table.Uses.{Uses}
use Rattle.tables.specs.declared.table.Extent.{Extent}
use Rattle.tables.specs.declared.table.Description.{Description}
use Rattle.tables.specs.Kinds.{kind_of, uses_of}
use Rattle.tables.specs.Columns.{Column, description}

-- ---- extents

abbrev pub extent : ℕ → ℕ → Extent
extent start len = record { start = start; len = len }

-- the bytes of an extent: as many as are stated, for limits go by stated lengths. What lies past the body counts as zeros; such an extent is refused
-- before a byte of it is looked at
unfoldable pub extent_of : List ℕ → Extent → List ℕ
extent_of body e = take e.len (drop e.start body ++ replicate e.len 0)

-- a nonempty extent ends past a body of so many bytes
abbrev pub is_cut : ℕ → Extent → Bool
is_cut bytes e = not (e.len == 0) && nat_lt bytes (e.start + e.len)

-- ---- a column whose buffers lie in a body

-- of the buffers that the kind uses one ends past the body: offsets are used where an offset width is, data and validity always
abbrev pub some_cut : Uses → ℕ → Description → Bool
some_cut u bytes d = is_cut bytes d.«data» || is_cut bytes d.validity || (u.offset_width && is_cut bytes d.offsets)

abbrev pub column_by : Uses → List ℕ → Description → Column
column_by u body d = record {
  table = d.table;
  «data» = extent_of body d.«data»;
  offsets = if u.offset_width then extent_of body d.offsets else [];
  validity = extent_of body d.validity;
  cut = some_cut u (length body) d;
}

unfoldable pub column_in : List ℕ → Description → Column
column_in body d = column_by (uses_of (kind_of d.table.kind)) body d

-- ---- records

-- a record is so many words of 64 bits, little-endian
abbrev pub record_words : ℕ
record_words = 13

abbrev pub record_bytes : ℕ
record_bytes = record_words * 8

-- word j of record i
unfoldable pub word_at : List ℕ → ℕ → ℕ → ℕ
word_at s i j = number_at 8 s (i * record_words + j)

abbrev pub described : (ℕ → ℕ) → Description
described w = record {
  table = description (w 0) (w 1) (w 2) (w 3) (w 4) (w 5) (w 6);
  «data» = extent (w 7) (w 8);
  offsets = extent (w 9) (w 10);
  validity = extent (w 11) (w 12);
}

-- the column that record i describes
unfoldable pub described_at : List ℕ → ℕ → Description
described_at s i = described (word_at s i)
