-- What the writing of one column's rows asks and tells.
use Rattle.std.specs.Prelude.{ℕ, ◌+◌, ◌*◌, ◌^◌, ◌≤◌, ◌<◌, ◌≡◌, true, List, length}
use Rattle.bits.specs.Numbers.{number_at, is_number_width}
use Rattle.bits.specs.Bits.{bytes_for}
use Rattle.tables.specs.declared.table.Layout.{Layout}
use Rattle.tables.specs.declared.table.Layout.TheVariants.{FixedWidth, BitMap, VariableWidth}
use Rattle.tables.specs.Rows.{Rows}
use Rattle.gathers.specs.Stored.{Output, validity_length, offset_length, data_length, needed_lengths, null_count}
use Rattle.described.specs.declared.column.Taken.{Taken}

abbrev pub taken_of : Rows → Taken
taken_of v = record { needed = needed_lengths v; nulls = null_count v }

-- the lent outputs have room for the rows: refusal 7 is not met
pub record HasRoomFor (v : Rows) (o : Output) : Type 0 where
  pub validity : validity_length v ≤ length o.validity
  pub offsets : offset_length v.layout v ≤ length o.offsets
  pub «data» : data_length v.layout v ≤ length o.«data»

-- the data bytes of count rows, where s begins with their offsets, of w bytes each: of variable width the last of them times the bytes of an entry
abbrev pub data_in : Layout → ℕ → ℕ → List ℕ → ℕ
data_in (FixedWidth n) w count s = count * n
data_in BitMap w count s = bytes_for count
data_in (VariableWidth u) w count s = number_at w s count * u

-- they are there, and the data bytes are a number of 64 bits
abbrev pub OffsetsIn : Layout → ℕ → ℕ → List ℕ → Type 0
OffsetsIn (FixedWidth n) w count s = count * n < 2 ^ 64
OffsetsIn BitMap w count s = count + 7 < 2 ^ 64
OffsetsIn (VariableWidth u) w count s = (is_number_width w ≡ true) × (count * w + w ≤ length s) × (number_at w s count * u < 2 ^ 64)
