-- The parts of the joined outputs: where the rows of column k lie among those of several columns.
use Rattle.std.specs.Prelude.{ℕ, drop}
use Rattle.bits.specs.Bytes.{part}
use Rattle.tables.specs.declared.table.Lengths.{Lengths}
use Rattle.tables.specs.Rows.{Rows}
use Rattle.gathers.specs.Stored.{Output, needed_lengths, joined_lengths}

-- of each output so many bytes, from so many on
abbrev pub output_part : Lengths → Lengths → Output → Output
output_part starts lengths o = record {
  validity = part starts.validity lengths.validity o.validity;
  offsets = part starts.offsets lengths.offsets o.offsets;
  «data» = part starts.«data» lengths.«data» o.«data»;
}

-- column k's part starts where the columns before it end, and has the bytes that its rows need
abbrev pub part_of : (ℕ → Rows) → ℕ → Output → Output
part_of v k o = output_part (joined_lengths k v) (needed_lengths (v k)) o

-- the bytes of each output after so many
abbrev pub after_of : Lengths → Output → Output
after_of n o = record { validity = drop n.validity o.validity; offsets = drop n.offsets o.offsets; «data» = drop n.«data» o.«data» }
