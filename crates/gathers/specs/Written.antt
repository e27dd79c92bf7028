-- What was gathered is a column again, of exactly the bytes written. A later call may take it as a source, or read its rows.
use Rattle.std.specs.Prelude.{ℕ, ◌<◌, ◌≡◌, false, length, take}
use Rattle.tables.specs.Columns.{Column, with_rows_at}
use Rattle.tables.specs.Rows.{Rows}
use Rattle.gathers.specs.Stored.{Output, validity_bytes, written_offsets, data_bytes}

-- rows as a column of the kind, the widths and the size of c, at bit offsets 0: nothing follows the bytes that are written
abbrev pub stored_column : Column → Rows → Column
stored_column c v = record {
  table = with_rows_at c.table v.count 0 0;
  «data» = data_bytes v.layout v;
  offsets = written_offsets v.layout v;
  validity = validity_bytes v;
  cut = false;
}

-- the whole output buffers as such a column, of count rows
abbrev pub output_column : Column → ℕ → Output → Column
output_column c count o = record { table = with_rows_at c.table count 0 0; «data» = o.«data»; offsets = o.offsets; validity = o.validity; cut = false }

-- the output buffers begin with the buffers of d
pub record BeginsWith (d : Column) (o : Output) : Type 0 where
  pub validity : take (length d.validity) o.validity ≡ d.validity
  pub offsets : take (length d.offsets) o.offsets ≡ d.offsets
  pub «data» : take (length d.«data») o.«data» ≡ d.«data»

-- v shows the same rows as w: as many, with the same nulls and bytes
pub record ReadsAs (v w : Rows) : Type 0 where
  pub count : v.count ≡ w.count
  pub valid : (i : ℕ) → i < w.count → v.valid i ≡ w.valid i
  pub bytes : (i : ℕ) → i < w.count → v.bytes i ≡ w.bytes i
