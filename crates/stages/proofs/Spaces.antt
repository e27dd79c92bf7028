-- Refusal 7 by lengths is the definition's (specs/Space.antt), and what its functions ask of a table. Assumes nothing.
use mathlib.Core.Path.{◌≡◌, refl, sym}
use Prim.Native.Nat.{ℕ}
use Rattle.tables.specs.declared.table.Layout.{Layout}
use Rattle.tables.specs.declared.table.Layout.TheVariants.{FixedWidth, BitMap, VariableWidth}
use Rattle.tables.specs.declared.table.Lengths.{Lengths}
use Rattle.tables.specs.Kinds.{kind_of, layout_of}
use Rattle.tables.specs.Columns.{Column, IndexColumn, kind_at, layout_at}
use Rattle.tables.specs.Refusals.{WellFormed}
use Rattle.tables.specs.Bounds.{RowFits, Bounds}
use Rattle.tables.specs.Rows.{rows_by, rows_of}
use Rattle.gathers.specs.Taken.{take_rows}
use Rattle.gathers.specs.Stored.{offset_length, data_length, needed_lengths}
use Rattle.tables.specs.Answers.{first_of}
use Rattle.gathers.specs.Gather.{space_lines}
use Rattle.stages.specs.Space.{offset_bytes_for, lengths_for, lengths_refusal}
use Rattle.tables.proofs.Stages.{layout-told, sized-row-fits, sized-bounds, well-formed-sized}
use Rattle.tables.proofs.Views.{rows_of-by}

pub lengths_refusal-lines : (needed lent : Lengths) → lengths_refusal needed lent ≡ first_of (space_lines needed lent)
unfolding lengths_refusal
lengths_refusal-lines needed lent = refl

module _ (c : Column) where
  pub told : layout_at c ≡ layout_of (kind_of c.table.kind) c.table.width c.table.size
  told = layout-told c refl refl

  pub rows_fit : WellFormed c → RowFits (kind_of c.table.kind) c.table
  rows_fit w = sized-row-fits c (well-formed-sized c w) refl

  pub bounds-told : WellFormed c → Bounds (layout_of (kind_of c.table.kind) c.table.width c.table.size) c.table
  bounds-told w = rw (sym told) (sized-bounds c (well-formed-sized c w))

  -- the layout of the rows
  pub rows-layout : (rows_of c).layout ≡ layout_at c
  rows-layout = rw (rows_of-by c)

  module _ (x : IndexColumn) where
    offsets-length : offset_bytes_for (layout_at c) c.table.offset_width x.indices.count ≡ offset_length (rows_of c).layout (take_rows (rows_of c) x)
    offsets-length = rw (rows_of-by c) (go (layout_at c))
      where
        go : (l : Layout) → offset_bytes_for l c.table.offset_width x.indices.count
            ≡ offset_length l (take_rows (rows_by (kind_at c) l c) x)
        go (FixedWidth n) = refl
        go BitMap = refl
        go (VariableWidth u) = refl

    -- the lengths as the code finds them are those that the rows need
    pub needed-told : {total : ℕ} → total ≡ data_length (rows_of c).layout (take_rows (rows_of c) x)
        → lengths_for (layout_of (kind_of c.table.kind) c.table.width c.table.size) c.table.offset_width x.indices.count total ≡ needed_lengths (take_rows (rows_of c) x)
    needed-told e = rw (e, sym told, offsets-length)
