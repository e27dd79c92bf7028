-- What the routines that write the rows ask.
use Rattle.std.specs.Prelude.{ℕ, ◌≡◌, List}
use Rattle.tables.specs.declared.table.Layout.TheVariants.{VariableWidth}
use Rattle.tables.specs.Columns.{Column, IndexColumn, layout_at}
use Rattle.gathers.specs.Buffers.{Validates}
use Rattle.gathers.specs.Ready.{Ready, HasRoom}

-- a column of variable width, with entries of u bytes, and an index column that pass refusals 1 to 5, room for what is written, and the validity of the output rows as it is
-- written in `valid`
pub record VariableReady (u : ℕ) (c : Column) (x : IndexColumn) (valid out_offsets out_data : List ℕ) : Type 0 where
  pub ready : Ready c x
  pub layout : layout_at c ≡ VariableWidth u
  pub shows : Validates c.validity c.table.validity_bit x valid
  pub room : HasRoom c x out_offsets out_data
