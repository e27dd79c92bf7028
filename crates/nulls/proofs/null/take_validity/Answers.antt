-- By what the rows and the indices have of validity.
use Rattle.std.proofs.Common.{sym, ◌∙◌}
use Rattle.tables.specs.Columns.{index_column_of}
use Rattle.nulls.proofs.Validity.{by_bits, by_index}
use Rattle.nulls.proofs.null.take_validity.Goals as goal

pub returns-then-not-is_empty : goal.returns-then-not-is_empty
returns-then-not-is_empty c =
    by_bits _ _ (index_column_of c.args.indices.now) (sym c.is_empty.ensures ∙ c.if-not-is_empty.true) _ c.take_bits.ensures

pub returns : goal.returns
returns c =
    by_index _ _ (index_column_of c.args.indices.now) (sym c.is_empty.ensures ∙ c.if-not-is_empty.false) c.requires.some_validity _
    (rw (c.validity_of.ensures.values, c.validity_of.ensures.place.0, c.validity_of.ensures.place.1) at c.pack.ensures)
