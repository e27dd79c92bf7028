-- The indices passed the tests of their validity.
use Rattle.tables.specs.Columns.{index_column_of}
use Rattle.bitmaps.proofs.Reading.{indices-held}
use Rattle.bitmaps.proofs.bit.validity_of.Goals as goal

pub invariant_of-result : goal.invariant_of-result
invariant_of-result c = record { held = indices-held (index_column_of c.args.indices.now) c.requires }
