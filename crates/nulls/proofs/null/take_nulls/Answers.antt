-- Of the bits that are packed, those that are no ones are the null rows.
use Rattle.std.proofs.Common.{refl, arith}
use lib.Seq.{length-take-le}
use Rattle.tables.specs.Columns.{index_column_of}
use Rattle.tables.proofs.Facts.{index-formed}
use Rattle.nulls.proofs.Validity.{all_valid, counted}
use Rattle.nulls.proofs.null.take_nulls.Goals as goal

pub set_bits-requires : goal.set_bits-requires
set_bits-requires c = (omega (arith, (index-formed _ c.requires.in_range.passed).count), c.requires.room)

pub returns-then-is_empty-2-clause-validity_stored : goal.returns-then-is_empty-2-clause-validity_stored
returns-then-is_empty-2-clause-validity_stored c =
    all_valid c.args.validity.now.values.now c.args.validity.now.offset (index_column_of c.args.indices.now)
    (rw (← c.is_empty.ensures, ← c.is_empty-then-is_empty.ensures, c.if-is_empty.true, c.if-is_empty-2.true) refl) c.args.out_validity.now c.set_bits.ensures

pub count_set_bits-requires : goal.count_set_bits-requires
count_set_bits-requires c =
    let there = length-take-le c.div_ceil.result c.take_validity.new.out_validity (omega (arith, c.requires.room, c.take_validity.auto)) in
    omega (arith, there, (index-formed _ c.requires.in_range.passed).count)

pub returns-clause-nulls : goal.returns-clause-nulls
returns-clause-nulls c =
    (counted c.args.validity.now.values.now c.args.validity.now.offset _ c.args.out_validity.now c.take_validity.ensures (omega arith) c.count_set_bits.ensures).1

pub overflow_sub-result : goal.overflow_sub-result
overflow_sub-result c =
    (counted c.args.validity.now.values.now c.args.validity.now.offset _ c.args.out_validity.now c.take_validity.ensures (omega arith) c.count_set_bits.ensures).0
