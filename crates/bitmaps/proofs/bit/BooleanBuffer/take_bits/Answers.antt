-- Where there is no row, the output is the validity of the indices. The width that is left is 1.
use Rattle.std.proofs.Common.{List, ℕ, length, sym, ap, ◌∙◌, arith}
use borrow.Author.Tests.{eqb-false}
use Rattle.bits.specs.Bytes.{overwrite}
use Rattle.bits.proofs.Numbers.{width_one}
use Rattle.tables.specs.Columns.{index_column_of}
use Rattle.tables.proofs.Facts.{index-formed}
use Rattle.bitmaps.proofs.Reading.{no_rows}
use Rattle.bitmaps.proofs.bit.BooleanBuffer.take_bits.Goals as goal

pub returns-then-not-is_empty : goal.returns-then-not-is_empty
returns-then-not-is_empty c =
    let a = c.args in
    let b = a.self.now in
    let x = index_column_of a.indices.now in
    let v = c.validity_of.ensures in
    let some = eqb-false (length x.validity) 0 (sym c.is_empty.ensures ∙ c.if-not-is_empty.true) in
    c.pack.ensures
    ∙ ap (λ (e : List ℕ). overwrite e a.out.now)
    (rw (v.values, v.place.0, v.place.1) (no_rows b.values.now b.offset b.len x c.requires.in_range a.mask.now c.if-self-eq0.true some))

pub take_words-requires-in_default-clause-width : goal.take_words-requires-in_default-clause-width
take_words-requires-in_default-clause-width c = width_one _ (index-formed _ c.requires.in_range.passed).width (omega arith) (omega arith) (omega arith)
