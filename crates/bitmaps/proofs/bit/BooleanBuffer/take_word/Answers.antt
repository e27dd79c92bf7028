-- What is picked is there, and its bits are those of the output.
use Rattle.std.proofs.Common.{ℕ, ap, ◌∙◌, arith}
use lib.Bits.{and_le_l}
use Rattle.bits.specs.Bits.{bit_of}
use Rattle.tables.specs.Columns.{index_column_of}
use Rattle.bitmaps.proofs.Reading.{mask-held, starts, picked-reached, picked-taken, all-reached, all-taken, masked-reached}
use Rattle.bitmaps.proofs.bit.BooleanBuffer.take_word.Goals as goal

pub invariant_of-mask_bits : goal.invariant_of-mask_bits
invariant_of-mask_bits g c = record { held = mask-held (index_column_of c.args.indices.now) c.requires.reached.passed c.requires.mask_there }

pub overflow_mul-numbers : goal.overflow_mul-numbers
overflow_mul-numbers g c = let h = starts c.requires.reached c.requires.width c.args.p (omega arith) in omega arith

pub slice_bounds-numbers-count : goal.slice_bounds-numbers-count
slice_bounds-numbers-count g c = let h = starts c.requires.reached c.requires.width c.args.p (omega arith) in omega arith

pub slice_bounds-numbers-start : goal.slice_bounds-numbers-start
slice_bounds-numbers-start g c = let h = starts c.requires.reached c.requires.width c.args.p (omega arith) in omega arith

pub all_bits-requires-clause-reached : goal.all_bits-requires-clause-reached
all_bits-requires-clause-reached g c =
    let p = c.requires in
    let e = c.validity_of.ensures in
    all-reached p.reached p.width c.args.p c.args.n p.few.2 c.args.mask.now _ _ (rw (e.values, e.place.0) at c.valid_word-valid.ensures) c.valid_word-kept.ensures
    (λ t. ap (λ (y : ℕ). bit_of y t) c.if-valid-ones.true ∙ c.ones.ensures t)

pub returns-then-valid-ones : goal.returns-then-valid-ones
returns-then-valid-ones g c =
    let p = c.requires in
    let e = c.validity_of.ensures in
    all-taken p.reached p.width c.args.p c.args.n p.few.2 c.args.mask.now _ _ (rw (e.values, e.place.0) at c.valid_word-valid.ensures) c.valid_word-kept.ensures
    (λ t. ap (λ (y : ℕ). bit_of y t) c.if-valid-ones.true ∙ c.ones.ensures t) _ c.all_bits.ensures

pub masked_bits-requires : goal.masked_bits-requires
masked_bits-requires g c =
    let p = c.requires in
    let e = c.validity_of.ensures in
    masked-reached p.reached p.width c.args.p c.args.n p.few.2 c.args.mask.now _ _ (rw (e.values, e.place.0) at c.valid_word-valid.ensures) c.valid_word-kept.ensures
    c.if-n-eq32.true (omega (arith, and_le_l c.valid_word-valid.result c.valid_word-kept.result)) c.if-picked-ge24.true

pub returns-then-picked-ge24 : goal.returns-then-picked-ge24
returns-then-picked-ge24 g c =
    let p = c.requires in
    let e = c.validity_of.ensures in
    picked-taken p.reached p.width c.args.p c.args.n p.few.2 c.args.mask.now _ _ (rw (e.values, e.place.0) at c.valid_word-valid.ensures) c.valid_word-kept.ensures _ c.masked_bits.ensures

pub picked_bits-requires : goal.picked_bits-requires
picked_bits-requires g c =
    let p = c.requires in
    let e = c.validity_of.ensures in
    picked-reached p.reached p.width c.args.p c.args.n p.few.2 c.args.mask.now _ _ (rw (e.values, e.place.0) at c.valid_word-valid.ensures) c.valid_word-kept.ensures

pub returns : goal.returns
returns g c =
    let p = c.requires in
    let e = c.validity_of.ensures in
    picked-taken p.reached p.width c.args.p c.args.n p.few.2 c.args.mask.now _ _ (rw (e.values, e.place.0) at c.valid_word-valid.ensures) c.valid_word-kept.ensures _ c.picked_bits.ensures
