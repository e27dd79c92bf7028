-- A turn packs the next word; the bits that are left go into the last bytes.
use Rattle.std.proofs.Common.{ℕ, Bool, ◌≡◌, ◌&&◌, ◌+◌, ◌-◌, ◌*◌, ◌/◌, ◌%◌, nat_lt, ap, ◌∙◌, arith}
use Rattle.bits.specs.Bytes.{overwrite}
use Rattle.bits.specs.Bits.{pack_bytes, bytes_for, valid_at}
use Rattle.tables.specs.Columns.{index_column_of}
use Rattle.gathers.specs.Buffers.{taken_bit}
use Rattle.bits.proofs.Packing.{bytes_end}
use Rattle.bitmaps.proofs.Reading.{reached, words-more}
use Rattle.bitmaps.proofs.bit.BooleanBuffer.take_words.Goals as goal

pub take_word-word-requires-clause-reached : goal.take_word-word-requires-clause-reached
take_word-word-requires-clause-reached g c =
    let s = c.args.self.now in
    reached s.values.now s.offset s.len _ c.requires.in_range s.held c.requires.some

pub loop-k-preserved : goal.loop-k-preserved
loop-k-preserved g c =
    let a = c.args in
    let n = a.indices.now.indices.count in
    let f : ℕ → Bool = λ p. taken_bit a.self.now.values.now a.self.now.offset (index_column_of a.indices.now) p && valid_at a.mask.now 0 p in
    let next : 4 * c.loop-k.k + 4 ≡ 4 * (c.loop-k.k + 1) = omega arith in
    words-more f n a.out.now c.loop-k.k 32 _ (omega arith) c.take_word-word.ensures 4 (λ t l m. absurd (omega arith)) c.loop-k.invariant (rw c.from.ensures at c.write_number.ensures)
    ∙ ap (λ (m : ℕ). overwrite (pack_bytes m (λ p. nat_lt p n && f p)) a.out.now) next

pub take_word-word-requires-then-rest-ne0-clause-reached : goal.take_word-word-requires-then-rest-ne0-clause-reached
take_word-word-requires-then-rest-ne0-clause-reached g c =
    let s = c.args.self.now in
    reached s.values.now s.offset s.len _ c.requires.in_range s.held c.requires.some

pub returns-then-rest-ne0 : goal.returns-then-rest-ne0
returns-then-rest-ne0 g c =
    let a = c.args in
    let n = a.indices.now.indices.count in
    let f : ℕ → Bool = λ p. taken_bit a.self.now.values.now a.self.now.offset (index_column_of a.indices.now) p && valid_at a.mask.now 0 p in
    let whole : c.loop-k.k ≡ n / 32 = omega arith in
    let m = bytes_for n - 4 * (n / 32) in
    let long : c.div_ceil.result - 4 * (n / 32) ≡ m = omega arith in
    bytes_end f n a.out.now (4 * (n / 32) + m) (omega arith)
    (words-more f n a.out.now (n / 32) (n % 32) _ (omega arith) c.take_word-word-then-rest-ne0.ensures m (λ t l k. omega arith) (rw whole at c.loop-k.invariant) (rw (c.from-then-rest-ne0.ensures, long) at c.write_up_to.ensures))
