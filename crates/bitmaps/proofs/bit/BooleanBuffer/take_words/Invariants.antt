-- The first k words are packed.
use Rattle.std.proofs.Common.{◌≡◌, ◌&&◌, ◌*◌, nat_lt}
use Rattle.bits.specs.Bits.{pack_bytes, valid_at}
use Rattle.bits.specs.Bytes.{overwrite}
use Rattle.tables.specs.Columns.{index_column_of}
use Rattle.gathers.specs.Buffers.{taken_bit}
use Rattle.bitmaps.proofs.bit.BooleanBuffer.take_words.Given as goal

abbrev pub invariant-loop-k : goal.invariant-loop-k
invariant-loop-k g l =
    l.out ≡ overwrite (pack_bytes (4 * l.k) (λ p. nat_lt p l.count && (taken_bit l.self.values.now l.self.offset (index_column_of l.indices) p && valid_at l.mask 0 p))) l.initial.out
