-- The first bytes are packed, in both loops.
use Rattle.std.proofs.Common.{◌≡◌, ◌&&◌, ◌+◌, ◌*◌, nat_lt}
use Rattle.bits.specs.Bits.{bit_at, pack_bytes}
use Rattle.bits.specs.Bytes.{overwrite}
use Rattle.buffers.proofs.bit.pack_bits.Given as goal

abbrev pub invariant-loop-k : goal.invariant-loop-k
invariant-loop-k l = record { packed : l.out ≡ overwrite (pack_bytes (l.k * 8) (λ p. nat_lt p l.n && bit_at l.src (l.bit_offset + p))) l.fn.out }

abbrev pub invariant-loop-k-2 : goal.invariant-loop-k-2
invariant-loop-k-2 l = record { packed : l.out ≡ overwrite (pack_bytes l.k (λ p. nat_lt p l.n && bit_at l.src (l.bit_offset + p))) l.fn.out }
