-- The first k words are packed.
use Rattle.std.proofs.Common.{◌≡◌, true, ◌&&◌, ◌*◌, nat_lt}
use Rattle.bits.specs.Bytes.{overwrite}
use Rattle.bits.specs.Bits.{pack_bytes}
use Rattle.nulls.proofs.null.set_bits.Given as goal

abbrev pub invariant-loop-k : goal.invariant-loop-k
invariant-loop-k l = l.out ≡ overwrite (pack_bytes (8 * l.k) (λ p. nat_lt p l.n && true)) l.initial.out
