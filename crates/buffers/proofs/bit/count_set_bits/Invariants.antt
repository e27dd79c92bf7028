-- t counts the words.
use Rattle.std.proofs.Common.{◌≡◌, ◌*◌}
use Rattle.bits.specs.Routines.{set_bits}
use Rattle.buffers.proofs.bit.count_set_bits.Given as goal

abbrev pub invariant-loop-k : goal.invariant-loop-k
invariant-loop-k l = record { counted : l.t ≡ set_bits (l.k * 8) l.buf }
