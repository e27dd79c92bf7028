-- The first k times 16 bytes are copied.
use Rattle.std.proofs.Common.{◌≡◌, ◌*◌}
use Rattle.bits.specs.Bytes.{part}
use Rattle.bits.specs.Routines.{overwrite_at}
use Rattle.copies.proofs.piece.copy_64.Given as goal

abbrev pub invariant-loop-k : goal.invariant-loop-k
invariant-loop-k l = record { copied : l.dst ≡ overwrite_at l.p (part l.p (16 * l.k) l.src) l.fn.dst }
