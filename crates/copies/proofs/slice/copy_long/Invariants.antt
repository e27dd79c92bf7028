-- The first i turns are copied.
use Rattle.std.proofs.Common.{◌≡◌, ◌*◌, take}
use Rattle.bits.specs.Bytes.{overwrite}
use Rattle.copies.proofs.slice.copy_long.Given as goal

abbrev pub invariant-loop-i : goal.invariant-loop-i
invariant-loop-i l = record { copied : l.dst ≡ overwrite (take (l.i * 64) l.src) l.fn.dst }
