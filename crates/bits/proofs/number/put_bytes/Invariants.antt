-- The first i bytes are written.
use Rattle.std.proofs.Common.{◌≡◌, take}
use Rattle.bits.specs.Routines.{overwrite_at}
use Rattle.bits.proofs.number.put_bytes.Given as goal

abbrev pub invariant-loop-i : goal.invariant-loop-i
invariant-loop-i g l = record { written : l.buf ≡ overwrite_at l.p (take l.i l.bytes) l.fn.buf }
