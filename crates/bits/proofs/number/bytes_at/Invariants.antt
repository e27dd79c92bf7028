-- The first i bytes are read.
use Rattle.std.proofs.Common.{◌≡◌, take, length}
use Rattle.bits.specs.Bytes.{part}
use Rattle.bits.proofs.number.bytes_at.Given as goal

abbrev pub invariant-loop-i : goal.invariant-loop-i
invariant-loop-i g l = record { whole : length l.bytes ≡ g.row.N; read : take l.i l.bytes ≡ part l.p l.i l.buf }
