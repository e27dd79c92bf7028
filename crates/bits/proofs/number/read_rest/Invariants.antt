-- `word` is the number of the bytes from i up to n, of which there are at most 7.
use Rattle.std.proofs.Common.{◌≡◌, ◌-◌, ◌≤◌}
use Rattle.bits.specs.Bytes.{part}
use Rattle.bits.specs.Numbers.{little_endian}
use Rattle.bits.proofs.number.read_rest.Given as goal

abbrev pub invariant-loop-i : goal.invariant-loop-i
invariant-loop-i l = record { above : l.p ≤ l.i; number : l.word ≡ little_endian (part l.i (l.n - l.i) l.buf) }
