-- The first i - p bytes are written.
use Rattle.std.proofs.Common.{◌≡◌, ◌-◌, ◌/◌, ◌^◌}
use Rattle.bits.specs.Routines.{overwrite_at}
use Rattle.bits.specs.Numbers.{to_little_endian}
use Rattle.bits.proofs.number.write_up_to.Given as goal

abbrev pub invariant-loop-i : goal.invariant-loop-i
invariant-loop-i l = record {
  written : l.buf ≡ overwrite_at l.p (to_little_endian (l.i - l.p) l.v) l.initial.buf;
  left : l.rest ≡ l.v / 256 ^ (l.i - l.p);
}
