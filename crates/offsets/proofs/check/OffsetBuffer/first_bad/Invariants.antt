-- No offset below i is bad, and `before` is what offset i may not be below.
use Rattle.std.proofs.Common.{◌≡◌, ◌<◌, ℕ, false}
use Rattle.bits.specs.Numbers.{number_at}
use Rattle.tables.specs.Refusals.{is_bad}
use Rattle.tables.proofs.Scans.{floor}
use Rattle.offsets.proofs.check.OffsetBuffer.first_bad.Given as goal

abbrev pub invariant-loop-i : goal.invariant-loop-i
invariant-loop-i g l =
    record {
      floor_is : l.before ≡ floor g.row.W l.self.bytes.now l.i;
      none_bad : (k : ℕ) → k < l.i → is_bad g.row.W (number_at g.row.W l.self.bytes.now) l.most k ≡ false;
    }
