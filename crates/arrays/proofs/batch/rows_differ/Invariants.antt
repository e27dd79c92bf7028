-- None of i records differs from the first.
use Rattle.std.proofs.Common.{◌≡◌, false}
use Rattle.bits.specs.Sequences.{any}
use Rattle.arrays.proofs.Records.{differs}
use Rattle.arrays.proofs.batch.rows_differ.Given as goal

abbrev pub invariant-loop-i : goal.invariant-loop-i
invariant-loop-i l = any l.i (differs l.descriptions l.rows) ≡ false
