-- The tests of a batch's columns one after the other: what holds after i of them, the step, and the end. Assumes nothing.
use mathlib.Core.Path.{◌≡◌, refl, sym, ap, ◌∙◌, subst}
use mathlib.Core.Bool.{true, false, true≢false}
use mathlib.Core.List.{List}
use Prim.Native.Nat.{ℕ, suc, ◌+◌, ◌*◌, ◌^◌, ◌≤◌, ◌<◌}
use native.Mathlib.Nat.{not-suc-le-zero, mul-le-mul_right}
use native.Mathlib.Numerals.{add-one}
use native.Mathlib.Omega.{arith}
use borrow.Author.Tests.{eq-eqb}
use lib.Dec.{eqb}
use Rattle.bits.specs.Sequences.{sum}
use Rattle.std.specs.Prelude.{Result, Ok, Err}
use Rattle.std.proofs.lemmas.Result.{IfOk-at_ok}
use Rattle.tables.specs.Stages.{checked_numbers}
use Rattle.tables.specs.declared.refusal.Refusal.{Refusal}
use Rattle.tables.specs.declared.table.Lengths.{Lengths}
use Rattle.tables.specs.Columns.{Column, IndexColumn, lengths_together}
use Rattle.tables.specs.Answers.{passes, Line, lines_of, first_of}
use Rattle.tables.specs.Refusals.{max_rows, max_bytes}
use Rattle.gathers.specs.Stored.{needed_lengths, joined_lengths}
use Rattle.gathers.specs.Gather.{through_lines}
use Rattle.gathers.specs.Ready.{InRange}
use Rattle.batches.specs.Batch.{Batch, taken_from, batch_lines}
use Rattle.arrays.specs.Told.{AllToldOf}
use Rattle.bits.proofs.Sequences.{below_suc, sum-le, sum-const}
use Rattle.tables.proofs.Lines.{none-met-passes, none-met-accepts, lines-pass, lines-refused}
use Rattle.gathers.proofs.Stages.{through-refusing}
use Rattle.gathers.proofs.Joining.{needed-small}
use Rattle.batches.proofs.Refused.{columns-refusing}
use Rattle.batches.proofs.Passed.{few-columns, rows-equal, column-ready}
use Rattle.described.specs.Told.{ToldOf}
use Rattle.described.proofs.Columns.{lets-pass, refuses}

-- the first i columns pass through overflow, and these are the lengths that they need together
pub record Counted (b : Batch) (x : IndexColumn) (i : ℕ) (joined : Lengths) : Type 0 where
  pub inside : i ≤ b.count
  pub passed : (k : ℕ) → k < i → passes (first_of (through_lines (b.column k) x)) ≡ true
  pub of-joined : joined ≡ joined_lengths i (taken_from b x)

-- a number that is not 0
positive : {i : ℕ} → eqb i 0 ≡ false → 0 < i
positive {i} e = let n : (i ≡ 0 → ⊥) = λ z. true≢false (sym (eq-eqb i 0 z) ∙ e) in omega arith

-- a sum of few small numbers
pub small-sum : (i : ℕ) (f : ℕ → ℕ) (m : ℕ) → ((k : ℕ) → k < i → f k ≤ m) → i ≤ 32 → sum i f ≤ 32 * m
small-sum i f m h few = omega (arith, sum-le i f (λ k. m) h, sum-const i m, mul-le-mul_right {n = 32} m few)

module _ (b : Batch) (x : IndexColumn) where
  abbrev need : ℕ → Lengths
  need k = needed_lengths (taken_from b x k)

  abbrev through : ℕ → List Line
  through k = through_lines (b.column k) x

  pub counted_start : Counted b x 0 (record { «data» = 0; offsets = 0; validity = 0 })
  counted_start = record { inside = omega arith; passed = λ k h. absurd (not-suc-le-zero h); of-joined = refl }

  -- ---- one column more: k

  module _ {i : ℕ} {joined : Lengths} (c : Counted b x i joined) (h : i < b.count) {k : Column} (ke : k ≡ b.column i) where
    -- past the first column the index column and the range are known to pass: the rows are as many
    pub range-known : passes (first_of (batch_lines b)) ≡ true → eqb i 0 ≡ false → InRange k.table.rows x
    range-known p e =
        let n : 0 < i = positive e in
        let rows : (b.column 0).table.rows ≡ k.table.rows = sym (rows-equal b p i h) ∙ ap (λ (k : Column). k.table.rows) (sym ke) in
        subst (λ (n : ℕ). InRange n x) rows (column-ready b x 0 (c.passed 0 n)).indices

    module _ (m : Result Lengths Refusal) (kt : ToldOf k x m) where
      told : ToldOf (b.column i) x m
      told = subst (λ (k : Column). ToldOf k x m) ke kt

      -- it refuses: its refusal is that of the columns
      pub columns-refused : (r : Refusal) → m ≡ Err r → AllToldOf b x (Err r)
      columns-refused r f =
          (sym (ap checked_numbers f) ∙ told.0 ∙ sym (lines-refused through (λ k. through-refusing (b.column k) x) b.count i h c.passed (refuses told.0 f)), tt)

      module _ (n : Lengths) (f : m ≡ Ok n) where
        needed : n ≡ need i
        needed = IfOk-at_ok (λ (n : Lengths). n ≡ need i) f told.1

        all-passed : (k : ℕ) → k < suc i → passes (first_of (through k)) ≡ true
        all-passed = below_suc (λ (k : ℕ). passes (first_of (through k)) ≡ true) i (lets-pass told.0 f) c.passed

        pub counted-more : Counted b x (i + 1) (lengths_together joined n)
        counted-more =
            rw add-one (record { inside = h; passed = all-passed; of-joined = ap (λ (m : Lengths). lengths_together m n) c.of-joined ∙ ap (lengths_together (joined_lengths i (taken_from b x))) needed })

        -- the sums are far below what a number of 64 bits holds
        pub small-together : passes (first_of (batch_lines b)) ≡ true
            → (joined.«data» + n.«data» < 2 ^ 64) × (joined.offsets + n.offsets < 2 ^ 64) × (joined.validity + n.validity < 2 ^ 64)
        small-together p =
            let bound : ℕ = max_rows * max_bytes in
            let each : (k : ℕ) → k < suc i → ((need k).validity ≤ bound) × ((need k).offsets ≤ bound) × ((need k).«data» ≤ bound) =
            λ k l. needed-small (b.column k) x (column-ready b x k (all-passed k l)) in
            let few : suc i ≤ 32 = omega (arith, few-columns b p) in (
              omega (arith, ap (λ (n : Lengths). n.«data») c.of-joined, ap (λ (n : Lengths). n.«data») needed, small-sum (suc i) (λ k. (need k).«data») bound (λ k l. (each k l).2) few),
              omega (arith, ap (λ (n : Lengths). n.offsets) c.of-joined, ap (λ (n : Lengths). n.offsets) needed, small-sum (suc i) (λ k. (need k).offsets) bound (λ k l. (each k l).1) few),
              omega (arith, ap (λ (n : Lengths). n.validity) c.of-joined, ap (λ (n : Lengths). n.validity) needed, small-sum (suc i) (λ k. (need k).validity) bound (λ k l. (each k l).0) few),
            )

  -- ---- the end: every column passes

  pub columns-told : {i : ℕ} {joined : Lengths} → Counted b x i joined → i ≡ b.count → AllToldOf b x (Ok joined)
  columns-told c e =
      let p : passes (first_of (lines_of b.count through)) ≡ true = lines-pass through (λ k. through-refusing (b.column k) x) b.count (rw e at c.passed) in
      (sym (none-met-accepts (lines_of b.count through) (none-met-passes (lines_of b.count through) (columns-refusing b x) p)), rw e at c.of-joined)
