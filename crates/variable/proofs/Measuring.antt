-- What refusal 6 says of the sum of the entries of all output rows, and of the first row after which their total is above the largest offset. Assumes nothing.
use mathlib.Core.Path.{◌≡◌, refl, sym, ap, ◌∙◌}
use Rattle.std.specs.Prelude.{Ok, Err}
use mathlib.Core.Bool.{Bool, true, false, cond, true≢false}
use Prim.Native.Nat.{ℕ, suc, ◌*◌, ◌^◌, ◌≤◌, ◌<◌}
use native.Mathlib.Nat.{le_refl, zero-mul}
use native.Mathlib.Omega.{arith}
use lib.Dec.{eqb, ltb}
use borrow.Author.Tests.{le-ltb, eqb-true, eq-eqb}
use Rattle.bits.specs.Sequences.{sum, first}
use Rattle.tables.specs.declared.table.Kind.{Kind}
use Rattle.tables.specs.declared.table.Layout.TheVariants.{VariableWidth}
use Rattle.tables.specs.Kinds.{kind_of}
use Rattle.tables.specs.Answers.{refuse}
use Rattle.tables.specs.Columns.{Column, IndexColumn, layout_at}
use Rattle.gathers.specs.Taken.{taken}
use Rattle.gathers.specs.Gather.{overflow_at, overflow_total}
use Rattle.gathers.specs.Stages.{measured}
use Rattle.gathers.specs.Ready.{Ready}
use Rattle.gathers.specs.Buffers.{taken_bit_valid, taken_entries}
use Rattle.bits.proofs.Sequences.{sum-cong, sum-zero, first_cong, first-none}
use Rattle.tables.proofs.Views.{kind_at-number}
use Rattle.gathers.proofs.VariableRows.{total-small, overflow-narrow, overflow-wide, variable-fit, variable-over, entries-null, taken-below}
use Rattle.lengths.specs.declared.total.Overflow.{Overflow}
use Rattle.lengths.specs.Totals.{selected_entries, passing, sum_within}
use Rattle.lengths.proofs.Running.{within-ok, within-err}
use Rattle.variable.specs.Measured.{largest_offset}
use Rattle.variable.proofs.Reading.{selection_of, selected-entries}

module _ {u : ℕ} {c : Column} {x : IndexColumn} (r : Ready c x) (e : layout_at c ≡ VariableWidth u) where
  abbrev w : ℕ
  w = c.table.offset_width

  abbrev count : ℕ
  count = x.indices.count

  abbrev E : ℕ → ℕ
  E = taken_entries c x

  -- the total after row j is above the largest offset
  abbrev over : ℕ → ℕ → Bool
  over most j = ltb most (sum (suc j) E)

  -- the first such row is that of refusal 6: at offset width 4 by its definition, and at 8 no total is above the largest number of 64 bits
  overflow-first : first count (over (largest_offset w)) ≡ overflow_at (layout_at c) (taken c x)
  overflow-first = go (eqb w 4) refl
    where
      go : (t : Bool) → eqb w 4 ≡ t → first count (over (cond t 2_147_483_647 18_446_744_073_709_551_615)) ≡ overflow_at (layout_at c) (taken c x)
      go true d = sym (overflow-narrow c x u e (eqb-true w 4 d))
      go false d =
          first-none count (over 18_446_744_073_709_551_615)
          (λ j h. le-ltb 18_446_744_073_709_551_615 (sum (suc j) E) (omega (arith, (total-small c x u e r (suc j) h).0)))
          ∙ sym (overflow-wide c x u e (λ f. true≢false (sym (eq-eqb w 4 f) ∙ d)))

  -- where there is none, the rows need the bytes of all entries
  fits : {s : ℕ} → s ≡ sum count E → first count (over (largest_offset w)) ≡ count → refuse 0 0 (s * u) ≡ measured (taken c x)
  fits d none = variable-fit c x u e (sym overflow-first ∙ none) (ap (λ (t : ℕ). t * u) d)

  -- of no rows every output row is null
  pub no_rows : c.table.rows ≡ 0 → refuse 0 0 0 ≡ measured (taken c x)
  no_rows z =
      let none : (m : ℕ) → m ≤ count → sum m E ≡ 0 = λ m l. sum-zero m E (λ j h. go j (omega arith) (taken_bit_valid c.validity c.table.validity_bit x j) refl) in
      ap (refuse 0 0) (sym (zero-mul u))
      ∙ fits (sym (none count (le_refl count))) (first-none count (over (largest_offset w)) (λ j h. le-ltb (largest_offset w) (sum (suc j) E) (omega (arith, none (suc j) h))))
    where
      go : (j : ℕ) → j < count → (t : Bool) → taken_bit_valid c.validity c.table.validity_bit x j ≡ t → E j ≡ 0
      go j h true d = absurd (omega (arith, taken-below c x u e r j h d))
      go j h false d = entries-null c x u j d

  -- the entries as they are read
  abbrev read : ℕ → ℕ
  read = selected_entries (selection_of c x)

  totals : (i : ℕ) → sum i read ≡ sum i E
  totals i = sum-cong i (λ j h. selected-entries u c x j)

  place : (most : ℕ) → passing most read count ≡ first count (over most)
  place most = first_cong count (λ j h. ap (ltb most) (totals (suc j)))

  module _ (most : ℕ) {s : ℕ} (k : Ok s ≡ sum_within most read count) where
    sum-read : s ≡ sum count E
    sum-read = (within-ok most read count k).1 ∙ totals count

    pub bytes_fit : s * u < 2 ^ 64
    bytes_fit = rw sum-read (omega (arith, (total-small c x u e r count (le_refl count)).1))

    pub sum-fit : most ≡ largest_offset w → refuse 0 0 (s * u) ≡ measured (taken c x)
    sum-fit m = fits sum-read (sym (place (largest_offset w)) ∙ ap (λ (n : ℕ). passing n read count) (sym m) ∙ (within-ok most read count k).0)

  -- the row where the count stopped is that of refusal 6
  pub sum_over : {most : ℕ} {p : Overflow} → Err p ≡ sum_within most read count → most ≡ largest_offset w → {kind : Kind} {t : ℕ}
      → kind ≡ kind_of c.table.kind → t ≡ overflow_total kind p.after p.before → refuse 6 p.place t ≡ measured (taken c x)
  sum_over {most} {p} k m f g =
      let q : ℕ = passing most read count in
      let a = within-err most read count k in
      let here : q ≡ overflow_at (layout_at c) (taken c x) = place most ∙ ap (λ (n : ℕ). first count (over n)) m ∙ overflow-first in
      let stop : p.place ≡ q = ap (λ (o : Overflow). o.place) a.1 in
      ap (refuse 6 p.place) (g ∙ ap (λ (b : Kind). overflow_total b p.after p.before) (f ∙ sym (kind_at-number c)))
      ∙ variable-over c x u e (sym here ∙ sym stop) (omega (arith, stop, a.0))
      (ap (λ (o : Overflow). o.after) a.1 ∙ totals (suc q) ∙ ap (λ (n : ℕ). sum (suc n) E) (sym stop))
      (ap (λ (o : Overflow). o.before) a.1 ∙ totals q ∙ ap (λ (n : ℕ). sum n E) (sym stop))
