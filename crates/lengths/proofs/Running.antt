-- The turns of the loops over the entries E of the output rows. Assumes nothing.
use mathlib.Core.Path.{◌≡◌, refl, sym}
use mathlib.Core.Bool.{Bool, true, false, cond}
use Prim.Native.Nat.{ℕ, suc, ◌+◌, ◌^◌, ◌≤◌, ◌<◌}
use native.Mathlib.Nat.{le_refl}
use native.Mathlib.Numerals.{add-one}
use native.Mathlib.Omega.{arith}
use lib.Dec.{ltb}
use Rattle.std.specs.Prelude.{Result, Ok, Err}
use borrow.Author.Tests.{lt-ltb, le-ltb, ltb-true, ltb-false}
use Rattle.bits.specs.Sequences.{sum}
use Rattle.bits.proofs.Sequences.{below_suc, sum_mono, first-at, first-none, first-le}
use Rattle.lengths.specs.declared.total.Overflow.{Overflow}
use Rattle.lengths.specs.Totals.{passing, sum_within}

-- ---- the sum of j rows

pub record Summed (E : ℕ → ℕ) (total j : ℕ) : Type 0 where
  pub counted : total ≡ sum j E

module _ {E : ℕ → ℕ} {total j : ℕ} (i : Summed E total j) {n : ℕ} (e : n ≡ E j) where
  next-total : total + n ≡ sum (suc j) E
  next-total = rw (i.counted, e)

  pub summed-next : Summed E (total + n) (j + 1)
  summed-next = record { counted = rw (add-one j) next-total }

  pub summed_fits : {count : ℕ} → j < count → sum count E < 2 ^ 64 → total + n < 2 ^ 64
  summed_fits {count} h l = omega (arith, next-total, sum_mono {i = suc j} count E h)

-- ---- the first row after which the total is above most

-- none of the first j is it
pub record Counting (most : ℕ) (E : ℕ → ℕ) (total j : ℕ) : Type 0 where
  pub summed : Summed E total j
  pub low : (k : ℕ) → k < j → ltb most (sum (suc k) E) ≡ false

module _ {most : ℕ} {E : ℕ → ℕ} {total j : ℕ} (i : Counting most E total j) where
  pub counting_stop : {n count : ℕ} → n ≡ E j → j < count → most < total + n → Err (record { place = j; before = total; after = total + n }) ≡ sum_within most E count
  unfolding sum_within
  counting_stop {count = count} e h l =
      let p : passing most E count ≡ j = first-at count (λ k. ltb most (sum (suc k) E)) j h (lt-ltb most (sum (suc j) E) (omega (arith, next-total i.summed e))) i.low in
      rw (p, lt-ltb j count h, i.summed.counted, e) refl

  pub counting-next : {n : ℕ} → n ≡ E j → total + n ≤ most → Counting most E (total + n) (j + 1)
  counting-next e h = record {
    summed = summed-next i.summed e;
    low = rw (add-one j) (below_suc (λ (k : ℕ). ltb most (sum (suc k) E) ≡ false) j (le-ltb most (sum (suc j) E) (omega (arith, next-total i.summed e))) i.low);
  }

  pub counting_end : {count : ℕ} → j ≡ count → Ok total ≡ sum_within most E count
  unfolding sum_within
  counting_end {count} h =
      let p : passing most E j ≡ j = first-none j (λ k. ltb most (sum (suc k) E)) i.low in
      rw (← h, p, le-ltb j j (le_refl j), i.summed.counted) refl

-- a sum that is not above most: so is each on the way
pub sum-within : (most : ℕ) (E : ℕ → ℕ) (count : ℕ) {total : ℕ} → total ≡ sum count E → total ≤ most → Ok total ≡ sum_within most E count
sum-within most E count {total} e l =
    let i : Counting most E total count = record {
      summed = record { counted = e };
      low = λ k h. le-ltb most (sum (suc k) E) (omega (arith, e, l, sum_mono {i = suc k} count E h));
    } in
    counting_end i refl

-- ---- what an answer says

module _ (most : ℕ) (E : ℕ → ℕ) (count : ℕ) where
  abbrev p : ℕ
  p = passing most E count

  abbrev answer : Bool → Result ℕ Overflow
  answer t = cond t (Err (record { place = p; before = sum p E; after = sum (suc p) E })) (Ok (sum count E))

  pub within-ok : {s : ℕ} → Ok s ≡ sum_within most E count → (p ≡ count) × (s ≡ sum count E)
  unfolding sum_within
  within-ok {s} e = go (ltb p count) refl (sym e)
    where
      go : (t : Bool) → ltb p count ≡ t → answer t ≡ Ok s → (p ≡ count) × (s ≡ sum count E)
      go true d f = absurd cc
      go false d f = (omega (arith, first-le count (λ k. ltb most (sum (suc k) E)), ltb-false p count d), cc)

  pub within-err : {r : Overflow} → Err r ≡ sum_within most E count → (p < count) × (r ≡ record { place = p; before = sum p E; after = sum (suc p) E })
  unfolding sum_within
  within-err {r} e = go (ltb p count) refl (sym e)
    where
      go : (t : Bool) → ltb p count ≡ t → answer t ≡ Err r → (p < count) × (r ≡ record { place = p; before = sum p E; after = sum (suc p) E })
      go true d f = (ltb-true p count d, cc)
      go false d f = absurd cc
