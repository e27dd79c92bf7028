-- What the range scan answers and how many indices it looked at, for each way in which it ends: before its first step, behind the last index, or at
-- one; and that no other index matters. Assumes nothing.
use mathlib.Core.Path.{◌≡◌, refl, sym, ap, ◌∙◌}
use mathlib.Core.Bool.{Bool, true, false}
use Prim.Native.Nat.{ℕ, ◌+◌, ◌^◌, ◌≤◌, ◌<◌}
use native.Mathlib.Nat.{le_refl}
use native.Mathlib.Numerals.{add-one}
use native.Mathlib.Omega.{arith}
use lib.Dec.{ltb}
use borrow.Author.Tests.{leb-true, lt-leb, lt-ltb, le-ltb, ltb-true, ltb-false}
use Rattle.bits.specs.Sequences.{first}
use Rattle.tables.specs.Columns.{IndexColumn, index_valid, index}
use Rattle.tables.specs.Answers.{accept}
use Rattle.gathers.specs.Gather.{is_outside}
use Rattle.gathers.specs.Stages.{range_refusal}
use Rattle.range.specs.Looked.{is_too_narrow, looked_at}
use Rattle.bits.proofs.Tests.{and-false-right}
use Rattle.bits.proofs.Sequences.{first-before, first_passes}
use Rattle.bits.proofs.Numbers.{AllBytes, number_at-lt}
use Rattle.tables.proofs.There.{index_number}
use Rattle.gathers.proofs.Stages.{none-out-of-range, range-accepted, first-out-of-range, range-refused}

module _ (n : ℕ) (x : IndexColumn) where
  module _ (narrow : is_too_narrow n x.indices.width ≡ true) where
    -- an index width that can't hold the row count has no index outside
    pub too-narrow : AllBytes x.«data» → range_refusal n x ≡ accept
    too-narrow b =
        let w : ℕ = x.indices.width in
        let few : 256 ^ w ≤ n = leb-true (256 ^ w) n narrow in
        range-accepted n x
        (λ j h. and-false-right (index_valid x j) (lt-leb n (index x j) (omega (arith, index_number x j, number_at-lt w x.«data» j b))))

    pub looked-none : looked_at n x ≡ 0
    unfolding looked_at
    looked-none = rw narrow

  module _ (wide : is_too_narrow n x.indices.width ≡ false) where
    pub looked-all : ((j : ℕ) → j < x.indices.count → is_outside n x j ≡ false) → looked_at n x ≡ x.indices.count
    unfolding looked_at
    looked-all none = let m : ℕ = x.indices.count in rw (wide, none-out-of-range n x none, le-ltb m m (le_refl m))

    pub looked-through : (j : ℕ) → j < x.indices.count → is_outside n x j ≡ true → ((k : ℕ) → k < j → is_outside n x k ≡ false) → looked_at n x ≡ j + 1
    unfolding looked_at
    looked-through j h e none = rw (wide, first-out-of-range n x j h e none, lt-ltb j x.indices.count h) (sym (add-one j))

-- ---- what was not looked at does not matter

-- two index columns of one width and count, alike in every index that is looked at in the one, are answered alike
module _ (n : ℕ) (x y : IndexColumn) (bx : AllBytes x.«data») (by : AllBytes y.«data») (w : x.indices.width ≡ y.indices.width)
    (m : x.indices.count ≡ y.indices.count) (alike : (j : ℕ) → j < looked_at n x → (index_valid x j ≡ index_valid y j) × (index x j ≡ index y j)) where
  outside-alike : (j : ℕ) → j < looked_at n x → is_outside n x j ≡ is_outside n y j
  outside-alike j h = rw ((alike j h).0, (alike j h).1)

  pub looked-suffices : range_refusal n x ≡ range_refusal n y
  looked-suffices = go (is_too_narrow n x.indices.width) refl (ltb (first x.indices.count (is_outside n x)) x.indices.count) refl
    where
      p : ℕ
      p = first x.indices.count (is_outside n x)

      go : (narrow : Bool) → is_too_narrow n x.indices.width ≡ narrow → (met : Bool) → ltb p x.indices.count ≡ met → range_refusal n x ≡ range_refusal n y
      go true e met d = too-narrow n x e bx ∙ sym (too-narrow n y (ap (is_too_narrow n) (sym w) ∙ e) by)
      go false e true d =
          let h : p < x.indices.count = ltb-true p x.indices.count d in
          let bad : is_outside n x p ≡ true = first_passes x.indices.count (is_outside n x) h in
          let before : (k : ℕ) → k < p → is_outside n x k ≡ false = first-before x.indices.count (is_outside n x) in
          let looked : looked_at n x ≡ p + 1 = looked-through n x e p h bad before in
          range-refused n x p h bad before
          ∙ sym (range-refused n y p (omega arith) (sym (outside-alike p (omega arith)) ∙ bad) (λ k l. sym (outside-alike k (omega arith)) ∙ before k l))
      go false e false d =
          let h : x.indices.count ≤ p = ltb-false p x.indices.count d in
          let none : (k : ℕ) → k < x.indices.count → is_outside n x k ≡ false = λ k l. first-before x.indices.count (is_outside n x) k (omega arith) in
          let looked : looked_at n x ≡ x.indices.count = looked-all n x e none in
          range-accepted n x none
          ∙ sym (range-accepted n y (λ k l. sym (outside-alike k (omega arith)) ∙ none k (omega arith)))
