-- The test of one index of the range scan: the number first, and the validity bit where the number is out of range. Indices that are passed over by
-- their numbers alone. Assumes nothing.
use mathlib.Core.Path.{◌≡◌, refl, sym, ap, ◌∙◌, subst}
use mathlib.Core.Bool.{Bool, true, false}
use Prim.Native.Nat.{ℕ, ◌+◌, ◌*◌, ◌≤◌, ◌<◌}
use native.Mathlib.Omega.{arith}
use lib.Dec.{leb}
use lib.ListN.{length}
use borrow.Author.Tests.{le-leb, lt-leb}
use Rattle.std.specs.Prelude.{None, Some}
use Rattle.bits.specs.Sequences.{any}
use Rattle.bits.specs.Numbers.{number_at, is_number_width}
use Rattle.bits.specs.Bits.{valid_at}
use Rattle.tables.specs.Columns.{IndexColumn, index_valid, index}
use Rattle.tables.specs.Answers.{refuse, accept, passes}
use Rattle.tables.specs.Refusals.{index_refusal}
use Rattle.gathers.specs.Gather.{is_outside}
use Rattle.gathers.specs.Stages.{range_refusal}
use Rattle.range.specs.Looked.{is_too_narrow, looked_at}
use Rattle.range.specs.Scanned.{scan_start, Scannable, FirstOutside, NoneOutside}
use Rattle.bits.proofs.Tests.{and-false-right}
use Rattle.bits.proofs.Sequences.{any_none}
use Rattle.tables.proofs.There.{index-there, index_number, index_read, index-valid}
use Rattle.tables.proofs.Facts.{IndexFormed, index-formed}
use Rattle.gathers.proofs.Stages.{range-accepted, range-refused}
use Rattle.range.proofs.Numbers.{before-block, nowhere}
use Rattle.range.proofs.Looked.{looked-none, looked-all, looked-through}

module _ (n : ℕ) (x : IndexColumn) (j : ℕ) where
  pub below : {w r : ℕ} → x.indices.width ≡ w → r ≡ number_at w x.«data» j → r < n → is_outside n x j ≡ false
  below e d h = and-false-right (index_valid x j) (lt-leb n (index x j) (omega (arith, index_read x j e d)))

  module _ {b : Bool} (v : b ≡ valid_at x.validity x.indices.validity_bit j) where
    pub null : b ≡ false → is_outside n x j ≡ false
    null h = rw (index-valid x j ∙ sym v ∙ h)

    pub found : {w r : ℕ} → x.indices.width ≡ w → r ≡ number_at w x.«data» j → n ≤ r → b ≡ true → is_outside n x j ≡ true
    found e d h t = rw (index-valid x j ∙ sym v ∙ t) (le-leb n (index x j) (omega (arith, index_read x j e d)))

-- where no number is, no index is
pub none-outside : (n : ℕ) (x : IndexColumn) (m : ℕ) → any m (λ j. leb n (number_at x.indices.width x.«data» j)) ≡ false
    → (j : ℕ) → j < m → is_outside n x j ≡ false
none-outside n x m e j h =
    and-false-right (index_valid x j) (ap (leb n) (index_number x j) ∙ any_none m (λ j. leb n (number_at x.indices.width x.«data» j)) e j h)

-- ---- by another name of the width

module _ (x : IndexColumn) {w : ℕ} (e : x.indices.width ≡ w) where
  -- number j is there
  pub number-there : IndexFormed x → (j : ℕ) → j < x.indices.count → (is_number_width w ≡ true) × (j * w + w ≤ length x.«data»)
  number-there f j h = subst (λ (v : ℕ). (is_number_width v ≡ true) × (j * v + v ≤ length x.«data»)) e (index-there x f j h)

  -- all of them are
  pub numbers-there : passes (index_refusal x) ≡ true → (is_number_width w ≡ true) × (x.indices.count * w ≤ length x.«data»)
  numbers-there t =
      let f : IndexFormed x = index-formed x t in
      subst (λ (v : ℕ). (is_number_width v ≡ true) × (x.indices.count * v ≤ length x.«data»)) e (f.width, f.data_fit)

  module _ (n : ℕ) where
    -- numbers of the width name a row each: the scan lets pass, and looks at none
    pub unscanned : (is_too_narrow n w ≡ true) × ((j : ℕ) → number_at w x.«data» j < n) → (accept ≡ range_refusal n x) × (0 ≡ looked_at n x)
    unscanned (narrow, few) =
        (sym (range-accepted n x (λ j l. below n x j e refl (few j))), sym (looked-none n x (ap (is_too_narrow n) e ∙ narrow)))

    module _ (h : is_too_narrow n w ≡ false) where
      wide : is_too_narrow n x.indices.width ≡ false
      wide = ap (is_too_narrow n) e ∙ h

      -- an index is the first outside: the scan refuses it, and looks through it
      pub scanned-through : {j : ℕ} → FirstOutside n x j → (refuse 5 j 0 ≡ range_refusal n x) × (j + 1 ≡ looked_at n x)
      scanned-through {j} f = (sym (range-refused n x j f.inside f.outside f.before), sym (looked-through n x wide j f.inside f.outside f.before))

      -- none is: it lets pass, and looks at all
      pub scanned-all : NoneOutside n x → (accept ≡ range_refusal n x) × (x.indices.count ≡ looked_at n x)
      scanned-all none = (sym (range-accepted n x none), sym (looked-all n x wide none))

      -- nor is one where no number names no row
      pub scanned : None ≡ scan_start n w x.indices.count x.«data» → (accept ≡ range_refusal n x) × (x.indices.count ≡ looked_at n x)
      scanned s =
          let m : ℕ = x.indices.count in
          scanned-all (none-outside n x m (subst (λ (v : ℕ). any m (λ j. leb n (number_at v x.«data» j)) ≡ false) (sym e) (nowhere m _ s)))

      -- where it starts at some place, the tests before it have told this
      pub scannable : {from : ℕ} → passes (index_refusal x) ≡ true → Some from ≡ scan_start n w x.indices.count x.«data» → Scannable n x from
      scannable {from = from} p s =
          let before = before-block x.indices.count _ s in
          record {
            tested = p;
            wide = wide;
            inside = before.0;
            before = subst (λ (v : ℕ). any from (λ j. leb n (number_at v x.«data» j)) ≡ false) (sym e) before.1;
          }
