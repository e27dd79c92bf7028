-- The validity of the taken rows, by what the rows and the indices have of validity. Assumes nothing.
use mathlib.Core.Path.{◌≡◌, refl, sym, ap, ◌∙◌}
use mathlib.Core.Bool.{Bool, true, false, not, ◌&&◌}
use mathlib.Core.List.{List, [], ◌++◌}
use Prim.Native.Nat.{ℕ, ◌+◌, ◌-◌, ◌≤◌}
use native.Mathlib.Omega.{arith}
use lib.ListN.{length, take}
use lib.Seq.{drop-nil}
use Rattle.std.proofs.lemmas.List.{append-nil}
use borrow.Author.Tests.{eqb-true, eqb-false}
use Rattle.bits.specs.Sequences.{sum}
use Rattle.bits.specs.Bytes.{overwrite}
use Rattle.bits.specs.Bits.{bit_value, bit_at, bytes_for, pack, is_absent}
use Rattle.bits.specs.Routines.{set_bits}
use Rattle.tables.specs.Columns.{IndexColumn}
use Rattle.gathers.specs.Buffers.{taken_bit, taken_bit_valid}
use Rattle.bits.proofs.Tests.{and_right, and-true}
use Rattle.bits.proofs.Sequences.{sum-zero}
use Rattle.bits.proofs.Bytes.{take-overwrite}
use Rattle.bits.proofs.Bits.{pack-cong, length-pack, valid_at-absent, valid_at-present}
use Rattle.tables.proofs.There.{index-valid}
use Rattle.gathers.proofs.Buffers.{valid-by-bit, valid-by-index}
use Rattle.gathers.proofs.Nulls.{ones-and-zeros}
use Rattle.bitmaps.specs.Reach.{taken_bits}
use Rattle.nulls.specs.Nulls.{taken_validity, taken_nulls}

module _ (v : List ℕ) (b : ℕ) (x : IndexColumn) where
  -- the rows have one: its bits are gathered
  pub by_bits : is_absent v ≡ false → (d : List ℕ) {y : List ℕ} → y ≡ overwrite (taken_bits v b x []) d → y ≡ overwrite (taken_validity v b x) d
  by_bits h d o =
      o
      ∙ ap (λ (e : List ℕ). overwrite e d)
      (pack-cong x.indices.count
      (λ j l. ap (λ (t : Bool). taken_bit v b x j && t) (valid_at-absent [] 0 j refl) ∙ and_right (taken_bit v b x j) ∙ sym (valid-by-bit v b x j (eqb-false (length v) 0 h))))

  -- only the indices have one: it is theirs
  module _ (e : is_absent v ≡ true) (h : (is_absent v && is_absent x.validity) ≡ false) where
    pub index_present : is_absent x.validity ≡ false
    index_present = rw e at h

    pub by_index : (d : List ℕ) {y : List ℕ} → y ≡ overwrite (pack x.indices.count (λ j. bit_at x.validity (x.indices.validity_bit + j))) d → y ≡ overwrite (taken_validity v b x) d
    by_index d o =
        let n = eqb-false (length x.validity) 0 index_present in
        o
        ∙ ap (λ (z : List ℕ). overwrite z d)
        (pack-cong x.indices.count
        (λ j l. sym (valid-by-index v b x j (eqb-true (length v) 0 e) ∙ index-valid x j ∙ valid_at-present x.validity x.indices.validity_bit j n)))

  -- none has
  module _ (e : (is_absent v && is_absent x.validity) ≡ true) where
    valid-everywhere : (j : ℕ) → taken_bit_valid v b x j ≡ true
    valid-everywhere j =
        let none : (is_absent v ≡ true) × (is_absent x.validity ≡ true) = and-true (is_absent v) (is_absent x.validity) e in
        valid-by-index v b x j (eqb-true (length v) 0 none.0)
        ∙ index-valid x j
        ∙ valid_at-absent x.validity x.indices.validity_bit j (eqb-true (length x.validity) 0 none.1)

    pub all_valid : (d : List ℕ) {y : List ℕ} → y ≡ overwrite (pack x.indices.count (λ j. true)) d → y ≡ overwrite (taken_validity v b x) d
    all_valid d o = o ∙ ap (λ (z : List ℕ). overwrite z d) (pack-cong x.indices.count (λ j l. sym (valid-everywhere j)))

    pub no_nulls : 0 ≡ sum x.indices.count (λ j. bit_value (not (taken_bit_valid v b x j)))
    no_nulls = sym (sum-zero x.indices.count (λ j. bit_value (not (taken_bit_valid v b x j))) (λ j l. ap (λ (t : Bool). bit_value (not t)) (valid-everywhere j)))

  -- where they are written, those of their bits that are no ones are counted
  pub counted : (d : List ℕ) {ones bytes : ℕ} {out : List ℕ} → out ≡ overwrite (taken_validity v b x) d → bytes ≡ bytes_for x.indices.count
      → ones ≡ set_bits (length (take bytes out)) (take bytes out) → (ones ≤ x.indices.count) × (x.indices.count - ones ≡ taken_nulls v b x)
  counted d {ones} {bytes} {out} e n o =
      let p : List ℕ = taken_validity v b x in
      let long : length p ≡ bytes_for x.indices.count = length-pack x.indices.count (taken_bit_valid v b x) in
      let front : take bytes out ≡ p = rw (n, e, ← long) (take-overwrite p d) in
      let whole : overwrite p [] ≡ p = ap (λ (s : List ℕ). p ++ s) (drop-nil (length p)) ∙ append-nil p in
      let count : ones ≡ set_bits (bytes_for x.indices.count) (overwrite p []) = o ∙ rw (front, whole, long) refl in
      let all = ones-and-zeros x.indices.count (taken_bit_valid v b x) [] in
      (omega (arith, count, all), omega (arith, count, all))
