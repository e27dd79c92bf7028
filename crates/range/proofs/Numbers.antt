-- The block of the first number that passes a test, as that it names no row. Assumes nothing.
use mathlib.Core.Path.{◌≡◌, refl, sym, ap, ◌∙◌}
use mathlib.Core.Bool.{Bool, true, false, cond, true≢false}
use mathlib.Core.List.{List}
use Prim.Native.Nat.{ℕ, ◌+◌, ◌-◌, ◌*◌, ◌/◌, ◌%◌, ◌≤◌, ◌<◌}
use native.Mathlib.Nat.{le_refl, mul-le-mul_right}
use native.Mathlib.Omega.{arith}
use lib.Dec.{ltb}
use lib.ListN.{length, drop, length-drop}
use lib.Seq.{take_all, length-take-le}
use borrow.Author.Tests.{ltb-true, ltb-false, lt-ltb, le-ltb}
use Rattle.std.specs.Prelude.{None, Some}
use Rattle.std.proofs.lemmas.Option.{none-some, same_Some}
use Rattle.bits.specs.Sequences.{any, first}
use Rattle.bits.specs.Bytes.{part}
use Rattle.bits.specs.Numbers.{number_at}
use Rattle.range.specs.Scanned.{first_block}
use Rattle.bits.proofs.Tests.{false-or}
use Rattle.bits.proofs.Sequences.{any-cong, any-add, any_none, none_any, first-none, first-before, first_passes}
use Rattle.bits.proofs.Numbers.{number_at-from}

-- n numbers from number `from` on, in the part of the buffer that starts with them
module _ (w from : ℕ) (s : List ℕ) where
  abbrev rest : List ℕ
  rest = part (from * w) (length s - from * w) s

  in-rest : (k : ℕ) → number_at w rest k ≡ number_at w s (from + k)
  in-rest k =
      ap (λ (t : List ℕ). number_at w t k) (take_all (length s - from * w) (drop (from * w) s) (omega (arith, length-drop (from * w) s)))
      ∙ number_at-from w s from k

  -- they are there
  pub rest-there : (n m : ℕ) → from + n ≤ m → m * w ≤ length s → n * w ≤ length rest
  rest-there n m inside fits =
      let e : (from + n) * w ≤ m * w = mul-le-mul_right w inside in
      omega (arith, length-take-le (length s - from * w) (drop (from * w) s) (omega (arith, length-drop (from * w) s)), length-drop (from * w) s)

  -- what holds of all numbers holds of them
  pub rest-below : {n : ℕ} → ((j : ℕ) → number_at w s j < n) → (k : ℕ) → number_at w rest k < n
  rest-below h k = rw (in-rest k) (h (from + k))

  -- what was found of them
  pub rest-found : (n : ℕ) (p : ℕ → Bool) {some : Bool} → some ≡ any n (λ k. p (number_at w rest k)) → any n (λ k. p (number_at w s (from + k))) ≡ some
  rest-found n p found = sym (found ∙ any-cong n (λ k l. ap p (in-rest k)))

-- ---- blocks of 512, of which none before one passes

-- none of its own passes
pub none_more : (p : ℕ → Bool) (from n : ℕ) → any from p ≡ false → any n (λ k. p (from + k)) ≡ false → any (from + n) p ≡ false
none_more p from n before none = any-add from n p ∙ false-or before none

module _ (m : ℕ) (p : ℕ → Bool) where
  -- some of its own does
  pub block-met : (from n : ℕ) → from % 512 ≡ 0 → n ≤ 512 → from + n ≤ m → any from p ≡ false → any n (λ k. p (from + k)) ≡ true → Some from ≡ first_block m p
  block-met from n start few fits before met = go (ltb (first m p) from) refl (ltb (first m p) (from + n)) refl
    where
      go : (a : Bool) → ltb (first m p) from ≡ a → (b : Bool) → ltb (first m p) (from + n) ≡ b → Some from ≡ first_block m p
      go true d b e =
          let l : first m p < from = ltb-true (first m p) from d in
          absurd (true≢false (sym (first_passes m p (omega arith)) ∙ any_none from p before (first m p) l))
      go false d true e =
          let l : first m p < from + n = ltb-true (first m p) (from + n) e in
          let g : from ≤ first m p = ltb-false (first m p) from d in
          let inside : ltb (first m p) m ≡ true = lt-ltb (first m p) m (omega arith) in
          let start : from ≡ first m p / 512 * 512 = omega arith in
          rw inside (ap Some start)
      go false d false e =
          let g : from + n ≤ first m p = ltb-false (first m p) (from + n) e in
          absurd (true≢false (sym met ∙ none_any n (λ k. p (from + k)) (λ k l. first-before m p (from + k) (omega arith))))

  -- none of all does
  pub none-met : any m p ≡ false → None ≡ first_block m p
  none-met none = rw (first-none m p (any_none m p none), le-ltb m m (le_refl m))

  -- so none before that block does
  pub before-block : {from : ℕ} → Some from ≡ first_block m p → (from ≤ m) × (any from p ≡ false)
  before-block = go (ltb (first m p) m) refl
    where
      go : {from : ℕ} (b : Bool) → ltb (first m p) m ≡ b → Some from ≡ cond b (Some (first m p / 512 * 512)) None → (from ≤ m) × (any from p ≡ false)
      go true e h =
          let l : first m p < m = ltb-true (first m p) m e in
          let start = same_Some _ _ h in
          rw start (omega arith, none_any (first m p / 512 * 512) p (λ k h. first-before m p k (omega arith)))
      go false e h = absurd (none-some _ (sym h))

  -- and where there is no such block, none at all
  pub nowhere : None ≡ first_block m p → any m p ≡ false
  nowhere = go (ltb (first m p) m) refl
    where
      go : (b : Bool) → ltb (first m p) m ≡ b → None ≡ cond b (Some (first m p / 512 * 512)) None → any m p ≡ false
      go true e h = absurd (none-some _ h)
      go false e h =
          let g : m ≤ first m p = ltb-false (first m p) m e in
          none_any m p (λ k h. first-before m p k (omega arith))
