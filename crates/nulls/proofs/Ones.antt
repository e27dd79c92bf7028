-- The words of a fill with ones: as many as are left after the first 8 * k of n bits. Assumes nothing.
use mathlib.Core.Path.{◌≡◌, refl, sym, ◌∙◌}
use mathlib.Core.Bool.{Bool, true, false, ◌&&◌}
use Prim.Native.Nat.{ℕ, ◌+◌, ◌-◌, ◌*◌}
use native.Mathlib.Omega.{arith}
use lib.Dec.{ltb}
use borrow.Author.Tests.{ltb-true, ltb-false, lt-ltb, le-ltb}
use Rattle.bits.specs.Numbers.{to_little_endian}
use Rattle.bits.specs.Bits.{pack_bytes}
use Rattle.bits.proofs.Tests.{and_right}
use Rattle.bits.proofs.Bits.{pack_bytes-cong}

module _ (n k y : ℕ) (e : to_little_endian 8 y ≡ pack_bytes 8 (λ t. ltb t (n - 8 * k))) where
  left : (t : ℕ) → ltb t (n - 8 * k) ≡ (ltb (8 * k + t) n && true)
  left t = go (ltb t (n - 8 * k)) refl ∙ sym (and_right (ltb (8 * k + t) n))
    where
      go : (b : Bool) → ltb t (n - 8 * k) ≡ b → b ≡ ltb (8 * k + t) n
      go true d = sym (lt-ltb (8 * k + t) n (omega (arith, ltb-true t (n - 8 * k) d)))
      go false d = sym (le-ltb (8 * k + t) n (omega (arith, ltb-false t (n - 8 * k) d)))

  pub ones-left : to_little_endian 8 y ≡ pack_bytes 8 (λ t. ltb (8 * k + t) n && true)
  ones-left = e ∙ pack_bytes-cong 8 (λ t h. left t)
