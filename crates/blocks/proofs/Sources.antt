-- The slice that a block of n bytes is copied from: the block, or zeros. Assumes nothing.
use mathlib.Core.Path.{◌≡◌, refl, sym, ap, ◌∙◌}
use mathlib.Core.Bool.{Bool, true, false, cond}
use mathlib.Core.List.{List}
use Prim.Native.Nat.{ℕ, ◌+◌, ◌-◌, ◌*◌, ◌≤◌}
use native.Mathlib.Omega.{arith}
use lib.ListN.{length, take, replicate, length-replicate}
use lib.Seq.{take_all}
use Rattle.bits.specs.Bytes.{part, overwrite}
use Rattle.bits.specs.Routines.{overwrite_at}
use Rattle.bits.proofs.Bytes.{length_part, part-zeros}
use Rattle.bits.proofs.Copies.{copied_more}

-- ---- of a block of up to 32 bytes: it, or as many zeros

source_fits : (valid : Bool) (n p : ℕ) (d : List ℕ) {s : List ℕ} → (valid ≡ true → p + n ≤ length d) → s ≡ cond valid (part p n d) (replicate n 0) → length s ≡ n
source_fits true n p d h e = ap length e ∙ length_part p n d (h refl)
source_fits false n p d h e = ap length e ∙ length-replicate {A = ℕ} n 0

-- all of it is copied
pub short_copied : (valid : Bool) (n p i : ℕ) (d out : List ℕ) {s y : List ℕ} → (valid ≡ true → p + n ≤ length d) → s ≡ cond valid (part p n d) (replicate n 0)
    → y ≡ overwrite_at i (part 0 n s) out → y ≡ overwrite_at i (cond valid (part p n d) (replicate n 0)) out
short_copied valid n p i d out {s} h k o =
    o ∙ ap (λ (t : List ℕ). overwrite_at i t out) (take_all n s (omega (arith, source_fits valid n p d h k)) ∙ k)

-- ---- of a longer one: it, or 32 zeros

abbrev pub IsLong : Bool → ℕ → List ℕ → Type 0
IsLong valid n s = (valid ≡ true → length s ≡ n) × (valid ≡ false → s ≡ replicate 32 0)

pub length_long : (valid : Bool) (n : ℕ) (s : List ℕ) → IsLong valid n s → length (cond valid s (replicate n 0)) ≡ n
length_long true n s a = a.0 refl
length_long false n s a = length-replicate {A = ℕ} n 0

-- the place in it of what is at a place of the block: after k steps, and at the end
pub long_place : (valid : Bool) (k : ℕ) {step : ℕ} → step ≡ cond valid 32 0 → k * step ≡ cond valid (k * 32) 0
long_place true k e = ap (λ (s : ℕ). k * s) e
long_place false k e = ap (λ (s : ℕ). k * s) e ∙ omega arith

pub long_last : (valid : Bool) (n : ℕ) (s : List ℕ) → IsLong valid n s → length s - 32 ≡ cond valid (n - 32) 0
long_last true n s a = omega (arith, a.0 refl)
long_last false n s a = omega (arith, ap length (a.1 refl) ∙ length-replicate {A = ℕ} 32 0)

long_piece : (valid : Bool) (n p q : ℕ) (s : List ℕ) → IsLong valid n s → p + 32 ≤ n → q ≡ cond valid p 0 → part q 32 s ≡ part p 32 (cond valid s (replicate n 0))
long_piece true n p q s a h e = rw e
long_piece false n p q s a h e = rw (e, a.1 refl) (part-zeros 0 32 32 (omega arith) ∙ sym (part-zeros p 32 n h))

-- 32 bytes from there on are copied, where the first k are already
pub long_more : (valid : Bool) (n p q k : ℕ) (s d : List ℕ) {out y : List ℕ} → IsLong valid n s → p + 32 ≤ n → q ≡ cond valid p 0 → p ≤ k → k ≤ p + 32
    → out ≡ overwrite (take k (cond valid s (replicate n 0))) d → y ≡ overwrite_at p (part q 32 s) out → y ≡ overwrite (take (p + 32) (cond valid s (replicate n 0))) d
long_more valid n p q k s d {out} a h e l m o c =
    let fits = length_long valid n s a in
    copied_more 32 p k (cond valid s (replicate n 0)) d l m (omega (arith, fits)) o (c ∙ ap (λ (t : List ℕ). overwrite_at p t out) (long_piece valid n p q s a h e))
