-- The bytes of one row (specs/Front.antt): what a masked number leaves, and what is written where. Assumes nothing.
use mathlib.Core.Path.{◌≡◌, refl, sym, ap, ◌∙◌, subst}
use mathlib.Core.Bool.{Bool, true, false, cond, ◌&&◌}
use mathlib.Core.List.{List, ◌∷◌, ◌++◌}
use Prim.Native.Nat.{ℕ, zero, suc, ◌+◌, ◌-◌, ◌*◌, ◌%◌, ◌/◌, ◌^◌, ◌≤◌, ◌<◌}
use native.Mathlib.Nat.{zero-add, suc-add}
use native.Mathlib.Omega.{arith}
use lib.Dec.{leb, ltb}
use lib.ListN.{length, take, drop, replicate, length-append, length-replicate}
use lib.Pow.{mod-mod-pow, field}
use lib.Seq.{length-take-le, take-take, take-append-le, take-append-add, take_at}
use borrow.Author.Tests.{leb-true, ltb-true}
use Rattle.bits.specs.Bytes.{part, overwrite}
use Rattle.bits.specs.Routines.{overwrite_at}
use Rattle.bits.specs.Numbers.{little_endian, to_little_endian}
use Rattle.bits.proofs.Tests.{and-true}
use Rattle.bits.proofs.Numbers.{AllBytes, to_little_endian-part}
use Rattle.rows.specs.Front.{padded, front_bytes}

-- ---- a number of which the lowest n bytes are kept

zeros : (m : ℕ) → to_little_endian m 0 ≡ replicate m 0
zeros zero = refl
zeros (suc m) = ap (λ (t : List ℕ). 0 ∷ t) (zeros m)

kept : (n m x : ℕ) → to_little_endian (n + m) (x % 2 ^ (8 * n)) ≡ take n (to_little_endian (n + m) x) ++ replicate m 0
kept zero m x = let e : x % 1 ≡ 0 = omega arith in rw (zero-add m, e) (zeros m)
kept (suc n) m x =
    let e : 8 * suc n ≡ 8 * n + 8 = omega arith in
    rw (suc-add n m, e, mod-mod-pow x (8 * n) 8, field x (8 * n) 8) (ap (λ (t : List ℕ). x % 256 ∷ t) (kept n m (x / 256)))

kept_of : (n w x : ℕ) → n ≤ w → to_little_endian w (x % 2 ^ (8 * n)) ≡ take n (to_little_endian w x) ++ replicate (w - n) 0
kept_of n w x h =
    let e : n + (w - n) ≡ w = omega arith in
    subst (λ (k : ℕ). to_little_endian k (x % 2 ^ (8 * n)) ≡ take n (to_little_endian k x) ++ replicate (w - n) 0) e (kept n (w - n) x)

pub masked : (n : ℕ) (s d : List ℕ) {x low : ℕ} {y : List ℕ} → AllBytes s → n < 8 → 8 ≤ length s → x ≡ little_endian (part 0 8 s) → low ≡ x % 2 ^ (8 * n)
    → y ≡ overwrite_at 0 (to_little_endian 8 low) d → y ≡ overwrite (padded n s) d
masked n s d {x} b h l e g k =
    let first : take n (to_little_endian 8 x) ≡ take n s = ap (take n) (ap (to_little_endian 8) e ∙ to_little_endian-part 8 0 s b l) ∙ take-take n 8 s (omega arith) in
    k
    ∙ ap (λ (z : ℕ). overwrite (to_little_endian 8 z) d) g
    ∙ ap (λ (t : List ℕ). overwrite t d) (kept_of n 8 x (omega arith) ∙ ap (λ (t : List ℕ). t ++ replicate (8 - n) 0) first)

-- ---- what is written begins with the bytes of the row, and is no longer than may be written

module _ (n r w : ℕ) (s : List ℕ) (h : n ≤ length s) where
  abbrev test : Bool
  test = ltb n 8 && (leb 8 r && leb 8 w)

  few : length (take n s) ≡ n
  few = length-take-le n s h

  pub front-first : take n (front_bytes n r w s) ≡ take n s
  unfolding front_bytes
  front-first = go test
    where
      go : (t : Bool) → take n (cond t (padded n s) (take n s)) ≡ take n s
      go true = take_at (take n s) (replicate (8 - n) 0) n few
      go false = take-take n n s (omega arith)

  pub front_long : n ≤ w → (n ≤ length (front_bytes n r w s)) × (length (front_bytes n r w s) ≤ w)
  unfolding front_bytes
  front_long m = go test refl
    where
      go : (t : Bool) → test ≡ t → (n ≤ length (cond t (padded n s) (take n s))) × (length (cond t (padded n s) (take n s)) ≤ w)
      go true e =
          let a = and-true (ltb n 8) (leb 8 r && leb 8 w) e in
          let l : n < 8 = ltb-true n 8 a.0 in
          let k : 8 ≤ w = leb-true 8 w (and-true (leb 8 r) (leb 8 w) a.1).1 in
          let z : length (padded n s) ≡ n + (8 - n) = length-append (take n s) (replicate (8 - n) 0) ∙ rw (few, length-replicate {A = ℕ} (8 - n) 0) in
          (omega arith, omega arith)
      go false e = (omega (arith, few), omega (arith, few))

-- ---- bytes written at a position

module _ (p : ℕ) (e s : List ℕ) (h : p ≤ length s) where
  before : length (take p s) ≡ p
  before = length-take-le p s h

  -- those before stay, and the first n of e come right after them
  pub written-front : (n : ℕ) → n ≤ length e → take (p + n) (overwrite_at p e s) ≡ take p s ++ take n e
  written-front n l =
      ap (λ (k : ℕ). take (k + n) (overwrite_at p e s)) (sym before)
      ∙ take-append-add (take p s) (overwrite e (drop p s)) n
      ∙ ap (λ (t : List ℕ). take p s ++ t) (take-append-le n e (drop (length e) (drop p s)) l)
