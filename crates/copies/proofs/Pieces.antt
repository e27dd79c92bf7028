-- Bytes that are copied in pieces which may overlap. Assumes nothing.
use mathlib.Core.Path.{◌≡◌, refl, sym, ap, ap₂, ◌∙◌}
use mathlib.Core.List.{List, ◌++◌, append_assoc}
use Prim.Native.Nat.{ℕ, ◌+◌, ◌-◌, ◌≤◌, ◌<◌}
use native.Mathlib.Omega.{arith}
use lib.ListN.{length, take, drop, length-drop}
use lib.Seq.{length-take-le, drop-drop, take-append-add, drop-append-add}
use Rattle.bits.specs.Bytes.{part, overwrite}
use Rattle.bits.specs.Routines.{overwrite_at}
use Rattle.bits.proofs.Copies.{copied_more, copied-also}

-- what is written k bytes after the first p is written k bytes into the rest
overwrite_at-after : (p k : ℕ) (e a t : List ℕ) → length a ≡ p → overwrite_at (p + k) e (a ++ t) ≡ a ++ overwrite_at k e t
overwrite_at-after p k e a t l =
    rw (← l)
    (ap₂ (λ (f r : List ℕ). f ++ overwrite e r) (take-append-add a t k) (drop-append-add a t k)
    ∙ append_assoc a (take k t) (overwrite e (drop k t)))

-- the w bytes at the front of n and the w bytes at their end are all of them
pub ends : (w p n : ℕ) (s d : List ℕ) {a b y z : List ℕ} → (w ≤ n) × (n ≤ w + w) → p + n ≤ length s → p ≤ length d
    → a ≡ part p w s → b ≡ part (p + (n - w)) w s → y ≡ overwrite_at p a d → z ≡ overwrite_at (p + (n - w)) b y
    → z ≡ overwrite_at p (part p n s) d
ends w p n s d {y = y} h l m e f front i =
    let k : ℕ = n - w in
    let r : List ℕ = drop p s in
    let t : List ℕ = drop p d in
    let long : length r ≡ length s - p = length-drop p s in
    let after : part (p + k) w s ≡ part k w r = ap (take w) (sym (drop-drop k p s)) in
    let all : k + w ≡ n = omega arith in
    let both : overwrite_at k (part k w r) (overwrite (take w r) t) ≡ overwrite (take (k + w) r) t =
    copied_more w k w r t {out = overwrite (take w r) t} (omega arith) (omega arith) (omega arith) refl refl in
    i
    ∙ rw (f, front, e, after) (overwrite_at-after p k (part k w r) (take p d) (overwrite (take w r) t) (length-take-le p d m) ∙ ap (λ (f : List ℕ). take p d ++ f) (both ∙ ap (λ (f : ℕ). overwrite (take f r) t) all))

-- four times m bytes, at the front of n, at their end, and each as far from there as q
pub four : (m q n : ℕ) (s d : List ℕ) {a b e y : List ℕ} → (m < n) × (n ≤ m + m + (m + m)) → n ≤ length s → q ≡ m - (m - (n - m))
    → a ≡ overwrite_at 0 (part 0 m s) d → b ≡ overwrite_at q (part q m s) a → e ≡ overwrite_at (n - m - q) (part (n - m - q) m s) b
    → y ≡ overwrite_at (n - m) (part (n - m) m s) e → y ≡ overwrite (take n s) d
four m q n s d {a} {b} {e} {y} h l g i j k o =
    let last : ℕ = n - m in
    let z : ℕ = q + m + (last - q + m - (q + m)) in
    let two : b ≡ overwrite (take (q + m) s) d = copied_more m q m s d (omega arith) (omega arith) (omega arith) i j in
    let three : e ≡ overwrite (take z s) d = copied-also m (last - q) (q + m) z s d (omega arith) (omega arith) (omega arith) (omega arith) two k in
    let all : last + m ≡ n = omega arith in
    rw (← all) (copied_more m last z s d (omega arith) (omega arith) (omega arith) three o)
