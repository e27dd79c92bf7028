-- The turns of the loop that lists rows (specs/Turns.antt). Assumes nothing.
use mathlib.Core.Path.{◌≡◌, sym, ap, ◌∙◌}
use mathlib.Core.List.{List, [], ◌∷◌}
use Prim.Native.Nat.{ℕ, suc, ◌+◌, ◌-◌, ◌*◌, ◌^◌, ◌≤◌, ◌<◌}
use native.Mathlib.Nat.{add-mul, mul-le-mul_right}
use native.Mathlib.Numerals.{add-one}
use native.Mathlib.Omega.{arith}
use lib.ListN.{length, set}
use borrow.Author.Tests.{lt-ltb}
use Rattle.bits.specs.Sequences.{concat, sum}
use Rattle.bits.specs.Bytes.{overwrite}
use Rattle.bits.specs.Routines.{overwrite_at}
use Rattle.bits.specs.Numbers.{number_at, to_little_endian}
use Rattle.bits.specs.Bits.{bit_value, bit_of, bit_at}
use Rattle.bits.proofs.Bytes.{overwrite-set-at, overwrite_at-append}
use Rattle.bits.proofs.Numbers.{length-to_little_endian}
use Rattle.bits.proofs.Sequences.{length-blocks, length-tabulate}
use Rattle.lengths.specs.declared.turn.Turn.{Turn}
use Rattle.lengths.specs.Entries.{Shown}
use Rattle.lengths.specs.Totals.{shown_start, shown_entries, ShownThere}
use Rattle.lengths.specs.Turns.{TurnThere, Listed}
use Rattle.lengths.proofs.Masking.{TakenThere, shown-start, shown-there}
use Rattle.lengths.proofs.Running.{summed_fits}

-- ---- a row of a turn, by its bit v and the number m at its index

module _ {p : Shown} {count : ℕ} (q : ShownThere p count) {turn : Turn} (r : TurnThere p count turn) {i : ℕ} (h : i < turn.rows)
    {v : ℕ} (e : v ≡ bit_value (bit_of turn.word i)) {w : ℕ} (same : p.index_width ≡ w) {m : ℕ} (d : m ≡ number_at w p.index_data (turn.base + i)) where
  inside : turn.base + i < count
  inside = omega (arith, r.inside)

  number : m ≡ number_at p.index_width p.index_data (turn.base + i)
  number = d ∙ ap (λ (k : ℕ). number_at k p.index_data (turn.base + i)) (sym same)

  bit : bit_of turn.word i ≡ bit_at p.validity (turn.base + i)
  bit = r.bits i ∙ rw (lt-ltb i turn.rows h)

  pub row_there : TakenThere p.offset_width p.offsets (bit_at p.validity (turn.base + i)) (number_at p.index_width p.index_data (turn.base + i)) (record { row = m * v; valid = v })
  row_there = shown-there (q.entries (turn.base + i) inside) (e ∙ ap bit_value bit) number

  pub row_start : {n : ℕ} → n ≡ number_at p.offset_width p.offsets (m * v) → n ≡ shown_start p (turn.base + i)
  row_start f = f ∙ shown-start (q.entries (turn.base + i) inside) (e ∙ ap bit_value bit) number

  module _ {n : ℕ} (f : n ≡ number_at p.offset_width p.offsets (m * v + v) - number_at p.offset_width p.offsets (m * v)) where
    pub row_entries : n ≡ shown_entries p (turn.base + i)
    row_entries = f ∙ row_there.entries

    pub entries-short : n < 2 ^ 32
    entries-short = omega (arith, row_entries, (q.short (turn.base + i) inside).1)

    pub total-fits : {total : ℕ} → total ≡ sum (turn.base + i) (shown_entries p) → total + n < 2 ^ 64
    total-fits {total} k = summed_fits (record { counted = k }) row_entries inside q.small

-- ---- how far the list has come

-- a number more in a list of them
number_more : (f : ℕ → ℕ) (s₀ : List ℕ) (t : ℕ) {s : List ℕ} {v : ℕ} → t < length s₀ → s ≡ overwrite (concat t (λ i. f i ∷ [])) s₀ → v ≡ f t
    → set s t v ≡ overwrite (concat (t + 1) (λ i. f i ∷ [])) s₀
number_more f s₀ t h e d = rw (e, d) (overwrite-set-at (concat t (λ i. f i ∷ [])) s₀ (f t) t (length-tabulate t f) h ∙ rw add-one)

-- one row more
pub listed-next : {p : Shown} {base t : ℕ} {s₀ l₀ o₀ s l o : List ℕ} {total : ℕ} → Listed p base t s₀ l₀ o₀ s l o total
    → {n : ℕ} → t < n → (n ≤ length s₀) × (n ≤ length l₀) → suc (base + n) * p.offset_width ≤ length o₀
    → {start entries : ℕ} → start ≡ shown_start p (base + t) → entries ≡ shown_entries p (base + t)
    → {y : List ℕ} → y ≡ overwrite_at ((base + t + 1) * p.offset_width) (to_little_endian p.offset_width (total + entries)) o
    → Listed p base (t + 1) s₀ l₀ o₀ (set s t start) (set l t entries) y (total + entries)
listed-next {p} {base} {t} {s₀} {l₀} {o₀} {s} {l} {o} {total} i {n} h k m {start} {entries} d e {y} f =
    let w : ℕ = p.offset_width in
    let g : ℕ → List ℕ = λ j. to_little_endian w (sum (suc base + j) (shown_entries p)) in
    let here : base + t + 1 ≡ suc base + t = omega arith in
    let next : base + (t + 1) ≡ suc (base + t) = omega arith in
    let all : total + entries ≡ sum (suc base + t) (shown_entries p) = rw (i.counted, e) (ap (λ (k : ℕ). sum k (shown_entries p)) (sym next ∙ omega arith)) in
    let before : suc base * w ≤ suc (base + n) * w = mul-le-mul_right w (omega arith) in
    let long : length (concat t g) ≡ t * w = length-blocks t w g (λ j b. length-to_little_endian w (sum (suc base + j) (shown_entries p))) in
    record {
      counted = all ∙ ap (λ (k : ℕ). sum k (shown_entries p)) (omega arith);
      starts = number_more (λ j. shown_start p (base + j)) s₀ t (omega (arith, k.0)) i.starts d;
      lengths = number_more (λ j. shown_entries p (base + j)) l₀ t (omega (arith, k.1)) i.lengths e;
      totals =
          f
          ∙ rw (here, add-mul (suc base) t w, i.totals) (ap (λ (x : ℕ). overwrite_at (suc base * w + t * w) (to_little_endian w x) (overwrite_at (suc base * w) (concat t g) o₀)) all)
          ∙ overwrite_at-append (suc base * w) (t * w) (concat t g) (g t) o₀ long (omega (arith, before, m))
          ∙ rw add-one;
    }
