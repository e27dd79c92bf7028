-- An output row that is read without a branch on its validity: what the masks leave is the row, and its offsets are there. Assumes nothing.
use mathlib.Core.Path.{◌≡◌, refl, ap, ap₂, ◌∙◌}
use mathlib.Core.Bool.{Bool, true, false}
use mathlib.Core.List.{List}
use Prim.Native.Nat.{ℕ, suc, ◌+◌, ◌-◌, ◌*◌, ◌^◌, ◌≤◌, ◌<◌}
use native.Mathlib.Nat.{mul-one, mul-zero}
use native.Mathlib.Numerals.{add-one}
use native.Mathlib.Omega.{arith}
use lib.ListN.{length}
use Rattle.std.specs.Int.{from_bool}
use Rattle.bits.specs.Numbers.{number_at}
use Rattle.bits.specs.Bits.{bit_value}
use Rattle.lengths.specs.declared.row.MaskedRow.{MaskedRow}
use Rattle.lengths.specs.Totals.{selected_entries}
use Rattle.lengths.specs.Entries.{Selection, row_number, is_selected, taken_row, start_at, entries_at, EntriesThere}

-- a bit that was read, as a number
pub bit_number : (b : Bool) {t : Bool} {v : ℕ} → v ≡ from_bool t → t ≡ b → v ≡ bit_value b
bit_number true e d = rw d at e
bit_number false e d = rw d at e

-- a number that a bit masks, with the bit
masked : (t : Bool) (n : ℕ) {r v : ℕ} → v ≡ bit_value t → r ≡ n * v → record { row = r; valid = v } ≡ taken_row t n
masked true n e d = ap₂ (λ (a b : ℕ). record { row = a; valid = b }) (rw e at d ∙ mul-one n) e
masked false n e d = ap₂ (λ (a b : ℕ). record { row = a; valid = b }) (rw e at d ∙ mul-zero n) e

-- ---- the offsets of the row t, which are offset 0 twice where it is null

pub record TakenThere (w : ℕ) (offsets : List ℕ) (valid : Bool) (n : ℕ) (t : MaskedRow) : Type 0 where
  pub few : t.row + t.valid < 2 ^ 60
  pub start : t.row * w + w ≤ length offsets
  pub end : (t.row + t.valid) * w + w ≤ length offsets
  pub rises : number_at w offsets t.row ≤ number_at w offsets (t.row + t.valid)
  pub entries : number_at w offsets (t.row + t.valid) - number_at w offsets t.row ≡ entries_at w offsets valid n

pub taken-there : {w : ℕ} {offsets : List ℕ} {valid : Bool} {n : ℕ} → EntriesThere w offsets valid n → {t : MaskedRow} → t ≡ taken_row valid n → TakenThere w offsets valid n t
unfolding entries_at
taken-there {w} {offsets} {valid} {n} q {t} e = go valid refl e
  where
    go : (s : Bool) → valid ≡ s → t ≡ taken_row s n → TakenThere w offsets valid n t
    go true f g =
        let l : suc n * w + w ≤ length offsets = q.there f in
        let k : n + 1 ≡ suc n = add-one n in
        rw (g, f) (record { few = omega (arith, q.few f); start = omega arith; end = rw k l; rises = rw k (q.rises f); entries = rw k })
    go false f g = rw (g, f) (record { few = omega arith; start = omega (arith, q.first); end = omega (arith, q.first); rises = omega arith; entries = omega arith })

-- the same of a number that the bit masks
module _ {w : ℕ} {offsets : List ℕ} {valid : Bool} {n : ℕ} (q : EntriesThere w offsets valid n) {v : ℕ} (e : v ≡ bit_value valid) where
  pub shown-start : {m : ℕ} → m ≡ n → number_at w offsets (m * v) ≡ start_at w offsets valid n
  shown-start d = ap (λ (t : MaskedRow). number_at w offsets t.row) (masked valid n e (ap (λ (k : ℕ). k * v) d))

  pub shown-there : {m : ℕ} → m ≡ n → TakenThere w offsets valid n (record { row = m * v; valid = v })
  shown-there d = taken-there q (masked valid n e (ap (λ (k : ℕ). k * v) d))

-- ---- the entries, by whether the output row is valid

module _ (w : ℕ) (offsets : List ℕ) (n : ℕ) {valid : Bool} where
  pub start_at-valid : valid ≡ true → start_at w offsets valid n ≡ number_at w offsets n
  start_at-valid e = ap (λ (b : Bool). start_at w offsets b n) e

  pub entries_at-valid : valid ≡ true → entries_at w offsets valid n ≡ number_at w offsets (suc n) - number_at w offsets n
  unfolding entries_at
  entries_at-valid e = rw e

  pub entries_at-null : valid ≡ false → entries_at w offsets valid n ≡ 0
  unfolding entries_at
  entries_at-null e = rw e

pub null-index : (p : Selection) (j : ℕ) → is_selected p j ≡ false → selected_entries p j ≡ 0
null-index p j e = entries_at-null p.offset_width p.offsets (row_number p j) (rw e)
