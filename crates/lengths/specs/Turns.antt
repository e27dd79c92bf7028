-- The rows of a turn, and what is listed of them.
use Rattle.std.specs.Prelude.{ℕ, suc, ◌+◌, ◌-◌, ◌*◌, ◌≤◌, ◌<◌, ◌≡◌, true, ◌&&◌, List, [], ◌∷◌, nat_lt, length}
use Rattle.bits.specs.Sequences.{concat, sum}
use Rattle.bits.specs.Bytes.{overwrite}
use Rattle.bits.specs.Routines.{overwrite_at}
use Rattle.bits.specs.Numbers.{to_little_endian}
use Rattle.bits.specs.Bits.{bit_of, bit_at}
use Rattle.lengths.specs.declared.turn.Turn.{Turn}
use Rattle.lengths.specs.Entries.{Shown}
use Rattle.lengths.specs.Totals.{shown_start, shown_entries}

-- its rows are among the count, and its word has their validity, and no other bits
pub record TurnThere (p : Shown) (count : ℕ) (t : Turn) : Type 0 where
  pub inside : t.base + t.rows ≤ count
  pub few : (0 < t.rows) × (t.rows ≤ 32)
  pub bits : (i : ℕ) → bit_of t.word i ≡ (nat_lt i t.rows && bit_at p.validity (t.base + i))

-- it is turn k: 32 rows, or what is left of them
pub record TurnAt (p : Shown) (count k : ℕ) (t : Turn) : Type 0 where
  pub there : TurnThere p count t
  pub place : t.base ≡ 32 * k
  pub most : t.rows + (count - t.base - 32) ≡ count - t.base

-- all of them are valid
abbrev pub AllValid : Turn → Type 0
AllValid t = (i : ℕ) → i < t.rows → bit_of t.word i ≡ true

-- what is listed of the first n rows from row base on: where the entries of each start, how many it has, and the running totals after them, in w bytes each
abbrev pub turn_starts : Shown → ℕ → ℕ → List ℕ
turn_starts p base n = concat n (λ i. shown_start p (base + i) ∷ [])

abbrev pub turn_lengths : Shown → ℕ → ℕ → List ℕ
turn_lengths p base n = concat n (λ i. shown_entries p (base + i) ∷ [])

abbrev pub turn_totals : ℕ → (ℕ → ℕ) → ℕ → ℕ → List ℕ
turn_totals w E base n = concat n (λ i. to_little_endian w (sum (suc base + i) E))

-- what a list of a turn asks: the total of all rows before it, and room for its rows in the two lists, and in the offsets, from those of the rows before on
pub record ListReady (p : Shown) (count : ℕ) (t : Turn) (total : ℕ) (starts lengths offsets : List ℕ) : Type 0 where
  pub there : TurnThere p count t
  pub counted : total ≡ sum t.base (shown_entries p)
  pub room : (t.rows ≤ length starts) × (t.rows ≤ length lengths)
  pub offsets_room : suc (t.base + t.rows) * p.offset_width ≤ length offsets

-- of the rows from row base on the first n are listed in s, l and o, over what these were, and `total` is the entries of all rows up to them
pub record Listed (p : Shown) (base n : ℕ) (s₀ l₀ o₀ s l o : List ℕ) (total : ℕ) : Type 0 where
  pub counted : total ≡ sum (base + n) (shown_entries p)
  pub starts : s ≡ overwrite (turn_starts p base n) s₀
  pub lengths : l ≡ overwrite (turn_lengths p base n) l₀
  pub totals : o ≡ overwrite_at (suc base * p.offset_width) (turn_totals p.offset_width (shown_entries p) base n) o₀
