-- The entries of all output rows, by what is read, and their running totals.
use Rattle.std.specs.Prelude.{ℕ, suc, ◌*◌, ◌^◌, ◌≤◌, ◌<◌, ◌≡◌, true, if◌then◌else◌, List, nat_lt, length, Result, Ok, Err}
use Rattle.bits.specs.Sequences.{concat, sum, first}
use Rattle.bits.specs.Numbers.{number_at, to_little_endian, is_number_width}
use Rattle.bits.specs.Bits.{bit_at, bytes_for}
use Rattle.lengths.specs.declared.total.Overflow.{Overflow}
use Rattle.lengths.specs.Entries.{Selection, Shown, row_number, is_shown, start_at, entries_at, SelectionThere, EntriesThere}

-- the entries of output row j: before anything is written, and by the validity that is written
abbrev pub selected_entries : Selection → ℕ → ℕ
selected_entries p j = entries_at p.offset_width p.offsets (is_shown p j) (row_number p j)

abbrev pub shown_entries : Shown → ℕ → ℕ
shown_entries p j = entries_at p.offset_width p.offsets (bit_at p.validity j) (number_at p.index_width p.index_data j)

-- where its entries start, by the same
abbrev pub shown_start : Shown → ℕ → ℕ
shown_start p j = start_at p.offset_width p.offsets (bit_at p.validity j) (number_at p.index_width p.index_data j)

-- what they are read from is there, and their total is a number of 64 bits
pub record SelectedThere (p : Selection) (count : ℕ) : Type 0 where
  pub few : count < 2 ^ 60
  pub selection : (j : ℕ) → j < count → SelectionThere p j
  pub entries : (j : ℕ) → j < count → EntriesThere p.offset_width p.offsets (is_shown p j) (row_number p j)
  pub small : sum count (selected_entries p) < 2 ^ 64

pub record ShownThere (p : Shown) (count : ℕ) : Type 0 where
  pub few : count < 2 ^ 60
  pub offset_width : is_number_width p.offset_width ≡ true
  pub index_width : is_number_width p.index_width ≡ true
  pub number : count * p.index_width ≤ length p.index_data
  pub bits : bytes_for count ≤ length p.validity
  pub entries : (j : ℕ) → j < count → EntriesThere p.offset_width p.offsets (bit_at p.validity j) (number_at p.index_width p.index_data j)
  pub short : (j : ℕ) → j < count → (shown_start p j < 2 ^ 32) × (shown_entries p j < 2 ^ 32)
  pub small : sum count (shown_entries p) < 2 ^ 64

-- the total of so many rows, or the first after which the running total is above most, with the totals before and after it
abbrev pub passing : ℕ → (ℕ → ℕ) → ℕ → ℕ
passing most E count = first count (λ j. nat_lt most (sum (suc j) E))

unfoldable pub sum_within : ℕ → (ℕ → ℕ) → ℕ → Result ℕ Overflow
sum_within most E count =
    let p : ℕ = passing most E count in
    if nat_lt p count then Err (record { place = p; before = sum p E; after = sum (suc p) E }) else Ok (sum count E)

-- the first n running totals, in w bytes each
abbrev pub total_bytes : ℕ → (ℕ → ℕ) → ℕ → List ℕ
total_bytes w E n = concat n (λ i. to_little_endian w (sum i E))
