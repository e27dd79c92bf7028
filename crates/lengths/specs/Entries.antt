-- One output row of a column of variable width, by what is read: whether it is valid, the row that it has, and how many entries.
use Rattle.std.specs.Prelude.{ℕ, suc, ◌+◌, ◌-◌, ◌*◌, ◌^◌, ◌≤◌, ◌<◌, ◌≡◌, Bool, true, false, if◌then◌else◌, ◌&&◌, List, length}
use Rattle.std.specs.Borrow.{Bor}
use Rattle.bits.specs.Numbers.{number_at, is_number_width}
use Rattle.bits.specs.Bits.{is_absent, valid_at}
use Rattle.lengths.specs.declared.row.MaskedRow.{MaskedRow}

-- what selects the output rows, and their offsets: the validity of the rows and the index column, with their bit offsets
pub record Selection : Type 0 where
  pub validity : List ℕ
  pub bit : ℕ
  pub offset_width : ℕ
  pub offsets : List ℕ
  pub width : ℕ
  pub index_data : List ℕ
  pub index_validity : List ℕ
  pub index_bit : ℕ

-- as lent to a function
abbrev pub selection_at : Bor (List ℕ) → ℕ → ℕ → Bor (List ℕ) → ℕ → Bor (List ℕ) → Bor (List ℕ) → ℕ → Selection
selection_at v b ow o w d iv ib = record {
  validity = v.now;
  bit = b;
  offset_width = ow;
  offsets = o.now;
  width = w;
  index_data = d.now;
  index_validity = iv.now;
  index_bit = ib;
}

-- what the output rows are read by once their validity is written, where an offset has offset_width bytes
pub record Shown : Type 0 where
  pub offset_width : ℕ
  pub offsets : List ℕ
  pub index_width : ℕ
  pub index_data : List ℕ
  pub validity : List ℕ

abbrev pub shown_at : ℕ → Bor (List ℕ) → ℕ → Bor (List ℕ) → Bor (List ℕ) → Shown
shown_at ow o w d v = record { offset_width = ow; offsets = o.now; index_width = w; index_data = d.now; validity = v.now }

-- the number of index j, and whether it is valid
abbrev pub row_number : Selection → ℕ → ℕ
row_number p j = number_at p.width p.index_data j

abbrev pub is_selected : Selection → ℕ → Bool
is_selected p j = valid_at p.index_validity p.index_bit j

-- output row j is valid: its index is, and the row that it names
abbrev pub is_shown : Selection → ℕ → Bool
is_shown p j = is_selected p j && valid_at p.validity p.bit (row_number p j)

-- the row of number n and 1, for an output row that is valid; for one that is null, 0 and 0
abbrev pub taken_row : Bool → ℕ → MaskedRow
taken_row true n = record { row = n; valid = 1 }
taken_row false n = record { row = 0; valid = 0 }

-- the first entry of row n; of a null output row that of row 0, which nothing goes by
abbrev pub start_at : ℕ → List ℕ → Bool → ℕ → ℕ
start_at w offsets valid n = number_at w offsets ((taken_row valid n).row)

-- as many entries as the offsets of row n say; none where the output row is null
unfoldable pub entries_at : ℕ → List ℕ → Bool → ℕ → ℕ
entries_at w offsets valid n = if valid then number_at w offsets (suc n) - number_at w offsets n else 0

-- the number and the bit of index j are there; where it is valid, so are the bit of the row that it names, and the offset at which the row starts
pub record SelectionThere (p : Selection) (j : ℕ) : Type 0 where
  pub number_width : is_number_width p.width ≡ true
  pub number : j * p.width + p.width ≤ length p.index_data
  pub selected : is_absent p.index_validity ≡ false → (p.index_bit + j < 8 * length p.index_validity) × (p.index_bit + j < 2 ^ 64)
  pub shown : is_absent p.validity ≡ false → is_selected p j ≡ true → (p.bit + row_number p j < 8 * length p.validity) × (p.bit + row_number p j < 2 ^ 64)
  pub start : is_selected p j ≡ true → (row_number p j < 2 ^ 59) × (row_number p j * p.offset_width + p.offset_width ≤ length p.offsets)

-- offset 0 is there, and where the output row is valid those of row n, which rise
pub record EntriesThere (w : ℕ) (offsets : List ℕ) (valid : Bool) (n : ℕ) : Type 0 where
  pub offset_width : is_number_width w ≡ true
  pub first : w ≤ length offsets
  pub few : valid ≡ true → n < 2 ^ 59
  pub there : valid ≡ true → suc n * w + w ≤ length offsets
  pub rises : valid ≡ true → number_at w offsets n ≤ number_at w offsets (suc n)
