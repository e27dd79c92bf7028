-- What the parts of the range scan ask and tell.
use Rattle.std.specs.Prelude.{◌≡◌, true, false, if◌then◌else◌, ℕ, Bool, List, Option, None, Some, ◌*◌, ◌/◌, ◌≤◌, ◌<◌, nat_le, nat_lt}
use Rattle.bits.specs.Sequences.{any, first}
use Rattle.bits.specs.Numbers.{number_at}
use Rattle.tables.specs.Columns.{IndexColumn}
use Rattle.tables.specs.Answers.{passes}
use Rattle.tables.specs.Stages.{checked_numbers}
use Rattle.tables.specs.Refusals.{index_refusal}
use Rattle.gathers.specs.Gather.{is_outside}
use Rattle.gathers.specs.Stages.{range_refusal}
use Rattle.range.specs.declared.bounds.Scanned.{Scanned}
use Rattle.range.specs.Looked.{is_too_narrow, looked_at}

-- numbers are compared in blocks of 512: where the block of the first of m that passes starts; none where none passes
abbrev pub first_block : ℕ → (ℕ → Bool) → Option ℕ
first_block m p = if nat_lt (first m p) m then Some (first m p / 512 * 512) else None

-- the scan of count numbers of w bytes starts at the block of the first that names none of n rows, if only under a null index
abbrev pub scan_start : ℕ → ℕ → ℕ → List ℕ → Option ℕ
scan_start n w count s = first_block count (λ j. nat_le n (number_at w s j))

-- an index column that passed its tests is to be scanned from a place on: its width holds the row count n, and no number before the place is outside
pub record Scannable (n : ℕ) (x : IndexColumn) (from : ℕ) : Type 0 where
  pub tested : passes (index_refusal x) ≡ true
  pub wide : is_too_narrow n x.indices.width ≡ false
  pub inside : from ≤ x.indices.count
  pub before : any from (λ j. nat_le n (number_at x.indices.width x.«data» j)) ≡ false

-- index j is the first that is outside
pub record FirstOutside (n : ℕ) (x : IndexColumn) (j : ℕ) : Type 0 where
  pub inside : j < x.indices.count
  pub outside : is_outside n x j ≡ true
  pub before : (k : ℕ) → k < j → is_outside n x k ≡ false

-- none is
abbrev pub NoneOutside : ℕ → IndexColumn → Type 0
NoneOutside n x = (k : ℕ) → k < x.indices.count → is_outside n x k ≡ false

-- refusal 5, and how many indices were looked at
abbrev pub ScannedOf : ℕ → IndexColumn → Scanned → Type 0
ScannedOf n x r = (checked_numbers r.checked ≡ range_refusal n x) × (r.looked ≡ looked_at n x)
