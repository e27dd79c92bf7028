-- What a gather of bits asks of its source and of the numbers that it reads.
use Rattle.std.specs.Prelude.{ℕ, ◌+◌, ◌*◌, ◌^◌, ◌≤◌, ◌<◌, ◌≡◌, true, false, ◌&&◌, List, length}
use Rattle.bits.specs.Numbers.{number_at, is_number_width}
use Rattle.bits.specs.Bits.{bytes_for, pack, is_absent, valid_at}
use Rattle.tables.specs.Columns.{IndexColumn, index_valid, index}
use Rattle.tables.specs.Answers.{passes}
use Rattle.tables.specs.Refusals.{index_refusal}
use Rattle.gathers.specs.Buffers.{taken_bit}

-- the bits of so many rows, from bit offset b on, are in s
pub record HoldsBits (b rows : ℕ) (s : List ℕ) : Type 0 where
  pub small : b + rows < 2 ^ 60
  pub there : bytes_for (b + rows) ≤ length s

-- the output bits, spare bits 0; where m is there, 0 also where a bit of it is
abbrev pub taken_bits : List ℕ → ℕ → IndexColumn → List ℕ → List ℕ
taken_bits s b x m = pack x.indices.count (λ j. taken_bit s b x j && valid_at m 0 j)

-- a mask of so many bits, or none. (It is of a mask and of the count of the indices beside it: no type of one of them can say it.)
abbrev pub MaskThere : ℕ → List ℕ → Type 0
MaskThere n m = is_absent m ≡ false → bytes_for n ≤ length m

-- an index column that no test of its own refuses; s has the bit of each row which a valid index names
pub record Reached (b : ℕ) (s : List ℕ) (x : IndexColumn) : Type 0 where
  pub passed : passes (index_refusal x) ≡ true
  pub inside : (j : ℕ) → j < x.indices.count → index_valid x j ≡ true → (b + index x j < 8 * length s) × (b + index x j < 2 ^ 60)

-- number t of w bytes is there, and so is the bit of the row which it names, masked by v: of the first row where v is 0
pub record Reaches (v b w : ℕ) (numbers s : List ℕ) (t : ℕ) : Type 0 where
  pub width : is_number_width w ≡ true
  pub numbered : t * w + w ≤ length numbers
  pub bit : v ≤ 1
  pub inside : (b + number_at w numbers t * v < 8 * length s) × (b + number_at w numbers t * v < 2 ^ 60)
