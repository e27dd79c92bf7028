-- The validity of the taken rows, by the validity v at bit offset b of the rows: what is written, and what is counted.
use Rattle.std.specs.Prelude.{ℕ, not, List}
use Rattle.bits.specs.Sequences.{sum}
use Rattle.bits.specs.Bits.{bit_value, pack}
use Rattle.tables.specs.Columns.{IndexColumn}
use Rattle.gathers.specs.Buffers.{taken_bit_valid}

-- a bit for each row, spare bits 0
abbrev pub taken_validity : List ℕ → ℕ → IndexColumn → List ℕ
taken_validity v b x = pack x.indices.count (taken_bit_valid v b x)

-- how many are null
abbrev pub taken_nulls : List ℕ → ℕ → IndexColumn → ℕ
taken_nulls v b x = sum x.indices.count (λ j. bit_value (not (taken_bit_valid v b x j)))
