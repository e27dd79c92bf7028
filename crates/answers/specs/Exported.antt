-- What an exported entry leaves of a gather: the number returned, the 32 bytes of the answer, and the outputs.
use Rattle.std.specs.Prelude.{ℕ, if◌then◌else◌, List, ◌++◌, nat_lt, length}
use Rattle.bits.specs.Bytes.{overwrite}
use Rattle.bits.specs.Numbers.{to_little_endian}
use Rattle.tables.specs.declared.answer.Answer.{Answer}
use Rattle.tables.specs.Columns.{IndexColumn}
use Rattle.gathers.specs.Stored.{Output}
use Rattle.gathers.specs.Gather.{Outcome}

-- number, place, total, nulls, each of 64 bits and little-endian
abbrev pub answer_bytes : Answer → List ℕ
answer_bytes a = to_little_endian 8 a.number ++ to_little_endian 8 a.place ++ to_little_endian 8 a.total ++ to_little_endian 8 a.nulls

-- the number returned, the lent answer and the outputs
pub record Exported : Type 0 where
  pub number : ℕ
  pub answer : List ℕ
  pub output : Output

abbrev pub left : ℕ → List ℕ → Output → Exported
left n a o = record { number = n; answer = a; output = o }

-- the number is returned and the four numbers are written over the first 32 bytes of the answer slice
abbrev pub answered : List ℕ → Outcome → Exported
answered a g = left g.answer.number (overwrite (answer_bytes g.answer) a) g.output

-- of a gather that f defines, with the answer slice a; a shorter slice gets 7 before every other test, and nothing is written
unfoldable pub exported : {S : Type 0} → (S → IndexColumn → Output → Outcome) → List ℕ → S → IndexColumn → Output → Exported
exported f a s x o = if nat_lt (length a) 32 then left 7 a o else answered a (f s x o)
