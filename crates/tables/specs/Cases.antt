-- "Each is given in its case and in no other", of any list of refusals: a number may stand in several of its lines.
use Rattle.std.specs.Prelude.{ℕ, ◌<◌, ◌≡◌, true, false, List, [], ◌∷◌, length, slice_index_or}
use Rattle.tables.specs.Answers.{accept, passes, Line, line}

-- line i; past the last, one that is never met
abbrev pub line_at : List Line → ℕ → Line
line_at ls i = slice_index_or ls i (line false accept)

-- every line carries a refusal: its number is not 0
abbrev pub Refusing : List Line → Type 0
Refusing [] = Unit {0}
Refusing (l ∷ ls) = (passes l.answer ≡ false) × Refusing ls

-- no line is met
abbrev pub NoneMet : List Line → Type 0
NoneMet ls = (i : ℕ) → (line_at ls i).when ≡ false

-- line i is the first that is met
pub record FirstMet (ls : List Line) (i : ℕ) : Type 0 where
  pub inside : i < length ls
  pub met : (line_at ls i).when ≡ true
  pub before : (j : ℕ) → j < i → (line_at ls j).when ≡ false

-- "its case": the first line that is met carries the number n
pub record CaseOf (ls : List Line) (n : ℕ) : Type 0 where
  pub place : ℕ
  pub first : FirstMet ls place
  pub carries : (line_at ls place).answer.number ≡ n
