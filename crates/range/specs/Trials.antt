-- Worked examples of the range scan: the refusal and how many indices are looked at, at the row counts about those that a width can hold.
use Rattle.std.specs.Prelude.{ℕ, ◌-◌, ◌+◌, ◌^◌, List, [], ◌∷◌, ◌++◌}
use Rattle.tables.specs.declared.answer.Answer.{Answer}
use Rattle.tables.specs.Columns.{IndexColumn}
use Rattle.tables.specs.Answers.{accept, refuse}
use Rattle.gathers.specs.Stages.{range_refusal}
use Rattle.gathers.specs.Trials.{idx}
use Rattle.range.specs.Looked.{looked_at}

-- an index column, a row count, and what the scan yields
pub record Trial : Type 0 where
  pub indices : IndexColumn
  pub rows : ℕ
  pub answer : Answer
  pub looked : ℕ

abbrev pub trial : IndexColumn → ℕ → Answer → ℕ → Trial
trial x n a k = record { indices = x; rows = n; answer = a; looked = k }

abbrev pub run : Trial → Trial
run t = trial t.indices t.rows (range_refusal t.rows t.indices) (looked_at t.rows t.indices)

-- 7 and, twice, the largest number of w bytes, with a validity or none
abbrev pub largest : ℕ → List ℕ → IndexColumn
largest w validity = let m : ℕ = 256 ^ w - 1 in idx w 3 (7 ∷ m ∷ m ∷ []) validity

-- at a width: one row less than it can't hold, just as many, and one more
abbrev pub about : ℕ → List Trial
about w =
    trial (largest w []) (256 ^ w - 1) (refuse 5 1 0) 2
    ∷ trial (largest w []) (256 ^ w) accept 0
    ∷ trial (largest w []) (256 ^ w + 1) accept 0
    -- a null slot is passed over, and counts
    ∷ trial (largest w (0b101 ∷ [])) (256 ^ w - 1) (refuse 5 2 0) 3
    ∷ trial (largest w (0b001 ∷ [])) (256 ^ w - 1) accept 3
    ∷ trial (largest w (0b101 ∷ [])) (256 ^ w) accept 0
    -- the first index is outside, and none is
    ∷ trial (largest w []) 7 (refuse 5 0 0) 1
    ∷ trial (idx w 2 (7 ∷ 0 ∷ []) []) 8 accept 2
    -- no rows, and no indices
    ∷ trial (largest w []) 0 (refuse 5 0 0) 1
    ∷ trial (largest w (0 ∷ [])) 0 accept 3
    ∷ trial (idx w 0 [] []) 0 accept 0
    ∷ trial (idx w 0 [] []) 7 accept 0
    ∷ []

abbrev pub trials : List Trial
trials = about 1 ++ about 2 ++ about 4 ++ about 8
