-- How many indices the range scan looks at (request 3: "how many indices it looked at"). Null slots count like the others.
use Rattle.std.specs.Prelude.{ℕ, suc, ◌^◌, Bool, if◌then◌else◌, nat_le, nat_lt}
use Rattle.tables.specs.Columns.{IndexColumn}
use Rattle.gathers.specs.Gather.{out_of_range}

-- numbers of w bytes can't hold the row count n: each of them is below it
abbrev pub is_too_narrow : ℕ → ℕ → Bool
is_too_narrow n w = nat_le (256 ^ w) n

-- none where the width can't hold the row count; otherwise those through the first outside, or all if none is
unfoldable pub looked_at : ℕ → IndexColumn → ℕ
looked_at n x =
    let place : ℕ = out_of_range n x in
    let count : ℕ = x.indices.count in
    (if is_too_narrow n x.indices.width then 0 else (if nat_lt place count then suc place else count))
