-- What the gather of blocks asks of an index column and of the buffers, and what it writes.
use Rattle.std.specs.Prelude.{ℕ, ◌+◌, ◌*◌, ◌≤◌, ◌<◌, ◌≡◌, true, List, length}
use Rattle.bits.specs.Sequences.{concat}
use Rattle.tables.specs.Columns.{IndexColumn, index_valid, index}
use Rattle.tables.specs.Answers.{passes}
use Rattle.tables.specs.Refusals.{index_refusal}
use Rattle.tables.specs.Bounds.{max_block}
use Rattle.gathers.specs.Buffers.{taken_block}

-- the indices pass their tests, and their validity starts at bit 0, as that of an output does; the blocks of n bytes that the valid ones name are in s, and out
-- has n bytes for each index. (It relates a size, an index column, the data and an output, which come from as many places: a struct of them would be the
-- list of parameters again, made for one call.)
pub record Blocked (n : ℕ) (x : IndexColumn) (s out : List ℕ) : Type 0 where
  pub passed : passes (index_refusal x) ≡ true
  pub first : x.indices.validity_bit ≡ 0
  pub size : n ≤ max_block
  pub there : (j : ℕ) → j < x.indices.count → index_valid x j ≡ true → index x j * n + n ≤ length s
  pub room : x.indices.count * n ≤ length out

-- the output blocks, in the order of the indices
abbrev pub taken_blocks : ℕ → List ℕ → IndexColumn → List ℕ
taken_blocks n s x = concat x.indices.count (taken_block n s x)
