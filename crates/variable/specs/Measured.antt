-- The numbers of what the measuring stage answers, and what refusal 6 goes by.
use Rattle.std.specs.Prelude.{ℕ, if◌then◌else◌, ◌==◌, Result, Ok, Err}
use Rattle.tables.specs.declared.answer.Answer.{Answer}
use Rattle.tables.specs.declared.refusal.Refusal.{Refusal}
use Rattle.tables.specs.Answers.{refuse, refusal_numbers}

-- the data bytes that the rows need, as total; or the refusal
abbrev pub measured_numbers : Result ℕ Refusal → Answer
measured_numbers (Ok total) = refuse 0 0 total
measured_numbers (Err r) = refusal_numbers r

-- what no offset of w bytes is above: of 8 bytes, the largest number of 64 bits, which no total reaches
abbrev pub largest_offset : ℕ → ℕ
largest_offset w = if w == 4 then 2_147_483_647 else 18_446_744_073_709_551_615
