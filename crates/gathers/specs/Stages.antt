-- The stages of the tests by themselves, as the routines of the layers above answer them. `gather` goes by the whole list of refusals;
-- proofs/Stages.antt shows that its first refusal is that of the first stage that refuses.
use Rattle.std.specs.Prelude.{ℕ}
use Rattle.tables.specs.declared.answer.Answer.{Answer}
use Rattle.tables.specs.Columns.{IndexColumn}
use Rattle.tables.specs.Answers.{first_of}
use Rattle.tables.specs.Stages.{◌or_else◌}
use Rattle.tables.specs.Rows.{Rows}
use Rattle.gathers.specs.Stored.{Output, needed_lengths, lent_lengths, data_length}
use Rattle.gathers.specs.Gather.{range_lines, overflow_lines, space_lines}

unfoldable pub range_refusal : ℕ → IndexColumn → Answer
range_refusal n x = first_of (range_lines n x)

unfoldable pub overflow_refusal : Rows → Answer
overflow_refusal v = first_of (overflow_lines v)

-- the same, where it lets pass with the data bytes that the rows need as total
unfoldable pub measured : Rows → Answer
measured v = overflow_refusal v or_else record { number = 0; place = 0; total = data_length v.layout v; nulls = 0 }

unfoldable pub space_refusal : Rows → Output → Answer
space_refusal v o = first_of (space_lines (needed_lengths v) (lent_lengths o))
