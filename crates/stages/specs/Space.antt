-- Refusal 7 by the lengths of the outputs: the bytes that they need and the bytes that are lent.
use Rattle.std.specs.Prelude.{ℕ, suc, ◌*◌}
use Rattle.bits.specs.Bits.{bytes_for}
use Rattle.tables.specs.declared.answer.Answer.{Answer}
use Rattle.tables.specs.declared.table.Layout.{Layout}
use Rattle.tables.specs.declared.table.Layout.TheVariants.{FixedWidth, BitMap, VariableWidth}
use Rattle.tables.specs.Answers.{first_of}
use Rattle.gathers.specs.Gather.{space_lines}
use Rattle.tables.specs.declared.table.Lengths.{Lengths}

-- the offsets of count rows, of w bytes each
abbrev pub offset_bytes_for : Layout → ℕ → ℕ → ℕ
offset_bytes_for (FixedWidth n) w count = 0
offset_bytes_for BitMap w count = 0
offset_bytes_for (VariableWidth u) w count = suc count * w

abbrev pub lengths_for : Layout → ℕ → ℕ → ℕ → Lengths
lengths_for l w count «data» = record { validity = bytes_for count; offsets = offset_bytes_for l w count; «data» = «data» }

-- the first output that is shorter than it needs to be
unfoldable pub lengths_refusal : Lengths → Lengths → Answer
lengths_refusal needed lent = first_of (space_lines needed lent)
