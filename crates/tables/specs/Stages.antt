-- What a stage answers, and refusals 1 to 4 as the two stages that test them, sizes and offsets.
use Rattle.std.specs.Prelude.{Bool, if◌then◌else◌, Result, Ok, Err}
use Rattle.tables.specs.declared.table.Kind.{Kind}
use Rattle.tables.specs.declared.table.Table.{Table}
use Rattle.tables.specs.declared.table.Indices.{Indices}
use Rattle.tables.specs.declared.table.Lengths.{Lengths}
use Rattle.tables.specs.declared.table.IndexLengths.{IndexLengths}
use Rattle.tables.specs.declared.answer.Answer.{Answer}
use Rattle.tables.specs.declared.refusal.Refusal.{Refusal}
use Rattle.tables.specs.Kinds.{kind_of, layout_of}
use Rattle.tables.specs.Columns.{Column, IndexColumn, lengths_of, index_lengths_of, kind_at, layout_at}
use Rattle.tables.specs.Answers.{accept, passes, refusal_numbers, first_of}
use Rattle.tables.specs.Refusals.{table_form, indices_form, either, size_lines, offset_lines, form_lines}

-- what a stage answers that tells nothing where it lets pass
abbrev pub Checked : Type 0
Checked = Result (Unit {0}) Refusal

-- the numbers of what a stage answers, whatever it tells where it lets pass
abbrev pub checked_numbers : {A : Type 0} → Result A Refusal → Answer
checked_numbers (Ok a) = accept
checked_numbers (Err r) = refusal_numbers r

-- the first refusal of the two
infixl 20 ◌or_else◌
abbrev pub ◌or_else◌ : Answer → Answer → Answer
a or_else b = if passes a then b else a

-- 1 to 4, of a column with an index column
unfoldable pub form_refusal : Column → IndexColumn → Answer
form_refusal c x = first_of (form_lines (kind_at c) (layout_at c) c x)

-- 1 to 3, of two descriptions with the lengths of their buffers; `cut` says that one of the first's is cut
unfoldable pub stated_refusal : Table → Bool → Lengths → Indices → IndexLengths → Answer
stated_refusal t cut n x m =
    let k : Kind = kind_of t.kind in
    first_of (size_lines (either (table_form k (layout_of k t.width t.size) t cut n) (indices_form x m)))

abbrev pub sizes_refusal : Column → IndexColumn → Answer
sizes_refusal c x = stated_refusal c.table c.cut (lengths_of c) x.indices (index_lengths_of x)

-- 4
unfoldable pub offsets_refusal : Column → Answer
offsets_refusal c = first_of (offset_lines (layout_at c) c)
