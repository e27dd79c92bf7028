-- What the tests of one column tell.
use Rattle.std.specs.Prelude.{◌≡◌, ◌⊎◌, if◌then◌else◌, ℕ, Result, IfOk}
use Rattle.tables.specs.declared.answer.Answer.{Answer}
use Rattle.tables.specs.declared.refusal.Refusal.{Refusal}
use Rattle.tables.specs.declared.table.Lengths.{Lengths}
use Rattle.tables.specs.declared.table.Description.{Description}
use Rattle.tables.specs.Kinds.{kind_of, uses_of}
use Rattle.tables.specs.Columns.{Column, IndexColumn, no_indices}
use Rattle.tables.specs.Answers.{first_of}
use Rattle.tables.specs.Stages.{checked_numbers, ◌or_else◌, form_refusal, offsets_refusal}
use Rattle.gathers.specs.Taken.{taken}
use Rattle.gathers.specs.Stored.{needed_lengths}
use Rattle.gathers.specs.Gather.{through_lines}
use Rattle.gathers.specs.Stages.{range_refusal, overflow_refusal}
use Rattle.gathers.specs.Ready.{InRange}

-- the lengths of the buffers that are used, as stated
abbrev pub stated_lengths : Description → Lengths
stated_lengths d = record {
  «data» = d.«data».len;
  offsets = if (uses_of (kind_of d.table.kind)).offset_width then d.offsets.len else 0;
  validity = d.validity.len;
}

-- what a column of so many rows is tested with in place of its index column: that one, or none where this is known to pass its tests and the range
abbrev pub TestedFor : ℕ → IndexColumn → IndexColumn → Type 0
TestedFor n t x = (t ≡ x) ⊎ ((t ≡ no_indices) × InRange n x)

-- 1 to 5
abbrev pub through_range : Column → IndexColumn → Answer
through_range c x = form_refusal c x or_else range_refusal c.table.rows x

-- where nothing is refused: what the rows need
abbrev pub PassedOf : Column → IndexColumn → Result Lengths Refusal → Type 0
PassedOf c x r = IfOk r (λ needed. needed ≡ needed_lengths (taken c x))

-- 6
abbrev pub MeasuredOf : Column → IndexColumn → Result Lengths Refusal → Type 0
MeasuredOf c x r = (checked_numbers r ≡ overflow_refusal (taken c x)) × PassedOf c x r

-- 4 to 6
abbrev pub RestToldOf : Column → IndexColumn → Result Lengths Refusal → Type 0
RestToldOf c x r = (checked_numbers r ≡ offsets_refusal c or_else range_refusal c.table.rows x or_else overflow_refusal (taken c x)) × PassedOf c x r

-- 1 to 6
abbrev pub ToldOf : Column → IndexColumn → Result Lengths Refusal → Type 0
ToldOf c x r = (checked_numbers r ≡ first_of (through_lines c x)) × PassedOf c x r
