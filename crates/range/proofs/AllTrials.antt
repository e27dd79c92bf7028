-- The table of specs/Trials.antt holds: antt computes both sides. Files are checked in the order of their names, so that of a wrong definition a trial is
-- refused first, and the laws after it. Assumes nothing.
use mathlib.Core.Path.{◌≡◌, refl}
use mathlib.Core.List.{map}
use Rattle.bits.specs.Numbers.{number_at}
use Rattle.bits.specs.Bits.{bit_at, valid_at}
use Rattle.tables.specs.Columns.{index_valid, index}
use Rattle.gathers.specs.Gather.{out_of_range}
use Rattle.gathers.specs.Stages.{range_refusal}
use Rattle.range.specs.Looked.{looked_at}
use Rattle.range.specs.Trials.{run, trials}

pub trials-hold : map run trials ≡ trials
unfolding number_at bit_at valid_at index_valid index out_of_range range_refusal looked_at
trials-hold = refl
