-- The tables of specs/Trials.antt hold: antt computes both sides. Files are checked in the order of their names, so that of a wrong definition a
-- trial is refused first, and the laws after it. Assumes nothing.
use mathlib.Core.Path.{◌≡◌, refl}
use mathlib.Core.List.{map}
use Rattle.bits.specs.Numbers.{number_at}
use Rattle.bits.specs.Bits.{bit_at, byte_of, pack_bytes, pack, replace_bits, valid_at}
use Rattle.tables.specs.Kinds.{kind_of}
use Rattle.tables.specs.Columns.{kind_at, layout_at, offset_at, index_valid, index}
use Rattle.tables.specs.Bodies.{extent_of, column_in, word_at, described_at}
use Rattle.tables.specs.Refusals.{column_refusal, index_refusal}
use Rattle.tables.specs.Rows.{rows_of}
use Rattle.gathers.specs.Taken.{picked_valid}
use Rattle.gathers.specs.Stored.{validity_bytes, start_of, offset_bytes, data_bytes, data_length, null_count, store_joined}
use Rattle.gathers.specs.Gather.{out_of_range, overflow_at, through_lines}
use Rattle.gathers.specs.Blank.{reached, blank}
use Rattle.batches.specs.Batch.{arrays_refusals, gathered_all, gather_arrays, cleared}
use Rattle.batches.specs.Trials.{Hold, trials, run_clearing, expected_clear, clearings}

-- what a trial computes with: to unfold this name is to unfold them all
computed : Unit {0}
unfolding number_at bit_at byte_of pack_bytes pack replace_bits valid_at kind_of kind_at layout_at offset_at extent_of column_in word_at described_at column_refusal index_refusal index_valid index rows_of picked_valid validity_bytes start_of offset_bytes data_bytes data_length null_count overflow_at store_joined through_lines out_of_range reached blank arrays_refusals gathered_all gather_arrays cleared
computed = tt

pub trials-hold : Hold trials
unfolding trials computed
trials-hold = (refl, refl)

pub clearings-hold : map run_clearing clearings ≡ map expected_clear clearings
unfolding clearings computed
clearings-hold = refl
