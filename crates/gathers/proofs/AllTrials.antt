-- The tables of specs/Trials.antt hold: antt computes both sides. Files are checked in the order of their names, so that of a wrong definition a
-- trial is refused first, and the laws after it. Assumes nothing.
use mathlib.Core.Path.{◌≡◌, refl, sym, subst}
use mathlib.Core.Bool.{Bool, true, false, ◌||◌}
use mathlib.Core.List.{map}
use Prim.Native.Nat.{ℕ}
use lib.Dec.{eqb}
use borrow.Author.Tests.{eqb-true}
use Rattle.bits.specs.Numbers.{number_at}
use Rattle.bits.specs.Bits.{bit_at, byte_of, pack_bytes, pack, replace_bits, valid_at}
use Rattle.tables.specs.Kinds.{kind_of, is_index_width}
use Rattle.tables.specs.Columns.{kind_at, layout_at, offset_at, index_valid, index}
use Rattle.tables.specs.Refusals.{index_refusal}
use Rattle.tables.specs.Rows.{rows_of}
use Rattle.gathers.specs.Taken.{picked_valid}
use Rattle.gathers.specs.Stored.{validity_bytes, start_of, offset_bytes, data_bytes, data_length, null_count, store}
use Rattle.gathers.specs.Gather.{out_of_range, overflow_at, through_lines, refusals, gathered, gather}
use Rattle.gathers.specs.Blank.{reached, blank}
use Rattle.gathers.specs.Trials.{run, expected, Hold, marked, more, run_blanking, expected_blank, blankings, listed, refused, unlisted_widths}

-- what a trial computes with: to unfold this name is to unfold them all
computed : Unit {0}
unfolding number_at bit_at byte_of pack_bytes pack replace_bits valid_at kind_of kind_at layout_at offset_at index_refusal index_valid index rows_of picked_valid validity_bytes start_of offset_bytes data_bytes data_length null_count overflow_at store gathered through_lines refusals out_of_range gather reached blank
computed = tt

-- what holds at the four index widths holds at each
each_width : (P : ℕ → Type 0) → P 1 → P 2 → P 4 → P 8 → (w : ℕ) → is_index_width w ≡ true → P w
each_width P one two four eight w = go (eqb w 1) (eqb w 2) (eqb w 4) refl refl refl
  where
    go : (a b c : Bool) → eqb w 1 ≡ a → eqb w 2 ≡ b → eqb w 4 ≡ c → (a || b || c || eqb w 8) ≡ true → P w
    go true b c d e f h = subst P (sym (eqb-true w 1 d)) one
    go false true c d e f h = subst P (sym (eqb-true w 2 e)) two
    go false false true d e f h = subst P (sym (eqb-true w 4 f)) four
    go false false false d e f h = subst P (sym (eqb-true w 8 h)) eight

-- every marked trial has its outcome at each index width, and so it has over the blanked column
pub marked-hold : (w : ℕ) → is_index_width w ≡ true → Hold (marked w)
unfolding marked computed
marked-hold = each_width (λ w. Hold (marked w)) (refl, refl) (refl, refl) (refl, refl) (refl, refl)

pub more-hold : Hold more
unfolding more computed
more-hold = (refl, refl)

pub refused-hold : map run refused ≡ map expected refused
unfolding refused computed
refused-hold = refl

-- the blanked tables are as the paper says
pub blanked-hold : map run_blanking blankings ≡ map expected_blank blankings
unfolding blankings computed
blanked-hold = refl

-- every listed size and width, and each of their neighbours
pub listed-hold : Hold listed
unfolding listed computed
listed-hold = (refl, refl)

pub unlisted-hold : map run unlisted_widths ≡ map expected unlisted_widths
unfolding unlisted_widths computed
unlisted-hold = refl
