-- The structs that the code passes, as what is read.
use Rattle.std.specs.Prelude.{ℕ}
use Rattle.lengths.specs.Entries.{Selection, Shown, selection_at, shown_at}

abbrev pub selection_of : Rattle.lengths.specs.declared.row.Selection.Selection → Selection
selection_of s = selection_at s.validity s.bit s.offset_width s.offsets s.index_width s.index_data s.index_validity s.index_bit

-- where an offset has ow bytes
abbrev pub shown_of : (ow : ℕ) → Rattle.lengths.specs.declared.turn.Shown.Shown ow → Shown
shown_of ow s = shown_at ow s.offsets s.index_width s.index_data s.out_validity
