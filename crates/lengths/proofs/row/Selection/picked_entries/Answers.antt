-- The row that the number names is there, and so is its bit.
use Rattle.std.proofs.Common.{◌∙◌}
use Rattle.lengths.proofs.Masking.{bit_number}
use Rattle.lengths.proofs.Picked.{picked-there}
use Rattle.lengths.proofs.row.Selection.picked_entries.Goals as goal

pub returns : goal.returns
returns c =
    let s = c.args.self.now.there in
    let j = c.requires.inside in
    (rw c.requires.widths.0 at c.stretch_of.ensures.entries)
    ∙ (picked-there (s.selection _ j) (s.entries _ j) c.requires.picked (rw c.requires.widths.1 at c.number_at-row.ensures) (bit_number _ c.from-valid.ensures c.is_valid.ensures)).entries
