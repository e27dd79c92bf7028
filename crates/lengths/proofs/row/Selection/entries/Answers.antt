-- A null index has no entries.
use Rattle.std.proofs.Common.{sym, ◌∙◌}
use Rattle.lengths.proofs.Masking.{null-index}
use Rattle.lengths.proofs.row.Selection.entries.Goals as goal

pub returns : goal.returns
returns c = sym (null-index _ _ (sym c.is_valid.ensures ∙ c.if-is_valid.false))
