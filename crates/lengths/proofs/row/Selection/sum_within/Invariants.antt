-- `total` is the entries of the first j rows, and no total so far is above `most`.
use Rattle.lengths.specs.Lent.{selection_of}
use Rattle.lengths.specs.Totals.{selected_entries}
use Rattle.lengths.proofs.Running.{Counting}
use Rattle.lengths.proofs.row.Selection.sum_within.Given as goal

abbrev pub invariant-loop-j : goal.invariant-loop-j
invariant-loop-j l = Counting l.most (selected_entries (selection_of l.self)) l.total l.j
