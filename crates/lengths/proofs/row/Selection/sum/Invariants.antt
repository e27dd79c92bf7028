-- `total` is the entries of the first rows, in both loops.
use Rattle.std.proofs.Common.{min}
use Rattle.lengths.specs.Lent.{selection_of}
use Rattle.lengths.specs.Totals.{selected_entries}
use Rattle.lengths.proofs.Running.{Summed}
use Rattle.lengths.proofs.row.Selection.sum.Given as goal

abbrev pub invariant-loop-j : goal.invariant-loop-j
invariant-loop-j g l = Summed (selected_entries (selection_of l.self)) l.total l.j

abbrev pub invariant-loop-start : goal.invariant-loop-start
invariant-loop-start g l = Summed (selected_entries (selection_of l.self)) l.total (min l.self.count l.start)
