-- `word` has the bits of the rows of the turn whose entries are not yet in `total`.
use Rattle.std.proofs.Common.{◌-◌, min}
use Rattle.lengths.specs.Lent.{selection_of}
use Rattle.lengths.proofs.Picked.{Picking}
use Rattle.lengths.proofs.row.Selection.add_turn.Given as goal

abbrev pub invariant-loop-word : goal.invariant-loop-word
invariant-loop-word g l = Picking (selection_of l.self) l.start (min (l.self.count - l.start) 32) l.total l.word

abbrev pub decreases-loop-word : goal.decreases-loop-word
decreases-loop-word g l = l.word
