-- The rows before the lowest bit that is left are copied.
use Rattle.rows.specs.Lent.{stretches_of}
use Rattle.rows.proofs.Copying.{RowsCopied}
use Rattle.rows.proofs.row.Stretches.copy_rows.Given as goal

abbrev pub invariant-loop-left : goal.invariant-loop-left
invariant-loop-left l = RowsCopied (stretches_of l.self) l.self.word l.self.rows l.out_data l.left l.at

abbrev pub decreases-loop-left : goal.decreases-loop-left
decreases-loop-left l = l.left
