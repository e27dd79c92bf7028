-- The first t rows are listed, and `total` is the entries of all before row base + t.
use Rattle.lengths.specs.Lent.{shown_of}
use Rattle.lengths.specs.Turns.{Listed}
use Rattle.lengths.proofs.turn.Shown.list_rows.Given as goal

abbrev pub invariant-loop-t : goal.invariant-loop-t
invariant-loop-t g l = Listed (shown_of g.row.OW l.self) l.base l.t l.initial.starts l.initial.lengths l.initial.out_offsets l.starts l.lengths l.out_offsets l.total
