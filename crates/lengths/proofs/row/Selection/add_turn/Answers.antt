-- The lowest bit of the word names a row, and its entries are added.
use Rattle.lengths.proofs.Picked.{picking-all, picking-row, picking-next, picking-fits, picking-end}
use Rattle.std.proofs.Common.{arith}
use Rattle.lengths.proofs.row.Selection.add_turn.Goals as goal

pub loop-word-init : goal.loop-word-init
loop-word-init g c = picking-all c.requires.started.1 c.requires.present (rw c.min.ensures at c.word_at-word.ensures)

pub picked_entries-total-requires-clause-inside : goal.picked_entries-total-requires-clause-inside
picked_entries-total-requires-clause-inside g c = omega (arith, (picking-row c.loop-word.invariant c.loop-word.auto.word-fits.fits c.loop-word-test.true).0)

pub picked_entries-total-requires-clause-picked : goal.picked_entries-total-requires-clause-picked
picked_entries-total-requires-clause-picked g c = (picking-row c.loop-word.invariant c.loop-word.auto.word-fits.fits c.loop-word-test.true).1

pub overflow_add-total : goal.overflow_add-total
overflow_add-total g c = record {
  fits = picking-fits c.loop-word.invariant c.loop-word.auto.word-fits.fits c.loop-word-test.true c.picked_entries-total.ensures (omega arith) c.args.self.now.there.small;
}

pub loop-word-preserved : goal.loop-word-preserved
loop-word-preserved g c = picking-next c.loop-word.invariant c.loop-word.auto.word-fits.fits c.loop-word-test.true c.picked_entries-total.ensures

pub returns : goal.returns
returns g c = picking-end c.loop-word.invariant (omega arith) (omega arith)
