-- Where no validity of indices is there, each is valid; else a turn adds the entries of up to 32 rows.
use borrow.Author.Tests.{eqb-true}
use Rattle.std.proofs.Common.{length, sym, ◌∙◌}
use Rattle.bits.proofs.Bits.{valid_at-absent}
use Rattle.lengths.proofs.Running.{summed_fits}
use Rattle.lengths.proofs.row.Selection.sum.Goals as goal

pub picked_entries-total-requires-clause-picked : goal.picked_entries-total-requires-clause-picked
picked_entries-total-requires-clause-picked g c =
    let s = c.args.self.now in
    valid_at-absent s.index_validity.now s.index_bit c.loop-j.j (eqb-true (length s.index_validity.now) 0 (sym c.is_empty.ensures ∙ c.if-is_empty.true))

pub overflow_add-total : goal.overflow_add-total
overflow_add-total g c = record { fits = summed_fits c.loop-j.invariant c.picked_entries-total.ensures c.loop-j-test.true c.args.self.now.there.small }
