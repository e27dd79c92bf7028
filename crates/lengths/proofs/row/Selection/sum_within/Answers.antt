-- A total that is not above `most` is the next.
use Rattle.std.proofs.Common.{arith}
use Rattle.lengths.proofs.Running.{summed_fits, counting_stop, counting-next}
use Rattle.lengths.proofs.row.Selection.sum_within.Goals as goal

pub overflow_add-after : goal.overflow_add-after
overflow_add-after c = record { fits = summed_fits c.loop-j.invariant.summed c.entries.ensures c.loop-j-test.true c.args.self.now.there.small }

pub returns-then-after-most : goal.returns-then-after-most
returns-then-after-most c = counting_stop c.loop-j.invariant c.entries.ensures c.loop-j-test.true (omega arith)

pub loop-j-preserved : goal.loop-j-preserved
loop-j-preserved c = counting-next c.loop-j.invariant c.entries.ensures (omega arith)
