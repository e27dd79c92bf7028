-- The one that differs is one of them.
use Rattle.std.proofs.Common.{sym}
use Rattle.arrays.proofs.Records.{differ-at}
use Rattle.arrays.proofs.batch.rows_differ.Goals as goal

pub returns-then-rows_at-rows : goal.returns-then-rows_at-rows
returns-then-rows_at-rows c = sym (differ-at _ _ _ c.loop-i-test.true c.rows_at.ensures c.rows_at-rows.ensures c.if-rows_at-rows.true)
