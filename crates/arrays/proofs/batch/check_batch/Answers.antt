-- Each return by the first test that is met.
use Rattle.arrays.proofs.Records.{rows-unequal, batch-passes}
use Rattle.arrays.proofs.batch.check_batch.Goals as goal

pub returns-then-rows_differ : goal.returns-then-rows_differ
returns-then-rows_differ c =
    λ body. rows-unequal c.args.batch.now.columns c.args.batch.now.descriptions.now body c.if-columns-eq0.false c.if-columns-gt-MAX_COLUMNS.false c.if-descriptions-columns.false c.rows_differ.ensures c.if-rows_differ.true

pub returns : goal.returns
returns c =
    λ body. batch-passes c.args.batch.now.columns c.args.batch.now.descriptions.now body c.if-columns-eq0.false c.if-columns-gt-MAX_COLUMNS.false c.if-descriptions-columns.false c.rows_differ.ensures c.if-rows_differ.false
