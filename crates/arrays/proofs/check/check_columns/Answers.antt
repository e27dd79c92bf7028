-- After i columns, what they need together.
use Rattle.std.proofs.Common.{◌≡◌, ap, arith}
use Rattle.std.proofs.lemmas.Result.{err_from_is_err_and}
use Rattle.tables.specs.Columns.{index_column_of}
use Rattle.tables.specs.Bodies.{column_in}
use Rattle.arrays.specs.Told.{batch_of}
use Rattle.arrays.proofs.Counted.{range-known, columns-refused, small-together, counted-more, columns-told}
use Rattle.arrays.proofs.check.check_columns.Goals as goal

pub check_next-requires : goal.check_next-requires
check_next-requires c =
    range-known (batch_of c.args.batch.now) _ c.loop-i.invariant c.loop-i-test.true (ap (column_in _) c.describe-d.ensures) c.requires

pub returns-in_err-check_next : goal.returns-in_err-check_next
returns-in_err-check_next c =
    let p = err_from_is_err_and c.from_residual.result c.from_residual.ensures.1 in
    rw (p.1, p.2) (columns-refused (batch_of c.args.batch.now) _ c.loop-i.invariant c.loop-i-test.true (ap (column_in _) c.describe-d.ensures) _ c.check_next.ensures
    _ c.in_err-check_next.was)

pub add-joined-requires : goal.add-joined-requires
add-joined-requires c =
    small-together (batch_of c.args.batch.now) _ c.loop-i.invariant c.loop-i-test.true (ap (column_in _) c.describe-d.ensures) _ c.check_next.ensures
    _ c.in_ok-check_next.was c.requires

pub loop-i-preserved : goal.loop-i-preserved
loop-i-preserved c =
    rw c.add-joined.ensures (counted-more (batch_of c.args.batch.now) _ c.loop-i.invariant c.loop-i-test.true (ap (column_in _) c.describe-d.ensures) _
    c.check_next.ensures _ c.in_ok-check_next.was)

pub returns : goal.returns
returns c =
    let e : c.loop-i.i ≡ c.args.batch.now.columns = omega arith in
    columns-told (batch_of c.args.batch.now) (index_column_of c.args.indices.now) c.loop-i.invariant e
