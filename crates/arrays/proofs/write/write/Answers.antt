-- After i columns, what the outputs hold and where the next one goes.
use Rattle.std.proofs.Common.{◌≡◌, ap, arith}
use Rattle.tables.specs.Columns.{index_column_of}
use Rattle.tables.specs.Bodies.{column_in}
use Rattle.arrays.proofs.Laid.{there-validity, there-offsets, there-data, next-ready, next_small, next-room, sums-small, laid_more, all_laid}
use Rattle.arrays.proofs.write.write.Goals as goal

pub slice_bounds-take_described-count : goal.slice_bounds-take_described-count
slice_bounds-take_described-count c = let h = there-validity _ _ _ c.requires c.loop-i.invariant in omega arith

pub slice_bounds-take_described-start : goal.slice_bounds-take_described-start
slice_bounds-take_described-start c = let h = there-validity _ _ _ c.requires c.loop-i.invariant in omega arith

pub slice_bounds-take_described-count-in-loop-i : goal.slice_bounds-take_described-count-in-loop-i
slice_bounds-take_described-count-in-loop-i c = let h = there-offsets _ _ _ c.requires c.loop-i.invariant in omega arith

pub slice_bounds-take_described-start-in-loop-i : goal.slice_bounds-take_described-start-in-loop-i
slice_bounds-take_described-start-in-loop-i c = let h = there-offsets _ _ _ c.requires c.loop-i.invariant in omega arith

pub slice_bounds-take_described-count-in-loop-i-2 : goal.slice_bounds-take_described-count-in-loop-i-2
slice_bounds-take_described-count-in-loop-i-2 c = let h = there-data _ _ _ c.requires c.loop-i.invariant in omega arith

pub slice_bounds-take_described-start-in-loop-i-2 : goal.slice_bounds-take_described-start-in-loop-i-2
slice_bounds-take_described-start-in-loop-i-2 c = let h = there-data _ _ _ c.requires c.loop-i.invariant in omega arith

pub take_described-taken-requires : goal.take_described-taken-requires
take_described-taken-requires c =
    let x = index_column_of c.args.indices.now in
    let p = c.requires in
    let l = c.loop-i.invariant in
    let h = c.loop-i-test.true in
    let e = ap (column_in c.args.batch.now.body.now) c.describe-d.ensures in
    record { ready = next-ready _ x _ p l h e; no_overflow = next_small _ x _ p l h e; has_room_for = next-room _ x _ p l h e }

pub add-written-requires : goal.add-written-requires
add-written-requires c =
    (sums-small _ _ _ c.requires c.loop-i.invariant c.loop-i-test.true (ap (column_in _) c.describe-d.ensures) c.take_described-taken.result c.take_described-taken.ensures.told).0

pub overflow_add-nulls : goal.overflow_add-nulls
overflow_add-nulls c =
    omega (
      arith,
      (sums-small _ _ _ c.requires c.loop-i.invariant c.loop-i-test.true (ap (column_in _) c.describe-d.ensures) c.take_described-taken.result
          c.take_described-taken.ensures.told).1,
    )

pub loop-i-preserved : goal.loop-i-preserved
loop-i-preserved c =
    let t = c.take_described-taken.ensures in
    rw c.add-written.ensures (laid_more _ _ _ c.requires c.loop-i.invariant c.loop-i-test.true (ap (column_in _) c.describe-d.ensures) c.take_described-taken.result t.told t.stored)

pub returns-clause-stored : goal.returns-clause-stored
returns-clause-stored c =
    let e : c.loop-i.i ≡ c.args.batch.now.columns = omega arith in
    all_laid _ _ _ c.requires c.loop-i.invariant e
