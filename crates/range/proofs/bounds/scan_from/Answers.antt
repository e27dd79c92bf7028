-- The first index whose number is out of range, where it is valid, is the first outside.
use Rattle.std.proofs.Common.{◌≡◌, false, refl, below_more, arith}
use Rattle.tables.specs.Columns.{index_column_of}
use Rattle.gathers.specs.Gather.{is_outside}
use Rattle.tables.proofs.Facts.{index-formed}
use Rattle.tables.proofs.There.{index-valid-there}
use Rattle.range.proofs.Scan.{below, null, found, number-there, none-outside}
use Rattle.range.proofs.bounds.scan_from.Goals as goal
use Rattle.range.proofs.bounds.scan_from.Goals.{else-rows-number_at-via-then-rows-number_at+else-is_valid, else-rows-number_at-via-else-rows-number_at}

pub loop-j-init : goal.loop-j-init
loop-j-init g c = record { none = refl; before = none-outside c.args.rows (index_column_of c.args.indices.now) c.args.from c.requires.scannable.before }

pub number_at-requires : goal.number_at-requires
number_at-requires g c =
    let there = number-there _ c.requires.width (index-formed _ c.requires.scannable.tested) c.loop-j.j c.loop-j-test.true in
    record { width = there.0; there = there.1 }

pub is_valid-requires : goal.is_valid-requires
is_valid-requires g c = index-valid-there _ (index-formed _ c.requires.scannable.tested) c.loop-j.j c.loop-j-test.true

pub loop-j-preserved : goal.loop-j-preserved
loop-j-preserved g c =
    let at = c.loop-j in
    let n = c.args.rows in
    let x = index_column_of c.args.indices.now in
    let good : is_outside n x at.j ≡ false = elim c.else-rows-number_at.branch [
      | else-rows-number_at-via-then-rows-number_at+else-is_valid w ↦ null n x at.j w.is_valid.ensures w.if-is_valid.false
      | else-rows-number_at-via-else-rows-number_at w ↦ below n x at.j c.requires.width c.number_at.ensures (omega arith)
    ] in
    record { none = at.invariant.none; before = below_more _ _ at.invariant.before good }

pub returns-then-is_valid-clause-some : goal.returns-then-is_valid-clause-some
returns-then-is_valid-clause-some g c =
    let at = c.loop-j in
    let bad = found c.args.rows (index_column_of c.args.indices.now) at.j c.is_valid.ensures c.requires.width c.number_at.ensures (omega arith) c.if-is_valid.true in
    record { inside = c.loop-j-test.true; outside = bad; before = at.invariant.before }
