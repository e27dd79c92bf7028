-- Numbers too narrow to be outside are not read; else no number before the block is outside.
use Rattle.std.proofs.Common.{arith}
use Rattle.range.proofs.Scan.{numbers-there, unscanned, scanned, scanned-through, scanned-all, scannable}
use Rattle.range.proofs.bounds.check_bounds_at.Goals as goal

pub new-requires : goal.new-requires
new-requires g c = (omega arith, numbers-there _ c.requires.width c.requires.index_passes)

pub returns-in_default : goal.returns-in_default
returns-in_default g c = unscanned _ c.requires.width c.args.rows c.in_default.ensures.none

pub returns-in_default-block_outside : goal.returns-in_default-block_outside
returns-in_default-block_outside g c =
    let of = c.in-Some.ensures.some in
    scanned _ c.requires.width c.args.rows of.3 (rw (of.0, of.1, of.2) at c.in_default-block_outside.ensures)

pub scan_from-requires-clause-scannable : goal.scan_from-requires-clause-scannable
scan_from-requires-clause-scannable g c =
    let of = c.in-Some.ensures.some in
    scannable _ c.requires.width c.args.rows of.3 c.requires.index_passes (rw (of.0, of.1, of.2) at c.in-Some-block_outside.ensures)

pub returns-in-Some-scan_from : goal.returns-in-Some-scan_from
returns-in-Some-scan_from g c = scanned-through _ c.requires.width c.args.rows c.in-Some.ensures.some.3 c.in-Some-scan_from.ensures.some

pub returns-in-None : goal.returns-in-None
returns-in-None g c = scanned-all _ c.requires.width c.args.rows c.in-Some.ensures.some.3 c.in-None.ensures.none
