-- Where no offset falls and the last is at most H, none is bad; else the first that is bad is looked for.
use Rattle.std.proofs.Common.{suc, sym, ◌∙◌, below_more, arith}
use Rattle.bits.specs.Numbers.{number_at}
use Rattle.tables.specs.Refusals.{is_bad}
use Rattle.bits.proofs.Sequences.{first-none}
use Rattle.tables.proofs.Scans.{floor-next, all-good, bad-test}
use Rattle.offsets.proofs.Found.{found-at, found-none}
use Rattle.offsets.proofs.check.OffsetBuffer.first_bad.Goals as goal

pub returns-then-offset_at-most : goal.returns-then-offset_at-most
returns-then-offset_at-most g c =
    let b = c.args.self.now in
    let p = is_bad g.row.W (number_at g.row.W b.bytes.now) c.args.most in
    found-none (suc b.rows) p (all-good g.row.W b.bytes.now c.args.most b.rows b.held.width c.requires (sym c.falls.ensures ∙ c.if-not-falls.true) (omega arith))

pub returns-then-offset-before : goal.returns-then-offset-before
returns-then-offset-before g c =
    let b = c.args.self.now in
    let l = c.loop-i in
    let t = bad-test g.row.W b.bytes.now c.args.most l.i b.held.width c.requires l.invariant.floor_is c.offset_at-offset.ensures c.if-offset-before.true in
    found-at (suc b.rows) (is_bad g.row.W (number_at g.row.W b.bytes.now) c.args.most) l.i (omega arith) t l.invariant.none_bad

pub loop-i-preserved : goal.loop-i-preserved
loop-i-preserved g c =
    let b = c.args.self.now in
    let l = c.loop-i in
    let e = c.offset_at-offset.ensures in
    let t = bad-test g.row.W b.bytes.now c.args.most l.i b.held.width c.requires l.invariant.floor_is e c.if-offset-before.false in
    record { floor_is = e ∙ sym (floor-next g.row.W b.bytes.now l.i); none_bad = below_more _ _ l.invariant.none_bad t }

pub returns-else-offset-before : goal.returns-else-offset-before
returns-else-offset-before g c =
    let b = c.args.self.now in
    let l = c.loop-i in
    let p = is_bad g.row.W (number_at g.row.W b.bytes.now) c.args.most in
    let t = bad-test g.row.W b.bytes.now c.args.most l.i b.held.width c.requires l.invariant.floor_is c.offset_at-offset.ensures c.if-offset-before.false in
    found-none (suc b.rows) p (first-none (suc b.rows) p (λ k h. below_more _ _ l.invariant.none_bad t k (omega arith)))
