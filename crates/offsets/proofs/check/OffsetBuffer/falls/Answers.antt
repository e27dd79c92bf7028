-- Where a turn finds a fall, some offset falls.
use Rattle.std.proofs.Common.{◌≡◌, ℕ, ◌+◌, ◌*◌, sym, ◌∙◌, arith}
use borrow.Author.Tests.{lt-ltb}
use Rattle.bits.specs.Numbers.{number_at}
use Rattle.tables.proofs.Scans.{falls-found, falls-not, one-test}
use Rattle.offsets.proofs.check.OffsetBuffer.falls.Goals as goal

pub returns-then-falls_in_turn : goal.returns-then-falls_in_turn
returns-then-falls_in_turn g c =
    let b = c.args.self.now in
    let l = c.loop-turn in
    sym (falls-found (number_at g.row.W b.bytes.now) (l.turn * 16) 16 l.invariant b.rows (omega arith) (sym c.falls_in_turn.ensures ∙ c.if-falls_in_turn.true))

pub loop-turn-preserved : goal.loop-turn-preserved
loop-turn-preserved g c =
    let l = c.loop-turn in
    let e : (l.turn + 1) * 16 ≡ l.turn * 16 + 16 = omega arith in
    rw e (falls-not (number_at g.row.W c.args.self.now.bytes.now) (l.turn * 16) 16 l.invariant (sym c.falls_in_turn.ensures ∙ c.if-falls_in_turn.false))

pub returns-then-offset_at : goal.returns-then-offset_at
returns-then-offset_at g c =
    let b = c.args.self.now in
    let l = c.loop-i in
    let o : ℕ → ℕ = number_at g.row.W b.bytes.now in
    sym (falls-found o l.i 1 l.invariant b.rows (omega arith) (one-test o l.i c.offset_at-in-loop-i.ensures c.offset_at.ensures (lt-ltb _ _ c.if-offset_at.true)))
