-- An extent of some bytes that is not cut ends in the body.
use Rattle.std.proofs.Common.{◌≡◌, ◌+◌, ◌-◌, sym, arith}
use Rattle.tables.proofs.Bodies.{extent-empty, extent-part}
use Rattle.descriptions.proofs.body.buffer.Goals as goal

pub returns-then-extent-eq0 : goal.returns-then-extent-eq0
returns-then-extent-eq0 c = sym (extent-empty _ _ c.if-extent-eq0.true)

pub returns : goal.returns
returns c =
    let p = c.args.extent.start in
    let n = c.args.extent.len in
    let m : p + n - p ≡ n = omega arith in
    rw m (sym (extent-part _ _ c.requires c.if-extent-eq0.false))
