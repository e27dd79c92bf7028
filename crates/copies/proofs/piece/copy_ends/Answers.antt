-- The bytes at both ends are all, since there are no more than twice as many.
use Rattle.std.proofs.Common.{arith}
use Rattle.copies.proofs.Pieces.{ends}
use Rattle.copies.proofs.piece.copy_ends.Goals as goal

pub returns : goal.returns
returns g c =
    let a = c.args in
    ends g.row.W a.p a.n a.src.now a.dst.now c.requires.width c.requires.there.0 (omega (arith, c.requires.there))
    c.bytes_at-x.ensures c.bytes_at-y.ensures c.put_bytes.ensures c.put_bytes-2.ensures
