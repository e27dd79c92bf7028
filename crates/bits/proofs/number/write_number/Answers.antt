-- The first bytes of the number's eight.
use Rattle.std.proofs.Common.{ℕ, List, ap, ◌∙◌, arith}
use Rattle.bits.specs.Bytes.{part}
use Rattle.bits.specs.Routines.{overwrite_at}
use Rattle.bits.proofs.Numbers.{to_le_bytes-first}
use Rattle.bits.proofs.number.write_number.Goals as goal

pub returns : goal.returns
returns g c =
    let a = c.args in
    c.put_bytes.ensures
    ∙ ap (λ (e : List ℕ). overwrite_at a.p e a.buf.now)
    (c.bytes_at.ensures ∙ ap (part 0 g.row.N) c.to_le_bytes-word.ensures ∙ to_le_bytes-first g.row.N a.v (omega arith) c.ranges.v.fits)
