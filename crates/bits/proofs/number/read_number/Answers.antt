-- Zeros above the bytes change no number.
use Rattle.std.proofs.Common.{ℕ, List, replicate, ap, ◌∙◌, arith}
use Rattle.bits.specs.Bytes.{part}
use Rattle.bits.specs.Routines.{overwrite_at}
use Rattle.bits.proofs.Bytes.{length_part}
use Rattle.bits.proofs.Numbers.{little_endian-padded}
use Rattle.bits.proofs.number.read_number.Goals as goal

pub returns : goal.returns
returns g c =
    let a = c.args in
    little_endian-padded (part a.p g.row.N a.buf.now) (omega (arith, length_part a.p g.row.N a.buf.now (omega arith)))
    (c.put_bytes.ensures ∙ ap (λ (e : List ℕ). overwrite_at 0 e (replicate 8 0)) c.bytes_at.ensures)
    c.from_le_bytes.ensures
