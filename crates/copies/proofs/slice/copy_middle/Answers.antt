-- The four meet, since there are no more bytes than they have.
use Rattle.copies.proofs.Pieces.{four}
use Rattle.copies.proofs.slice.copy_middle.Goals as goal
use Rattle.std.proofs.Common.{ℕ, List, ap, ◌∙◌, length, arith}
use Rattle.std.proofs.Math.Seq.{take-length}
use Rattle.bits.specs.Bytes.{overwrite}

pub returns : goal.returns
returns c =
    let s = c.args.src.now in
    four 16 _ (length s) s c.args.dst.now (c.requires.0, c.requires.1) (omega arith) (omega arith)
    c.copy_16.ensures c.copy_16-2.ensures c.copy_16-3.ensures c.copy_16-4.ensures
    ∙ ap (λ (t : List ℕ). overwrite t c.args.dst.now) (take-length s)
