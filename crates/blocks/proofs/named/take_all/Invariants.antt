-- The first j blocks are copied.
use Rattle.std.proofs.Common.{◌≡◌, []}
use Rattle.bits.specs.Bytes.{overwrite}
use Rattle.blocks.specs.Blocked.{named_blocks}
use Rattle.blocks.proofs.named.take_all.Given as goal

abbrev pub invariant-loop-j : goal.invariant-loop-j
invariant-loop-j l = l.out_data ≡ overwrite (named_blocks l.n l.w l.j l.index_data [] l.«data») l.fn.out_data
