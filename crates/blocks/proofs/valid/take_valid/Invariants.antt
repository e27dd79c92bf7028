-- The blocks of the first k bytes of the validity are written.
use Rattle.std.proofs.Common.{◌≡◌, ◌*◌}
use Rattle.bits.specs.Bytes.{overwrite}
use Rattle.blocks.specs.Blocked.{named_blocks}
use Rattle.blocks.proofs.valid.take_valid.Given as goal

abbrev pub invariant-loop-k : goal.invariant-loop-k
invariant-loop-k l = l.out_data ≡ overwrite (named_blocks l.n l.w (8 * l.k) l.index_data l.valid.bytes.now l.«data») l.fn.out_data
