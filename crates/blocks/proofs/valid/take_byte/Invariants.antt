-- The first t blocks are written.
use Rattle.std.proofs.Common.{◌≡◌, ◌+◌, ◌*◌}
use Rattle.bits.specs.Sequences.{concat}
use Rattle.bits.specs.Routines.{overwrite_at}
use Rattle.blocks.specs.Blocked.{named_block}
use Rattle.blocks.proofs.valid.take_byte.Given as goal

abbrev pub invariant-loop-t : goal.invariant-loop-t
invariant-loop-t l = l.out_data ≡ overwrite_at (8 * l.k * l.n)
    (concat l.t (λ i. named_block l.n l.w l.index_data l.valid.bytes.now l.«data» (8 * l.k + i))) l.fn.out_data
