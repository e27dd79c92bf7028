-- The first k times 32 bytes are written.
use Rattle.std.proofs.Common.{◌≡◌, ◌*◌, if◌then◌else◌, replicate, take}
use Rattle.bits.specs.Bytes.{overwrite}
use Rattle.blocks.proofs.block.copy_long.Given as goal

abbrev pub invariant-loop-k : goal.invariant-loop-k
invariant-loop-k l = l.dst ≡ overwrite (take (l.k * 32) (if l.valid then l.src else replicate l.n 0)) l.fn.dst
