-- A turn is 32 bytes more. The last 32 bytes end the block, wherever the last turn left off.
use Rattle.std.proofs.Common.{rules, ◌≡◌, ◌+◌, ◌*◌, ◌-◌, List, ℕ, length, replicate, if◌then◌else◌, arith}
use Rattle.bits.proofs.Copies.{copied_all}
use Rattle.blocks.proofs.Sources.{length_long, long_place, long_last, long_more}
use Rattle.blocks.proofs.block.copy_long.Goals as goal
use Rattle.blocks.proofs.block.copy_long.Goals.{then-valid, else-valid}

pub loop-k-preserved : goal.loop-k-preserved
loop-k-preserved c =
    let a = c.args in
    let k = c.loop-k.k in
    let step : c.if-valid.step ≡ (if a.valid then 32 else 0) = elim c.if-valid.branch [ then-valid w ↦ search rules | else-valid w ↦ search rules ] in
    let next : (k + 1) * 32 ≡ k * 32 + 32 = omega arith in
    rw next (long_more a.valid a.n (k * 32) (k * c.if-valid.step) (k * 32) a.src.now a.dst.now c.requires.source (omega arith) (long_place a.valid k step)
    (omega arith) (omega arith) c.loop-k.invariant c.copy_block.ensures)

pub returns : goal.returns
returns c =
    let a = c.args in
    let e : List ℕ = if a.valid then a.src.now else replicate a.n 0 in
    let l : length e ≡ a.n = length_long a.valid a.n a.src.now c.requires.source in
    copied_all (a.n - 32 + 32) e a.dst.now (omega arith)
    (long_more a.valid a.n (a.n - 32) (length a.src.now - 32) (c.loop-k.k * 32) a.src.now a.dst.now c.requires.source (omega arith)
    (long_last a.valid a.n a.src.now c.requires.source) (omega arith) (omega arith) c.loop-k.invariant c.copy_block-2.ensures)
