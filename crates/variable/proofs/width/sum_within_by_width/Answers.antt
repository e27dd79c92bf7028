-- Where the sum is not above the limit no total on the way is.
use Rattle.std.proofs.Common.{arith}
use Rattle.lengths.proofs.Running.{sum-within}
use Rattle.variable.proofs.width.sum_within_by_width.Goals as goal

pub returns-then-sum-most : goal.returns-then-sum-most
returns-then-sum-most c = sum-within _ _ _ c.sum_by_width-sum.ensures (omega arith)
