-- The first of 32 zeros are as many zeros.
use Rattle.std.proofs.lemmas.List.{take-replicate}
use Rattle.blocks.proofs.zeros.Zeros.first.Goals as goal

pub returns : goal.returns
returns c = rw (c.args.self.are_zeros) (take-replicate c.args.m 32 0 c.requires)
