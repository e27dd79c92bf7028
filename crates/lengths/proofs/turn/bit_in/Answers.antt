-- A shift and a mask leave the bit.
use Rattle.bits.proofs.Words.{bit_of-masked}
use Rattle.lengths.proofs.turn.bit_in.Goals as goal

pub returns : goal.returns
returns g c = bit_of-masked c.args.word c.args.i
