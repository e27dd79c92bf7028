-- The ones of a word, shifted down.
use Rattle.bits.proofs.Words.{bit_of-ones-shifted}
use Rattle.bitmaps.proofs.bit.ones.Goals as goal

pub returns : goal.returns
returns c = bit_of-ones-shifted 32 c.args.n c.requires.1
