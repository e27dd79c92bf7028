-- A word is a number of 8 bytes.
use Rattle.std.proofs.Common.{sym, ◌∙◌}
use Rattle.bits.proofs.Numbers.{number_at-bytes}
use Rattle.descriptions.proofs.record.Record.word.Goals as goal

pub returns : goal.returns
returns c = c.read_number.ensures ∙ sym (number_at-bytes 8 _ _)
