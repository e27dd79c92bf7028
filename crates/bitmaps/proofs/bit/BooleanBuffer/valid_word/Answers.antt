-- Ones where no buffer is there, and else its bits.
use Rattle.std.proofs.Common.{sym, ◌∙◌}
use Rattle.bitmaps.proofs.Reading.{absent_word, present_word}
use Rattle.bitmaps.proofs.bit.BooleanBuffer.valid_word.Goals as goal

pub returns-then-is_empty : goal.returns-then-is_empty
returns-then-is_empty c =
    let a = c.args in
    absent_word a.self.now.values.now a.self.now.offset a.p a.n _ (sym c.is_empty.ensures ∙ c.if-is_empty.true) c.ones.ensures

pub returns : goal.returns
returns c =
    let a = c.args in
    present_word a.self.now.values.now a.self.now.offset a.p a.n _ (sym c.is_empty.ensures ∙ c.if-is_empty.false) c.word_at.ensures
