-- Four numbers, one after the other.
use Rattle.answers.proofs.Answers.{answer-written}
use Rattle.answers.proofs.answer.write_answer.Goals as goal

pub returns : goal.returns
returns c = answer-written _ c.args.out.now c.write_number.ensures c.write_number-2.ensures c.write_number-3.ensures c.write_number-4.ensures
