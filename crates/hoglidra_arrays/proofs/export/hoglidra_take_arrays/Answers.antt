-- A short answer slice stops it at once, else it is what `take_arrays` leaves.
use Rattle.hoglidra_arrays.proofs.Exports.{short-answer, long-answer}
use Rattle.hoglidra_arrays.proofs.export.hoglidra_take_arrays.Goals as goal

pub returns-then-answer-lt-ANSWER_BYTES : goal.returns-then-answer-lt-ANSWER_BYTES
returns-then-answer-lt-ANSWER_BYTES c = short-answer _ _ _ _ c.if-answer-lt-ANSWER_BYTES.true

pub returns : goal.returns
returns c = long-answer _ _ _ _ c.if-answer-lt-ANSWER_BYTES.false c.take_arrays-answered.ensures c.write_answered.ensures.number c.write_answered.ensures.written
