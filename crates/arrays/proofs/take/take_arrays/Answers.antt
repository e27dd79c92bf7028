-- By what the tests answer, and for the blanked columns because their gather is the same.
use Rattle.std.proofs.lemmas.Result.{err_from_is_err_and}
use Rattle.arrays.proofs.Gathering.{both, turned-away, passed, all-stored}
use Rattle.arrays.proofs.take.take_arrays.Goals as goal

pub write-requires : goal.write-requires
write-requires c = passed _ _ _ c.check.ensures c.in_ok-check.was

pub returns : goal.returns
returns c =
    let w = c.write.ensures in
    both _ _ _ (all-stored _ _ _ c.check.ensures c.in_ok-check.was c.write.result w.told w.stored)

pub returns-in_err-check : goal.returns-in_err-check
returns-in_err-check c =
    let p = err_from_is_err_and c.from_residual.result c.from_residual.ensures.1 in
    rw (p.1, p.2) (both _ _ _ (turned-away _ _ _ c.check.ensures c.in_err-check.was))
