-- By what the tests answer, and for the blanked table because its gather is the same.
use Rattle.std.proofs.lemmas.Result.{err_from_is_err_and}
use Rattle.entries.proofs.Gathering.{both, turned-away, ready, overflow-passed, room, all-stored}
use Rattle.entries.proofs.take.take.Goals as goal

pub take_column-taken-requires : goal.take_column-taken-requires
take_column-taken-requires c =
    record {
      ready = ready _ _ _ c.check.ensures c.in_ok-check.was;
      no_overflow = overflow-passed _ _ _ c.check.ensures c.in_ok-check.was;
      has_room_for = room _ _ _ c.check.ensures c.in_ok-check.was;
    }

pub returns : goal.returns
returns c =
    let t = c.take_column-taken.ensures in
    both _ _ _ (all-stored _ _ _ c.check.ensures c.in_ok-check.was c.take_column-taken.result t.told t.stored)

pub returns-in_err-check : goal.returns-in_err-check
returns-in_err-check c =
    let p = err_from_is_err_and c.from_residual.result c.from_residual.ensures.1 in
    rw (p.1, p.2) (both _ _ _ (turned-away _ _ _ c.check.ensures c.in_err-check.was))
