-- An index column that is tested, beside any column, may be scanned.
use Rattle.std.proofs.Common.{sym, ap}
use Rattle.tables.specs.Answers.{passes}
use Rattle.tables.proofs.Stages.{form-passed}
use Rattle.trials.proofs.scanned.Goals as goal

pub check_bounds-requires : goal.check_bounds-requires
check_bounds-requires c = (form-passed _ _ (ap passes (sym c.in-Ok.ensures))).1
