-- The first column is tested with the indices, and the others with none, for their range is known.
use Rattle.described.proofs.Placed.{tested_one}
use Rattle.arrays.proofs.check.check_next.Goals as goal

pub check_described-requires : goal.check_described-requires
check_described-requires c = tested_one c.args.first c.requires c.tested.ensures
