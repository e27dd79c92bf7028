-- The tail of the output from the row's place on is lent to the copy.
use Rattle.std.proofs.Common.{refl}
use Rattle.rows.proofs.Copying.{row_written}
use Rattle.rows.proofs.row.Stretches.copy_row.Goals as goal

pub returns-clause-data : goal.returns-clause-data
returns-clause-data c = row_written c.requires c.args.out_data.now refl c.copy_front.ensures
