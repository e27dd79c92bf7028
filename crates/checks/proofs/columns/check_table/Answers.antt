-- With no indices, what is refused is the column.
use Rattle.std.proofs.Common.{◌∙◌}
use Rattle.tables.proofs.Stages.{form-alone}
use Rattle.checks.proofs.columns.check_table.Goals as goal

pub returns : goal.returns
returns c = (rw c.none.ensures at c.check_columns.ensures) ∙ form-alone _
