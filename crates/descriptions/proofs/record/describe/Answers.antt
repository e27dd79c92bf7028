-- A record's words follow its start.
use Rattle.std.proofs.Common.{◌*◌, ◌∙◌}
use Rattle.std.proofs.lemmas.List.{take_rest}
use Rattle.tables.proofs.Bodies.{described-part}
use Rattle.descriptions.proofs.record.describe.Goals as goal

pub returns : goal.returns
returns c = rw (take_rest c.args.descriptions.now (c.args.i * 104)) at c.description.ensures ∙ described-part _ _
