-- The rows are word 4.
use Rattle.std.proofs.Common.{◌*◌, ap, ◌∙◌}
use Rattle.std.proofs.lemmas.List.{take_rest}
use Rattle.tables.specs.declared.table.Description.{Description}
use Rattle.tables.proofs.Bodies.{described-part}
use Rattle.descriptions.proofs.record.rows_at.Goals as goal

pub returns : goal.returns
returns c =
    let s = c.args.descriptions.now in
    rw (take_rest s (c.args.i * 104)) at c.word.ensures ∙ ap (λ (d : Description). d.table.rows) (described-part s c.args.i)
