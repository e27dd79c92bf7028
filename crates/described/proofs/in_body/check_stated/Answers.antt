-- The lengths that are stated are those of the buffers.
use Rattle.std.proofs.Common.{length, ap, ◌∙◌}
use Rattle.tables.specs.declared.table.Uses.{Uses}
use Rattle.tables.specs.Bodies.{some_cut}
use Rattle.described.proofs.Placed.{sizes-stated}
use Rattle.described.proofs.in_body.check_stated.Goals as goal

pub returns : goal.returns
returns c =
    let cut = c.some_cut-cut.ensures ∙ ap (λ (u : Uses). some_cut u (length c.args.body.now) c.args.d) c.uses_at.ensures in
    sizes-stated _ _ _ cut c.stated_lengths-lengths.ensures c.lengths.ensures c.check_sizes.ensures
