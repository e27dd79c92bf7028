-- Each valid index names a block that is there, and an absent validity says that each is valid.
use Rattle.std.proofs.Common.{sym, ◌∙◌}
use Rattle.blocks.proofs.Blocks.{named-absent, blocks-absent}
use Rattle.fixed.proofs.Taking.{named, taken}
use Rattle.fixed.proofs.take.take_native.Goals as goal

pub all_by_width-requires : goal.all_by_width-requires
all_by_width-requires c =
    named-absent (named c.requires) (sym c.is_empty.ensures ∙ c.if-is_empty.true)

pub returns-then-is_empty : goal.returns-then-is_empty
returns-then-is_empty c =
    let p = c.requires in
    taken p (blocks-absent (named p) (sym c.is_empty.ensures ∙ c.if-is_empty.true) c.all_by_width.ensures)

pub valid_by_width-requires : goal.valid_by_width-requires
valid_by_width-requires c = named c.requires

pub returns : goal.returns
returns c = taken c.requires c.valid_by_width.ensures
