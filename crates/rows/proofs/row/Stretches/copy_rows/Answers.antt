-- The lowest bit that is left names the next valid row; the rows before it have no bytes.
use Rattle.std.proofs.Common.{◌∙◌, refl, sym, arith}
use Rattle.rows.proofs.Copying.{copied-none, next_there, copied_next, copied_all}
use Rattle.rows.proofs.row.Stretches.copy_rows.Goals as goal

pub loop-left-init : goal.loop-left-init
loop-left-init c = copied-none _ _ _ _

pub copy_row-at-requires : goal.copy_row-at-requires
copy_row-at-requires c =
    next_there c.args.self.now.there c.loop-left.invariant c.loop-left.auto.left-fits.fits c.loop-left-test.true (c.requires ∙ sym c.loop-left.auto.out_data)

pub loop-left-preserved : goal.loop-left-preserved
loop-left-preserved c =
    copied_next c.args.self.now.there c.loop-left.invariant c.loop-left.auto.left-fits.fits c.loop-left-test.true (c.requires ∙ sym c.loop-left.auto.out_data) refl
    c.copy_row-at.ensures.end c.copy_row-at.ensures.data

pub returns : goal.returns
returns c = copied_all c.args.self.now.there c.loop-left.invariant (omega arith) (c.requires ∙ sym c.loop-left.auto.out_data)
