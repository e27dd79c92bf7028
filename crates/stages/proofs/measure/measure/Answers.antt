-- Each arm by the layout that led to it.
use Rattle.std.proofs.Common.{◌≡◌, refl, arith}
use Rattle.bits.specs.Bits.{bytes_for}
use Rattle.tables.proofs.Stages.{layout-told}
use Rattle.gathers.proofs.Lengths.{blocks-measured, bits-measured}
use Rattle.stages.proofs.Routines.{ready-row-fits, ready-bytes}
use Rattle.stages.proofs.measure.measure.Goals as goal

pub layout_at-requires : goal.layout_at-requires
layout_at-requires c = ready-row-fits _ _ c.requires refl

pub overflow_mul-result : goal.overflow_mul-result
overflow_mul-result c = omega (arith, ready-bytes _ _ c.requires _ (layout-told _ refl c.in-FixedWidth.ensures))

pub measure_variable-requires-clause-layout : goal.measure_variable-requires-clause-layout
measure_variable-requires-clause-layout c = layout-told _ refl c.in-VariableWidth.ensures

pub returns-in-FixedWidth : goal.returns-in-FixedWidth
returns-in-FixedWidth c = blocks-measured _ _ _ (layout-told _ refl c.in-FixedWidth.ensures)

pub returns-in-BitMap : goal.returns-in-BitMap
returns-in-BitMap c =
    let e : c.div_ceil.result ≡ bytes_for c.args.indices.now.indices.count = omega arith in
    rw e (bits-measured _ _ (layout-told _ refl c.in-BitMap.ensures))
