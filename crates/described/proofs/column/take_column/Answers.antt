-- What is written is what the routines write, and the last offset tells how far.
use Rattle.std.proofs.Common.{refl, ◌∙◌}
use Rattle.gathers.specs.Stored.{output_at}
use Rattle.tables.proofs.Stages.{layout-told}
use Rattle.gathers.proofs.Buffers.{validates}
use Rattle.stages.proofs.Routines.{ready-row-fits, ready-count, validity-held, validity-stored, nulls-counted}
use Rattle.stages.proofs.Spaces.{rows_fit, bounds-told}
use Rattle.described.proofs.Columns.{room-by-layout, data-told, offsets-in, taken-told, all-stored}
use Rattle.described.proofs.column.take_column.Goals as goal

pub invariant_of-validity : goal.invariant_of-validity
invariant_of-validity c = record { held = validity-held _ _ c.requires.ready }

pub take_values-requires-clause-has_room : goal.take_values-requires-clause-has_room
take_values-requires-clause-has_room c =
    room-by-layout _ _ (output_at c.args.out_validity.now c.args.out_offsets.now c.args.out_data.now) c.requires.has_room_for

pub take_values-requires-clause-nulls : goal.take_values-requires-clause-nulls
take_values-requires-clause-nulls c = nulls-counted _ _ c.requires.ready c.take_nulls-nulls.ensures.nulls

pub take_values-requires-clause-validates : goal.take_values-requires-clause-validates
take_values-requires-clause-validates c = validates _ _ _ _ c.requires.has_room_for.validity c.take_nulls-nulls.ensures.validity_stored

pub layout_at-requires : goal.layout_at-requires
layout_at-requires c = ready-row-fits _ _ c.requires.ready refl

pub data_written-written-requires : goal.data_written-written-requires
data_written-written-requires c =
    let l = layout-told _ refl c.layout_at.ensures in
    offsets-in _ _ c.requires.ready c.requires.no_overflow _ c.take_values.ensures.offsets_stored l (room-by-layout _ _ (output_at c.args.out_validity.now c.args.out_offsets.now c.args.out_data.now) c.requires.has_room_for).0

pub needed_lengths-needed-requires : goal.needed_lengths-needed-requires
needed_lengths-needed-requires c =
    let r = c.requires.ready in
    record { row_fits = rows_fit _ r.column; bounds = bounds-told _ r.column; few = ready-count _ _ r }

pub returns : goal.returns
returns c =
    let r = c.requires.ready in
    let n = c.take_nulls-nulls.ensures in
    let d = c.take_values.ensures in
    let l = layout-told _ refl c.layout_at.ensures in
    record {
      told = taken-told _ _ (nulls-counted _ _ r n.nulls) c.needed_lengths-needed.ensures (c.data_written-written.ensures ∙ data-told _ _ r c.requires.no_overflow _ d.offsets_stored l);
      stored = all-stored _ _ _ (validity-stored _ _ r _ n.validity_stored) d.offsets_stored d.data_stored;
    }
