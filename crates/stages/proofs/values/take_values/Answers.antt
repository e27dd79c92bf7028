-- Each arm by the kind that led to it.
use Rattle.std.proofs.Common.{refl, sym}
use Rattle.tables.proofs.Stages.{layout-told}
use Rattle.bitmaps.proofs.Reading.{no-bits}
use Rattle.gathers.proofs.Lengths.{offsets-of-blocks, offsets-of-bits}
use Rattle.stages.proofs.Routines.{unknown-refused, ready-count, blocked, blocks-stored, data-held, bits-room, bits-stored}
use Rattle.stages.proofs.values.take_values.Goals as goal

pub shown-valid-requires : goal.shown-valid-requires
shown-valid-requires c = (ready-count _ _ c.requires.ready, c.requires.validates.there)

pub take_native-requires : goal.take_native-requires
take_native-requires c =
    let p = c.requires in
    blocked _ _ p.ready p.validates p.nulls c.shown-valid.ensures _ (layout-told _ c.in-Primitive.ensures refl) p.has_room.1

pub returns-in-Primitive : goal.returns-in-Primitive
returns-in-Primitive c =
    let p = c.requires in
    let e = layout-told _ c.in-Primitive.ensures refl in
    record {
      offsets_stored = sym (offsets-of-blocks _ _ _ _ e);
      data_stored = blocks-stored _ _ p.ready p.validates p.nulls c.shown-valid.ensures _ e _ c.take_native.ensures;
    }

pub invariant_of-values : goal.invariant_of-values
invariant_of-values c = record { held = λ _. data-held _ _ c.requires.ready (layout-told _ c.in-Boolean.ensures refl) }

pub take_boolean-requires-clause-some : goal.take_boolean-requires-clause-some
take_boolean-requires-clause-some c = no-bits _ (data-held _ _ c.requires.ready (layout-told _ c.in-Boolean.ensures refl))

pub take_boolean-requires-clause-room : goal.take_boolean-requires-clause-room
take_boolean-requires-clause-room c = bits-room _ _ (layout-told _ c.in-Boolean.ensures refl) c.requires.has_room.1

pub returns-in-Boolean : goal.returns-in-Boolean
returns-in-Boolean c =
    let p = c.requires in
    let e = layout-told _ c.in-Boolean.ensures refl in
    record {
      offsets_stored = sym (offsets-of-bits _ _ _ e);
      data_stored = bits-stored _ _ p.ready p.validates p.nulls c.shown-valid.ensures e _ c.take_boolean.ensures;
    }

pub take_bytes-requires : goal.take_bytes-requires
take_bytes-requires c =
    let p = c.requires in
    record { ready = p.ready; layout = layout-told _ c.in-VariableBytes.ensures refl; shows = p.validates; room = p.has_room }

pub take_list-requires : goal.take_list-requires
take_list-requires c =
    let p = c.requires in
    record { ready = p.ready; layout = layout-told _ c.in-List.ensures refl; shows = p.validates; room = p.has_room }

pub take_fixed_size_list_primitive-requires : goal.take_fixed_size_list_primitive-requires
take_fixed_size_list_primitive-requires c =
    let p = c.requires in
    blocked _ _ p.ready p.validates p.nulls c.shown-valid.ensures _ (layout-told _ c.in-FixedSizeList.ensures refl) p.has_room.1

pub returns-in-FixedSizeList : goal.returns-in-FixedSizeList
returns-in-FixedSizeList c =
    let p = c.requires in
    let e = layout-told _ c.in-FixedSizeList.ensures refl in
    record {
      offsets_stored = sym (offsets-of-blocks _ _ _ _ e);
      data_stored = blocks-stored _ _ p.ready p.validates p.nulls c.shown-valid.ensures _ e _ c.take_fixed_size_list_primitive.ensures;
    }

pub take_fixed_size_binary-requires : goal.take_fixed_size_binary-requires
take_fixed_size_binary-requires c =
    let p = c.requires in
    blocked _ _ p.ready p.validates p.nulls c.shown-valid.ensures _ (layout-told _ c.in-FixedSizeBinary.ensures refl) p.has_room.1

pub returns-in-FixedSizeBinary : goal.returns-in-FixedSizeBinary
returns-in-FixedSizeBinary c =
    let p = c.requires in
    let e = layout-told _ c.in-FixedSizeBinary.ensures refl in
    record {
      offsets_stored = sym (offsets-of-blocks _ _ _ _ e);
      data_stored = blocks-stored _ _ p.ready p.validates p.nulls c.shown-valid.ensures _ e _ c.take_fixed_size_binary.ensures;
    }

pub unreachable-requires : goal.unreachable-requires
unreachable-requires c = unknown-refused _ c.requires.ready.column c.in-Unknown.ensures
