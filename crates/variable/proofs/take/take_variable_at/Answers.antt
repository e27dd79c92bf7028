-- What is listed of a turn's rows says where their bytes are.
use Rattle.std.proofs.Common.{sym, ◌∙◌, arith}
use Rattle.variable.proofs.Reading.{shown-there}
use Rattle.variable.proofs.Writing.{offset-number-at, offset-inside, first-room, needed-small, needed-long, list-ready, part-small, part-there, part-long, rows-there, filled, taken-next, offsets-stored, data-stored}
use Rattle.variable.proofs.take.take_variable_at.Goals as goal

pub invariant_of-shown : goal.invariant_of-shown
invariant_of-shown g c = let p = c.requires.ready in record { there = shown-there p.ready p.layout p.shows c.requires.offset_width }

pub number_at-requires-clause-width : goal.number_at-requires-clause-width
number_at-requires-clause-width g c = offset-number-at c.requires.ready c.requires.offset_width

pub number_at-requires-clause-there : goal.number_at-requires-clause-there
number_at-requires-clause-there g c = offset-inside c.requires.ready c.requires.offset_width _ (omega arith)

pub overflow_mul-needed : goal.overflow_mul-needed
overflow_mul-needed g c = omega (arith, needed-small c.requires.ready c.requires.offset_width c.number_at.ensures)

pub slice_bounds-data-end : goal.slice_bounds-data-end
slice_bounds-data-end g c = sym (needed-long c.requires.ready c.requires.offset_width c.number_at.ensures)

pub put_number_at-requires-clause-width : goal.put_number_at-requires-clause-width
put_number_at-requires-clause-width g c = offset-number-at c.requires.ready c.requires.offset_width

pub put_number_at-requires-clause-there : goal.put_number_at-requires-clause-there
put_number_at-requires-clause-there g c = first-room c.requires.ready c.requires.offset_width

pub list_turn-after-requires : goal.list_turn-after-requires
list_turn-after-requires g c =
    let at = c.loop-k in (
      omega arith,
      list-ready c.requires.ready c.requires.offset_width c.turn_at-turn.ensures at.invariant.taken at.invariant.lists.0 at.invariant.lists.1
          (at.auto.out_offsets ∙ c.put_number_at.auto.buf),
    )

pub invariant_of-stretches : goal.invariant_of-stretches
invariant_of-stretches g c =
    let at = c.loop-k in
    record {
      there =
          rows-there c.requires.ready c.requires.offset_width c.turn_at-turn.ensures at.invariant.taken c.list_turn-after.ensures c.number_at.ensures
          (c.list_turn-after.auto.starts ∙ at.invariant.lists.0) (c.list_turn-after.auto.lengths ∙ at.invariant.lists.1);
    }

pub overflow_mul-after : goal.overflow_mul-after
overflow_mul-after g c =
    record { fits = part-small c.requires.ready c.requires.offset_width c.turn_at-turn.ensures c.loop-k.invariant.taken c.list_turn-after.ensures }

pub slice_bounds-copy_rows-count : goal.slice_bounds-copy_rows-count
slice_bounds-copy_rows-count g c =
    (part-there c.requires.ready c.requires.offset_width c.turn_at-turn.ensures c.loop-k.invariant.taken c.list_turn-after.ensures c.loop-k.auto.out_data).0

pub slice_bounds-copy_rows-start : goal.slice_bounds-copy_rows-start
slice_bounds-copy_rows-start g c =
    let h = part-there c.requires.ready c.requires.offset_width c.turn_at-turn.ensures c.loop-k.invariant.taken c.list_turn-after.ensures c.loop-k.auto.out_data in
    omega (arith, h)

pub slice_bounds-copy_rows-end : goal.slice_bounds-copy_rows-end
slice_bounds-copy_rows-end g c =
    let h = part-there c.requires.ready c.requires.offset_width c.turn_at-turn.ensures c.loop-k.invariant.taken c.list_turn-after.ensures c.loop-k.auto.out_data in
    omega (arith, h)

pub copy_rows-requires : goal.copy_rows-requires
copy_rows-requires g c =
    let at = c.loop-k in
    filled c.requires.ready c.requires.offset_width c.turn_at-turn.ensures at.invariant.taken c.list_turn-after.ensures c.number_at.ensures
    ∙ sym (part-long c.requires.ready c.requires.offset_width c.turn_at-turn.ensures at.invariant.taken c.list_turn-after.ensures at.auto.out_data)

pub loop-k-preserved : goal.loop-k-preserved
loop-k-preserved g c =
    let at = c.loop-k in
    let long = part-long c.requires.ready c.requires.offset_width c.turn_at-turn.ensures at.invariant.taken c.list_turn-after.ensures at.auto.out_data in
    record {
      taken =
          taken-next c.requires.ready c.requires.offset_width c.turn_at-turn.ensures at.invariant.taken c.list_turn-after.ensures c.number_at.ensures
          (c.copy_rows.auto.out_data ∙ long) c.copy_rows.ensures;
      lists = (c.list_turn-after.auto.starts ∙ at.invariant.lists.0, c.list_turn-after.auto.lengths ∙ at.invariant.lists.1);
    }

pub returns-clause-offsets_stored : goal.returns-clause-offsets_stored
returns-clause-offsets_stored g c = offsets-stored c.requires.ready c.requires.offset_width _ (omega arith) c.loop-k.invariant.taken

pub returns-clause-data_stored : goal.returns-clause-data_stored
returns-clause-data_stored g c = data-stored c.requires.ready c.requires.offset_width _ (omega arith) c.loop-k.invariant.taken
