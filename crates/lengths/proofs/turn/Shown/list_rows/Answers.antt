-- A turn lists one row more.
use Rattle.lengths.proofs.Turns.{row_start, row_entries, entries-short, total-fits, listed-next}
use Rattle.lengths.proofs.turn.Shown.list_rows.Goals as goal

pub loop-t-preserved : goal.loop-t-preserved
loop-t-preserved g c =
    let start =
    row_start c.args.self.now.there c.requires.ready.there c.loop-t-test.true c.bit_in-valid.ensures c.requires.width c.number_at.ensures
    c.stretch_of-listed.ensures.start in
    let entries =
    row_entries c.args.self.now.there c.requires.ready.there c.loop-t-test.true c.bit_in-valid.ensures c.requires.width c.number_at.ensures
    c.stretch_of-listed.ensures.entries in
    listed-next c.loop-t.invariant c.loop-t-test.true c.requires.ready.room c.requires.ready.offsets_room start entries c.put_number_at.ensures

pub overflow_cast-lengths : goal.overflow_cast-lengths
overflow_cast-lengths g c = record {
  fits =
      entries-short c.args.self.now.there c.requires.ready.there c.loop-t-test.true c.bit_in-valid.ensures c.requires.width c.number_at.ensures
      c.stretch_of-listed.ensures.entries;
}

pub overflow_add-total : goal.overflow_add-total
overflow_add-total g c = record {
  fits =
      total-fits c.args.self.now.there c.requires.ready.there c.loop-t-test.true c.bit_in-valid.ensures c.requires.width c.number_at.ensures
      c.stretch_of-listed.ensures.entries c.loop-t.invariant.counted;
}
