-- The column of the parts is the column that the body holds.
use Rattle.std.proofs.Common.{sym, ap, subst, ◌∙◌}
use Rattle.tables.specs.Columns.{Column, index_column_of}
use Rattle.gathers.specs.Taken.{taken}
use Rattle.gathers.specs.Stored.{output_at, store}
use Rattle.gathers.specs.Ready.{Ready, NoOverflow}
use Rattle.described.specs.Taken.{taken_of, HasRoomFor}
use Rattle.described.proofs.Placed.{well-formed-whole}
use Rattle.described.proofs.in_body.take_described.Goals as goal

pub column_in-column-requires : goal.column_in-column-requires
column_in-column-requires c = well-formed-whole _ c.requires.ready.column

pub take_column-requires : goal.take_column-requires
take_column-requires c =
    let x = index_column_of c.args.indices.now in
    let o = output_at c.args.out_validity.now c.args.out_offsets.now c.args.out_data.now in
    let e = sym c.column_in-column.ensures in
    record {
      ready = subst (λ (b : Column). Ready b x) e c.requires.ready;
      no_overflow = subst (λ (b : Column). NoOverflow b x) e c.requires.no_overflow;
      has_room_for = subst (λ (b : Column). HasRoomFor (taken b x) o) e c.requires.has_room_for;
    }

pub returns : goal.returns
returns c =
    let x = index_column_of c.args.indices.now in
    let o = output_at c.args.out_validity.now c.args.out_offsets.now c.args.out_data.now in
    let e = c.column_in-column.ensures in
    let t = c.take_column.ensures in
    record { told = t.told ∙ ap (λ (b : Column). taken_of (taken b x)) e; stored = t.stored ∙ ap (λ (b : Column). store (taken b x) o) e }
