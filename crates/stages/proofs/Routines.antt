-- What a column and an index column that passed refusals 1 to 5 give to the routine of each kind, and what the routine then has written. Assumes nothing.
use mathlib.Core.Path.{◌≡◌, refl, sym, ◌∙◌}
use mathlib.Core.Bool.{false, cond, not, ◌&&◌, true≢false}
use mathlib.Core.List.{List, []}
use Prim.Native.Nat.{ℕ, ◌+◌, ◌*◌, ◌≤◌}
use native.Mathlib.Nat.{mul-le-mul}
use native.Mathlib.Omega.{arith}
use lib.Dec.{eqb, ltb}
use lib.ListN.{length}
use borrow.Author.Tests.{ltb-false}
use Rattle.bits.specs.Sequences.{concat, sum}
use Rattle.bits.specs.Bytes.{part, overwrite}
use Rattle.bits.specs.Bits.{bit_value, bytes_for, pack, is_absent, valid_at}
use Rattle.tables.specs.declared.table.Kind.{Kind}
use Rattle.tables.specs.declared.table.Kind.TheVariants.{Unknown}
use Rattle.tables.specs.declared.table.Layout.TheVariants.{FixedWidth, BitMap}
use Rattle.tables.specs.Kinds.{kind_of}
use Rattle.tables.specs.Columns.{Column, IndexColumn, kind_at, layout_at, index}
use Rattle.tables.specs.Refusals.{max_rows, max_bytes, max_bit, WellFormed}
use Rattle.tables.specs.Bounds.{max_block, RowFits, Bounds}
use Rattle.tables.specs.Rows.{Rows, rows_of}
use Rattle.gathers.specs.Taken.{take_rows}
use Rattle.gathers.specs.Stored.{validity_bytes, data_bytes, data_length, null_count}
use Rattle.gathers.specs.Ready.{InRange, Ready}
use Rattle.gathers.specs.Buffers.{taken_bit, taken_bit_valid, Validates, taken_block, PicksValid}
use Rattle.bitmaps.specs.Reach.{HoldsBits}
use Rattle.fixed.specs.Blocked.{Blocked}
use Rattle.bits.proofs.Tests.{or-false}
use Rattle.bits.proofs.Bytes.{block_inside}
use Rattle.tables.proofs.Bounds.{fits-at}
use Rattle.tables.proofs.Facts.{Formed, formed, IndexFormed, index-formed}
use Rattle.tables.proofs.Stages.{sized-row-fits, sized-bounds, well-formed-sized}
use Rattle.tables.proofs.Views.{kind_at-number}
use Rattle.gathers.proofs.Buffers.{valid-below, validity-by-buffer, nulls-by-buffer, blocks-by-buffer, bits-by-buffer, picks_by, picks-in-range, picks-written, picks-mask}
use Rattle.gathers.proofs.Lengths.{blocks-length, bits-length}

-- refusal 1 let pass, so the kind is known
pub unknown-refused : (c : Column) → WellFormed c → Unknown ≡ kind_of c.table.kind → ⊥
unknown-refused c w e = true≢false (rw (kind_at-number c ∙ sym e) at (formed c w).good_kind)

-- the room that bits need
pub bits-room : (c : Column) (x : IndexColumn) → layout_at c ≡ BitMap → {room : ℕ} → data_length (layout_at c) (take_rows (rows_of c) x) ≤ room
    → bytes_for x.indices.count ≤ room
bits-room c x e room = rw (bits-length c x e) at room

module _ (c : Column) (x : IndexColumn) (r : Ready c x) where
  pub ready-row-fits : {k : Kind} → k ≡ kind_of c.table.kind → RowFits k c.table
  ready-row-fits = sized-row-fits c (well-formed-sized c r.column)

  ready-bounds : Bounds (layout_at c) c.table
  ready-bounds = sized-bounds c (well-formed-sized c r.column)

  ready-indices : IndexFormed x
  ready-indices = index-formed x r.indices.passed

  pub ready-count : x.indices.count ≤ max_rows
  ready-count = ready-indices.count

  ready-block : (n : ℕ) → layout_at c ≡ FixedWidth n → n ≤ max_block
  ready-block n e = fits-at ready-bounds e

  -- the products and sums that the measure makes
  pub ready-bytes : (n : ℕ) → layout_at c ≡ FixedWidth n → x.indices.count * n ≤ max_rows * max_block
  ready-bytes n e = mul-le-mul ready-count (ready-block n e)

  -- the taken rows
  abbrev v : Rows
  v = take_rows (rows_of c) x

  abbrev facts : Formed (kind_at c) (layout_at c) c
  facts = formed c r.column

  -- ---- validity

  pub validity-held : is_absent c.validity ≡ false → HoldsBits c.table.validity_bit c.table.rows c.validity
  validity-held present =
      let v = c.validity in
      let small : length v ≤ max_bytes =
      ltb-false max_bytes (length v) (or-false (ltb max_bytes (length v)) (not (is_absent v) && ltb max_bit c.table.validity_bit) facts.validity_limit).0 in
      let there : bytes_for (c.table.validity_bit + c.table.rows) ≤ length v =
      ltb-false (length v) (bytes_for (c.table.validity_bit + c.table.rows)) (rw present at facts.validity_fits) in
      record { small = omega (arith, small, there); there = there }

  pub validity-stored : (s : List ℕ) {t : List ℕ} → t ≡ overwrite (pack x.indices.count (taken_bit_valid c.validity c.table.validity_bit x)) s
      → t ≡ overwrite (validity_bytes v) s
  validity-stored s h = rw (validity-by-buffer c x) h

  pub nulls-counted : {n : ℕ} → n ≡ sum x.indices.count (λ j. bit_value (not (taken_bit_valid c.validity c.table.validity_bit x j))) → n ≡ null_count v
  nulls-counted h = h ∙ sym (nulls-by-buffer c x)

  -- the bits of a column of them
  module _ (bits : layout_at c ≡ BitMap) where
    pub data-held : HoldsBits c.table.data_bit c.table.rows c.«data»
    data-held =
        let there : bytes_for (c.table.data_bit + c.table.rows) ≤ length c.«data» =
        ltb-false (length c.«data») (bytes_for (c.table.data_bit + c.table.rows)) (rw bits at facts.data_fit) in
        record { small = omega (arith, facts.«data», there); there = there }

  -- ---- values, gathered by the validity that was written

  -- what of it is shown to the routines picks the valid output rows
  module _ {s t : List ℕ} (d : Validates c.validity c.table.validity_bit x s) {nulls : ℕ} (counted : nulls ≡ null_count v)
      (shown : t ≡ cond (eqb nulls 0) [] (part 0 (bytes_for x.indices.count) s)) where
    abbrev y : IndexColumn
    y = picks_by x t

    picked : PicksValid c.validity c.table.validity_bit x y
    picked = rw shown (picks-written ready-indices d (counted ∙ nulls-by-buffer c x))

    picked-range : InRange c.table.rows y
    picked-range = picks-in-range picked c.table.rows r.indices

    -- ---- blocks

    module _ (n : ℕ) (e : layout_at c ≡ FixedWidth n) where
      pub blocked : {out : List ℕ} → data_length (layout_at c) v ≤ length out → Blocked n y c.«data» out
      blocked room =
          let there : c.table.rows * n ≤ length c.«data» = ltb-false (length c.«data») (c.table.rows * n) (rw e at facts.data_fit) in
          record {
            passed = picked.passed;
            first = refl;
            size = ready-block n e;
            there = λ j h g. omega (arith, block_inside (index y j) c.table.rows n (valid-below c.table.rows y picked-range j h g), there);
            room = rw (blocks-length c x n e) at room;
          }

      pub blocks-stored : (s : List ℕ) {d : List ℕ} → d ≡ overwrite (concat x.indices.count (taken_block n c.«data» y)) s → d ≡ overwrite (data_bytes (layout_at c) v) s
      blocks-stored s h = rw (blocks-by-buffer c x picked n e) h

    -- ---- bits

    module _ (e : layout_at c ≡ BitMap) where
      pub bits-stored : (s : List ℕ) {d : List ℕ} → d ≡ overwrite (pack x.indices.count (λ j. taken_bit c.«data» c.table.data_bit x j && valid_at t 0 j)) s
          → d ≡ overwrite (data_bytes (layout_at c) v) s
      bits-stored s h = rw (bits-by-buffer c x t (picks-mask x t picked) e) h
