-- What the tests and the writing of one column tell (specs/Told.antt, specs/Taken.antt), by what the stages below answer. Assumes nothing.
use mathlib.Core.Path.{◌≡◌, sym, ap, ◌∙◌, subst}
use mathlib.Core.Bool.{true, false}
use mathlib.Core.Logic.{inl, inr}
use mathlib.Core.List.{List}
use Prim.Native.Nat.{ℕ, ◌*◌, ◌≤◌}
use native.Mathlib.Nat.{not-suc-le-zero}
use native.Mathlib.Omega.{arith}
use lib.ListN.{length}
use Rattle.bits.specs.Bytes.{overwrite}
use Rattle.bits.specs.Numbers.{number_at}
use Rattle.tables.specs.declared.answer.Answer.{Answer}
use Rattle.tables.specs.declared.refusal.Refusal.{Refusal}
use Rattle.tables.specs.Stages.{Checked}
use Rattle.std.specs.Prelude.{Result, Ok, Err}
use Rattle.tables.specs.declared.table.Layout.{Layout}
use Rattle.tables.specs.declared.table.Layout.TheVariants.{FixedWidth, BitMap, VariableWidth}
use Rattle.tables.specs.declared.table.Lengths.{Lengths}
use Rattle.tables.specs.Kinds.{kind_of, layout_of}
use Rattle.tables.specs.Columns.{Column, IndexColumn, layout_at, no_indices}
use Rattle.tables.specs.Answers.{accept, passes}
use Rattle.tables.specs.Stages.{checked_numbers, offsets_refusal}
use Rattle.tables.specs.Rows.{Rows, rows_of}
use Rattle.gathers.specs.Taken.{take_rows}
use Rattle.gathers.specs.Stored.{Output, validity_bytes, written_offsets, data_bytes, offset_length, data_length, null_count, store_offsets, store}
use Rattle.gathers.specs.Stages.{range_refusal, measured}
use Rattle.gathers.specs.Ready.{Ready, NoOverflow, HasRoom}
use Rattle.tables.specs.Refusals.{index_refusal}
use Rattle.tables.specs.Bounds.{Sized}
use Rattle.variable.specs.Measured.{measured_numbers}
use Rattle.stages.specs.Space.{lengths_for}
use Rattle.described.specs.Told.{MeasuredOf, RestToldOf, TestedFor}
use Rattle.described.specs.Taken.{taken_of, HasRoomFor, data_in, OffsetsIn}
use Rattle.bits.proofs.Bytes.{length-overwrite}
use Rattle.tables.proofs.Bounds.{offset-number-width}
use Rattle.tables.proofs.Stages.{sized-well-formed, refusing}
use Rattle.gathers.proofs.Stages.{measured-refused, measured-total, stored-by, range-accepted, range-accepts}
use Rattle.gathers.proofs.Lengths.{blocks-length, bits-length}
use Rattle.gathers.proofs.Regular.{length-written}
use Rattle.gathers.proofs.VariableRows.{ready-facts, offset-length-by-buffer}
use Rattle.gathers.proofs.Joining.{overflow-accepts, ready-through, data-small, last-offset}
use Rattle.stages.proofs.Routines.{ready-count, ready-bytes}
use Rattle.stages.proofs.Spaces.{rows-layout, needed-told}

-- a refusal does not pass, and where none is answered a stage does
pub refuses : {A : Type 0} {s : Result A Refusal} {r : Refusal} {a : Answer} → checked_numbers s ≡ a → s ≡ Err r → passes a ≡ false
refuses {r = r} e f = rw (sym e, f) (refusing r)

pub lets-pass : {A : Type 0} {s : Result A Refusal} {t : A} {a : Answer} → checked_numbers s ≡ a → s ≡ Ok t → passes a ≡ true
lets-pass e f = ap passes (sym e ∙ ap checked_numbers f)

-- ---- what is tested in place of the index column

no-range : (n : ℕ) → range_refusal n no_indices ≡ accept
no-range n = range-accepted n no_indices (λ j h. absurd (not-suc-le-zero h))

module _ {n : ℕ} {t x : IndexColumn} where
  pub tested-range : TestedFor n t x → range_refusal n t ≡ range_refusal n x
  tested-range (inl e) = ap (range_refusal n) e
  tested-range (inr (e, r)) = ap (range_refusal n) e ∙ no-range n ∙ sym (range-accepts n x r.range)

  pub tested-passes : TestedFor n t x → passes (index_refusal t) ≡ true → passes (index_refusal x) ≡ true
  tested-passes (inl e) p = subst (λ (y : IndexColumn). passes (index_refusal y) ≡ true) e p
  tested-passes (inr (e, r)) p = r.passed

module _ (c : Column) (x : IndexColumn) where
  abbrev v : Rows
  v = take_rows (rows_of c) x

  -- the lengths, as the code finds them, with so many bytes of data
  abbrev found : ℕ → Lengths
  found total = lengths_for (layout_of (kind_of c.table.kind) c.table.width c.table.size) c.table.offset_width x.indices.count total

  -- ---- refusal 6

  module _ {m : Result ℕ Refusal} (e : measured_numbers m ≡ measured v) where
    pub measure-stopped : {r : Refusal} → m ≡ Err r → MeasuredOf c x (Err r)
    measure-stopped {r} f = let d = sym (ap measured_numbers f) ∙ e in (d ∙ (measured-refused v (rw (sym d) (refusing r))).1, tt)

    pub measure-passed : {total : ℕ} {n : Lengths} → m ≡ Ok total → n ≡ found total → MeasuredOf c x (Ok n)
    measure-passed f h = let t = measured-total v (sym (ap measured_numbers f) ∙ e) in (sym (overflow-accepts v t.0), h ∙ needed-told c x t.1)

  -- ---- refusals 4 to 6

  module _ {s : Checked} (se : checked_numbers s ≡ offsets_refusal c) where
    pub offsets-stopped : {r : Refusal} → s ≡ Err r → RestToldOf c x (Err r)
    offsets-stopped {r} f = (sym (ap checked_numbers f) ∙ se ∙ (let n = refuses se f in rw (n, n)), tt)

    module _ (sf : s ≡ Ok tt) {t : Checked} (te : checked_numbers t ≡ range_refusal c.table.rows x) where
      pub range-stopped : {r : Refusal} → t ≡ Err r → RestToldOf c x (Err r)
      range-stopped {r} f = (sym (ap checked_numbers f) ∙ te ∙ (let p = lets-pass se sf in let n = refuses te f in rw (p, n)), tt)

      module _ (tf : t ≡ Ok tt) where
        pub rest-ready : Sized c → passes (index_refusal x) ≡ true → Ready c x
        rest-ready p q = record { column = sized-well-formed c p (lets-pass se sf); indices = record { passed = q; range = lets-pass te tf } }

        pub rest-told : (m : Result Lengths Refusal) → MeasuredOf c x m → RestToldOf c x m
        rest-told m d = (d.0 ∙ (let p = lets-pass se sf in let q = lets-pass te tf in rw (p, q)), d.1)

  -- ---- the writing

  pub room-by-layout : (o : Output) → HasRoomFor v o → HasRoom c x o.offsets o.«data»
  room-by-layout o h =
      let l : (rows_of c).layout ≡ layout_at c = rows-layout c in (
        subst (λ (k : Layout). offset_length k v ≤ length o.offsets) l h.offsets,
        subst (λ (k : Layout). data_length k v ≤ length o.«data») l h.«data»,
      )

  module _ (r : Ready c x) (w : NoOverflow c x) (s : List ℕ) {t : List ℕ} (e : t ≡ store_offsets (layout_at c) v s) where
    -- what the offsets that are written tell of the data
    pub data-told : {l : Layout} → layout_at c ≡ l → data_in l c.table.offset_width x.indices.count t ≡ data_length (layout_at c) v
    data-told {l} d = go l d
      where
        go : (l : Layout) → layout_at c ≡ l → data_in l c.table.offset_width x.indices.count t ≡ data_length (layout_at c) v
        go (FixedWidth n) d = sym (blocks-length c x n d)
        go BitMap d = sym (bits-length c x d)
        go (VariableWidth u) d =
            ap (λ (t : List ℕ). number_at c.table.offset_width t x.indices.count * u) e ∙ last-offset c x (ready-through c x r w) u s d

    kept : offset_length (layout_at c) v ≤ length s → length t ≡ length s
    kept h = ap length e ∙ length-overwrite (written_offsets (layout_at c) v) s (rw (length-written v (layout_at c)) h)

    pub offsets-in : {l : Layout} → layout_at c ≡ l → offset_length (layout_at c) v ≤ length s → OffsetsIn l c.table.offset_width x.indices.count t
    offsets-in {l} d h = go l d
      where
        go : (l : Layout) → layout_at c ≡ l → OffsetsIn l c.table.offset_width x.indices.count t
        go (FixedWidth n) d = omega (arith, ready-bytes c x r n d)
        go BitMap d = omega (arith, ready-count c x r)
        go (VariableWidth u) d = (
          offset-number-width c.table.offset_width (ready-facts c x u d r).width,
          omega (arith, h, kept h, offset-length-by-buffer c x u d),
          omega (arith, data-told d, data-small c x r),
        )

  pub taken-told : {nulls written : ℕ} {n : Lengths} → nulls ≡ null_count v → n ≡ found written → written ≡ data_length (layout_at c) v
      → record { needed = n; nulls = nulls } ≡ taken_of v
  taken-told e d f =
      let t = d ∙ needed-told c x (f ∙ ap (λ (k : Layout). data_length k v) (sym (rows-layout c))) in
      rw (e, t)

  pub all-stored : (o : Output) {a b d : List ℕ} → a ≡ overwrite (validity_bytes v) o.validity → b ≡ store_offsets (layout_at c) v o.offsets
      → d ≡ overwrite (data_bytes (layout_at c) v) o.«data» → record { validity = a; offsets = b; «data» = d } ≡ store v o
  all-stored o ha hb hd =
      let l : layout_at c ≡ (rows_of c).layout = sym (rows-layout c) in
      stored-by v o ha (hb ∙ ap (λ (k : Layout). store_offsets k v o.offsets) l) (hd ∙ ap (λ (k : Layout). overwrite (data_bytes k v) o.«data») l)
