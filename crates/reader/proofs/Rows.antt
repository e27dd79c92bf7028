-- Which row the reader finds (specs/Row.antt), by the tests that it makes. Assumes nothing.
use mathlib.Core.Path.{◌≡◌, refl, sym, ap, ◌∙◌}
use mathlib.Core.Bool.{Bool, true, false, cond, ◌&&◌, true≢false}
use mathlib.Core.List.{List, []}
use Prim.Native.Nat.{ℕ, suc, ◌+◌, ◌-◌, ◌*◌, ◌^◌, ◌≤◌, ◌<◌}
use native.Mathlib.Nat.{mul-one}
use native.Mathlib.Numerals.{add-one}
use native.Mathlib.Omega.{arith}
use lib.Dec.{eqb, ltb}
use lib.ListN.{length}
use borrow.Author.Tests.{lt-ltb, le-ltb, ltb-true, ne_eqb, eqb-true}
use Rattle.bits.specs.Numbers.{number_at, is_number_width}
use Rattle.bits.specs.Bits.{is_absent, valid_at}
use Rattle.bits.specs.Bytes.{part}
use Rattle.tables.specs.declared.table.Layout.TheVariants.{VariableWidth}
use Rattle.tables.specs.declared.table.Kind.{Kind}
use Rattle.tables.specs.declared.table.Kind.TheVariants.{Primitive, Boolean, VariableBytes, List as ListKind, FixedSizeList, FixedSizeBinary, Unknown}
use Rattle.tables.specs.Kinds.{kind_of, uses_of}
use Rattle.tables.specs.Stages.{Checked}
use Rattle.std.specs.Prelude.{Option, Some, None, Ok, Err}
use Rattle.std.specs.Borrow.{Bor}
use Rattle.std.specs.Option.{is_some, unwrap_or}
use Rattle.std.specs.Result.{is_err}
use Rattle.tables.specs.Columns.{Column, kind_at, layout_at, offset_at}
use Rattle.tables.specs.Stages.{checked_numbers}
use Rattle.tables.specs.Answers.{passes}
use Rattle.tables.specs.Refusals.{max_rows, column_refusal, WellFormed}
use Rattle.tables.specs.Rows.{rows_of}
use Rattle.reader.specs.Row.{has_row, read_row, row_start, place_of}
use Rattle.reader.specs.Found.{row_found}
use Rattle.bits.proofs.Tests.{and-true}
use Rattle.tables.proofs.Facts.{formed, passed-well-formed}
use Rattle.tables.proofs.Offsets.{VariableFacts, variable-facts, below, rises}
use Rattle.tables.proofs.Stages.{refusing}
use Rattle.tables.proofs.There.{row-valid-there, offset-there}
use Rattle.tables.proofs.Views.{variable-bytes, offset_at-number, rows_of-by, variable-kind-at}

-- the column passed its tests
formed-column : (c : Column) (s : Checked) → checked_numbers s ≡ column_refusal c → is_err s ≡ false → WellFormed c
formed-column c (Ok a) e d = sym e
formed-column c (Err f) e d = absurd (true≢false d)

-- kind 3 is the number of variable bytes, and of no other
kind-three : (n : ℕ) → VariableBytes ≡ kind_of n → n ≡ 3
unfolding kind_of
kind-three n = go (eqb n 1) (eqb n 2) (eqb n 3) (eqb n 4) (eqb n 5) (eqb n 6) refl
  where
    go : (a b c d e f : Bool) → eqb n 3 ≡ c
        → VariableBytes
        ≡ cond a Primitive (cond b Boolean (cond c VariableBytes (cond d ListKind (cond e FixedSizeList (cond f FixedSizeBinary Unknown))))) → n ≡ 3
    go true b c d e f t k = absurd (true≢false (ap (λ (k : Kind). (uses_of k).offset_width) k))
    go false true c d e f t k = absurd (true≢false (ap (λ (k : Kind). (uses_of k).offset_width) k))
    go false false true d e f t k = eqb-true n 3 t
    go false false false true e f t k = absurd (true≢false (sym (ap (λ (k : Kind). (uses_of k).width) k)))
    go false false false false true f t k = absurd (true≢false (ap (λ (k : Kind). (uses_of k).offset_width) k))
    go false false false false false true t k = absurd (true≢false (ap (λ (k : Kind). (uses_of k).offset_width) k))
    go false false false false false false t k = absurd (true≢false (ap (λ (k : Kind). (uses_of k).offset_width) k))

three-kind : (n : ℕ) → n ≡ 3 → kind_of n ≡ VariableBytes
unfolding kind_of
three-kind n e = rw e

module _ (c : Column) (r : ℕ) where
  pub nothing : (d : Bor (List ℕ)) → has_row c r ≡ false → None ≡ row_found d c r
  unfolding row_found
  nothing d e = rw e

  pub unfit : (s : Checked) → checked_numbers s ≡ column_refusal c → is_err s ≡ true → has_row c r ≡ false
  unfolding has_row
  unfit (Ok a) e d = absurd (true≢false (sym d))
  unfit (Err f) e d = rw (sym e, refusing f)

  module _ (s : Checked) (told : checked_numbers s ≡ column_refusal c) (passed : is_err s ≡ false) where
    w : WellFormed c
    w = formed-column c s told passed

    pub other-kind : (kind_of c.table.kind ≡ VariableBytes → ⊥) → has_row c r ≡ false
    unfolding has_row
    other-kind n = rw (w, ne_eqb c.table.kind 3 (λ e. n (three-kind c.table.kind e)))

    pub absent-row : c.table.rows ≤ r → has_row c r ≡ false
    unfolding has_row
    absent-row h = rw (w, le-ltb r c.table.rows h) (none (eqb c.table.kind 3) ((rows_of c).valid r))
      where
        none : (a b : Bool) → (a && false && b) ≡ false
        none true b = refl
        none false b = refl

    module _ (k : VariableBytes ≡ kind_of c.table.kind) (h : r < c.table.rows) where
      -- as its validity bit is read
      pub row-bit : is_absent c.validity ≡ false → (c.table.validity_bit + r < 8 * length c.validity) × (c.table.validity_bit + r < 2 ^ 64)
      row-bit = row-valid-there c (formed c w) r h

      valid-bit : (rows_of c).valid r ≡ valid_at c.validity c.table.validity_bit r
      valid-bit = rw (rows_of-by c)

      pub by-bit : valid_at c.validity c.table.validity_bit r ≡ has_row c r
      unfolding has_row
      by-bit = rw (w, valid-bit, kind-three c.table.kind k, lt-ltb r c.table.rows h) refl

  -- ---- where there is such a row

  module _ (there : has_row c r ≡ true) where
    facts-there : WellFormed c × (c.table.kind ≡ 3) × (r < c.table.rows)
    unfolding has_row
    facts-there =
        let k : Bool = eqb c.table.kind 3 in
        let l : Bool = ltb r c.table.rows in
        let p = and-true (passes (column_refusal c) && k && l) ((rows_of c).valid r) there in
        let q = and-true (passes (column_refusal c) && k) l p.0 in
        let n = and-true (passes (column_refusal c)) k q.0 in
        (passed-well-formed c n.0, eqb-true c.table.kind 3 n.1, ltb-true r c.table.rows q.1)

    pub row-numbered : suc r ≤ max_rows
    row-numbered = omega (arith, facts-there.2, (formed c facts-there.0).rows)

    facts : VariableFacts 1 c
    facts =
        let f = formed c facts-there.0 in
        let l : layout_at c ≡ VariableWidth 1 = (variable-bytes c facts-there.1).1 in
        variable-facts (kind_at c) 1 c (rw l at (variable-kind-at c f.good_kind)) (rw l at f)

    -- what the reads ask
    pub offset-can : (i : ℕ) → i ≤ suc r → (is_number_width c.table.offset_width ≡ true) × (i * c.table.offset_width + c.table.offset_width ≤ length c.offsets)
    offset-can i h = offset-there c.table.offset_width c.table.rows c.offsets facts.width facts.fits i (omega (arith, h, facts-there.2))

    -- the row that was found, as its offsets are read
    module _ {from to : ℕ} (a : from ≡ number_at c.table.offset_width c.offsets r) (b : to ≡ number_at c.table.offset_width c.offsets (r + 1)) where
      from-offset : from ≡ offset_at c r
      from-offset = a ∙ sym (offset_at-number c r)

      to-offset : to ≡ offset_at c (suc r)
      to-offset = b ∙ ap (number_at c.table.offset_width c.offsets) (add-one r) ∙ sym (offset_at-number c (suc r))

      pub row_inside : (from ≤ to) × (to ≤ length c.«data»)
      row_inside = (rw (from-offset, to-offset) (rises 1 c facts r facts-there.2), rw (to-offset) (omega (arith, below 1 c facts (suc r) facts-there.2)))

      -- its bytes
      row-bytes : part from (to - from) c.«data» ≡ (rows_of c).bytes r
      row-bytes =
          rw (from-offset, to-offset, rows_of-by c, (variable-bytes c facts-there.1).1, mul-one (offset_at c r), mul-one (offset_at c (suc r) - offset_at c r))

      pub row_at : (d : Bor (List ℕ)) → Some (record { ref_ptr = place_of from d.ref_ptr; now = part from (to - from) c.«data» }) ≡ row_found d c r
      unfolding row_found
      row_at d = rw (there, row-bytes, from-offset)

-- ---- what is handed back, by what was found

module _ (d : Bor (List ℕ)) (c : Column) (r : ℕ) {f : Option (Bor (List ℕ))} (e : f ≡ row_found d c r) where
  abbrev the_row : Bor (List ℕ)
  the_row = record { ref_ptr = place_of (offset_at c r) d.ref_ptr; now = (rows_of c).bytes r }

  pub there-found : is_some f ≡ has_row c r
  unfolding row_found
  there-found = rw e (go (has_row c r))
    where
      go : (t : Bool) → is_some {T = Bor (List ℕ)} (cond t (Some the_row) None) ≡ t
      go true = refl
      go false = refl

  -- or, where nothing was found, a part z
  module _ (z : Bor (List ℕ)) {y : Bor (List ℕ)} (g : y ≡ unwrap_or f z) where
    pub place-found : z.ref_ptr ≡ place_of 0 d.ref_ptr → y.ref_ptr ≡ place_of (row_start c r) d.ref_ptr
    unfolding row_found row_start
    place-found h = rw (g, e) (go (has_row c r))
      where
        go : (t : Bool) → (unwrap_or {T = Bor (List ℕ)} (cond t (Some the_row) None) z).ref_ptr ≡ place_of (cond t (offset_at c r) 0) d.ref_ptr
        go true = refl
        go false = h

    pub bytes-found : z.now ≡ [] → y.now ≡ read_row c r
    unfolding row_found read_row
    bytes-found h = rw (g, e) (go (has_row c r))
      where
        go : (t : Bool) → (unwrap_or {T = Bor (List ℕ)} (cond t (Some the_row) None) z).now ≡ cond t ((rows_of c).bytes r) []
        go true = refl
        go false = h
