-- The taken rows of a column of variable width (kinds 3 and 4), by its buffers: their lengths, their bytes, the running total, and what refusal 6 says of it.
-- Assumes nothing.
use mathlib.Core.Path.{◌≡◌, refl, sym, ap, ◌∙◌}
use mathlib.Core.Bool.{Bool, true, false, cond}
use mathlib.Core.List.{[]}
use Prim.Native.Nat.{ℕ, suc, ◌-◌, ◌*◌, ◌≤◌, ◌<◌}
use native.Mathlib.Nat.{le_refl, le_trans, mul-le-mul_right, div-mul-le_self, zero-mul, mul-le-mul_left}
use native.Mathlib.Omega.{arith}
use lib.Dec.{ltb}
use lib.ListN.{length}
use borrow.Author.Tests.{eq-eqb, ne_eqb, lt-ltb, le-ltb}
use Rattle.bits.specs.Sequences.{concat, sum, first}
use Rattle.bits.specs.Bytes.{part}
use Rattle.bits.specs.Numbers.{to_little_endian}
use Rattle.bits.specs.Bits.{valid_at}
use Rattle.tables.specs.declared.table.Layout.TheVariants.{VariableWidth}
use Rattle.tables.specs.Columns.{Column, IndexColumn, kind_at, layout_at, offset_at, index_valid, index}
use Rattle.tables.specs.Answers.{refuse}
use Rattle.tables.specs.Refusals.{max_rows, max_bytes}
use Rattle.tables.specs.Rows.{Rows, rows_of}
use Rattle.gathers.specs.Taken.{picked_valid, taken}
use Rattle.gathers.specs.Stored.{start_of, offset_bytes, data_bytes, offset_length, data_length}
use Rattle.gathers.specs.Gather.{overflow_at, overflow_total}
use Rattle.gathers.specs.Stages.{overflow_refusal, measured}
use Rattle.gathers.specs.Ready.{Ready}
use Rattle.gathers.specs.Buffers.{taken_bit_valid, taken_entries, taken_bytes}
use Rattle.bits.proofs.Tests.{and-true}
use Rattle.bits.proofs.Sequences.{sum-const, sum-le, sum-mul}
use Rattle.tables.proofs.Facts.{formed, index-formed}
use Rattle.tables.proofs.Offsets.{VariableFacts, variable-facts, below}
use Rattle.tables.proofs.Views.{rows_of-by, variable-kind-at}
use Rattle.gathers.proofs.Buffers.{valid-below}

module _ (c : Column) (x : IndexColumn) where
  abbrev v : Rows
  v = taken c x

  -- ---- by the buffers

  module _ (u : ℕ) (e : layout_at c ≡ VariableWidth u) where
    pub start-by-buffer : (j : ℕ) → start_of v j ≡ sum j (taken_entries c x)
    unfolding start_of taken_entries picked_valid taken_bit_valid
    start-by-buffer j = rw (rows_of-by c, e)

    entries-by-buffer : (j : ℕ) → v.entries j ≡ taken_entries c x j
    unfolding taken_entries picked_valid taken_bit_valid
    entries-by-buffer j = rw (rows_of-by c, e)

    pub offsets-by-buffer : offset_bytes v ≡ concat (suc x.indices.count) (λ i. to_little_endian c.table.offset_width (sum i (taken_entries c x)))
    unfolding offset_bytes start_of taken_entries picked_valid taken_bit_valid
    offsets-by-buffer = rw (rows_of-by c, e)

    pub variable-by-buffer : data_bytes (layout_at c) v ≡ concat x.indices.count (taken_bytes u c x)
    unfolding data_bytes taken_bytes picked_valid taken_bit_valid
    variable-by-buffer = rw (rows_of-by c, e)

    pub offset-length-by-buffer : offset_length (layout_at c) v ≡ suc x.indices.count * c.table.offset_width
    offset-length-by-buffer = rw (rows_of-by c, e)

    pub data-length-by-buffer : data_length (layout_at c) v ≡ sum x.indices.count (taken_entries c x) * u
    unfolding data_length start_of taken_entries picked_valid taken_bit_valid
    data-length-by-buffer = rw (rows_of-by c, e)

  -- ---- one row

  module _ (u j : ℕ) where
    pub entries-valid : taken_bit_valid c.validity c.table.validity_bit x j ≡ true → taken_entries c x j ≡ offset_at c (suc (index x j)) - offset_at c (index x j)
    unfolding taken_entries
    entries-valid t = rw t

    pub entries-null : taken_bit_valid c.validity c.table.validity_bit x j ≡ false → taken_entries c x j ≡ 0
    unfolding taken_entries
    entries-null t = rw t

    pub variable-valid : taken_bit_valid c.validity c.table.validity_bit x j ≡ true
        → taken_bytes u c x j ≡ part (offset_at c (index x j) * u) ((offset_at c (suc (index x j)) - offset_at c (index x j)) * u) c.«data»
    unfolding taken_bytes
    variable-valid t = rw t

    pub variable-null : taken_bit_valid c.validity c.table.validity_bit x j ≡ false → taken_bytes u c x j ≡ []
    unfolding taken_bytes
    variable-null t = rw t

  -- ---- past refusals 1 to 5

  module _ (u : ℕ) (e : layout_at c ≡ VariableWidth u) (r : Ready c x) where
    pub ready-facts : VariableFacts u c
    ready-facts =
        let f = formed c r.column in
        variable-facts (kind_at c) u c (rw e at (variable-kind-at c f.good_kind)) (rw e at f)

    pub taken-below : (j : ℕ) → j < x.indices.count → taken_bit_valid c.validity c.table.validity_bit x j ≡ true → index x j < c.table.rows
    unfolding taken_bit_valid
    taken-below j h t =
        valid-below c.table.rows x r.indices j h (and-true (index_valid x j) (valid_at c.validity c.table.validity_bit (index x j)) t).0

    -- row i ends in the data
    pub variable-inside : (i : ℕ) → i ≤ c.table.rows → offset_at c i * u ≤ length c.«data»
    variable-inside i h = le_trans (mul-le-mul_right u (below u c ready-facts i h)) (div-mul-le_self (length c.«data») u)

    module _ (j : ℕ) (h : j < x.indices.count) where
      pub taken-small : taken_entries c x j * u ≤ max_bytes
      unfolding taken_entries
      taken-small = go (taken_bit_valid c.validity c.table.validity_bit x j) refl
        where
          go : (t : Bool) → taken_bit_valid c.validity c.table.validity_bit x j ≡ t
              → cond t (offset_at c (suc (index x j)) - offset_at c (index x j)) 0 * u ≤ max_bytes
          go true d =
              let m : (offset_at c (suc (index x j)) - offset_at c (index x j)) * u ≤ offset_at c (suc (index x j)) * u = mul-le-mul_right u (omega arith) in
              omega (arith, variable-inside (suc (index x j)) (taken-below j h d), ready-facts.small)
          go false d = rw (zero-mul u) (omega arith)

    -- they are few, whatever the data outputs hold
    pub total-small : (j : ℕ) → j ≤ x.indices.count → (sum j (taken_entries c x) ≤ max_rows * max_bytes) × (sum j (taken_entries c x) * u ≤ max_rows * max_bytes)
    total-small j h =
        let E : ℕ → ℕ = taken_entries c x in
        let s : sum j (λ i. E i * u) ≤ sum j (λ i. max_bytes) = sum-le j (λ i. E i * u) (λ i. max_bytes) (λ i l. taken-small i (omega arith)) in
        let m : j * max_bytes ≤ max_rows * max_bytes = mul-le-mul_right {n = max_rows} max_bytes (omega (arith, (index-formed x r.indices.passed).count)) in
        let b : sum j E * u ≤ max_rows * max_bytes = omega (arith, sum-const j max_bytes, sum-mul j E u) in
        (omega (arith, mul-le-mul_left (sum j E) ready-facts.unit), b)

-- ---- refusal 6

module _ (v : Rows) where
  measured-fit : overflow_at v.layout v ≡ v.count → measured v ≡ record { number = 0; place = 0; total = data_length v.layout v; nulls = 0 }
  unfolding measured overflow_refusal
  measured-fit e = rw (e, le-ltb v.count v.count (le_refl v.count))

  measured-over : (p : ℕ) → overflow_at v.layout v ≡ p → p < v.count
      → measured v ≡ refuse 6 p (overflow_total v.kind (start_of v (suc p)) (start_of v p))
  unfolding measured overflow_refusal
  measured-over p e h = rw (e, lt-ltb p v.count h)

module _ (c : Column) (x : IndexColumn) (u : ℕ) (e : layout_at c ≡ VariableWidth u) where
  pub overflow-narrow : c.table.offset_width ≡ 4
      → overflow_at (layout_at c) (taken c x) ≡ first x.indices.count (λ i. ltb 2_147_483_647 (sum (suc i) (taken_entries c x)))
  unfolding overflow_at start_of taken_entries picked_valid taken_bit_valid
  overflow-narrow d = rw (rows_of-by c, e, eq-eqb c.table.offset_width 4 d)

  pub overflow-wide : (c.table.offset_width ≡ 4 → ⊥) → overflow_at (layout_at c) (taken c x) ≡ x.indices.count
  unfolding overflow_at
  overflow-wide n = rw (rows_of-by c, e, ne_eqb c.table.offset_width 4 n)

  by_layout : {p : ℕ} → overflow_at (layout_at c) (taken c x) ≡ p → overflow_at (rows_of c).layout (taken c x) ≡ p
  by_layout d = ap (λ (w : Rows). overflow_at w.layout (taken c x)) (rows_of-by c) ∙ d

  pub variable-fit : {n : ℕ} → overflow_at (layout_at c) (taken c x) ≡ x.indices.count → n ≡ sum x.indices.count (taken_entries c x) * u
      → record { number = 0; place = 0; total = n; nulls = 0 } ≡ measured (taken c x)
  variable-fit d f =
      let v : Rows = taken c x in
      let t : data_length v.layout v ≡ _ = ap (λ (w : Rows). data_length w.layout v) (rows_of-by c) ∙ data-length-by-buffer c x u e ∙ sym f in
      sym (measured-fit v (by_layout d) ∙ ap (λ (n : ℕ). refuse 0 0 n) t)

  pub variable-over : {p new old : ℕ} → overflow_at (layout_at c) (taken c x) ≡ p → p < x.indices.count → new ≡ sum (suc p) (taken_entries c x) → old ≡ sum p (taken_entries c x)
      → refuse 6 p (overflow_total (kind_at c) new old) ≡ measured (taken c x)
  variable-over {p} d h f g =
      let v : Rows = taken c x in
      let k : (rows_of c).kind ≡ kind_at c = ap (λ (w : Rows). w.kind) (rows_of-by c) in
      sym (measured-over v p (by_layout d) h ∙ rw (start-by-buffer c x u e (suc p), start-by-buffer c x u e p, k, f, g))
