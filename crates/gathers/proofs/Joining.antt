-- What the stages of one column of several say: past refusal 6 its tests through overflow let pass, its lengths are small enough to be added up, and the
-- last offset that is written tells its data bytes. Assumes nothing.
use mathlib.Core.Path.{◌≡◌, refl, sym, ap, subst}
use mathlib.Core.Bool.{Bool, true, false, not}
use mathlib.Core.List.{List}
use Prim.Native.Nat.{ℕ, suc, ◌*◌, ◌≤◌}
use native.Mathlib.Nat.{le_refl, le_trans, mul-le-mul, mul-one}
use native.Mathlib.Omega.{arith}
use lib.ListN.{length, drop}
use Rattle.bits.specs.Bytes.{overwrite}
use Rattle.bits.specs.Numbers.{number_at}
use Rattle.tables.specs.declared.table.Layout.{Layout}
use Rattle.tables.specs.declared.table.Layout.TheVariants.{FixedWidth, BitMap, VariableWidth}
use Rattle.tables.specs.Columns.{Column, IndexColumn, layout_at}
use Rattle.tables.specs.Answers.{accept, passes, first_of}
use Rattle.tables.specs.Refusals.{max_rows, max_bytes}
use Rattle.tables.specs.Rows.{Rows}
use Rattle.gathers.specs.Taken.{taken}
use Rattle.gathers.specs.Stored.{start_of, offset_bytes, written_offsets, offset_length, data_length, needed_lengths, null_count}
use Rattle.gathers.specs.Gather.{overflow_lines, through_lines}
use Rattle.gathers.specs.Stages.{overflow_refusal}
use Rattle.gathers.specs.Ready.{Ready, NoOverflow}
use Rattle.bits.specs.Bits.{bit_value}
use Rattle.bits.proofs.Sequences.{sum-le, sum-const}
use Rattle.bits.proofs.Numbers.{number_at-concat}
use Rattle.tables.proofs.Lines.{none-met-passes, none-met-accepts}
use Rattle.tables.proofs.Facts.{index-formed, refused-by-index}
use Rattle.tables.proofs.Bounds.{fits-at, number-width-limit, offset-number-width}
use Rattle.tables.proofs.Stages.{sized-bounds, well-formed-sized}
use Rattle.tables.proofs.Views.{rows_of-by}
use Rattle.gathers.proofs.Stages.{through-stages}
use Rattle.gathers.proofs.Lengths.{blocks-length, bits-length}
use Rattle.gathers.proofs.ReadBack.{Storable}
use Rattle.gathers.proofs.Written.{storable-taken}
use Rattle.gathers.proofs.VariableRows.{ready-facts, offset-length-by-buffer, data-length-by-buffer, total-small}

-- no more rows are null than there are
null-count-le : (v : Rows) → null_count v ≤ v.count
unfolding null_count
null-count-le v =
    let bit : (b : Bool) → bit_value b ≤ 1 = elim [ true ↦ omega arith | false ↦ omega arith ] in
    le_trans (sum-le v.count (λ i. bit_value (not (v.valid i))) (λ i. 1) (λ i h. bit (not (v.valid i)))) (rw (sum-const v.count 1, mul-one v.count) (le_refl v.count))

-- refusal 6 that lets pass carries nothing
pub overflow-accepts : (v : Rows) → passes (overflow_refusal v) ≡ true → overflow_refusal v ≡ accept
unfolding overflow_refusal
overflow-accepts v e = none-met-accepts (overflow_lines v) (none-met-passes (overflow_lines v) (refl, tt) e)

-- the last of the offsets that are written, in entries of u bytes
last-back : (l : Layout) (w u : ℕ) (v : Rows) (s : List ℕ) → l ≡ VariableWidth u → Storable l w v
    → number_at w (overwrite (written_offsets l v) s) v.count * u ≡ data_length l v
unfolding data_length offset_bytes
last-back l w u v s e = subst (λ (l : Layout). Storable l w v → number_at w (overwrite (written_offsets l v) s) v.count * u ≡ data_length l v) (sym e) back
  where
    back : Storable (VariableWidth u) w v → number_at w (overwrite (offset_bytes v) s) v.count * u ≡ start_of v v.count * u
    back st =
        let rest : List ℕ = drop (length (offset_bytes v)) s in
        let n : number_at v.offset_width (overwrite (offset_bytes v) s) v.count ≡ start_of v v.count =
        number_at-concat v.offset_width (suc v.count) (start_of v) rest v.count (omega arith) st.2 in
        ap (λ (k : ℕ). k * u) (subst (λ (w : ℕ). number_at w (overwrite (offset_bytes v) s) v.count ≡ start_of v v.count) st.1 n)

module _ (c : Column) (x : IndexColumn) where
  abbrev v : Rows
  v = taken c x

  module _ (r : Ready c x) where
    pub ready-through : NoOverflow c x → passes (first_of (through_lines c x)) ≡ true
    ready-through w = rw (through-stages c x, refused-by-index c x r.column, r.indices.passed, r.indices.range) w

    few : x.indices.count ≤ max_rows
    few = (index-formed x r.indices.passed).count

    -- the data bytes that the rows need
    pub data-small : data_length (layout_at c) v ≤ max_rows * max_bytes
    data-small = go (layout_at c) refl
      where
        go : (l : Layout) → layout_at c ≡ l → data_length (layout_at c) v ≤ max_rows * max_bytes
        go (FixedWidth n) e = omega (arith, blocks-length c x n e, mul-le-mul few (fits-at (sized-bounds c (well-formed-sized c r.column)) e))
        go BitMap e = omega (arith, bits-length c x e, few)
        go (VariableWidth u) e = omega (arith, data-length-by-buffer c x u e, (total-small c x u e r x.indices.count (le_refl x.indices.count)).1)

    offsets-small : offset_length (layout_at c) v ≤ max_rows * max_bytes
    offsets-small = go (layout_at c) refl
      where
        go : (l : Layout) → layout_at c ≡ l → offset_length (layout_at c) v ≤ max_rows * max_bytes
        go (FixedWidth n) e = rw e (omega arith)
        go BitMap e = rw e (omega arith)
        go (VariableWidth u) e =
            let w : c.table.offset_width ≤ 8 = number-width-limit c.table.offset_width (offset-number-width c.table.offset_width (ready-facts c x u e r).width) in
            let n : suc x.indices.count ≤ suc max_rows = omega (arith, few) in
            omega (arith, offset-length-by-buffer c x u e, mul-le-mul n w)

    -- every length that the rows need is small enough to be added up 32 times
    pub needed-small : ((needed_lengths v).validity ≤ max_rows * max_bytes) × ((needed_lengths v).offsets ≤ max_rows * max_bytes) × ((needed_lengths v).«data» ≤ max_rows * max_bytes)
    needed-small =
        let l : layout_at c ≡ v.layout = sym (ap (λ (w : Rows). w.layout) (rows_of-by c)) in (
          omega (arith, few),
          subst (λ (k : Layout). offset_length k v ≤ max_rows * max_bytes) l offsets-small,
          subst (λ (k : Layout). data_length k v ≤ max_rows * max_bytes) l data-small,
        )

    -- and so is the count of null rows
    pub nulls-small : null_count v ≤ max_rows
    nulls-small = le_trans (null-count-le v) few

  -- what lies behind the offsets that are written does not matter
  pub last-offset : passes (first_of (through_lines c x)) ≡ true → (u : ℕ) (s : List ℕ) → layout_at c ≡ VariableWidth u
      → number_at c.table.offset_width (overwrite (written_offsets (layout_at c) v) s) x.indices.count * u ≡ data_length (layout_at c) v
  last-offset p u s e = last-back (layout_at c) c.table.offset_width u v s e (storable-taken c x p)
