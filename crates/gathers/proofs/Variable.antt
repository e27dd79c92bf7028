-- A column of variable width (kinds 3 and 4): what its good offsets say, and the column in which some rows are made empty. Assumes nothing.
use mathlib.Core.Path.{◌≡◌, sym, ◌∙◌}
use mathlib.Core.Bool.{Bool, true, false, cond, not}
use mathlib.Core.List.{[], append-nil}
use Prim.Native.Nat.{ℕ, suc, ◌-◌, ◌*◌, ◌/◌, ◌^◌, ◌≤◌, ◌<◌}
use native.Mathlib.Nat.{le_refl, le_trans, lt_of_le_of_lt, mul-le-mul_right, div-mul-le_self, mul-div_cancel, zero-mul, div-le_self}
use native.Mathlib.Omega.{arith}
use lib.Dec.{eqb}
use lib.ListN.{length}
use borrow.Author.Tests.{le-ltb, lt-leb}
use Rattle.bits.specs.Sequences.{concat, sum}
use Rattle.tables.specs.Kinds.{is_offset_width}
use Rattle.tables.specs.Columns.{Column, offset_at}
use Rattle.tables.specs.Refusals.{max_bytes, is_bad_offset}
use Rattle.tables.specs.Rows.{Rows, row_bytes, rows_by}
use Rattle.tables.specs.declared.table.Kind.{Kind}
use Rattle.tables.specs.declared.table.Layout.TheVariants.{VariableWidth}
use Rattle.gathers.specs.Stored.{start_of, offset_bytes}
use Rattle.gathers.specs.Blank.{mask_rows, with_rows}
use Rattle.bits.proofs.Sequences.{sum_mono, sum-le, part-variable, length-variable}
use Rattle.bits.proofs.Tests.{false-or, and-false-right}
use Rattle.tables.proofs.Offsets.{wide, VariableFacts, below, telescope}
use Rattle.tables.proofs.Rows.{variable-length}
use Rattle.tables.proofs.Views.{offset_at-number}
use Rattle.gathers.proofs.Replaced.{length-offsets_with, offset-with}

-- no offset is bad that is the running total of the rows before it, where the data holds as many entries as the rows together
pub running-good : (u : ℕ) (d : Column) (e : ℕ → ℕ) → is_offset_width d.table.offset_width ≡ true
    → ((i : ℕ) → i ≤ d.table.rows → offset_at d i ≡ sum i e) → length d.«data» / u ≡ sum d.table.rows e → sum d.table.rows e ≤ max_bytes
    → (i : ℕ) → i ≤ d.table.rows → is_bad_offset u d i ≡ false
running-good u d e width offset held small i h =
    let a : offset_at d i ≡ sum i e = offset i h in
    let b : offset_at d (i - 1) ≡ sum (i - 1) e = offset (i - 1) (omega arith) in
    let s : sum i e ≤ sum d.table.rows e = sum_mono d.table.rows e h in
    let t : sum (i - 1) e ≤ sum i e = sum_mono {i = i - 1} i e (omega arith) in
    false-or
    (false-or
    (lt-leb (2 ^ (8 * d.table.offset_width - 1)) (offset_at d i) (omega (arith, (wide d.table.offset_width width).0)))
    (and-false-right (not (eqb i 0)) (le-ltb (offset_at d i) (offset_at d (i - 1)) (omega arith))))
    (le-ltb (length d.«data» / u) (offset_at d i) (omega arith))

module _ (u : ℕ) (c : Column) (r : VariableFacts u c) where
  module _ (k : Kind) (keep : ℕ → Bool) where
    abbrev m : Rows
    m = mask_rows (rows_by k (VariableWidth u) c) keep

    abbrev d : Column
    d = with_rows c m

    entries-le : sum c.table.rows m.entries ≤ length c.«data» / u
    entries-le =
        let s : sum c.table.rows m.entries ≤ sum c.table.rows (λ i. offset_at c (suc i) - offset_at c i) =
        sum-le c.table.rows m.entries (λ i. offset_at c (suc i) - offset_at c i) (λ i h. go (keep i) (offset_at c (suc i) - offset_at c i)) in
        omega (arith, telescope u c r c.table.rows (le_refl c.table.rows), below u c r c.table.rows (le_refl c.table.rows))
      where
        go : (t : Bool) (n : ℕ) → cond t n 0 ≤ n
        go true n = le_refl n
        go false n = omega arith

    -- a row has as many bytes as its entries say
    pub row-length : (i : ℕ) → i < c.table.rows → length (m.bytes i) ≡ m.entries i * u
    row-length i h = go (keep i)
      where
        go : (t : Bool) → length (cond t (row_bytes (VariableWidth u) c i) []) ≡ cond t (offset_at c (suc i) - offset_at c i) 0 * u
        go true = variable-length u c r i h
        go false = sym (zero-mul u)

    pub data-length : length d.«data» ≡ sum c.table.rows m.entries * u
    data-length = length-variable c.table.rows u m.bytes m.entries row-length

    pub data-le : length d.«data» ≤ length c.«data»
    data-le = rw data-length (le_trans (mul-le-mul_right u entries-le) (div-mul-le_self (length c.«data») u))

    total-small : sum c.table.rows m.entries ≤ max_bytes
    total-small = omega (arith, entries-le, div-le_self (length c.«data») u, r.small)

    pub offset-d : (i : ℕ) → i ≤ c.table.rows → offset_at d i ≡ sum i m.entries
    unfolding offset_bytes start_of
    offset-d i h = offset_at-number d i ∙ offset-with c.offsets c.table.rows c.table.offset_width m.entries r.fits (lt_of_le_of_lt total-small (wide c.table.offset_width r.width).1) i h

    pub offsets-length : length d.offsets ≡ length c.offsets
    unfolding offset_bytes start_of
    offsets-length = length-offsets_with c.offsets c.table.rows c.table.offset_width m.entries r.fits

    pub entries-d : (i : ℕ) → i < c.table.rows → offset_at d (suc i) - offset_at d i ≡ m.entries i
    entries-d i h = rw (offset-d (suc i) h, offset-d i (omega arith)) (omega arith)

    pub bytes-d : (i : ℕ) → i < c.table.rows → row_bytes (VariableWidth u) d i ≡ m.bytes i
    bytes-d i h =
        rw (entries-d i h, offset-d i (omega arith), ← append-nil (concat c.table.rows m.bytes))
        (part-variable c.table.rows u m.bytes m.entries [] row-length i h)

    count-d : length d.«data» / u ≡ sum c.table.rows m.entries
    count-d = rw data-length (mul-div_cancel (sum c.table.rows m.entries) r.unit)

    pub good-d : (i : ℕ) → i ≤ c.table.rows → is_bad_offset u d i ≡ false
    good-d = running-good u d m.entries r.width offset-d count-d total-small
