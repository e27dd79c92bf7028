-- What the tests of a column of variable width and of an index column say of what is read: it is there, and it is what `take_rows` takes. Assumes nothing.
use mathlib.Core.Path.{◌≡◌, refl, sym, ◌∙◌, subst}
use mathlib.Core.Bool.{Bool, true, false, ◌&&◌}
use mathlib.Core.List.{List}
use Prim.Native.Nat.{ℕ, suc, ◌+◌, ◌*◌, ◌^◌, ◌≤◌, ◌<◌}
use native.Mathlib.Nat.{mul-le-mul_left}
use native.Mathlib.Omega.{arith}
use lib.Dec.{eqb}
use lib.ListN.{length}
use borrow.Author.Tests.{eqb-true, eq-eqb}
use Rattle.bits.specs.Sequences.{sum}
use Rattle.bits.specs.Numbers.{number_at, is_number_width}
use Rattle.bits.specs.Bits.{bit_at, valid_at}
use Rattle.tables.specs.declared.table.Layout.TheVariants.{VariableWidth}
use Rattle.tables.specs.Columns.{Column, IndexColumn, layout_at, index_valid, index, offset_at}
use Rattle.gathers.specs.Buffers.{taken_bit_valid, taken_entries, Validates}
use Rattle.gathers.specs.Ready.{Ready}
use Rattle.bits.proofs.Sequences.{sum-cong}
use Rattle.bits.proofs.Bits.{valid_at-absent, valid_at-present}
use Rattle.tables.proofs.Bounds.{offset-number-width}
use Rattle.tables.proofs.Facts.{formed, IndexFormed, index-formed}
use Rattle.tables.proofs.There.{index_number, index-valid, index-there, index-valid-there, row-valid-there, offset-there}
use Rattle.tables.proofs.Offsets.{VariableFacts, rises}
use Rattle.tables.proofs.Views.{offset_at-number}
use Rattle.gathers.proofs.Buffers.{valid-below, validates-bit, valid-null, valid-by-bit, valid-by-index, bit-named}
use Rattle.gathers.proofs.VariableRows.{ready-facts, taken-below, taken-small, variable-inside, entries-valid, entries-null, total-small}
use Rattle.lengths.specs.Entries.{Selection, Shown, row_number, is_selected, is_shown, start_at, entries_at, SelectionThere, EntriesThere}
use Rattle.lengths.specs.Totals.{selected_entries, shown_entries, SelectedThere, ShownThere}
use Rattle.lengths.proofs.Masking.{entries_at-valid, entries_at-null}

-- what is read before anything is written
abbrev pub selection_of : Column → IndexColumn → Selection
selection_of c x = record {
  validity = c.validity;
  bit = c.table.validity_bit;
  offset_width = c.table.offset_width;
  offsets = c.offsets;
  width = x.indices.width;
  index_data = x.«data»;
  index_validity = x.validity;
  index_bit = x.indices.validity_bit;
}

-- and by the validity s of the output rows, once it is written, where an offset has ow bytes
abbrev pub shown_of : ℕ → Column → IndexColumn → List ℕ → Shown
shown_of ow c x s = record {
  offset_width = ow;
  offsets = c.offsets;
  index_width = x.indices.width;
  index_data = x.«data»;
  validity = s;
}

-- output row j is valid
abbrev pub is_taken : Column → IndexColumn → ℕ → Bool
is_taken c x j = taken_bit_valid c.validity c.table.validity_bit x j

valid-named : (v : List ℕ) (b : ℕ) (x : IndexColumn) (j : ℕ) → index_valid x j ≡ true → taken_bit_valid v b x j ≡ valid_at v b (index x j)
valid-named v b x j e = go (eqb (length v) 0) refl
  where
    go : (t : Bool) → eqb (length v) 0 ≡ t → taken_bit_valid v b x j ≡ valid_at v b (index x j)
    go true d =
        let z : length v ≡ 0 = eqb-true (length v) 0 d in
        valid-by-index v b x j z ∙ e ∙ sym (valid_at-absent v b (index x j) z)
    go false d =
        let n : (length v ≡ 0 → ⊥) = λ z. let k : ◌≡◌ {A = Bool} true false = sym (eq-eqb (length v) 0 z) ∙ d in let o : ◌≡◌ {A = ℕ} 0 1 = cc in omega arith in
        valid-by-bit v b x j n ∙ bit-named v b x j e ∙ sym (valid_at-present v b (index x j) n)

shown-taken : (c : Column) (x : IndexColumn) (j : ℕ) → is_shown (selection_of c x) j ≡ is_taken c x j
shown-taken c x j = rw (← index-valid x j, ← index_number x j) (go (index_valid x j) refl)
  where
    go : (t : Bool) → index_valid x j ≡ t → (t && valid_at c.validity c.table.validity_bit (index x j)) ≡ is_taken c x j
    go true e = sym (valid-named c.validity c.table.validity_bit x j e)
    go false e = sym (valid-null c.validity c.table.validity_bit x j e)

-- the entries of a row that is valid or null, by its offsets
module _ (u : ℕ) (c : Column) (x : IndexColumn) (j : ℕ) where
  abbrev w : ℕ
  w = c.table.offset_width

  entries_by : {t : Bool} {n : ℕ} → t ≡ is_taken c x j → n ≡ index x j → entries_at w c.offsets t n ≡ taken_entries c x j
  entries_by {t} {n} d e = go (is_taken c x j) refl
    where
      go : (s : Bool) → is_taken c x j ≡ s → entries_at w c.offsets t n ≡ taken_entries c x j
      go true f =
          entries_at-valid w c.offsets n (d ∙ f)
          ∙ rw (e, ← offset_at-number c (suc (index x j)), ← offset_at-number c (index x j)) (sym (entries-valid c x u j f))
      go false f = entries_at-null w c.offsets n (d ∙ f) ∙ sym (entries-null c x u j f)

  pub selected-entries : selected_entries (selection_of c x) j ≡ taken_entries c x j
  selected-entries = entries_by (shown-taken c x j) (sym (index_number x j))

  pub shown-entries : {s : List ℕ} → Validates c.validity c.table.validity_bit x s → j < x.indices.count
      → shown_entries (shown_of w c x s) j ≡ taken_entries c x j
  shown-entries v h = entries_by (validates-bit v j h) (sym (index_number x j))

module _ {u : ℕ} {c : Column} {x : IndexColumn} (r : Ready c x) (e : layout_at c ≡ VariableWidth u) where
  pub facts : VariableFacts u c
  facts = ready-facts c x u e r

  pub index-facts : IndexFormed x
  index-facts = index-formed x r.indices.passed

  pub offset-number : is_number_width c.table.offset_width ≡ true
  offset-number = offset-number-width c.table.offset_width facts.width

  -- offset i
  pub offset-can : (i : ℕ) → i ≤ c.table.rows → i * c.table.offset_width + c.table.offset_width ≤ length c.offsets
  offset-can i h = (offset-there c.table.offset_width c.table.rows c.offsets facts.width facts.fits i h).1

  pub taken-row : (j : ℕ) → j < x.indices.count → {t : Bool} → t ≡ is_taken c x j → t ≡ true → number_at x.indices.width x.«data» j < c.table.rows
  taken-row j h d t = rw (← index_number x j) (taken-below c x u e r j h (sym d ∙ t))

  -- it is small, for so is the data
  offset-small : (i : ℕ) → i ≤ c.table.rows → number_at c.table.offset_width c.offsets i < 2 ^ 32
  offset-small i h =
      let one : offset_at c i * 1 ≤ offset_at c i * u = mul-le-mul_left (offset_at c i) facts.unit in
      omega (arith, one, variable-inside c x u e r i h, facts.small, offset_at-number c i)

  start-small : (t : Bool) (n : ℕ) → (t ≡ true → n < c.table.rows) → start_at c.table.offset_width c.offsets t n < 2 ^ 32
  start-small true n h = offset-small n (omega (arith, h refl))
  start-small false n h = offset-small 0 (omega arith)

  entries-small : (j : ℕ) → j < x.indices.count → taken_entries c x j < 2 ^ 32
  entries-small j h =
      let one : taken_entries c x j * 1 ≤ taken_entries c x j * u = mul-le-mul_left (taken_entries c x j) facts.unit in
      omega (arith, one, taken-small c x u e r j h)

  entries-there : (t : Bool) (n : ℕ) → (t ≡ true → n < c.table.rows) → EntriesThere c.table.offset_width c.offsets t n
  entries-there t n h = record {
    offset_width = offset-number;
    first = omega (arith, offset-can 0 (omega arith));
    few = λ q. omega (arith, h q, (formed c r.column).rows);
    there = λ q. offset-can (suc n) (h q);
    rises = λ q. rw (← offset_at-number c n, ← offset_at-number c (suc n)) (rises u c facts n (h q));
  }

  -- the row that a valid index names
  selection-there : (j : ℕ) → j < x.indices.count → SelectionThere (selection_of c x) j
  selection-there j h = record {
    number_width = index-facts.width;
    number = (index-there x index-facts j h).1;
    selected = index-valid-there x index-facts j h;
    shown = λ a p. row-valid-there c (formed c r.column) (row_number (selection_of c x) j) (named p) a;
    start = λ p. let n : row_number (selection_of c x) j < c.table.rows = named p in (omega (arith, n, (formed c r.column).rows), offset-can (row_number (selection_of c x) j) (omega (arith, n)));
  }
    where
      named : is_selected (selection_of c x) j ≡ true → row_number (selection_of c x) j < c.table.rows
      named d = rw (← index_number x j) (valid-below c.table.rows x r.indices j h (index-valid x j ∙ d))

  pub selected-sum : sum x.indices.count (selected_entries (selection_of c x)) ≡ sum x.indices.count (taken_entries c x)
  selected-sum = sum-cong x.indices.count (λ j h. selected-entries u c x j)

  pub selected-there : SelectedThere (selection_of c x) x.indices.count
  selected-there = record {
    few = omega (arith, index-facts.count);
    selection = selection-there;
    entries = λ j h. entries-there (is_shown (selection_of c x) j) (row_number (selection_of c x) j) (taken-row j h (shown-taken c x j));
    small = rw selected-sum (omega (arith, (total-small c x u e r x.indices.count (omega arith)).0));
  }

  -- by the validity that is written
  module _ {s : List ℕ} (v : Validates c.validity c.table.validity_bit x s) where
    pub shown-sum : (i : ℕ) → i ≤ x.indices.count → sum i (shown_entries (shown_of c.table.offset_width c x s)) ≡ sum i (taken_entries c x)
    shown-sum i h = sum-cong i (λ j l. shown-entries u c x j v (omega arith))

    shown-own : ShownThere (shown_of c.table.offset_width c x s) x.indices.count
    shown-own = record {
      few = omega (arith, index-facts.count);
      offset_width = offset-number;
      index_width = index-facts.width;
      number = index-facts.data_fit;
      bits = v.there;
      entries = λ j h. entries-there (bit_at s j) (number_at x.indices.width x.«data» j) (taken-row j h (validates-bit v j h));
      short = λ j h. (start-small (bit_at s j) (number_at x.indices.width x.«data» j) (taken-row j h (validates-bit v j h)), rw (shown-entries u c x j v h) (entries-small j h));
      small = rw (shown-sum x.indices.count (omega arith)) (omega (arith, (total-small c x u e r x.indices.count (omega arith)).0));
    }

    pub shown-there : {ow : ℕ} → c.table.offset_width ≡ ow → ShownThere (shown_of ow c x s) x.indices.count
    shown-there same = subst (λ (n : ℕ). ShownThere (shown_of n c x s) x.indices.count) same shown-own
