-- The first bad offset, if there is one (specs/Found.antt): of a search, and as refusal 4. Assumes nothing.
use mathlib.Core.Path.{◌≡◌, refl}
use mathlib.Core.Bool.{Bool, true, false, cond}
use Prim.Native.Nat.{ℕ, suc, ◌/◌, ◌<◌}
use native.Mathlib.Omega.{arith}
use lib.Dec.{ltb}
use lib.ListN.{length}
use borrow.Author.Tests.{ltb-true, ltb-false, lt-ltb, le-ltb}
use Rattle.std.specs.Prelude.{Option, Some, None}
use Rattle.bits.specs.Sequences.{first}
use Rattle.bits.specs.Numbers.{number_at}
use Rattle.tables.specs.declared.table.Kind.{Kind}
use Rattle.tables.specs.declared.table.Layout.{Layout}
use Rattle.tables.specs.declared.table.Layout.TheVariants.{FixedWidth, BitMap, VariableWidth}
use Rattle.tables.specs.declared.answer.Answer.{Answer}
use Rattle.tables.specs.Kinds.{kind_of, layout_of, is_width}
use Rattle.tables.specs.Columns.{Column, layout_at}
use Rattle.tables.specs.Answers.{refuse, accept}
use Rattle.tables.specs.Refusals.{is_bad}
use Rattle.tables.specs.Stages.{offsets_refusal}
use Rattle.tables.specs.Bounds.{Offsets, Sized}
use Rattle.offsets.specs.Found.{first_found}
use Rattle.bits.proofs.Sequences.{first-at}
use Rattle.tables.proofs.Stages.{layout-told, variable-unit, variable-offsets, offsets-of-blocks, offsets-of-bits, offsets-refused, offsets-accepted}

module _ (n : ℕ) (p : ℕ → Bool) where
  pub found-at : (i : ℕ) → i < n → p i ≡ true → ((k : ℕ) → k < i → p k ≡ false) → Some i ≡ first_found n p
  found-at i h t b = rw (first-at n p i h t b, lt-ltb i n h)

  pub found-none : first n p ≡ n → None ≡ first_found n p
  found-none e = rw (e, le-ltb n n (omega arith))

-- ---- as refusal 4

abbrev pub bad_answer : Option ℕ → Answer
bad_answer (Some place) = refuse 4 place 0
bad_answer None = accept

-- a column without offsets has no bad one
without-offsets : (c : Column) {l : Layout} → layout_at c ≡ l → ((u : ℕ) → l ≡ VariableWidth u → ⊥) → accept ≡ offsets_refusal c
without-offsets c {l = FixedWidth n} d h = offsets-of-blocks c n d
without-offsets c {l = BitMap} d h = offsets-of-bits c d
without-offsets c {l = VariableWidth u} d h = absurd (h u refl)

-- of a column that passed refusals 1 to 3, whose kind and layout were found so
module _ {c : Column} (p : Sized c) {k : Kind} (e : k ≡ kind_of c.table.kind) where
  pub none-bad : {l : Layout} → l ≡ layout_of k c.table.width c.table.size → ((u : ℕ) → l ≡ VariableWidth u → ⊥) → accept ≡ offsets_refusal c
  none-bad f h = without-offsets c (layout-told c e f) h

  module _ {u : ℕ} (f : VariableWidth u ≡ layout_of k c.table.width c.table.size) where
    pub unit-listed : is_width u ≡ true
    unit-listed = variable-unit c p u (layout-told c e f)

    pub offsets-there : Offsets c.table.offset_width c.table.rows c.offsets
    offsets-there = variable-offsets c p u (layout-told c e f)

    pub bad-answered : {m : ℕ} {r : Option ℕ} → m ≡ length c.«data» / u
        → r ≡ first_found (suc c.table.rows) (is_bad c.table.offset_width (number_at c.table.offset_width c.offsets) m) → bad_answer r ≡ offsets_refusal c
    bad-answered d h = rw (h, d) (go (ltb place (suc c.table.rows)) refl)
      where
        place : ℕ
        place = first (suc c.table.rows) (is_bad c.table.offset_width (number_at c.table.offset_width c.offsets) (length c.«data» / u))

        go : (t : Bool) → ltb place (suc c.table.rows) ≡ t → bad_answer (cond t (Some place) None) ≡ offsets_refusal c
        go true h = offsets-refused c u (layout-told c e f) refl (omega (arith, ltb-true place (suc c.table.rows) h))
        go false h = offsets-accepted c u (layout-told c e f) refl (omega (arith, ltb-false place (suc c.table.rows) h))
