-- A column that lies in a body, by what the code finds of it: its tests, and the parts of the body that are its buffers. Assumes nothing.
use mathlib.Core.Path.{◌≡◌, refl, sym, ap, ◌∙◌}
use mathlib.Core.Bool.{Bool, true, false, cond}
use mathlib.Core.Logic.{inl, inr}
use mathlib.Core.List.{List}
use Prim.Native.Nat.{ℕ}
use lib.ListN.{length}
use Rattle.std.specs.Prelude.{Result, Ok, Err}
use Rattle.tables.specs.declared.answer.Answer.{Answer}
use Rattle.tables.specs.declared.refusal.Refusal.{Refusal}
use Rattle.tables.specs.declared.table.Table.{Table}
use Rattle.tables.specs.declared.table.Lengths.{Lengths}
use Rattle.tables.specs.declared.table.IndexLengths.{IndexLengths}
use Rattle.tables.specs.declared.table.Description.{Description}
use Rattle.tables.specs.Kinds.{kind_of, uses_of}
use Rattle.tables.specs.Columns.{Column, IndexColumn, lengths_of, index_lengths_of, no_indices}
use Rattle.tables.specs.Bodies.{some_cut, column_in}
use Rattle.tables.specs.Stages.{Checked, checked_numbers, ◌or_else◌, form_refusal, stated_refusal, sizes_refusal, offsets_refusal}
use Rattle.tables.specs.Refusals.{index_refusal, WellFormed}
use Rattle.tables.specs.Bounds.{Sized}
use Rattle.tables.specs.Answers.{passes}
use Rattle.gathers.specs.Taken.{taken}
use Rattle.gathers.specs.Stages.{range_refusal, overflow_refusal}
use Rattle.gathers.specs.Ready.{InRange, Ready}
use Rattle.described.specs.Told.{stated_lengths, through_range, MeasuredOf, RestToldOf, TestedFor, ToldOf}
use Rattle.tables.proofs.Bodies.{column-table, column-cut, column-stated}
use Rattle.tables.proofs.Facts.{formed}
use Rattle.tables.proofs.Lines.{or_else-passes}
use Rattle.tables.proofs.Stages.{sizes-passed, stage-passed, stage-refused, form-passed, form-alone, form-tested}
use Rattle.gathers.proofs.Stages.{through-stages}
use Rattle.described.proofs.Columns.{refuses, lets-pass, tested-range}

pub well-formed-whole : (c : Column) → WellFormed c → c.cut ≡ false
well-formed-whole c w = (formed c w).whole

-- ---- refusals 1 to 5 and 1 to 6, by those of the sizes and the rest

module _ (c : Column) (x : IndexColumn) {s : Checked} (e : checked_numbers s ≡ sizes_refusal c x) where
  pub sizes-stopped : {r : Refusal} → s ≡ Err r → checked_numbers s ≡ through_range c x
  sizes-stopped f = let g = stage-refused c x e f in let n = refuses g f in g ∙ rw n

  module _ (f : s ≡ Ok tt) where
    pub sizes-let-pass : Sized c × (passes (index_refusal x) ≡ true)
    sizes-let-pass = sizes-passed c x (lets-pass e f)

    pub form-stopped : {t : Checked} → checked_numbers t ≡ offsets_refusal c → {r : Refusal} → t ≡ Err r → checked_numbers t ≡ through_range c x
    form-stopped d g = let h = stage-passed c x e f d in let n = refuses h g in h ∙ rw n

    pub form-passed-on : {t : Checked} → checked_numbers t ≡ offsets_refusal c → t ≡ Ok tt → {a : Answer} → a ≡ range_refusal c.table.rows x → a ≡ through_range c x
    form-passed-on d g h = let n = lets-pass (stage-passed c x e f d) g in h ∙ rw n

-- ---- what refusals 1 to 5 say of those through 6

module _ (c : Column) (x : IndexColumn) (s : Checked) (e : checked_numbers s ≡ through_range c x) where
  pub through-stopped : {r : Refusal} → s ≡ Err r → ToldOf c x (Err r)
  through-stopped f = let n = refuses e f in (sym (ap checked_numbers f) ∙ e ∙ (rw (through-stages c x, n)), tt)

  module _ (f : s ≡ Ok tt) where
    pub through-ready : Ready c x
    through-ready =
        let p = or_else-passes (form_refusal c x) (range_refusal c.table.rows x) (lets-pass e f) in
        let q = form-passed c x p.0 in
        record { column = q.0; indices = record { passed = q.1; range = p.1 } }

    pub through-measured : (m : Result Lengths Refusal) → MeasuredOf c x m → ToldOf c x m
    through-measured m t = (t.0 ∙ (let p = lets-pass e f in rw (through-stages c x, p)), t.1)

-- ---- by the tests of what is tested in place of the index column

pub tested_one : {n : ℕ} {x : IndexColumn} (first : Bool) → (first ≡ false → InRange n x) → {t : IndexColumn} → t ≡ cond first x no_indices → TestedFor n t x
tested_one true known e = inl e
tested_one false known e = inr (e, known refl)

module _ (c : Column) {t x : IndexColumn} (h : TestedFor c.table.rows t x) where
  tested-form : form_refusal c t ≡ form_refusal c x
  tested-form = go h
    where
      go : TestedFor c.table.rows t x → form_refusal c t ≡ form_refusal c x
      go (inl e) = ap (form_refusal c) e
      go (inr (e, r)) = ap (form_refusal c) e ∙ form-alone c ∙ sym (form-tested c x r.passed)

  tested-through : through_range c t ≡ through_range c x
  tested-through = rw (tested-form, tested-range h)

  module _ {s : Checked} (e : checked_numbers s ≡ sizes_refusal c t) where
    pub stated-stopped : {r : Refusal} → s ≡ Err r → ToldOf c x (Err r)
    stated-stopped f = through-stopped c x s (sizes-stopped c t e f ∙ tested-through) f

    pub stated-passed : s ≡ Ok tt → (r : Result Lengths Refusal) → RestToldOf c x r → ToldOf c x r
    stated-passed f r q =
        let g : offsets_refusal c ≡ form_refusal c x = stage-passed c t e f refl ∙ tested-form in
        (q.0 ∙ ap (λ (a : Answer). a or_else range_refusal c.table.rows x or_else overflow_refusal (taken c x)) g ∙ sym (through-stages c x), q.1)

pub all_told : (c : Column) (x : IndexColumn) {s : Checked} → checked_numbers s ≡ sizes_refusal c x → s ≡ Ok tt → (r : Result Lengths Refusal) → RestToldOf c x r → ToldOf c x r
all_told c x e f = stated-passed c {t = x} (inl refl) e f

-- where the range is known to pass, a column that is tested without the indices is tested with them
pub tested-with : (c : Column) (x : IndexColumn) (first : Bool) → (first ≡ false → InRange c.table.rows x) → {t : IndexColumn} → t ≡ cond first x no_indices
    → through_range c t ≡ through_range c x
tested-with c x first known e = tested-through c (tested_one first known e)

-- ---- by the lengths that a description states

module _ (s : List ℕ) (d : Description) where
  abbrev c : Column
  c = column_in s d

  pub sizes-stated : (x : IndexColumn) {a : Answer} {cut : Bool} {n : Lengths} {m : IndexLengths} → cut ≡ some_cut (uses_of (kind_of d.table.kind)) (length s) d
      → n ≡ stated_lengths d → m ≡ index_lengths_of x → a ≡ stated_refusal d.table cut n x.indices m → a ≡ sizes_refusal c x
  sizes-stated x {n = n} {m = m} ce ne me e =
      e
      ∙ ap (λ (b : Bool). stated_refusal d.table b n x.indices m) (ce ∙ sym (column-cut s d))
      ∙ ap (λ (n : Lengths). stated_refusal d.table c.cut n x.indices m) (ne ∙ sym (column-stated s d))
      ∙ ap (λ (m : IndexLengths). stated_refusal d.table c.cut (lengths_of c) x.indices m) me
      ∙ ap (λ (t : Table). stated_refusal t c.cut (lengths_of c) x.indices (index_lengths_of x)) (sym (column-table s d))
