-- The first refusal and the gather by what the stages answer: the laws that `check` and `take` cite at each return. Assumes nothing.
use mathlib.Core.Path.{◌≡◌, sym, ap, ◌∙◌}
use mathlib.Core.Bool.{true}
use Rattle.tables.specs.declared.answer.Answer.{Answer}
use Rattle.tables.specs.Stages.{Checked}
use Rattle.std.specs.Prelude.{Result, Ok, Err}
use Rattle.std.proofs.lemmas.Result.{IfOk-at_ok}
use Rattle.tables.specs.declared.refusal.Refusal.{Refusal}
use Rattle.tables.specs.declared.table.Lengths.{Lengths}
use Rattle.tables.specs.Columns.{Column, IndexColumn}
use Rattle.tables.specs.Answers.{passes, refusal_numbers, first_of}
use Rattle.tables.specs.Stages.{checked_numbers, sizes_refusal}
use Rattle.tables.specs.Rows.{Rows}
use Rattle.gathers.specs.Taken.{taken}
use Rattle.gathers.specs.Stored.{Output, needed_lengths, lent_lengths, store}
use Rattle.gathers.specs.Gather.{space_lines, refusals, Outcome, gather}
use Rattle.gathers.specs.Ready.{Ready, NoOverflow}
use Rattle.stages.specs.Space.{lengths_refusal}
use Rattle.described.specs.declared.column.Taken.{Taken}
use Rattle.described.specs.Told.{RestToldOf, ToldOf}
use Rattle.described.specs.Taken.{taken_of, HasRoomFor}
use Rattle.entries.specs.Entry.{Gathers}
use Rattle.stages.proofs.Spaces.{lengths_refusal-lines}
use Rattle.described.proofs.Columns.{refuses, lets-pass}
use Rattle.described.proofs.Placed.{all_told}
use Rattle.tables.proofs.Stages.{refusing, stage-refused, form-passed}
use Rattle.gathers.proofs.Stages.{Passed as AllPassed, all-passed, by-space, stops-form, gather-refused, gather-stored, enough, space_refusal-lines, gathered-by}
use Rattle.gathers.proofs.Blanked.{gather-blank}

module _ (c : Column) (x : IndexColumn) where
  abbrev v : Rows
  v = taken c x

  -- ---- the tests, stage by stage

  module _ (s : Checked) (se : checked_numbers s ≡ sizes_refusal c x) where
    pub sizes-refused : (o : Output) {r : Refusal} → s ≡ Err r → checked_numbers s ≡ first_of (refusals c x o)
    sizes-refused o f = let g = stage-refused c x se f in g ∙ stops-form c x o (refuses g f)

    module _ (sf : s ≡ Ok tt) (m : Result Lengths Refusal) (me : RestToldOf c x m) where
      through : ToldOf c x m
      through = all_told c x se sf m me

      pub through-refused : (o : Output) {r : Refusal} → m ≡ Err r → checked_numbers m ≡ first_of (refusals c x o)
      through-refused o f = let n = refuses through.0 f in through.0 ∙ rw (by-space c x o, n)

      pub all_tested : {needed : Lengths} → m ≡ Ok needed → (o : Output) {a : Answer} → a ≡ lengths_refusal needed (lent_lengths o) → a ≡ first_of (refusals c x o)
      all_tested {needed} mf o d =
          let n = lets-pass through.0 mf in
          d
          ∙ lengths_refusal-lines needed (lent_lengths o)
          ∙ ap (λ (k : Lengths). first_of (space_lines k (lent_lengths o))) (IfOk-at_ok (λ (k : Lengths). k ≡ needed_lengths v) mf through.1)
          ∙ sym (space_refusal-lines v o)
          ∙ rw (by-space c x o, n)

  -- ---- the gather, by what the tests answer

  -- demand 3: the definition's outcome is its outcome on the blanked table
  pub both : (o : Output) {g : Outcome} → g ≡ gather c x o → Gathers gather c x o g
  both o e = record { right = e; private = λ w. e ∙ gather-blank c x w o }

  module _ (o : Output) {t : Checked} (e : checked_numbers t ≡ first_of (refusals c x o)) where
    pub turned-away : {r : Refusal} → t ≡ Err r → record { answer = refusal_numbers r; output = o } ≡ gather c x o
    turned-away {r} f = gather-refused c x o (sym (ap checked_numbers f) ∙ e) (refusing r)

    module _ (f : t ≡ Ok tt) where
      passed : passes (first_of (refusals c x o)) ≡ true
      passed = lets-pass e f

      stages : AllPassed c x o
      stages = all-passed c x o passed

      pub ready : Ready c x
      ready =
          let form = form-passed c x stages.form in
          record { column = form.0; indices = record { passed = form.1; range = stages.range } }

      pub overflow-passed : NoOverflow c x
      overflow-passed = stages.overflow

      pub room : HasRoomFor v o
      room = let r = enough v o stages.space in record { validity = r.0; offsets = r.1; «data» = r.2 }

      pub all-stored : (w : Taken) → w ≡ taken_of v → {p : Output} → p ≡ store v o
          → record { answer = record { number = 0; place = 0; total = w.needed.«data»; nulls = w.nulls }; output = p } ≡ gather c x o
      all-stored w d h =
          let a = gathered-by v (ap (λ (w : Taken). w.needed.«data») d) (ap (λ (w : Taken). w.nulls) d) in
          rw (a, h) (gather-stored c x o passed)
