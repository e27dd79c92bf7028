-- A column and an index column that are refused as two others are through overflow, and stored as they are where that lets pass, are gathered alike: what
-- every theorem comes to that exchanges one of them for another, of a gather and of several. Assumes nothing.
use mathlib.Core.Path.{◌≡◌, refl}
use mathlib.Core.Bool.{Bool, true, false, cond}
use Rattle.tables.specs.declared.answer.Answer.{Answer}
use Rattle.tables.specs.Columns.{Column, IndexColumn}
use Rattle.tables.specs.Answers.{passes, first_of}
use Rattle.tables.specs.Stages.{◌or_else◌, form_refusal}
use Rattle.gathers.specs.Taken.{taken}
use Rattle.gathers.specs.Stored.{Output}
use Rattle.gathers.specs.Gather.{through_lines, gather}
use Rattle.gathers.specs.Stages.{range_refusal, overflow_refusal}
use Rattle.gathers.proofs.Stages.{finish, gather-stages, finish-refused, through-stages}
use Rattle.gathers.proofs.Store.{StoredAlike, finish-alike}

-- d by y in place of c by x: the tests before overflow answer the same, and where they let pass the same is stored
pub record TakenAlike (c : Column) (x : IndexColumn) (d : Column) (y : IndexColumn) : Type 0 where
  pub before : form_refusal c x or_else range_refusal c.table.rows x ≡ form_refusal d y or_else range_refusal d.table.rows y
  pub stored : passes (form_refusal c x or_else range_refusal c.table.rows x) ≡ true → StoredAlike (taken c x) (taken d y)

pub alike_self : (c : Column) (x : IndexColumn) → TakenAlike c x c x
alike_self c x = record { before = refl; stored = λ e. record { overflow = refl; needed = refl; validity = refl; offsets = refl; «data» = refl; nulls = refl } }

module _ (c : Column) (x : IndexColumn) (d : Column) (y : IndexColumn) (s : TakenAlike c x d y) where
  abbrev a : Answer
  a = form_refusal c x or_else range_refusal c.table.rows x

  pub through-alike : first_of (through_lines c x) ≡ first_of (through_lines d y)
  through-alike = rw (through-stages c x, through-stages d y, ← s.before) (go (passes a) refl)
    where
      go : (t : Bool) → passes a ≡ t → cond t (overflow_refusal (taken c x)) a ≡ cond t (overflow_refusal (taken d y)) a
      go true e = (s.stored e).overflow
      go false e = refl

  pub gather-alike : (o : Output) → gather c x o ≡ gather d y o
  gather-alike o = rw (gather-stages c x o, gather-stages d y o, ← s.before) (go (passes a) refl)
    where
      go : (t : Bool) → passes a ≡ t → finish a (taken c x) o ≡ finish a (taken d y) o
      go true e = finish-alike (s.stored e) a o
      go false e = finish-refused a (taken c x) (taken d y) o e
