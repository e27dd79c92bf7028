-- A gather depends on the picks of an index column alone; of them on the valid ones' rows alone. Assumes nothing.
use mathlib.Core.Path.{◌≡◌, refl, sym, ap, ◌∙◌, subst}
use mathlib.Core.Bool.{Bool, true, false, ◌&&◌}
use mathlib.Core.List.{[], ◌∷◌}
use Prim.Native.Nat.{ℕ, ◌<◌}
use lib.Dec.{leb, ltb}
use Rattle.bits.specs.Sequences.{first}
use Rattle.tables.specs.Columns.{Column, IndexColumn, index_valid}
use Rattle.tables.specs.Answers.{refuse, passes, line, first_of}
use Rattle.tables.specs.Stages.{form_refusal}
use Rattle.tables.specs.Refusals.{index_refusal}
use Rattle.tables.specs.Rows.{Rows, rows_of, rows_like}
use Rattle.tables.specs.Picks.{Picks, picks_of}
use Rattle.gathers.specs.Taken.{picked_valid, pick_rows}
use Rattle.gathers.specs.Stored.{Output}
use Rattle.gathers.specs.Gather.{is_outside, out_of_range, gather}
use Rattle.gathers.specs.Stages.{range_refusal}
use Rattle.gathers.specs.Alike.{SamePicks}
use Rattle.bits.proofs.Sequences.{first_cong}
use Rattle.bits.proofs.Tests.{and-true, cond-cong}
use Rattle.tables.proofs.Stages.{form-tested}
use Rattle.gathers.proofs.Store.{StoredAlike, stored-cong}
use Rattle.gathers.proofs.Exchanged.{TakenAlike, gather-alike}

-- a test that is met at valid picks alone
both-valid : (s t : Bool) {a b : Bool} → s ≡ t → (s ≡ true → a ≡ b) → (s && a) ≡ (t && b)
both-valid true t e h = rw (← e) (h refl)
both-valid false t e h = rw (← e)

module _ (v : Rows) (p q : Picks) (s : SamePicks p q) where
  module _ (j : ℕ) (h : j < p.count) where
    valid_same : picked_valid v p j ≡ picked_valid v q j
    unfolding picked_valid
    valid_same = both-valid (p.valid j) (q.valid j) (s.valid j h) (λ e. ap v.valid (s.row j h e))

    row_same : picked_valid v p j ≡ true → p.row j ≡ q.row j
    unfolding picked_valid
    row_same e = s.row j h (and-true (p.valid j) (v.valid (p.row j)) e).0

    entries-same : (pick_rows v p).entries j ≡ (pick_rows v q).entries j
    entries-same = rw (← valid_same) (cond-cong (picked_valid v p j) (λ e. ap v.entries (row_same e)) (λ e. refl))

    bytes_same : (pick_rows v p).bytes j ≡ (pick_rows v q).bytes j
    bytes_same = rw (← valid_same) (cond-cong (picked_valid v p j) (λ e. ap v.bytes (row_same e)) (λ e. refl))

  pub picked-alike : StoredAlike (pick_rows v p) (pick_rows v q)
  picked-alike =
      subst (λ (n : ℕ). StoredAlike (pick_rows v p) (rows_like v n (pick_rows v q).valid (pick_rows v q).entries (pick_rows v q).bytes)) (sym s.count)
      (stored-cong v p.count valid_same entries-same bytes_same)

module _ (x y : IndexColumn) (s : SamePicks (picks_of x) (picks_of y)) where
  pub range_same : (n : ℕ) → out_of_range n x ≡ out_of_range n y
  unfolding out_of_range
  range_same n =
      first_cong x.indices.count (λ j h. both-valid (index_valid x j) (index_valid y j) (s.valid j h) (λ e. ap (leb n) (s.row j h e)))
      ∙ ap (λ (m : ℕ). first m (is_outside n y)) (sym s.count)

  refused-same : (n : ℕ) → range_refusal n x ≡ range_refusal n y
  unfolding range_refusal
  refused-same n =
      ap (λ (p : ℕ). first_of (line (ltb p x.indices.count) (refuse 5 p 0) ∷ [])) (range_same n)
      ∙ ap (λ (m : ℕ). first_of (line (ltb (out_of_range n y) m) (refuse 5 (out_of_range n y) 0) ∷ [])) (sym s.count)

  -- index columns of the same picks that are tested alike
  pub picks-alike : (c : Column) → form_refusal c x ≡ form_refusal c y → TakenAlike c x c y
  picks-alike c f = record {
    before = rw (f, refused-same c.table.rows);
    stored = λ h. picked-alike (rows_of c) (picks_of x) (picks_of y) s;
  }

  -- two index columns that pass their tests, of the same picks, gather alike: their widths, bit offsets and the numbers under nulls do not matter
  pub passed-alike : (c : Column) → passes (index_refusal x) ≡ true → passes (index_refusal y) ≡ true → TakenAlike c x c y
  passed-alike c p q = picks-alike c (form-tested c x p ∙ sym (form-tested c y q))

pub same-picks : (c : Column) (x y : IndexColumn) (o : Output) → passes (index_refusal x) ≡ true → passes (index_refusal y) ≡ true
    → SamePicks (picks_of x) (picks_of y) → gather c x o ≡ gather c y o
same-picks c x y o p q s = gather-alike c x c y (passed-alike x y s c p q) o
