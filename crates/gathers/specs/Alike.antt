-- When two columns, or two index columns, are gathered alike: what a gather looks at is the same. Below nulls it looks at nothing.
use Rattle.std.specs.Prelude.{ℕ, ◌<◌, ◌≡◌, Bool, true}
use Rattle.tables.specs.Rows.{Rows}
use Rattle.tables.specs.Picks.{Picks}

-- v and w are as many rows of one sort, and where `at` holds they show the same: the same of them are valid, and those have the same length and bytes
pub record Agree (at : ℕ → Bool) (v w : Rows) : Type 0 where
  pub kind : w.kind ≡ v.kind
  pub layout : w.layout ≡ v.layout
  pub offset_width : w.offset_width ≡ v.offset_width
  pub count : w.count ≡ v.count
  pub valid : (i : ℕ) → i < v.count → at i ≡ true → v.valid i ≡ w.valid i
  pub entries : (i : ℕ) → i < v.count → at i ≡ true → v.valid i ≡ true → v.entries i ≡ w.entries i
  pub bytes : (i : ℕ) → i < v.count → at i ≡ true → v.valid i ≡ true → v.bytes i ≡ w.bytes i

-- every row
abbrev pub SameRows : Rows → Rows → Type 0
SameRows v w = Agree (λ i. true) v w

-- as many picks, the same of them valid, and those of the same rows
pub record SamePicks (p q : Picks) : Type 0 where
  pub count : q.count ≡ p.count
  pub valid : (j : ℕ) → j < p.count → p.valid j ≡ q.valid j
  pub row : (j : ℕ) → j < p.count → p.valid j ≡ true → p.row j ≡ q.row j
