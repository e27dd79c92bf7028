-- The tests of a batch before its columns, by its records alone: what lies in the body does not matter to them. Assumes nothing.
use mathlib.Core.Path.{◌≡◌, sym, ap, ◌∙◌}
use mathlib.Core.Bool.{Bool, true, false, not}
use mathlib.Core.List.{List}
use Prim.Native.Nat.{ℕ, ◌*◌, ◌≤◌, ◌<◌}
use lib.Dec.{eqb}
use lib.ListN.{length}
use borrow.Author.Tests.{eq-eqb, ne_eqb, lt-ltb, le-ltb}
use Rattle.tables.specs.declared.table.Table.{Table}
use Rattle.tables.specs.Bodies.{record_bytes, described_at}
use Rattle.tables.specs.Answers.{refuse, accept, first_of}
use Rattle.batches.specs.Batch.{max_columns, batch_in, rows_differ, batch_lines}
use Rattle.arrays.specs.Told.{records_differ}
use Rattle.bits.proofs.Sequences.{any-cong, any_at}
use Rattle.tables.proofs.Bodies.{column-table}

-- record i states another number of rows
abbrev pub differs : List ℕ → ℕ → ℕ → Bool
differs s rows i = not (eqb (described_at s i).table.rows rows)

pub differ-at : (n : ℕ) (s : List ℕ) (i : ℕ) → i < n → {a b : ℕ} → a ≡ (described_at s i).table.rows → b ≡ (described_at s 0).table.rows → (a ≡ b → ⊥)
    → records_differ n s ≡ true
differ-at n s i h {a} {b} ae be d =
    any_at n (λ i. not (eqb (described_at s i).table.rows (described_at s 0).table.rows)) i h (rw (sym ae, sym be, ne_eqb a b d))

module _ (n : ℕ) (s body : List ℕ) where
  differ-by-records : rows_differ (batch_in n s body) ≡ records_differ n s
  differ-by-records =
      let rows : (i : ℕ) → ((batch_in n s body).column i).table.rows ≡ (described_at s i).table.rows = λ i. ap (λ (t : Table). t.rows) (column-table body (described_at s i)) in
      any-cong n {p = λ i. not (eqb ((batch_in n s body).column i).table.rows ((batch_in n s body).column 0).table.rows)}
      {q = λ i. not (eqb (described_at s i).table.rows (described_at s 0).table.rows)} (λ i h. rw (rows i, rows 0))

  -- ---- the answer, by the first test that is met

  pub no-columns : n ≡ 0 → refuse 2 0 0 ≡ first_of (batch_lines (batch_in n s body))
  no-columns e = rw (eq-eqb n 0 e)

  module _ (some : n ≡ 0 → ⊥) where
    pub many-columns : max_columns < n → refuse 2 0 0 ≡ first_of (batch_lines (batch_in n s body))
    many-columns h = rw (ne_eqb n 0 some, lt-ltb max_columns n h)

    module _ (few : n ≤ max_columns) where
      pub few-records : length s < n * record_bytes → refuse 3 0 0 ≡ first_of (batch_lines (batch_in n s body))
      few-records h = rw (ne_eqb n 0 some, le-ltb max_columns n few, lt-ltb (length s) (n * record_bytes) h)

      module _ (there : n * record_bytes ≤ length s) {d : Bool} (e : d ≡ records_differ n s) where
        pub rows-unequal : d ≡ true → refuse 8 0 0 ≡ first_of (batch_lines (batch_in n s body))
        rows-unequal t = rw (ne_eqb n 0 some, le-ltb max_columns n few, le-ltb (length s) (n * record_bytes) there, differ-by-records ∙ sym e ∙ t)

        pub batch-passes : d ≡ false → accept ≡ first_of (batch_lines (batch_in n s body))
        batch-passes t = rw (ne_eqb n 0 some, le-ltb max_columns n few, le-ltb (length s) (n * record_bytes) there, differ-by-records ∙ sym e ∙ t)
