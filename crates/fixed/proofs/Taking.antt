-- The valid indices of a column that passed its tests name blocks that are there, and what is written by their numbers is what is taken. Assumes nothing.
use mathlib.Core.Path.{◌≡◌, ap, ◌∙◌}
use mathlib.Core.List.{List}
use Prim.Native.Nat.{ℕ, ◌+◌, ◌≤◌}
use native.Mathlib.Omega.{arith}
use lib.ListN.{length}
use borrow.Author.Tests.{ltb-false}
use Rattle.bits.specs.Bytes.{overwrite}
use Rattle.bits.specs.Bits.{bytes_for, valid_at}
use Rattle.bits.specs.Sequences.{concat}
use Rattle.tables.specs.Columns.{IndexColumn, index_valid}
use Rattle.gathers.specs.Buffers.{taken_block}
use Rattle.blocks.specs.Blocked.{Named, named_block}
use Rattle.fixed.specs.Blocked.{Blocked}
use Rattle.bits.proofs.Sequences.{concat-cong}
use Rattle.tables.proofs.Facts.{IndexFormed, index-formed}
use Rattle.tables.proofs.There.{index_number, index-valid}

module _ {n : ℕ} {x : IndexColumn} {s d : List ℕ} (b : Blocked n x s d) where
  formed : IndexFormed x
  formed = index-formed x b.passed

  by_first : (j : ℕ) → index_valid x j ≡ valid_at x.validity 0 j
  by_first j = index-valid x j ∙ ap (λ (k : ℕ). valid_at x.validity k j) b.first

  short : bytes_for (0 + x.indices.count) ≤ length x.validity → bytes_for x.indices.count ≤ length x.validity
  short h = omega (arith, h)

  pub named : Named n x.indices.width x.indices.count x.«data» x.validity s d
  named = record {
    width = formed.width;
    numbered = formed.data_fit;
    shown = λ e. short (ltb-false (length x.validity) (bytes_for (0 + x.indices.count)) (rw (b.first, e) at formed.validity_fits));
    there = λ j h t. rw (← index_number x j) (b.there j h (by_first j ∙ t));
    room = b.room;
  }

  pub taken : {y : List ℕ} → y ≡ overwrite (concat x.indices.count (named_block n x.indices.width x.«data» x.validity s)) d
      → y ≡ overwrite (concat x.indices.count (taken_block n s x)) d
  unfolding taken_block
  taken e =
      e ∙ ap (λ (z : List ℕ). overwrite z d) (concat-cong x.indices.count (λ j h. rw (by_first j, index_number x j)))
