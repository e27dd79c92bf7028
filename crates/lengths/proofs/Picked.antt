-- The output rows whose indices are valid, 32 of them a turn, from one to the next: each names a row, and the others have no entries. Assumes nothing.
use mathlib.Core.Path.{◌≡◌, refl, sym, ap, ◌∙◌}
use mathlib.Core.Bool.{Bool, true, false, cond, ◌&&◌, true≢false}
use Prim.Native.Nat.{ℕ, ◌+◌, ◌-◌, ◌^◌, ◌≤◌, ◌<◌}
use native.Mathlib.Nat.{le_refl}
use native.Mathlib.Omega.{arith}
use lib.Bits.{bit_and}
use lib.Count.{count_trailing_zeros}
use lib.Dec.{ltb}
use lib.ListN.{length}
use lib.Pow.{pow_pos}
use borrow.Author.Tests.{ltb-true, lt-ltb, eq-eqb}
use Rattle.bits.specs.Sequences.{sum}
use Rattle.bits.specs.Numbers.{number_at}
use Rattle.bits.specs.Bits.{bit_value, bit_of, bit_at, is_absent, valid_at}
use Rattle.bits.proofs.Tests.{and-true}
use Rattle.bits.proofs.Sequences.{sum-cong, sum-add, sum-zero, sum-but, sum_mono}
use Rattle.bits.proofs.Bits.{valid_at-present}
use Rattle.bits.proofs.Words.{bit_of-small, LowestBit, lowest_bit, lowest-cleared, others-set, others-kept}
use Rattle.lengths.specs.Entries.{Selection, row_number, is_selected, is_shown, SelectionThere, EntriesThere}
use Rattle.lengths.specs.Totals.{selected_entries}
use Rattle.lengths.proofs.Masking.{TakenThere, taken-there, entries_at-null, null-index}

-- ---- one of them, of the row that its number n names

-- its offsets: the first of them alone, twice, where the row is null
pub picked-there : {p : Selection} {j : ℕ} → SelectionThere p j → EntriesThere p.offset_width p.offsets (is_shown p j) (row_number p j) → is_selected p j ≡ true
    → {n : ℕ} → n ≡ row_number p j → {v : ℕ} → v ≡ bit_value (valid_at p.validity p.bit n)
    → TakenThere p.offset_width p.offsets (is_shown p j) (row_number p j) (record { row = n; valid = v })
picked-there {p} {j} h q e d {v} f = rw d (go (valid_at p.validity p.bit (row_number p j)) refl (rw d at f))
  where
    go : (t : Bool) → valid_at p.validity p.bit (row_number p j) ≡ t → v ≡ bit_value t
        → TakenThere p.offset_width p.offsets (is_shown p j) (row_number p j) (record { row = row_number p j; valid = v })
    go true s g = taken-there q (rw (e, s, g))
    go false s g =
        let b = h.start e in
        let z : row_number p j + v ≡ row_number p j = omega (arith, g) in
        let null : is_shown p j ≡ false = rw (e, s) in
        record {
          few = omega (arith, b.0, g);
          start = b.1;
          end = rw z b.1;
          rises = rw z (le_refl (number_at p.offset_width p.offsets (row_number p j)));
          entries = rw (z, entries_at-null p.offset_width p.offsets (row_number p j) null) (omega arith);
        }

-- ---- n of them from `start` on

-- the entries of row i, where `word` has its bit
abbrev pub entries_left : Selection → ℕ → ℕ → ℕ → ℕ
entries_left p start word i = cond (bit_of word i) (selected_entries p (start + i)) 0

-- of the rows whose bits `word` has, the entries are not yet in the total; each has a valid index
pub record Picking (p : Selection) (start n total word : ℕ) : Type 0 where
  pub picked : (i : ℕ) → bit_of word i ≡ true → (i < n) × (is_selected p (start + i) ≡ true)
  pub left : total + sum n (entries_left p start word) ≡ sum (start + n) (selected_entries p)

-- the word of the validity has them all: the other rows have none
picked-entries : (p : Selection) (j : ℕ) → cond (is_selected p j) (selected_entries p j) 0 ≡ selected_entries p j
picked-entries p j = go (is_selected p j) refl
  where
    go : (t : Bool) → is_selected p j ≡ t → cond t (selected_entries p j) 0 ≡ selected_entries p j
    go true e = refl
    go false e = sym (null-index p j e)

pub picking-all : {p : Selection} {start n total word : ℕ} → total ≡ sum start (selected_entries p) → is_absent p.index_validity ≡ false
    → ((t : ℕ) → bit_of word t ≡ (ltb t n && bit_at p.index_validity (p.index_bit + start + t))) → Picking p start n total word
picking-all {p} {start} {n} {total} {word} before present bits = record {
  picked = λ i e.
      let b : (ltb i n ≡ true) × (bit_at p.index_validity (p.index_bit + start + i) ≡ true) = and-true (ltb i n) (bit_at p.index_validity (p.index_bit + start + i)) (sym (bits i) ∙ e) in
      (ltb-true i n b.0, chosen i ∙ b.1);
  left = rw (before, sum-add start n (selected_entries p)) (ap (λ (m : ℕ). sum start (selected_entries p) + m) (sum-cong n (λ i h. rw (same i h) (picked-entries p (start + i)))));
}
  where
    there : length p.index_validity ≡ 0 → ⊥
    there z = true≢false (sym (eq-eqb (length p.index_validity) 0 z) ∙ present)

    chosen : (i : ℕ) → is_selected p (start + i) ≡ bit_at p.index_validity (p.index_bit + start + i)
    chosen i = valid_at-present p.index_validity p.index_bit (start + i) there ∙ ap (bit_at p.index_validity) (omega arith)

    same : (i : ℕ) → i < n → bit_of word i ≡ is_selected p (start + i)
    same i h = rw (bits i, lt-ltb i n h) (sym (chosen i))

module _ {p : Selection} {start n total word : ℕ} (k : Picking p start n total word) where
  -- the lowest of them
  module _ (small : word < 2 ^ 32) (some : word ≡ 0 → ⊥) where
    abbrev t : ℕ
    t = count_trailing_zeros 32 word

    low : LowestBit word t (bit_and word (word - 1))
    low = lowest_bit 32 word small some

    pub picking-row : (t < n) × (is_selected p (start + t) ≡ true)
    picking-row = k.picked t low.set

    abbrev left : ℕ → ℕ → ℕ
    left = entries_left p start

    abbrev word' : ℕ
    word' = bit_and word (word - 1)

    module _ {e : ℕ} (d : e ≡ selected_entries p (start + t)) where
      taken-out : total + e + sum n (left word') ≡ sum (start + n) (selected_entries p)
      taken-out =
          let same : (i : ℕ) → i < n → (i ≡ t → ⊥) → left word i ≡ left word' i = λ i l o. rw (others-kept low i o) in
          let now : left word t ≡ e = rw low.set (sym d) in
          let then : left word' t ≡ 0 = rw (lowest-cleared low) in
          omega (arith, sum-but n (left word) (left word') t picking-row.0 same, now, then, k.left)

      pub picking-next : Picking p start n (total + e) word'
      picking-next = record {
        picked = λ i b. k.picked i (others-set low i b);
        left = taken-out;
      }

      pub picking-fits : {count : ℕ} → start + n ≤ count → sum count (selected_entries p) < 2 ^ 64 → total + e < 2 ^ 64
      picking-fits {count} h l = omega (arith, taken-out, sum_mono {i = start + n} count (selected_entries p) h)

  pub picking-end : word ≡ 0 → {end : ℕ} → start + n ≡ end → total ≡ sum end (selected_entries p)
  picking-end z d =
      let none : sum n (entries_left p start word) ≡ 0 = sum-zero n (entries_left p start word) (λ i h. rw (z, bit_of-small 0 i (pow_pos i))) in
      omega (arith, rw d at k.left, none)
