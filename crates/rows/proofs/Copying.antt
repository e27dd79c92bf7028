-- The rows of a turn that are copied (specs/Rows.antt): what is written for one, and how far the copy has come. Assumes nothing.
use mathlib.Core.Path.{◌≡◌, refl, sym, ap, ap₂, ◌∙◌}
use mathlib.Core.Bool.{Bool, true, false, ◌&&◌}
use mathlib.Core.List.{List, [], ◌++◌}
use Prim.Native.Nat.{ℕ, suc, ◌+◌, ◌-◌, ◌^◌, ◌≤◌, ◌<◌}
use native.Mathlib.Nat.{add-zero, zero-mul}
use native.Mathlib.Omega.{arith}
use lib.Bits.{bit_and}
use lib.Count.{count_trailing_zeros}
use lib.Dec.{leb, ltb}
use lib.ListN.{length, get_or, take, drop, length-drop}
use lib.Seq.{take_all}
use lib.Pow.{pow_pos}
use borrow.Author.Tests.{le-leb, leb-true, leb-false, ltb-true, ltb-false}
use borrow.Rule.Slice.PartMut.{mid_of, put_mid}
use Rattle.bits.specs.Sequences.{concat, sum}
use Rattle.bits.specs.Bytes.{part, overwrite}
use Rattle.bits.specs.Bits.{bit_of}
use Rattle.bits.proofs.Bytes.{overwrite_at-lent}
use Rattle.bits.proofs.Sequences.{concat-skip, sum_mono, sum-add, sum-zero}
use Rattle.bits.proofs.Tests.{and-true, and_right, and-false-right}
use Rattle.bits.proofs.Words.{bit_of-small, LowestBit, lowest_bit, lowest-cleared, others-kept}
use Rattle.rows.specs.Front.{front_bytes}
use Rattle.rows.specs.Rows.{Stretches, row_from, row_length, row_bytes, written_row, RowThere, RowsThere}
use Rattle.rows.proofs.Fronts.{front-first, front_long, written-front}

-- ---- a row's bytes

pub row_bytes-part : (b : Stretches) (t : ℕ) → row_bytes b t ≡ part (row_from b t) (row_length b t) b.«data»
unfolding row_bytes
row_bytes-part b t = refl

row_length-empty : (b : Stretches) (t : ℕ) → get_or b.lengths t 0 ≡ 0 → row_length b t ≡ 0
row_length-empty b t e = rw e (zero-mul b.unit)

pub row_bytes-empty : (b : Stretches) (t : ℕ) → get_or b.lengths t 0 ≡ 0 → row_bytes b t ≡ []
unfolding row_bytes
row_bytes-empty b t e = ap (λ (n : ℕ). part (row_from b t) n b.«data») (row_length-empty b t e)

-- ---- one row

module _ {b : Stretches} {room t p : ℕ} (q : RowThere b room t p) where
  -- the tail of the output from its place on was lent, and y is what came back
  pub row_written : (o : List ℕ) {y : List ℕ} → length o ≡ room
      → y ≡ overwrite (front_bytes (row_length b t) (length (part (row_from b t) (length b.«data» - row_from b t) b.«data»)) (length (mid_of p (length o - p) o)) (part (row_from b t) (length b.«data» - row_from b t) b.«data»)) (mid_of p (length o - p) o)
      → put_mid p (length o - p) o y ≡ written_row b t p o
  unfolding written_row
  row_written o long h =
      let s : List ℕ = b.«data» in
      let f : ℕ = row_from b t in
      let rest : part f (length s - f) s ≡ drop f s = take_all (length s - f) (drop f s) (omega (arith, length-drop f s)) in
      let tail : mid_of p (length o - p) o ≡ drop p o = take_all (length o - p) (drop p o) (omega (arith, length-drop p o)) in
      let k : ℕ → ℕ → List ℕ → List ℕ = λ r w z. overwrite (front_bytes (row_length b t) r w z) (mid_of p (length o - p) o) in
      overwrite_at-lent p (front_bytes (row_length b t) (length s - f) (length o - p) (drop f s)) o
      (h
      ∙ ap (λ (z : List ℕ). k (length z) (length (mid_of p (length o - p) o)) z) rest
      ∙ ap₂ (λ (r w : ℕ). k r w (drop f s)) (length-drop f s) (ap length tail ∙ length-drop p o))

  -- what it leaves: its bytes right after those before it
  pub row_put : (o : List ℕ) {o' : List ℕ} → length o ≡ room → o' ≡ written_row b t p o → take (p + row_length b t) o' ≡ take p o ++ row_bytes b t
  unfolding written_row row_bytes
  row_put o {o'} long w =
      let n : ℕ = row_length b t in
      let s : List ℕ = drop (row_from b t) b.«data» in
      let r : ℕ = length b.«data» - row_from b t in
      let e : List ℕ = front_bytes n r (length o - p) s in
      let here : n ≤ length s = omega (arith, length-drop (row_from b t) b.«data», q.read) in
      let enough : n ≤ length e = (front_long n r (length o - p) s here (omega (arith, q.ends, long))).0 in
      rw w (written-front p e o (omega (arith, q.ends, long)) n enough)
      ∙ ap (λ (z : List ℕ). take p o ++ z) (front-first n r (length o - p) s here)

-- ---- how far the copy has come

-- the rows before row `next` are at the front of o, which is filled up to `at`, and `left` has the bits of the others
pub record RowsCopied (b : Stretches) (word rows : ℕ) (o : List ℕ) (left at : ℕ) : Type 0 where
  pub next : ℕ
  pub within : next ≤ rows
  pub rest : (i : ℕ) → bit_of left i ≡ (bit_of word i && leb next i)
  pub filled : at ≡ sum next (row_length b)
  pub front : take at o ≡ concat next (row_bytes b)

-- none has
pub copied-none : (b : Stretches) (word rows : ℕ) (o : List ℕ) → RowsCopied b word rows o word 0
copied-none b word rows o = record {
  next = 0;
  within = omega arith;
  rest = λ i. sym (rw (le-leb 0 i (omega arith)) (and_right (bit_of word i)));
  filled = refl;
  front = refl;
}

module _ {b : Stretches} {word rows : ℕ} (q : RowsThere b word rows) where
  -- null rows have no bytes
  sum-nulls : (t k : ℕ) → t + k ≤ rows → ((i : ℕ) → i < k → bit_of word (t + i) ≡ false) → sum (t + k) (row_length b) ≡ sum t (row_length b)
  sum-nulls t k h n =
      let z : sum k (λ i. row_length b (t + i)) ≡ 0 = sum-zero k (λ i. row_length b (t + i)) (λ i l. row_length-empty b (t + i) (q.empty (t + i) (omega arith) (n i l))) in
      sum-add t k (row_length b) ∙ rw z (add-zero (sum t (row_length b)))

  concat-nulls : (t k : ℕ) → t + k ≤ rows → ((i : ℕ) → i < k → bit_of word (t + i) ≡ false) → concat (t + k) (row_bytes b) ≡ concat t (row_bytes b)
  concat-nulls t k h n = concat-skip t k (row_bytes b) (λ i l. row_bytes-empty b (t + i) (q.empty (t + i) (omega arith) (n i l)))

  module _ {o : List ℕ} {left at : ℕ} (i : RowsCopied b word rows o left at) where
    -- a row from the next on whose bit is not left is null
    null-row : (j : ℕ) → i.next ≤ j → bit_of left j ≡ false → bit_of word j ≡ false
    null-row j h e = sym (and_right (bit_of word j)) ∙ ap (λ (t : Bool). bit_of word j && t) (sym (le-leb i.next j h)) ∙ sym (i.rest j) ∙ e

    module _ (small : left < 2 ^ 32) (n : left ≡ 0 → ⊥) {room : ℕ} (r : sum rows (row_length b) ≡ room) where
      abbrev t : ℕ
      t = count_trailing_zeros 32 left

      low : LowestBit left t (bit_and left (left - 1))
      low = lowest_bit 32 left small n

      both : (bit_of word t ≡ true) × (leb i.next t ≡ true)
      both = and-true (bit_of word t) (leb i.next t) (sym (i.rest t) ∙ low.set)

      inside : t < rows
      inside = q.spare t both.0

      abbrev skipped : ℕ
      skipped = t - i.next

      up : i.next + skipped ≡ t
      up = omega (arith, leb-true i.next t both.1)

      nulls : (j : ℕ) → j < skipped → bit_of word (i.next + j) ≡ false
      nulls j h = null-row (i.next + j) (omega arith) (low.below (i.next + j) (omega (arith, up)))

      here : at ≡ sum t (row_length b)
      here = i.filled ∙ sym (sum-nulls i.next skipped (omega (arith, up, inside)) nulls) ∙ ap (λ (m : ℕ). sum m (row_length b)) up

      -- the next row that is valid is there
      pub next_there : RowThere b room t at
      next_there =
          let end : sum (suc t) (row_length b) ≤ sum rows (row_length b) = sum_mono {i = suc t} rows (row_length b) inside in
          record {
            listed = (omega (arith, inside, q.listed.0), omega (arith, inside, q.listed.1));
            read = q.read t inside both.0;
            ends = omega (arith, end, here, r);
          }

      rest-left : (j : ℕ) → bit_of (bit_and left (left - 1)) j ≡ (bit_of word j && leb (suc t) j)
      rest-left j = go (leb (suc t) j) refl
        where
          go : (s : Bool) → leb (suc t) j ≡ s → bit_of (bit_and left (left - 1)) j ≡ (bit_of word j && s)
          go true e =
              let past : t < j = leb-true (suc t) j e in
              let from : i.next ≤ j = omega (arith, past, up) in
              others-kept low j (λ z. omega arith) ∙ i.rest j ∙ rw (le-leb i.next j from) refl
          go false e = go-below (ltb j t) refl
            where
              go-below : (z : Bool) → ltb j t ≡ z → bit_of (bit_and left (left - 1)) j ≡ (bit_of word j && false)
              go-below true d = others-kept low j (λ z. omega (arith, ltb-true j t d, z)) ∙ low.below j (ltb-true j t d) ∙ sym (and-false-right (bit_of word j) refl)
              go-below false d =
                  let same : j ≡ t = omega (arith, leb-false (suc t) j e, ltb-false j t d) in
                  rw same (lowest-cleared low ∙ sym (and-false-right (bit_of word t) refl))

      -- and is copied after those before it
      pub copied_next : {end : ℕ} {o' : List ℕ} → length o ≡ room → end ≡ at + row_length b t → o' ≡ written_row b t at o
          → RowsCopied b word rows o' (bit_and left (left - 1)) end
      copied_next {end} {o'} long e w = record {
        next = suc t;
        within = omega (arith, inside);
        rest = rest-left;
        filled = e ∙ rw here refl;
        front =
            ap (λ (m : ℕ). take m o') e
            ∙ row_put next_there o long w
            ∙ ap (λ (s : List ℕ). s ++ row_bytes b t) (i.front ∙ sym (concat-nulls i.next skipped (omega (arith, up, inside)) nulls) ∙ ap (λ (m : ℕ). concat m (row_bytes b)) up);
      }

    -- none is left: the rows fill the output
    pub copied_all : left ≡ 0 → sum rows (row_length b) ≡ length o → o ≡ concat rows (row_bytes b)
    copied_all e long =
        let k : ℕ = rows - i.next in
        let all : i.next + k ≡ rows = omega (arith, i.within) in
        let none : (j : ℕ) → j < k → bit_of word (i.next + j) ≡ false = λ j l. null-row (i.next + j) (omega arith) (rw e (bit_of-small 0 (i.next + j) (pow_pos (i.next + j)))) in
        let full : at ≡ length o = i.filled ∙ sym (sum-nulls i.next k (omega (arith, i.within)) none) ∙ ap (λ (m : ℕ). sum m (row_length b)) all ∙ long in
        sym (take_all at o (omega (arith, full))) ∙ i.front ∙ sym (concat-nulls i.next k (omega (arith, i.within)) none) ∙ ap (λ (m : ℕ). concat m (row_bytes b)) all
