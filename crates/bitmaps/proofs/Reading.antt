-- What a gather of bits reads, of the index column and of the source. Assumes nothing.
use mathlib.Core.Path.{◌≡◌, refl, sym, ap, ◌∙◌}
use mathlib.Core.Bool.{Bool, true, false, not, ◌&&◌}
use mathlib.Core.List.{List}
use Prim.Native.Nat.{ℕ, ◌+◌, ◌-◌, ◌*◌, ◌^◌, ◌≤◌, ◌<◌}
use native.Mathlib.Nat.{add-zero, mul-one, mul-zero, mul-le-mul_right}
use native.Mathlib.Omega.{arith}
use lib.Bits.{bit_and}
use lib.Count.{ones, ones-le, count_trailing_zeros}
use lib.Dec.{ltb}
use lib.ListN.{length, drop, length-drop}
use lib.Seq.{take_all}
use borrow.Author.Tests.{lt-ltb, le-ltb, ltb-true, ltb-false, eqb-true, eqb-false}
use Rattle.bits.specs.Bytes.{part, overwrite}
use Rattle.bits.specs.Routines.{overwrite_at}
use Rattle.bits.specs.Numbers.{number_at, is_number_width, to_little_endian}
use Rattle.bits.specs.Bits.{bit_value, bit_of, bit_at, bytes_for, pack, pack_bytes, is_absent, valid_at}
use Rattle.bits.proofs.Tests.{or-false, and_right, and-true, and-false-right}
use Rattle.tables.specs.Columns.{IndexColumn, index_valid, index}
use Rattle.tables.specs.Answers.{passes}
use Rattle.tables.specs.Refusals.{max_bytes, max_bit, index_refusal}
use Rattle.gathers.specs.Buffers.{taken_bit}
use Rattle.gathers.specs.Ready.{InRange}
use Rattle.bitmaps.specs.Reach.{HoldsBits, MaskThere, Reached, Reaches}
use Rattle.bits.proofs.Bits.{pack-cong, pack_bytes-cong, valid_at-absent, valid_at-present}
use Rattle.bits.proofs.Numbers.{number_at-from}
use Rattle.bits.proofs.Words.{PutIn, lowest_bit, bit_of-and, bit_of-inside, to_little_endian-bits}
use Rattle.bits.proofs.Packing.{bytes_more}
use Rattle.tables.proofs.Facts.{IndexFormed, index-formed}
use Rattle.tables.proofs.There.{index_number, index-valid, index-there}
use Rattle.gathers.proofs.Buffers.{valid-below, bit-named, bit-null}

-- ---- the validity of n rows as a word

module _ (v : List ℕ) (b p n y : ℕ) where
  -- none is there
  pub absent_word : is_absent v ≡ true → ((t : ℕ) → bit_of y t ≡ ltb t n) → (t : ℕ) → bit_of y t ≡ (ltb t n && valid_at v b (p + t))
  absent_word none e t = e t ∙ rw (valid_at-absent v b (p + t) (eqb-true (length v) 0 none)) (sym (and_right (ltb t n)))

  -- or it is read
  pub present_word : is_absent v ≡ false → ((t : ℕ) → bit_of y t ≡ (ltb t n && bit_at v (b + p + t))) → (t : ℕ) → bit_of y t ≡ (ltb t n && valid_at v b (p + t))
  present_word some e t =
      let at : b + p + t ≡ b + (p + t) = omega arith in
      e t ∙ rw (at, valid_at-present v b (p + t) (eqb-false (length v) 0 some))

-- a source without bytes that has so many rows has none
pub no-bits : {b rows : ℕ} (s : List ℕ) → HoldsBits b rows s → is_absent s ≡ true → rows ≡ 0
no-bits s held e = let empty = eqb-true (length s) 0 e in omega (arith, held.there, empty)

-- the validity of the indices, if any is lent, has a bit for each
pub indices-held : (x : IndexColumn) → passes (index_refusal x) ≡ true → is_absent x.validity ≡ false → HoldsBits x.indices.validity_bit x.indices.count x.validity
indices-held x p e =
    let f = index-formed x p in
    let v = x.validity in
    let small : length v ≤ max_bytes =
    ltb-false max_bytes (length v) (or-false (ltb max_bytes (length v)) (not (is_absent v) && ltb max_bit x.indices.validity_bit) f.validity_limit).0 in
    let there : bytes_for (x.indices.validity_bit + x.indices.count) ≤ length v =
    ltb-false (length v) (bytes_for (x.indices.validity_bit + x.indices.count)) (rw e at f.validity_fits) in
    record { small = omega (arith, small, there); there = there }

-- and so has a mask, from bit 0 on
pub mask-held : (x : IndexColumn) → passes (index_refusal x) ≡ true → {m : List ℕ} → MaskThere x.indices.count m → is_absent m ≡ false → HoldsBits 0 x.indices.count m
mask-held x p there e = record { small = omega (arith, (index-formed x p).count); there = omega (arith, there e) }

-- ---- an index column in range, and a source that has its rows

module _ (s : List ℕ) (b rows : ℕ) (x : IndexColumn) (i : InRange rows x) where
  pub reached : (is_absent s ≡ false → HoldsBits b rows s) → (is_absent s ≡ true → rows ≡ 0) → Reached b s x
  reached held some = record { passed = i.passed; inside = λ j l d. go (is_absent s) refl (valid-below rows x i j l d) }
    where
      go : {r : ℕ} (t : Bool) → is_absent s ≡ t → r < rows → (b + r < 8 * length s) × (b + r < 2 ^ 60)
      go false e l = (omega (arith, (held e).there), omega (arith, (held e).small))
      go true e l = absurd (omega (arith, some e))

  -- of no rows none is valid, and the output is the validity of the indices
  pub no_rows : (m : List ℕ) → rows ≡ 0 → (length x.validity ≡ 0 → ⊥)
      → pack x.indices.count (λ j. bit_at x.validity (x.indices.validity_bit + j)) ≡ pack x.indices.count (λ j. taken_bit s b x j && valid_at m 0 j)
  no_rows m e n =
      pack-cong x.indices.count
      (λ j h. sym (index-valid x j ∙ valid_at-present x.validity x.indices.validity_bit j n) ∙ none j h ∙ sym (ap (λ (t : Bool). t && valid_at m 0 j) (bit-null s b x j (none j h))))
    where
      none : (j : ℕ) → j < x.indices.count → index_valid x j ≡ false
      none j h = go (index_valid x j) refl
        where
          go : (t : Bool) → index_valid x j ≡ t → t ≡ false
          go true d = absurd (omega (arith, valid-below rows x i j h d))
          go false d = refl

-- ---- the n indices from index p on

module _ {s : List ℕ} {b : ℕ} {x : IndexColumn} (r : Reached b s x) {w : ℕ} (e : x.indices.width ≡ w) where
  -- the first number starts in the data
  pub starts : (p : ℕ) → p ≤ x.indices.count → (p * w ≤ length x.«data») × (p * w < 2 ^ 64)
  starts p h =
      let f : IndexFormed x = index-formed x r.passed in
      let l : p * w ≤ x.indices.count * w = mul-le-mul_right w h in
      let fit : x.indices.count * w ≤ length x.«data» = rw (← e) f.data_fit in
      (omega arith, omega (arith, f.«data»))

  module _ (p n : ℕ) (h : p + n ≤ x.indices.count) where
    abbrev numbers : List ℕ
    numbers = part (p * w) (length x.«data» - p * w) x.«data»

    numbers-from : numbers ≡ drop (p * w) x.«data»
    numbers-from = take_all (length x.«data» - p * w) (drop (p * w) x.«data») (omega (arith, length-drop (p * w) x.«data»))

    named : (t : ℕ) → number_at w numbers t ≡ index x (p + t)
    named t = rw numbers-from (number_at-from w x.«data» p t ∙ rw (← e) (sym (index_number x (p + t))))

    number-there : (t : ℕ) → t < n → (is_number_width w ≡ true) × (t * w + w ≤ length numbers)
    number-there t l =
        let f = index-there x (index-formed x r.passed) (p + t) (omega arith) in
        (rw (← e) f.0, rw numbers-from (omega (arith, rw e at f.1, length-drop (p * w) x.«data»)))

    valid-reached : (t : ℕ) → t < n → index_valid x (p + t) ≡ true → Reaches 1 b w numbers s t
    valid-reached t l v = record {
      width = (number-there t l).0;
      numbered = (number-there t l).1;
      bit = omega arith;
      inside = rw (mul-one, named t) (r.inside (p + t) (omega arith) v);
    }

    -- by the words of their validity and of a mask
    module _ (m : List ℕ) (valid kept : ℕ) (v : (t : ℕ) → bit_of valid t ≡ (ltb t n && valid_at x.validity x.indices.validity_bit (p + t)))
        (k : (t : ℕ) → bit_of kept t ≡ (ltb t n && valid_at m 0 (p + t))) where
      valid-bit : (t : ℕ) → bit_of valid t ≡ (ltb t n && index_valid x (p + t))
      valid-bit t = v t ∙ rw (index-valid x (p + t))

      -- where all are valid, each is read
      module _ (all : (t : ℕ) → bit_of valid t ≡ ltb t n) where
        all-valid : (t : ℕ) → t < n → index_valid x (p + t) ≡ true
        all-valid t l = (and-true (ltb t n) (index_valid x (p + t)) (sym (valid-bit t) ∙ all t ∙ lt-ltb t n l)).1

        pub all-reached : (t : ℕ) → t < n → Reaches 1 b w numbers s t
        all-reached t l = valid-reached t l (all-valid t l)

        pub all-taken : (y : ℕ) → ((t : ℕ) → bit_of y t ≡ (ltb t n && bit_at s (b + number_at w numbers t)))
            → (t : ℕ) → bit_of (bit_and y kept) t ≡ (ltb t n && (taken_bit s b x (p + t) && valid_at m 0 (p + t)))
        all-taken y o t = bit_of-and y kept t ∙ rw (o t, k t, named t) (go (ltb t n) refl)
          where
            go : (z : Bool) → ltb t n ≡ z → ((z && bit_at s (b + index x (p + t))) && (z && valid_at m 0 (p + t))) ≡ (z && (taken_bit s b x (p + t) && valid_at m 0 (p + t)))
            go true d = rw (bit-named s b x (p + t) (all-valid t (ltb-true t n d)))
            go false d = refl

      -- else those that are valid and kept
      pub picked-reached : (t : ℕ) → bit_of (bit_and valid kept) t ≡ true → Reaches 1 b w numbers s t
      picked-reached t d =
          let q = and-true (ltb t n) (index_valid x (p + t)) (sym (valid-bit t) ∙ (and-true (bit_of valid t) (bit_of kept t) (sym (bit_of-and valid kept t) ∙ d)).0) in
          valid-reached t (ltb-true t n q.0) q.1

      pub picked-taken : (y : ℕ) → ((t : ℕ) → bit_of y t ≡ (bit_of (bit_and valid kept) t && bit_at s (b + number_at w numbers t)))
          → (t : ℕ) → bit_of y t ≡ (ltb t n && (taken_bit s b x (p + t) && valid_at m 0 (p + t)))
      unfolding taken_bit
      picked-taken y o t =
          o t
          ∙ rw (bit_of-and valid kept t, valid-bit t, k t, named t) (go (ltb t n) (index_valid x (p + t)) (valid_at m 0 (p + t)) (bit_at s (b + index x (p + t))))
        where
          go : (z a c d : Bool) → (((z && a) && (z && c)) && d) ≡ (z && ((a && d) && c))
          go false a c d = refl
          go true false c d = refl
          go true true true d = sym (and_right d)
          go true true false d = sym (and-false-right d refl)

      -- of 32 where one is picked the first row is there too, which is read for the others
      pub masked-reached : n ≡ 32 → bit_and valid kept < 2 ^ 32 → 24 ≤ ones (bit_and valid kept) → (t : ℕ) → t < 32
          → Reaches (bit_value (bit_of (bit_and valid kept) t)) b w numbers s t
      masked-reached long small many t l = go (bit_of picked t) refl
        where
          picked : ℕ
          picked = bit_and valid kept

          some : picked ≡ 0 → ⊥
          some z = omega (arith, many, ap ones z, ones-le 0 0 (omega arith))

          first : (b < 8 * length s) × (b < 2 ^ 60)
          first = let i = rw mul-one at (picked-reached (count_trailing_zeros 32 picked) (lowest_bit 32 picked small some).set).inside in (omega (arith, i.0), omega (arith, i.1))

          go : (z : Bool) → bit_of picked t ≡ z → Reaches (bit_value z) b w numbers s t
          go true d = picked-reached t d
          go false d = let f = number-there t (omega (arith, long)) in record { width = f.0; numbered = f.1; bit = omega arith; inside = rw (mul-zero, add-zero b) first }

-- ---- the words of the output: the first n bits of f

module _ (f : ℕ → Bool) (count : ℕ) (d : List ℕ) (k n r : ℕ) (h : 32 * k + n ≤ count) (w : (t : ℕ) → bit_of r t ≡ (ltb t n && f (32 * k + t))) where
  abbrev bits : ℕ → Bool
  bits p = ltb p count && f p

  -- m bytes more, which have no other bits of f
  pub words-more : (m : ℕ) → ((t : ℕ) → t < 8 * m → n ≤ t → count ≤ 32 * k + t) → {out y : List ℕ} → out ≡ overwrite (pack_bytes (4 * k) bits) d
      → y ≡ overwrite_at (4 * k) (to_little_endian m r) out → y ≡ overwrite (pack_bytes (4 * k + m) bits) d
  words-more m last i o =
      bytes_more bits d (4 * k) i m r (to_little_endian-bits m r ∙ pack_bytes-cong m (λ t l. w t ∙ go t l (ltb t n) refl)) o
    where
      go : (t : ℕ) → t < 8 * m → (b : Bool) → ltb t n ≡ b → (b && f (32 * k + t)) ≡ bits (8 * (4 * k) + t)
      go t l true c =
          let at : 8 * (4 * k) + t ≡ 32 * k + t = omega arith in
          rw (at, lt-ltb (32 * k + t) count (omega (arith, ltb-true t n c)))
      go t l false c = rw (le-ltb (8 * (4 * k) + t) count (omega (arith, last t l (ltb-false t n c))))

-- ---- 32 bits put in, each by a number that its bit masks

pub masked-bits : (s : List ℕ) (b : ℕ) (numbers : ℕ → ℕ) (picked word : ℕ) → picked < 2 ^ 32 → PutIn (λ t. bit_at s (b + numbers t * bit_value (bit_of picked t))) 32 word
    → (t : ℕ) → bit_of (bit_and word picked) t ≡ (bit_of picked t && bit_at s (b + numbers t))
masked-bits s b numbers picked word small p t = bit_of-and word picked t ∙ go (bit_of picked t) refl
  where
    go : (z : Bool) → bit_of picked t ≡ z → (bit_of word t && z) ≡ (z && bit_at s (b + numbers t))
    go true d =
        let at : 32 - 32 + t ≡ t = omega arith in
        let bit = p t (bit_of-inside picked 32 t small d) in
        and_right (bit_of word t) ∙ rw (at, d, mul-one) at bit
    go false d = and-false-right (bit_of word t) refl
