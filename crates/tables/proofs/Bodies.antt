-- Columns whose buffers lie in a body, and the records that describe them (specs/Bodies.antt). Assumes nothing.
use mathlib.Core.Path.{◌≡◌, refl, sym, ap, fun_ext}
use mathlib.Core.Bool.{Bool, true, false, cond, not}
use mathlib.Core.List.{List, [], ◌++◌}
use Prim.Native.Nat.{ℕ, ◌+◌, ◌-◌, ◌*◌, ◌≤◌, ◌<◌}
use native.Mathlib.Omega.{arith}
use lib.Dec.{eqb, ltb}
use lib.ListN.{length, take, drop, replicate, length-append, length-drop, length-replicate}
use lib.Seq.{length-take-le, take-append-le}
use borrow.Author.Tests.{ltb-true, ltb-false, lt-ltb, le-ltb, ne_eqb}
use Rattle.bits.specs.Bytes.{part}
use Rattle.bits.specs.Numbers.{little_endian, number_at}
use Rattle.tables.specs.declared.table.Table.{Table}
use Rattle.tables.specs.declared.table.Extent.{Extent}
use Rattle.tables.specs.declared.table.Description.{Description}
use Rattle.tables.specs.Kinds.{kind_of, uses_of}
use Rattle.tables.specs.Columns.{Column, lengths_of}
use Rattle.tables.specs.Bodies.{extent, extent_of, is_cut, some_cut, column_in, record_words, record_bytes, word_at, described, described_at}
use Rattle.bits.proofs.Numbers.{number_at-bytes, number_at-from}
use Rattle.bits.proofs.Tests.{and-false-right, and_right}

-- ---- an extent

module _ (s : List ℕ) (e : Extent) where
  -- it has as many bytes as are stated, also where it is cut
  pub length-extent : length (extent_of s e) ≡ e.len
  unfolding extent_of
  length-extent = length-take-le e.len (drop e.start s ++ replicate e.len 0) (rw (length-append, length-replicate {A = ℕ} e.len 0) (omega arith))

  -- one of no bytes is empty, wherever it starts
  pub extent-empty : e.len ≡ 0 → extent_of s e ≡ []
  unfolding extent_of
  extent-empty z = ap (λ (n : ℕ). take n (drop e.start s ++ replicate e.len 0)) z

  module _ (whole : is_cut (length s) e ≡ false) (some : e.len ≡ 0 → ⊥) where
    -- one of some bytes that is not cut ends in the body
    pub extent-there : e.start + e.len ≤ length s
    extent-there = ltb-false (length s) (e.start + e.len) (rw (ne_eqb e.len 0 some) at whole)

    -- and its bytes are that part of the body
    pub extent-part : extent_of s e ≡ part e.start e.len s
    unfolding extent_of
    extent-part = take-append-le e.len (drop e.start s) (replicate e.len 0) (rw (length-drop e.start s) (omega (arith, extent-there)))

-- as a test that adds nothing up: one that starts past the body is cut where it has bytes,
pub cut-past : (bytes : ℕ) (e : Extent) → bytes < e.start → not (eqb e.len 0) ≡ is_cut bytes e
cut-past bytes e h = rw (lt-ltb bytes (e.start + e.len) (omega arith)) (sym (and_right (not (eqb e.len 0))))

-- and any other where it has more than lie after its start
pub cut-within : (bytes : ℕ) (e : Extent) → e.start ≤ bytes → ltb (bytes - e.start) e.len ≡ is_cut bytes e
cut-within bytes e h = go (ltb (bytes - e.start) e.len) refl
  where
    go : (t : Bool) → ltb (bytes - e.start) e.len ≡ t → t ≡ is_cut bytes e
    go true d =
        let m : bytes - e.start < e.len = ltb-true (bytes - e.start) e.len d in
        rw (ne_eqb e.len 0 (λ z. absurd (omega (arith, z, m))), lt-ltb bytes (e.start + e.len) (omega (arith, m)))
    go false d =
        let m : e.len ≤ bytes - e.start = ltb-false (bytes - e.start) e.len d in
        rw (le-ltb bytes (e.start + e.len) (omega (arith, m))) (sym (and-false-right (not (eqb e.len 0)) refl))

-- ---- a column

length-used : (t : Bool) (a : List ℕ) → length (cond t a []) ≡ cond t (length a) 0
length-used true a = refl
length-used false a = refl

abbrev column_cut : Table → List ℕ → List ℕ → List ℕ → Bool → Column
column_cut t a b v cut = record { table = t; «data» = a; offsets = b; validity = v; cut = cut }

module _ (s : List ℕ) (d : Description) where
  -- its description is the one given
  pub column-table : (column_in s d).table ≡ d.table
  unfolding column_in
  column-table = refl

  -- it is cut where a buffer that its kind uses is
  pub column-cut : (column_in s d).cut ≡ some_cut (uses_of (kind_of d.table.kind)) (length s) d
  unfolding column_in
  column-cut = refl

  -- its buffers have the lengths that are stated; offsets that the kind does not use have none
  pub column-stated : lengths_of (column_in s d) ≡ record {
    «data» = d.«data».len;
    offsets = cond (uses_of (kind_of d.table.kind)).offset_width d.offsets.len 0;
    validity = d.validity.len;
  }
  unfolding column_in
  column-stated = rw (length-extent s d.«data», length-used (uses_of (kind_of d.table.kind)).offset_width (extent_of s d.offsets), length-extent s d.offsets, length-extent s d.validity)

-- ---- records

-- a word of a record, as it is read at its position
pub word_read : (s : List ℕ) (i j : ℕ) → word_at s i j ≡ little_endian (part (i * record_bytes + j * 8) 8 s)
unfolding word_at
word_read s i j =
    let p : (i * record_words + j) * 8 ≡ i * record_bytes + j * 8 = omega arith in
    rw (← p) (number_at-bytes 8 s (i * record_words + j))

-- the words of a record, read from its start
pub described-part : (s : List ℕ) (i : ℕ) → described (number_at 8 (drop (i * record_bytes) s)) ≡ described_at s i
unfolding described_at word_at
described-part s i =
    let p : i * record_bytes ≡ i * record_words * 8 = omega arith in
    rw p (ap described (fun_ext (λ j. number_at-from 8 s (i * record_words) j)))

-- what a record describes, as it is read: a table, and three extents at their words
pub described-read : (s : List ℕ) (i : ℕ) {t : Table} {a b v : Extent} → t ≡ (described_at s i).table → a ≡ extent (word_at s i 7) (word_at s i 8)
    → b ≡ extent (word_at s i 9) (word_at s i 10) → v ≡ extent (word_at s i 11) (word_at s i 12)
    → ◌≡◌ {A = Description} (record { table = t; «data» = a; offsets = b; validity = v }) (described_at s i)
unfolding described_at
described-read s i et ea eb ev = rw (et, ea, eb, ev)
