-- A batch that is gathered holds what separate gathers write: column k's part of the joined outputs is exactly what its own gather writes into outputs of
-- that size, total and nulls are the sums of the separate answers, and the bytes after the joined parts are kept. Assumes nothing.
use mathlib.Core.Path.{◌≡◌, sym, ap, ◌∙◌}
use mathlib.Core.Bool.{true, false}
use mathlib.Core.List.{List, [], ◌++◌, append-nil}
use Prim.Native.Nat.{ℕ, suc, ◌≤◌, ◌<◌}
use native.Mathlib.Nat.{le_of_eq}
use native.Mathlib.Omega.{arith}
use lib.Dec.{ltb}
use lib.ListN.{length, drop, drop_of_length-le}
use borrow.Author.Tests.{le-ltb}
use Rattle.bits.specs.Sequences.{concat, sum}
use Rattle.bits.specs.Bytes.{part, overwrite}
use Rattle.tables.specs.declared.answer.Answer.{Answer}
use Rattle.tables.specs.Columns.{IndexColumn}
use Rattle.tables.specs.Answers.{passes, first_of}
use Rattle.tables.specs.Rows.{Rows}
use Rattle.gathers.specs.Stored.{Output, validity_bytes, written_offsets, data_bytes, validity_length, offset_length, data_length, needed_lengths, lent_lengths, store, joined_lengths, store_joined}
use Rattle.gathers.specs.Gather.{space_lines, refusals, Outcome, gathered, gather}
use Rattle.batches.specs.Batch.{Batch, taken_from, arrays_refusals, gathered_all, gather_arrays}
use Rattle.batches.specs.Separate.{part_of, after_of}
use Rattle.bits.proofs.Sequences.{sum-cong, sum_mono, length-concat, part-piece}
use Rattle.bits.proofs.Bytes.{length_part, drop-overwrite}
use Rattle.gathers.proofs.Stages.{by-space, gather-stored, space_refusal-lines}
use Rattle.gathers.proofs.Written.{data-held}
use Rattle.batches.specs.Passed.{Passed}
use Rattle.batches.proofs.Refused.{arrays-stored, all-passed}
use Rattle.batches.proofs.Passed.{validity-held, offsets-held, joined-room}
use Rattle.batches.proofs.Cases.{arrays-gathered}

-- ---- one output: pieces f 0, f 1, .. of n columns, of need 0, need 1, .. bytes

module _ (n : ℕ) (f : ℕ → List ℕ) (need : ℕ → ℕ) (held : (i : ℕ) → i < n → length (f i) ≡ need i) (s : List ℕ) (room : sum n need ≤ length s) where
  starts-at : (k : ℕ) → k < suc n → sum k need ≡ sum k (λ i. length (f i))
  starts-at k h = sum-cong k (λ i l. sym (held i (omega arith)))

  -- the part of a lent output that is column k's, and that is there
  part_held : (k : ℕ) → k < n → length (part (sum k need) (need k) s) ≡ need k
  part_held k h = length_part (sum k need) (need k) s (omega (arith, sum_mono {i = suc k} n need h, room))

  -- piece k written into a buffer of its size is piece k of the joined output
  pub part-joined : (k : ℕ) → k < n → overwrite (f k) (part (sum k need) (need k) s) ≡ part (sum k need) (need k) (overwrite (concat n f) s)
  part-joined k h =
      let full : length (part (sum k need) (need k) s) ≤ length (f k) = omega (arith, held k h, part_held k h) in
      let none : drop (length (f k)) (part (sum k need) (need k) s) ≡ [] = drop_of_length-le (part (sum k need) (need k) s) full in
      ap (λ (t : List ℕ). f k ++ t) none
      ∙ append-nil (f k)
      ∙ sym (part-piece n f (drop (length (concat n f)) s) k (sum k need) (need k) h (starts-at k (omega arith)) (sym (held k h)))

-- ---- a batch that is gathered

module _ (b : Batch) (x : IndexColumn) (o : Output) (gathered-all : (gather_arrays b x o).answer.number ≡ 0) where
  e : passes (first_of (arrays_refusals b x o)) ≡ true
  e = arrays-gathered b x o gathered-all

  abbrev n : ℕ
  n = b.count

  abbrev v : ℕ → Rows
  v = taken_from b x

  passed : Passed b x o
  passed = all-passed b x o e

  room : (sum n (λ i. validity_length (v i)) ≤ length o.validity) × (sum n (λ i. offset_length (v i).layout (v i)) ≤ length o.offsets)
      × (sum n (λ i. data_length (v i).layout (v i)) ≤ length o.«data»)
  room = joined-room b x o passed

  held-validity : (i : ℕ) → i < n → length (validity_bytes (v i)) ≡ validity_length (v i)
  held-validity i h = validity-held b x i

  held-offsets : (i : ℕ) → i < n → length (written_offsets (v i).layout (v i)) ≡ offset_length (v i).layout (v i)
  held-offsets i h = offsets-held b x i

  held-data : (i : ℕ) → i < n → length (data_bytes (v i).layout (v i)) ≡ data_length (v i).layout (v i)
  held-data i h = data-held (b.column i) x (passed.columns i h)

  stored-part : (k : ℕ) → k < n → store (v k) (part_of v k o) ≡ part_of v k (store_joined n v o)
  unfolding store store_joined
  stored-part k h =
      rw (
        part-joined n (λ i. validity_bytes (v i)) (λ i. validity_length (v i)) held-validity o.validity room.0 k h,
        part-joined n (λ i. written_offsets (v i).layout (v i)) (λ i. offset_length (v i).layout (v i)) held-offsets o.offsets room.1 k h,
        part-joined n (λ i. data_bytes (v i).layout (v i)) (λ i. data_length (v i).layout (v i)) held-data o.«data» room.2 k h,
      )

  part-space : (k : ℕ) → k < n → passes (first_of (space_lines (needed_lengths (v k)) (lent_lengths (part_of v k o)))) ≡ true
  part-space k h =
      let w : Rows = v k in
      let po : Output = part_of v k o in
      let fits : (need lent : ℕ) → lent ≡ need → ltb lent need ≡ false = λ need lent e. le-ltb lent need (le_of_eq (sym e)) in
      rw (
        fits (validity_length w) (length po.validity) (part_held n (λ i. validity_bytes (v i)) (λ i. validity_length (v i)) held-validity o.validity room.0 k h),
        fits (offset_length w.layout w) (length po.offsets)
            (part_held n (λ i. written_offsets (v i).layout (v i)) (λ i. offset_length (v i).layout (v i)) held-offsets o.offsets room.1 k h),
        fits (data_length w.layout w) (length po.«data»)
            (part_held n (λ i. data_bytes (v i).layout (v i)) (λ i. data_length (v i).layout (v i)) held-data o.«data» room.2 k h),
      )

  part-passed : (k : ℕ) → k < n → passes (first_of (refusals (b.column k) x (part_of v k o))) ≡ true
  part-passed k h = rw (by-space (b.column k) x (part_of v k o), passed.columns k h, space_refusal-lines (v k) (part_of v k o)) (part-space k h)

  left : (gather_arrays b x o).output ≡ store_joined n v o
  left = ap (λ (g : Outcome). g.output) (sym (arrays-stored b x o e))

  answer : (gather_arrays b x o).answer ≡ gathered_all n v
  answer = ap (λ (g : Outcome). g.answer) (sym (arrays-stored b x o e))

  -- the gather of column k, into lent outputs of exactly that size, leaves that part of the joined outputs
  pub separate : (k : ℕ) → k < n → gather (b.column k) x (part_of v k o) ≡ record { answer = gathered (v k); output = part_of v k (gather_arrays b x o).output }
  separate k h =
      sym (gather-stored (b.column k) x (part_of v k o) (part-passed k h))
      ∙ ap (λ (s : Output). record { answer = gathered (v k); output = s }) (stored-part k h ∙ ap (part_of v k) (sym left))

  -- total and nulls are the sums of the separate answers
  pub separate-total : (gather_arrays b x o).answer.total ≡ sum n (λ i. (gather (b.column i) x (part_of v i o)).answer.total)
  unfolding gathered_all gathered
  separate-total =
      ap (λ (a : Answer). a.total) answer ∙ sum-cong n (λ i h. sym (ap (λ (g : Outcome). g.answer.total) (separate i h)))

  pub separate-nulls : (gather_arrays b x o).answer.nulls ≡ sum n (λ i. (gather (b.column i) x (part_of v i o)).answer.nulls)
  unfolding gathered_all gathered
  separate-nulls =
      ap (λ (a : Answer). a.nulls) answer ∙ sum-cong n (λ i h. sym (ap (λ (g : Outcome). g.answer.nulls) (separate i h)))

  -- the bytes after the joined parts are kept
  pub after_kept : after_of (joined_lengths n v) (gather_arrays b x o).output ≡ after_of (joined_lengths n v) o
  unfolding store_joined
  after_kept =
      rw (
        left,
        kept n (λ i. validity_bytes (v i)) (λ i. validity_length (v i)) held-validity o.validity,
        kept n (λ i. written_offsets (v i).layout (v i)) (λ i. offset_length (v i).layout (v i)) held-offsets o.offsets,
        kept n (λ i. data_bytes (v i).layout (v i)) (λ i. data_length (v i).layout (v i)) held-data o.«data»,
      )
    where
      kept : (n : ℕ) (f : ℕ → List ℕ) (need : ℕ → ℕ) → ((i : ℕ) → i < n → length (f i) ≡ need i) → (s : List ℕ) → drop (sum n need) (overwrite (concat n f) s) ≡ drop (sum n need) s
      kept n f need held s = rw (← (length-concat n f ∙ sum-cong n held)) (drop-overwrite (concat n f) s)
