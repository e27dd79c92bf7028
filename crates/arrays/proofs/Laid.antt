-- The columns of a batch written one after the other: what holds after i of them, the step, and the end. Assumes nothing.
use mathlib.Core.Path.{subst, ◌≡◌, sym, ap, ◌∙◌}
use mathlib.Core.List.{List}
use Prim.Native.Nat.{ℕ, suc, ◌+◌, ◌-◌, ◌*◌, ◌^◌, ◌≤◌, ◌<◌}
use native.Mathlib.Numerals.{add-one}
use native.Mathlib.Omega.{arith}
use lib.ListN.{length, drop, length-drop}
use lib.Seq.{length-take-le}
use borrow.Rule.Slice.PartMut.{mid_of, put_mid}
use Rattle.bits.specs.Sequences.{concat, sum}
use Rattle.bits.specs.Bytes.{overwrite}
use Rattle.bits.specs.Routines.{overwrite_at}
use Rattle.tables.specs.declared.table.Lengths.{Lengths}
use Rattle.tables.specs.Columns.{Column, IndexColumn, lengths_together}
use Rattle.tables.specs.Refusals.{max_rows, max_bytes}
use Rattle.tables.specs.Rows.{Rows}
use Rattle.gathers.specs.Taken.{taken}
use Rattle.gathers.specs.Stored.{Output, validity_bytes, written_offsets, data_bytes, needed_lengths, joined_lengths, null_count, store, store_joined}
use Rattle.gathers.specs.Ready.{Ready, NoOverflow}
use Rattle.batches.specs.Batch.{Batch, taken_from}
use Rattle.batches.specs.Passed.{Passed}
use Rattle.described.specs.declared.column.Taken.{Taken}
use Rattle.described.specs.Taken.{taken_of, HasRoomFor}
use Rattle.arrays.specs.Told.{written_of}
use Rattle.arrays.proofs.Counted.{small-sum}
use Rattle.bits.proofs.Sequences.{sum-cong, sum_mono, length-concat}
use Rattle.bits.proofs.Bytes.{length-overwrite, overwrite-tail, overwrite_at-lent}
use Rattle.gathers.proofs.Stages.{stored-parts, joined_by}
use Rattle.gathers.proofs.Written.{data-held}
use Rattle.gathers.proofs.Joining.{needed-small, nulls-small}
use Rattle.batches.proofs.Passed.{few-columns, column-ready, column-small, validity-held, offsets-held, joined-room}

-- ---- one output: pieces f 0, f 1, .. of n columns, of need 0, need 1, .. bytes

module _ (n : ℕ) (f : ℕ → List ℕ) (need : ℕ → ℕ) (held : (k : ℕ) → k < n → length (f k) ≡ need k) (s : List ℕ) (room : sum n need ≤ length s)
    {i at : ℕ} {t : List ℕ} (inside : i ≤ n) (e : at ≡ sum i need) (d : t ≡ overwrite (concat i f) s) where
  laid : length (concat i f) ≡ at
  laid = length-concat i f ∙ sum-cong i (λ k l. held k (omega arith)) ∙ sym e

  fits : at ≤ length s
  fits = omega (arith, sum_mono {i = i} n need inside)

  kept-length : length t ≡ length s
  kept-length = ap length d ∙ length-overwrite (concat i f) s (omega (arith, laid, fits))

  -- the tail is lent on
  pub tail-there : at ≤ length t
  tail-there = omega (arith, kept-length, fits)

  module _ (h : i < n) where
    pub next_fits : at + need i ≤ length s
    next_fits = omega (arith, sum_mono {i = suc i} n need h)

    -- and has room for the next piece
    pub tail-room : need i ≤ length (mid_of at (length t - at) t)
    tail-room = omega (arith, length-take-le (length t - at) (drop at t) (omega (arith, length-drop at t)), next_fits, kept-length)

  pub piece-more : {y : List ℕ} → y ≡ overwrite (f i) (mid_of at (length t - at) t) → put_mid at (length t - at) t y ≡ overwrite (concat (i + 1) f) s
  piece-more c =
      overwrite_at-lent at (f i) t c
      ∙ ap (λ (t : List ℕ). overwrite_at at (f i) t) d
      ∙ overwrite-tail (concat i f) (f i) s at laid
      ∙ rw add-one

-- ---- the three outputs

module _ (b : Batch) (x : IndexColumn) where
  abbrev v : ℕ → Rows
  v = taken_from b x

  abbrev validities : ℕ → List ℕ
  validities k = validity_bytes (v k)

  abbrev offsetses : ℕ → List ℕ
  offsetses k = written_offsets (v k).layout (v k)

  abbrev datas : ℕ → List ℕ
  datas k = data_bytes (v k).layout (v k)

  abbrev need : ℕ → Lengths
  need k = needed_lengths (v k)

-- after i columns, written over the outputs o: where the next one's rows go, how many rows are null, and what the outputs hold
pub record Laid (b : Batch) (x : IndexColumn) (o : Output) (i : ℕ) (written : Lengths) (nulls : ℕ) (out-validity out-offsets out-data : List ℕ) : Type 0 where
  pub inside : i ≤ b.count
  pub of-written : written ≡ joined_lengths i (v b x)
  pub of-nulls : nulls ≡ sum i (λ k. null_count (v b x k))
  pub held-validity : out-validity ≡ overwrite (concat i (validities b x)) o.validity
  pub held-offsets : out-offsets ≡ overwrite (concat i (offsetses b x)) o.offsets
  pub held-data : out-data ≡ overwrite (concat i (datas b x)) o.«data»

module _ (b : Batch) (x : IndexColumn) (o : Output) (p : Passed b x o) {i : ℕ} {written : Lengths} {nulls : ℕ} {out-validity out-offsets out-data : List ℕ}
    (l : Laid b x o i written nulls out-validity out-offsets out-data) where
  of-validity : written.validity ≡ sum i (λ k. (need b x k).validity)
  of-validity = ap (λ (n : Lengths). n.validity) l.of-written

  of-offsets : written.offsets ≡ sum i (λ k. (need b x k).offsets)
  of-offsets = ap (λ (n : Lengths). n.offsets) l.of-written

  of-data : written.«data» ≡ sum i (λ k. (need b x k).«data»)
  of-data = ap (λ (n : Lengths). n.«data») l.of-written

  data-whole : (k : ℕ) → k < b.count → length (datas b x k) ≡ (need b x k).«data»
  data-whole k h = data-held (b.column k) x (p.columns k h)

  -- ---- the tails that are lent on

  pub there-validity : written.validity ≤ length out-validity
  there-validity =
      tail-there b.count (validities b x) (λ k. (need b x k).validity) (λ k h. validity-held b x k) o.validity (joined-room b x o p).0 l.inside of-validity l.held-validity

  pub there-offsets : written.offsets ≤ length out-offsets
  there-offsets =
      tail-there b.count (offsetses b x) (λ k. (need b x k).offsets) (λ k h. offsets-held b x k) o.offsets (joined-room b x o p).1 l.inside of-offsets l.held-offsets

  pub there-data : written.«data» ≤ length out-data
  there-data = tail-there b.count (datas b x) (λ k. (need b x k).«data») data-whole o.«data» (joined-room b x o p).2 l.inside of-data l.held-data

  abbrev pub tails : Output
  tails = record {
    validity = mid_of written.validity (length out-validity - written.validity) out-validity;
    offsets = mid_of written.offsets (length out-offsets - written.offsets) out-offsets;
    «data» = mid_of written.«data» (length out-data - written.«data») out-data;
  }

  -- ---- the next column

  module _ (h : i < b.count) {k : Column} (ke : k ≡ b.column i) where
    pub next-ready : Ready k x
    next-ready = subst (λ (k : Column). Ready k x) (sym ke) (column-ready b x i (p.columns i h))

    pub next_small : NoOverflow k x
    next_small = subst (λ (k : Column). NoOverflow k x) (sym ke) (column-small b x i (p.columns i h))

    next_fit : HasRoomFor (v b x i) tails
    next_fit = record {
      validity =
          tail-room b.count (validities b x) (λ k. (need b x k).validity) (λ k h. validity-held b x k) o.validity (joined-room b x o p).0 l.inside of-validity
          l.held-validity h;
      offsets =
          tail-room b.count (offsetses b x) (λ k. (need b x k).offsets) (λ k h. offsets-held b x k) o.offsets (joined-room b x o p).1 l.inside of-offsets
          l.held-offsets h;
      «data» = tail-room b.count (datas b x) (λ k. (need b x k).«data») data-whole o.«data» (joined-room b x o p).2 l.inside of-data l.held-data h;
    }

    pub next-room : HasRoomFor (taken k x) tails
    next-room = subst (λ (k : Column). HasRoomFor (taken k x) tails) (sym ke) next_fit

    -- where the column after it goes is far below what a number of 64 bits holds
    pub sums-small : (t : Taken) → t ≡ taken_of (taken k x)
        → ((written.«data» + t.needed.«data» < 2 ^ 64) × (written.offsets + t.needed.offsets < 2 ^ 64) × (written.validity + t.needed.validity < 2 ^ 64))
        × (nulls + t.nulls ≤ 32 * max_rows)
    sums-small t g =
        let e : t ≡ taken_of (v b x i) = g ∙ ap (λ (k : Column). taken_of (taken k x)) ke in
        let bound : ℕ = max_rows * max_bytes in
        let few : suc i ≤ 32 = omega (arith, few-columns b p.batch) in
        let ready : (k : ℕ) → k < suc i → Ready (b.column k) x = λ k g. column-ready b x k (p.columns k (omega arith)) in
        let each : (k : ℕ) → k < suc i → ((need b x k).validity ≤ bound) × ((need b x k).offsets ≤ bound) × ((need b x k).«data» ≤ bound) = λ k g. needed-small (b.column k) x (ready k g) in (
          (
            omega (arith, of-data, ap (λ (t : Taken). t.needed.«data») e, small-sum (suc i) (λ k. (need b x k).«data») bound (λ k g. (each k g).2) few),
            omega (arith, of-offsets, ap (λ (t : Taken). t.needed.offsets) e, small-sum (suc i) (λ k. (need b x k).offsets) bound (λ k g. (each k g).1) few),
            omega (arith, of-validity, ap (λ (t : Taken). t.needed.validity) e, small-sum (suc i) (λ k. (need b x k).validity) bound (λ k g. (each k g).0) few),
          ),
          omega (arith, l.of-nulls, ap (λ (t : Taken). t.nulls) e, small-sum (suc i) (λ k. null_count (v b x k)) max_rows (λ k g. nulls-small (b.column k) x (ready k g)) few),
        )

    pub laid_more : (t : Taken) → t ≡ taken_of (taken k x) → {a c d : List ℕ} → record { validity = a; offsets = c; «data» = d } ≡ store (taken k x) tails
        → Laid b x o (i + 1) (lengths_together written t.needed) (nulls + t.nulls)
        (put_mid written.validity (length out-validity - written.validity) out-validity a)
        (put_mid written.offsets (length out-offsets - written.offsets) out-offsets c)
        (put_mid written.«data» (length out-data - written.«data») out-data d)
    laid_more t te g =
        let e : t ≡ taken_of (v b x i) = te ∙ ap (λ (k : Column). taken_of (taken k x)) ke in
        let s = g ∙ ap (λ (k : Column). store (taken k x) tails) ke ∙ stored-parts (v b x i) tails in
        record {
          inside = omega arith;
          of-written = rw (add-one, of-data, of-offsets, of-validity, ap (λ (t : Taken). t.needed) e);
          of-nulls = rw (add-one, l.of-nulls, ap (λ (t : Taken). t.nulls) e);
          held-validity =
              piece-more b.count (validities b x) (λ k. (need b x k).validity) (λ k h. validity-held b x k) o.validity (joined-room b x o p).0 l.inside of-validity
              l.held-validity (ap (λ (o : Output). o.validity) s);
          held-offsets =
              piece-more b.count (offsetses b x) (λ k. (need b x k).offsets) (λ k h. offsets-held b x k) o.offsets (joined-room b x o p).1 l.inside of-offsets
              l.held-offsets (ap (λ (o : Output). o.offsets) s);
          held-data =
              piece-more b.count (datas b x) (λ k. (need b x k).«data») data-whole o.«data» (joined-room b x o p).2 l.inside of-data l.held-data
              (ap (λ (o : Output). o.«data») s);
        }

  -- ---- the end

  module _ (e : i ≡ b.count) where
    pub all_told : record { total = written.«data»; nulls = nulls } ≡ written_of b.count (taken_from b x)
    all_told = rw (rw e at of-data, rw e at l.of-nulls)

    pub all_laid : record { validity = out-validity; offsets = out-offsets; «data» = out-data } ≡ store_joined b.count (taken_from b x) o
    all_laid = joined_by b.count (taken_from b x) o (rw e at l.held-validity) (rw e at l.held-offsets) (rw e at l.held-data)
