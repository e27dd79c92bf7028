-- What was gathered is a column again, of exactly the bytes written (specs/Written.antt): it reads as the taken rows, and it is well-formed where its
-- data is in the limit of a source. So a later call may take an output as its source. Assumes nothing.
use mathlib.Core.Path.{◌≡◌, refl, sym, ap, ◌∙◌}
use mathlib.Core.Bool.{true, false, not}
use mathlib.Core.List.{List, [], append-nil}
use Prim.Native.Nat.{ℕ, suc, ◌+◌, ◌*◌, ◌/◌, ◌≤◌}
use native.Mathlib.Nat.{le_of_eq, mul-le-mul, mul-le-mul_left, mul-div_cancel}
use native.Mathlib.Omega.{arith}
use lib.Dec.{ltb}
use lib.ListN.{length, drop}
use borrow.Author.Tests.{le-ltb, lt-leb}
use Rattle.bits.specs.Sequences.{sum}
use Rattle.bits.specs.Bits.{bytes_for, is_absent}
use Rattle.tables.specs.declared.table.Kind.{Kind}
use Rattle.tables.specs.declared.table.Layout.{Layout}
use Rattle.tables.specs.declared.table.Layout.TheVariants.{FixedWidth, BitMap, VariableWidth}
use Rattle.tables.specs.Columns.{Column, IndexColumn, kind_at, layout_at, offset_at, with_rows_at}
use Rattle.tables.specs.Answers.{passes, first_of}
use Rattle.tables.specs.Refusals.{max_rows, max_bytes, data_short, has_bad_offset, index_refusal, WellFormed}
use Rattle.tables.specs.Rows.{Rows, rows_by, rows_of}
use Rattle.gathers.specs.Written.{ReadsAs, stored_column, output_column, BeginsWith}
use Rattle.tables.specs.Picks.{picks_of}
use Rattle.gathers.specs.Taken.{take_rows, taken}
use Rattle.gathers.specs.Alike.{SameRows}
use Rattle.gathers.specs.Stored.{Output, validity_bytes, start_of, offset_bytes, written_offsets, data_bytes, data_length, store}
use Rattle.gathers.specs.Gather.{out_of_range, through_lines, gathered, gather}
use Rattle.gathers.specs.Stages.{overflow_refusal}
use Rattle.bits.proofs.Bytes.{take-overwrite}
use Rattle.bits.proofs.Tests.{false-or, and-false-right}
use Rattle.tables.proofs.Bounds.{number-width-limit, offset-number-width}
use Rattle.tables.proofs.Facts.{VariableKind, Formed, formed, index-formed}
use Rattle.tables.proofs.Offsets.{no-bad-offset}
use Rattle.tables.proofs.Rows.{regular-column}
use Rattle.tables.proofs.Views.{variable-kind-at, rows-like, well-formed-like, rows_of-by}
use Rattle.tables.proofs.Stages.{form-passed}
use Rattle.gathers.proofs.Stages.{in-range, no_overflow, PassedThrough, passed-through}
use Rattle.gathers.proofs.Cases.{gathered-through, gathered-stored}
use Rattle.gathers.proofs.Regular.{regular-take, length-validity, length-offsets, length-data}
use Rattle.gathers.proofs.Descriptions.{kind-with, number-with}
use Rattle.gathers.proofs.Variable.{running-good}
use Rattle.gathers.proofs.ReadBack.{with_slack, valid-back, offset-back, Storable, bytes_back, entries-back, taken-storable}

-- ---- rows that can be stored make a well-formed column

module _ (k : Kind) (c : Column) (v : Rows) (few : v.count ≤ max_rows) where
  abbrev exact : Layout → Column
  exact l = record { table = with_rows_at c.table v.count 0 0; «data» = data_bytes l v; offsets = written_offsets l v; validity = validity_bytes v; cut = false }

  no-slack : (l : Layout) → with_slack l c v [] [] [] ≡ exact l
  no-slack l = rw (append-nil (data_bytes l v), append-nil (written_offsets l v), append-nil (validity_bytes v))

  -- the offsets of as many rows as a column may have are in the limit
  offsets-small : (l : Layout) → VariableKind l c → Storable l c.table.offset_width v → length (written_offsets l v) ≤ max_bytes
  offsets-small (FixedWidth n) rk s = omega arith
  offsets-small BitMap rk s = omega arith
  offsets-small (VariableWidth u) rk s =
      let w : v.offset_width ≤ 8 = rw s.1 (number-width-limit c.table.offset_width (offset-number-width c.table.offset_width rk.1)) in
      let n : suc v.count ≤ suc max_rows = omega arith in
      omega (arith, length-offsets v u, mul-le-mul n w)

  long-enough : (l : Layout) → length (data_bytes l v) ≡ data_length l v → Storable l c.table.offset_width v
      → data_short l (exact l).table (length (data_bytes l v)) (length (written_offsets l v)) ≡ false
  unfolding data_length
  long-enough (FixedWidth n) e s = le-ltb (length (data_bytes (FixedWidth n) v)) (v.count * n) (omega arith)
  long-enough BitMap e s = le-ltb (length (data_bytes BitMap v)) (bytes_for (0 + v.count)) (omega arith)
  long-enough (VariableWidth u) e s =
      le-ltb (length (offset_bytes v)) (suc v.count * c.table.offset_width) (le_of_eq (sym (length-offsets v u ∙ ap (λ (w : ℕ). suc v.count * w) s.1)))

  -- the last offset is the number of entries, and none is larger
  good-offsets : (l : Layout) → length (data_bytes l v) ≡ data_length l v → data_length l v ≤ max_bytes → VariableKind l c → Storable l c.table.offset_width v
      → has_bad_offset l (exact l) ≡ false
  unfolding data_length start_of
  good-offsets (FixedWidth n) e h rk s = lt-leb (suc v.count) v.count (omega arith)
  good-offsets BitMap e h rk s = lt-leb (suc v.count) v.count (omega arith)
  good-offsets (VariableWidth u) e h rk s =
      let d : Column = exact (VariableWidth u) in
      let back : (i : ℕ) → i ≤ v.count → offset_at d i ≡ sum i v.entries =
      λ i b. ap (λ (d : Column). offset_at d i) (sym (no-slack (VariableWidth u))) ∙ offset-back c v [] [] [] u s.1 s.2 i b in
      let all : length (data_bytes (VariableWidth u) v) / u ≡ sum v.count v.entries = ap (λ (n : ℕ). n / u) e ∙ mul-div_cancel (sum v.count v.entries) rk.0 in
      no-bad-offset u d (running-good u d v.entries rk.1 back all (omega (arith, mul-le-mul_left (sum v.count v.entries) rk.0)))

  exact-formed : (l : Layout) → length (data_bytes l v) ≡ data_length l v → data_length l v ≤ max_bytes → VariableKind l c → Storable l c.table.offset_width v
      → Formed k l c → Formed k l (exact l)
  exact-formed l e h rk s f = record {
    good_kind = kind-with c.table v.count 0 0 k f.good_kind;
    rows = few;
    «data» = rw e h;
    validity_limit = false-or (le-ltb max_bytes (length (validity_bytes v)) (omega (arith, length-validity v))) (and-false-right (not (is_absent (validity_bytes v))) refl);
    number =
        number-with c.table v.count 0 0 k (length c.offsets) (length (written_offsets l v)) (λ e. refl)
        (λ e. le-ltb max_bytes (length (written_offsets l v)) (offsets-small l rk s)) f.number;
    data_fit = long-enough l e s;
    validity_fits =
        and-false-right (not (is_absent (validity_bytes v)))
        (le-ltb (length (validity_bytes v)) (bytes_for (0 + v.count)) (omega (arith, length-validity v)));
    good_offsets = good-offsets l e h rk s;
    whole = refl;
  }

-- ---- the taken rows, where the tests through overflow let pass

module _ (c : Column) (x : IndexColumn) (passed : passes (first_of (through_lines c x)) ≡ true) where
  abbrev k : Kind
  k = kind_at c

  abbrev l : Layout
  l = layout_at c

  abbrev v : Rows
  v = take_rows (rows_by k l c) x

  through : PassedThrough c x
  through = passed-through c x passed

  form : WellFormed c × (passes (index_refusal x) ≡ true)
  form = form-passed c x through.form

  wf : Formed k l c
  wf = formed c form.0

  rk : VariableKind l c
  rk = variable-kind-at c wf.good_kind

  inside : ltb (out_of_range c.table.rows x) x.indices.count ≡ false
  inside = in-range c.table.rows x through.range

  few : x.indices.count ≤ max_rows
  few = (index-formed x form.1).count

  storable : Storable l c.table.offset_width v
  storable =
      let w : passes (overflow_refusal v) ≡ true = rw (rows_of-by c) at through.overflow in
      taken-storable k c x (index-formed x form.1) inside l rk wf (no_overflow v w)

  pub storable-taken : Storable (layout_at c) c.table.offset_width (taken c x)
  storable-taken = rw (rows_of-by c) storable

  held : length (data_bytes l v) ≡ data_length l v
  held = length-data v l (regular-take (rows_by k l c) x (regular-column k l c rk wf) inside)

  -- as many bytes are written as are said to be needed
  pub data-held : length (data_bytes (taken c x).layout (taken c x)) ≡ data_length (taken c x).layout (taken c x)
  data-held = rw (rows_of-by c) held

  -- whatever follows the bytes that are written
  slack-reads : (a b d : List ℕ) → ReadsAs (rows_of (with_slack l c v a b d)) v
  slack-reads a b d = rw (rows-like c (with_slack l c v a b d) refl refl refl) (record { count = refl; valid = valid-back c v a b d; bytes = bytes_back c v a b d l storable })

  -- a column of exactly the bytes written has exactly the taken rows ..
  pub stored-reads : ReadsAs (rows_of (stored_column c (taken c x))) (taken c x)
  stored-reads = rw (rows_of-by c, ← no-slack k c v few l) (slack-reads [] [] [])

  -- .. of their kind and with their lengths: it gathers as any well-formed column of these rows does (`same_rows`) ..
  pub stored_same : SameRows (taken c x) (rows_of (stored_column c (taken c x)))
  stored_same =
      rw (rows_of-by c, ← no-slack k c v few l, rows-like c (with_slack l c v [] [] []) refl refl refl)
      (record {
        kind = refl;
        layout = refl;
        offset_width = refl;
        count = refl;
        valid = λ i h r. sym (valid-back c v [] [] [] i h);
        entries = λ i h r t. sym (entries-back k c (picks_of x) [] [] [] l storable i h);
        bytes = λ i h r t. sym (bytes_back c v [] [] [] l storable i h);
      })

  -- .. and is well-formed, if its data is in the limit of a source. Its validity and its offsets are so in any case, for the rows are
  pub stored-well-formed : data_length (taken c x).layout (taken c x) ≤ max_bytes → WellFormed (stored_column c (taken c x))
  stored-well-formed = rw (rows_of-by c) (λ h. well-formed-like c (stored_column c v) refl refl refl (exact-formed k c v few l held h rk storable wf))

  -- nothing less would do
  pub stored-limit : WellFormed (stored_column c (taken c x)) → data_length (taken c x).layout (taken c x) ≤ max_bytes
  stored-limit = rw (rows_of-by c) (λ w. rw (sym held) (formed (stored_column c v) w).«data»)

  -- the rows are read alike with other bytes after them
  pub lent_reads : (o : Output) → ReadsAs (rows_of (output_column c x.indices.count (store (taken c x) o))) (taken c x)
  unfolding store
  lent_reads o =
      rw (rows_of-by c)
      (slack-reads (drop (length (validity_bytes v)) o.validity) (drop (length (written_offsets l v)) o.offsets) (drop (length (data_bytes l v)) o.«data»))

-- ---- of a gather

module _ (c : Column) (x : IndexColumn) (o : Output) (e : (gather c x o).answer.number ≡ 0) where
  -- the output begins with the bytes of that column
  pub gathered-begins : BeginsWith (stored_column c (taken c x)) (gather c x o).output
  unfolding store
  gathered-begins =
      rw (gathered-stored c x o e)
      (record {
        validity = take-overwrite (validity_bytes (taken c x)) o.validity;
        offsets = take-overwrite (written_offsets (taken c x).layout (taken c x)) o.offsets;
        «data» = take-overwrite (data_bytes (taken c x).layout (taken c x)) o.«data»;
      })

  pub gathered-reads : ReadsAs (rows_of (stored_column c (taken c x))) (taken c x)
  gathered-reads = stored-reads c x (gathered-through c x o e)

  pub gathered-same : SameRows (taken c x) (rows_of (stored_column c (taken c x)))
  gathered-same = stored_same c x (gathered-through c x o e)

  pub gathered-well-formed : (gather c x o).answer.total ≤ max_bytes → WellFormed (stored_column c (taken c x))
  unfolding gathered
  gathered-well-formed h = stored-well-formed c x (gathered-through c x o e) (rw (gathered-stored c x o e) at h)

  -- the whole output buffers, read by the row view as a column of the same kind, have exactly the taken rows
  pub reads-back : ReadsAs (rows_of (output_column c x.indices.count (gather c x o).output)) (taken c x)
  reads-back = rw (gathered-stored c x o e) (lent_reads c x (gathered-through c x o e) o)
