-- The turns in which the rows are taken: what is listed of a turn's rows says where their bytes are and how many, and what is copied by it is what `take_rows`
-- takes. Assumes nothing.
use mathlib.Core.Path.{◌≡◌, refl, sym, ap, ap₂, ◌∙◌, subst}
use mathlib.Core.Bool.{Bool, true, false}
use mathlib.Core.List.{List, ◌++◌}
use Prim.Native.Nat.{ℕ, suc, ◌+◌, ◌-◌, ◌*◌, ◌^◌, ◌≤◌, ◌<◌}
use native.Mathlib.Nat.{le_trans, mul_comm, mul-sub, mul-le-mul_right}
use native.Mathlib.Omega.{arith}
use lib.Dec.{ltb}
use lib.ListN.{length, get_or, take, length-append}
use lib.Seq.{length-take-le}
use borrow.Author.Tests.{lt-ltb, ltb-true}
use borrow.Rule.Slice.PartMut.{put_mid}
use Rattle.bits.specs.Sequences.{concat, sum}
use Rattle.bits.specs.Bytes.{part, overwrite}
use Rattle.bits.specs.Routines.{overwrite_at}
use Rattle.bits.specs.Numbers.{number_at, to_little_endian, is_number_width}
use Rattle.bits.specs.Bits.{bit_of, bit_at}
use Rattle.tables.specs.Columns.{Column, IndexColumn, offset_at, index}
use Rattle.tables.specs.Refusals.{max_bytes}
use Rattle.gathers.specs.Ready.{stored_offsets, stored_data}
use Rattle.gathers.specs.Buffers.{taken_entries, taken_bytes}
use Rattle.bits.proofs.Bytes.{length_part, part-take, overwrite-tail, overwrite_at-filled}
use Rattle.bits.proofs.Numbers.{length-to_little_endian}
use Rattle.bits.proofs.Sequences.{concat-cong, concat-add, sum-cong, sum-add, sum-mul, sum_mono, length-blocks, get_or-front}
use Rattle.bits.proofs.Tests.{and-true}
use Rattle.tables.proofs.Offsets.{rises, offsets-mono}
use Rattle.tables.proofs.There.{index_number}
use Rattle.tables.proofs.Views.{offset_at-number}
use Rattle.gathers.proofs.Buffers.{validates-bit}
use Rattle.gathers.proofs.VariableRows.{taken-below, variable-inside, entries-valid, entries-null, variable-valid, variable-null, total-small, offsets-by-buffer, variable-by-buffer, offset-length-by-buffer, data-length-by-buffer}
use Rattle.lengths.specs.declared.turn.Turn.{Turn}
use Rattle.lengths.specs.Entries.{Shown}
use Rattle.lengths.specs.Totals.{shown_start, shown_entries, total_bytes}
use Rattle.lengths.proofs.Masking.{start_at-valid}
use Rattle.lengths.specs.Turns.{TurnAt, ListReady, Listed, turn_totals}
use Rattle.rows.specs.Rows.{Stretches, row_from, row_length, row_bytes, RowsThere}
use Rattle.rows.proofs.Copying.{row_bytes-part, row_bytes-empty}
use Rattle.variable.specs.Ready.{VariableReady}
use Rattle.variable.proofs.Reading.{shown_of, is_taken, facts, offset-number, offset-can, shown-sum, shown-entries}

sub-mul : (a b u : ℕ) → (a - b) * u ≡ a * u - b * u
sub-mul a b u = mul_comm (a - b) u ∙ mul-sub u a b ∙ rw (mul_comm u a, mul_comm u b)

-- the rows before row `base` are taken: the offsets up to its own are written over o₀, and their bytes over d₀
pub record RowsTaken (p : Shown) (row : ℕ → List ℕ) (u : ℕ) (o₀ d₀ o d : List ℕ) (total base : ℕ) : Type 0 where
  pub counted : total ≡ sum base (shown_entries p)
  pub offsets : o ≡ overwrite (total_bytes p.offset_width (shown_entries p) (suc base)) o₀
  pub bytes : d ≡ overwrite (concat base row) d₀
  pub long : length (concat base row) ≡ total * u

-- how many rows are in the first k turns of 32
abbrev pub rows_in : ℕ → ℕ → ℕ
rows_in count k = count - (count - 32 * k)

module _ {u : ℕ} {c : Column} {x : IndexColumn} {valid o₀ d₀ : List ℕ} (r : VariableReady u c x valid o₀ d₀)
    {ow : ℕ} (same : c.table.offset_width ≡ ow) where
  abbrev w : ℕ
  w = c.table.offset_width

  abbrev count : ℕ
  count = x.indices.count

  abbrev E : ℕ → ℕ
  E = taken_entries c x

  -- offset i of the column
  pub offset-inside : (i : ℕ) → i ≤ c.table.rows → i * ow + ow ≤ length c.offsets
  offset-inside i h = subst (λ (v : ℕ). i * v + v ≤ length c.offsets) same (offset-can r.ready r.layout i h)

  pub offset-number-at : is_number_width ow ≡ true
  offset-number-at = subst (λ (v : ℕ). is_number_width v ≡ true) same (offset-number r.ready r.layout)

  abbrev p-at : ℕ → Shown
  p-at v = shown_of v c x valid

  abbrev p : Shown
  p = p-at ow

  totals : (i : ℕ) → i ≤ count → sum i (shown_entries p) ≡ sum i E
  totals i h = subst (λ (v : ℕ). sum i (shown_entries (p-at v)) ≡ sum i E) same (shown-sum r.ready r.layout r.shows i h)

  entries : (j : ℕ) → j < count → shown_entries p j ≡ E j
  entries j h = subst (λ (v : ℕ). shown_entries (p-at v) j ≡ E j) same (shown-entries u c x j r.shows h)

  offsets_room : suc count * ow ≤ length o₀
  offsets_room = subst (λ (v : ℕ). suc count * v ≤ length o₀) same (omega (arith, r.room.0, offset-length-by-buffer c x u r.layout))

  pub first-room : 0 * ow + ow ≤ length o₀
  first-room =
      let one : 1 * ow ≤ suc count * ow = mul-le-mul_right ow (omega arith) in
      omega (arith, one, offsets_room)

  abbrev Taken : List ℕ → List ℕ → ℕ → ℕ → Type 0
  Taken = RowsTaken p (taken_bytes u c x) u o₀ d₀

  -- ---- after the last turn

  module _ {o d : List ℕ} {total : ℕ} (k : ℕ) (h : count ≤ 32 * k) (last : Taken o d total (rows_in count k)) where
    all : Taken o d total count
    all = let e : rows_in count k ≡ count = omega arith in subst (Taken o d total) e last

    pub offsets-stored : o ≡ stored_offsets c x o₀
    offsets-stored =
        let own : overwrite (total_bytes ow (shown_entries p) (suc count)) o₀ ≡ overwrite (total_bytes w (shown_entries (p-at w)) (suc count)) o₀ =
        ap (λ (v : ℕ). overwrite (total_bytes v (shown_entries (p-at v)) (suc count)) o₀) (sym same) in
        let same-totals : total_bytes w (shown_entries (p-at w)) (suc count) ≡ total_bytes w E (suc count) =
        concat-cong (suc count) (λ i h. ap (to_little_endian w) (shown-sum r.ready r.layout r.shows i (omega arith))) in
        rw r.layout (all.offsets ∙ own ∙ ap (λ (b : List ℕ). overwrite b o₀) (same-totals ∙ sym (offsets-by-buffer c x u r.layout)))

    pub data-stored : d ≡ stored_data c x d₀
    data-stored = all.bytes ∙ ap (λ (s : List ℕ). overwrite s d₀) (sym (variable-by-buffer c x u r.layout))

  -- ---- the data that the offsets need: up to the last offset, as it is read

  module _ {last : ℕ} (e : last ≡ number_at ow c.offsets c.table.rows) where
    needed-at : last * u ≡ offset_at c c.table.rows * u
    needed-at = ap (λ (m : ℕ). m * u) (e ∙ ap (λ (v : ℕ). number_at v c.offsets c.table.rows) (sym same) ∙ sym (offset_at-number c c.table.rows))

    needed-inside : last * u ≤ length c.«data»
    needed-inside = rw needed-at (variable-inside c x u r.layout r.ready c.table.rows (omega arith))

    pub needed-small : last * u ≤ max_bytes
    needed-small = le_trans needed-inside (facts r.ready r.layout).small

    pub needed-long : length (take (last * u) c.«data») ≡ last * u
    needed-long = length-take-le (last * u) c.«data» needed-inside

  -- ---- turn k

  module _ {k : ℕ} {turn : Turn} (here : TurnAt p count k turn) {o d : List ℕ} {total : ℕ} (so_far : Taken o d total (rows_in count k)) where
    abbrev base : ℕ
    base = turn.base

    abbrev n : ℕ
    n = turn.rows

    t : Taken o d total base
    t = let e : rows_in count k ≡ base = omega (arith, here.place, here.there.inside) in subst (Taken o d total) e so_far

    inside : base + n ≤ count
    inside = here.there.inside

    pub list-ready : {s l : List ℕ} → length s ≡ 32 → length l ≡ 32 → length o ≡ length o₀ → ListReady p count turn total s l o
    list-ready a z long =
        let before : suc (base + n) * ow ≤ suc count * ow = mul-le-mul_right ow (omega (arith, inside)) in
        record {
          there = here.there;
          counted = t.counted;
          room = (omega (arith, here.there.few, a), omega (arith, here.there.few, z));
          offsets_room = omega (arith, before, offsets_room, long);
        }

    -- its rows are listed
    module _ {s₀ l₀ s l o' : List ℕ} {after : ℕ} (q : Listed p base n s₀ l₀ o s l o' after) where
      grown : after ≡ total + sum n (λ i. shown_entries p (base + i))
      grown = q.counted ∙ sum-add base n (shown_entries p) ∙ rw t.counted

      total-at : total ≡ sum base E
      total-at = t.counted ∙ totals base (omega (arith, inside))

      after-at : after ≡ sum (base + n) E
      after-at = q.counted ∙ totals (base + n) inside

      -- where its bytes go
      part-starts : total * u ≤ after * u
      part-starts = mul-le-mul_right u (omega (arith, grown))

      pub part-small : after * u < 2 ^ 64
      part-small = rw after-at (omega (arith, (total-small c x u r.layout r.ready (base + n) inside).1))

      pub part-there : length d ≡ length d₀ → (total * u ≤ after * u) × (after * u ≤ length d)
      part-there long =
          let up : after * u ≤ sum count E * u = mul-le-mul_right u (rw after-at (sum_mono count E inside)) in
          (part-starts, omega (arith, up, long, r.room.1, data-length-by-buffer c x u r.layout))

      pub part-long : length d ≡ length d₀ → length (part (total * u) (after * u - total * u) d) ≡ after * u - total * u
      part-long long = length_part (total * u) (after * u - total * u) d (omega (arith, part-there long))

      module _ {last : ℕ} (e : last ≡ number_at ow c.offsets c.table.rows) where
        abbrev b : Stretches
        b = record { unit = u; «data» = take (last * u) c.«data»; starts = s; lengths = l }

        module _ (i : ℕ) (h : i < n) where
          abbrev j : ℕ
          j = base + i

          below : j < count
          below = omega (arith, inside)

          start-listed : get_or s i 0 ≡ shown_start p j
          start-listed = ap (λ (a : List ℕ). get_or a i 0) q.starts ∙ get_or-front n (λ m. shown_start p (base + m)) _ i h

          length-listed : get_or l i 0 ≡ E j
          length-listed = ap (λ (a : List ℕ). get_or a i 0) q.lengths ∙ get_or-front n (λ m. shown_entries p (base + m)) _ i h ∙ entries j below

          null-listed : is_taken c x j ≡ false → get_or l i 0 ≡ 0
          null-listed f = length-listed ∙ entries-null c x u j f

          bit-taken : bit_of turn.word i ≡ is_taken c x j
          bit-taken = here.there.bits i ∙ rw (lt-ltb i n h) (validates-bit r.shows j below)

          -- a valid row
          module _ (f : is_taken c x j ≡ true) where
            abbrev row : ℕ
            row = index x j

            row-below : row < c.table.rows
            row-below = taken-below c x u r.layout r.ready j below f

            from_at : row_from b i ≡ offset_at c row * u
            from_at =
                let valid-row : bit_at valid j ≡ true = validates-bit r.shows j below ∙ f in
                ap (λ (m : ℕ). m * u)
                (start-listed
                ∙ start_at-valid ow c.offsets (number_at x.indices.width x.«data» j) valid-row
                ∙ ap (λ (v : ℕ). number_at v c.offsets (number_at x.indices.width x.«data» j)) (sym same)
                ∙ ap (number_at w c.offsets) (sym (index_number x j))
                ∙ sym (offset_at-number c row))

            length_at : row_length b i ≡ (offset_at c (suc row) - offset_at c row) * u
            length_at = ap (λ (m : ℕ). m * u) (length-listed ∙ entries-valid c x u j f)

            in-needed : row_from b i + row_length b i ≤ last * u
            in-needed =
                let up : offset_at c row * u ≤ offset_at c (suc row) * u = mul-le-mul_right u (rises u c (facts r.ready r.layout) row row-below) in
                let end : offset_at c (suc row) * u ≤ offset_at c c.table.rows * u =
                mul-le-mul_right u (offsets-mono u c (facts r.ready r.layout) (suc row) c.table.rows row-below (omega arith)) in
                omega (arith, up, end, from_at, length_at, sub-mul (offset_at c (suc row)) (offset_at c row) u, needed-at e)

            bytes-at : row_bytes b i ≡ taken_bytes u c x j
            bytes-at =
                row_bytes-part b i
                ∙ part-take (row_from b i) (row_length b i) (last * u) c.«data» in-needed
                ∙ ap₂ (λ (a m : ℕ). part a m c.«data») from_at length_at
                ∙ sym (variable-valid c x u j f)

          row-bytes : row_bytes b i ≡ taken_bytes u c x j
          row-bytes = go (is_taken c x j) refl
            where
              go : (f : Bool) → is_taken c x j ≡ f → row_bytes b i ≡ taken_bytes u c x j
              go true f = bytes-at f
              go false f = row_bytes-empty b i (null-listed f) ∙ sym (variable-null c x u j f)

        pub rows-there : length s ≡ 32 → length l ≡ 32 → RowsThere b turn.word n
        rows-there a z = record {
          listed = (omega (arith, here.there.few, a), omega (arith, here.there.few, z));
          spare = λ i f. ltb-true i n (and-true (ltb i n) (bit_at valid (base + i)) (sym (here.there.bits i) ∙ f)).0;
          empty = λ i m f. null-listed i m (sym (bit-taken i m) ∙ f);
          read = λ i m f. omega (arith, needed-long e, in-needed i m (sym (bit-taken i m) ∙ f));
        }

        -- its bytes fill the part that is lent for them
        pub filled : sum n (row_length b) ≡ after * u - total * u
        filled =
            let all : sum n (row_length b) ≡ sum n (λ i. shown_entries p (base + i)) * u =
            sum-cong n (λ i h. ap (λ (m : ℕ). m * u) (length-listed i h ∙ sym (entries (base + i) (omega (arith, inside))))) ∙ sum-mul n (λ i. shown_entries p (base + i)) u in
            let rest : sum n (λ i. shown_entries p (base + i)) ≡ after - total = omega (arith, grown) in
            all ∙ rw rest (sub-mul after total u)

        pub taken-next : {y : List ℕ} → length y ≡ after * u - total * u → y ≡ concat n (row_bytes b)
            → Taken o' (put_mid (total * u) (after * u - total * u) d y) after (rows_in count (k + 1))
        taken-next {y} long f =
            let row : ℕ → List ℕ = taken_bytes u c x in
            let new : y ≡ concat n (λ i. row (base + i)) = f ∙ concat-cong n row-bytes in
            let g : ℕ → List ℕ = λ i. to_little_endian ow (sum i (shown_entries p)) in
            let up : suc base + n ≡ suc (base + n) = omega arith in
            let old : length (total_bytes ow (shown_entries p) (suc base)) ≡ suc base * ow =
            length-blocks (suc base) ow g (λ i h. length-to_little_endian ow (sum i (shown_entries p))) in
            let next : base + n ≡ rows_in count (k + 1) = omega (arith, here.most, here.there.few, here.place) in
            subst (Taken o' (put_mid (total * u) (after * u - total * u) d y) after) next
            (record {
              counted = q.counted;
              offsets =
                  q.totals
                  ∙ ap (overwrite_at (suc base * ow) (turn_totals ow (shown_entries p) base n)) t.offsets
                  ∙ overwrite-tail (total_bytes ow (shown_entries p) (suc base)) (turn_totals ow (shown_entries p) base n) o₀ (suc base * ow) old
                  ∙ ap (λ (s : List ℕ). overwrite s o₀) (sym (concat-add (suc base) n g) ∙ ap (λ (m : ℕ). concat m g) up);
              bytes =
                  overwrite_at-filled (total * u) (after * u - total * u) d y long
                  ∙ ap₂ (λ (a s : List ℕ). overwrite_at (total * u) a s) new t.bytes
                  ∙ overwrite-tail (concat base row) (concat n (λ i. row (base + i))) d₀ (total * u) t.long
                  ∙ ap (λ (s : List ℕ). overwrite s d₀) (sym (concat-add base n row));
              long =
                  ap length (concat-add base n row ∙ ap (λ (z : List ℕ). concat base row ++ z) (sym new))
                  ∙ length-append (concat base row) y
                  ∙ omega (arith, t.long, long, part-starts);
            })
