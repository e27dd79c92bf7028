-- A description with other rows and bit offsets (`with_rows_at`) is as good as the old one. Assumes nothing.
use mathlib.Core.Path.{◌≡◌, refl}
use mathlib.Core.Bool.{Bool, true, false, ◌&&◌, ◌||◌}
use Prim.Native.Nat.{ℕ}
use lib.Dec.{ltb}
use Rattle.tables.specs.declared.table.Kind.{Kind}
use Rattle.tables.specs.declared.table.Table.{Table}
use Rattle.tables.specs.Kinds.{uses_of}
use Rattle.tables.specs.Columns.{with_rows_at}
use Rattle.tables.specs.Refusals.{max_bytes, max_size, max_bit, bad_kind, used_over_limit}
use Rattle.bits.proofs.Tests.{or-false, false-or}

-- a test of a used field that is not met, and one that follows
still : (u b c : Bool) → (b ≡ false → c ≡ false) → (u && b) ≡ false → (u && c) ≡ false
still true b c f e = f e
still false b c f e = refl

module _ (t : Table) (rows d b : ℕ) where
  pub kind-with : (k : Kind) → bad_kind k t ≡ false → bad_kind k (with_rows_at t rows d b) ≡ false
  kind-with k e = e

  -- where the data's bit offset, and the m bytes of offsets in place of n, are in their limits
  pub number-with : (k : Kind) (n m : ℕ) → (ltb max_bit t.data_bit ≡ false → ltb max_bit d ≡ false) → (ltb max_bytes n ≡ false → ltb max_bytes m ≡ false)
      → used_over_limit k t n ≡ false → used_over_limit k (with_rows_at t rows d b) m ≡ false
  number-with k n m bit offsets e =
      let S : Bool = (uses_of k).size && ltb max_size t.size in
      let O : Bool = (uses_of k).offset_width && ltb max_bytes n in
      let B : Bool = (uses_of k).data_bit && ltb max_bit t.data_bit in
      let p : ((S || O) ≡ false) × (B ≡ false) = or-false (S || O) B e in
      let q : (S ≡ false) × (O ≡ false) = or-false S O p.0 in
      false-or (false-or q.0 (still (uses_of k).offset_width (ltb max_bytes n) (ltb max_bytes m) offsets q.1))
      (still (uses_of k).data_bit (ltb max_bit t.data_bit) (ltb max_bit d) bit p.1)
