-- What the functions of this crate tell each other.
use Rattle.std.specs.Prelude.{ℕ, Bool, Option, Some, None, if◌then◌else◌, nat_lt}
use Rattle.bits.specs.Sequences.{first}

-- the least index below n that passes, if one does
abbrev pub first_found : ℕ → (ℕ → Bool) → Option ℕ
first_found n p = if nat_lt (first n p) n then Some (first n p) else None
