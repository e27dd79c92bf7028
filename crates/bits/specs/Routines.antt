-- What routines promise of parts of a buffer; the entries speak of neither.
use Rattle.std.specs.Prelude.{ℕ, ◌*◌, List, ◌++◌, take, drop}
use Rattle.bits.specs.Sequences.{sum}
use Rattle.bits.specs.Bytes.{overwrite}
use Rattle.bits.specs.Bits.{bit_value, bit_at}

-- s with its bytes from position p on replaced by e, as far as e goes
abbrev pub overwrite_at : ℕ → List ℕ → List ℕ → List ℕ
overwrite_at p e s = take p s ++ overwrite e (drop p s)

-- how many of the bits of the first n bytes are set
unfoldable pub set_bits : ℕ → List ℕ → ℕ
set_bits n s = sum (8 * n) (λ p. bit_value (bit_at s p))
