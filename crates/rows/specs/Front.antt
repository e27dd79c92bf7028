-- What is written for the bytes of one row.
use Rattle.std.specs.Prelude.{ℕ, ◌-◌, if◌then◌else◌, ◌&&◌, List, ◌++◌, nat_le, nat_lt, take, replicate}

-- the first n bytes of s, and zeros after them up to 8
abbrev pub padded : ℕ → List ℕ → List ℕ
padded n s = take n s ++ replicate (8 - n) 0

-- the first n bytes of s; where 8 may be read and 8 written, up to 8
unfoldable pub front_bytes : ℕ → ℕ → ℕ → List ℕ → List ℕ
front_bytes n readable writable s = if nat_lt n 8 && (nat_le 8 readable && nat_le 8 writable) then padded n s else take n s
