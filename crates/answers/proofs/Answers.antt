-- Four numbers written one after the other. Assumes nothing.
use mathlib.Core.Path.{◌≡◌, refl, ◌∙◌}
use mathlib.Core.List.{List, ◌++◌}
use Prim.Native.Nat.{ℕ}
use native.Mathlib.Omega.{arith}
use lib.ListN.{length, length-append}
use Rattle.bits.specs.Bytes.{overwrite}
use Rattle.bits.specs.Routines.{overwrite_at}
use Rattle.bits.specs.Numbers.{to_little_endian}
use Rattle.bits.proofs.Bytes.{overwrite-tail}
use Rattle.tables.specs.declared.answer.Answer.{Answer}
use Rattle.answers.specs.Exported.{answer_bytes}

-- blocks of 8 bytes
blocks-written : (a b c d s : List ℕ) {s₁ s₂ s₃ s₄ : List ℕ} → length a ≡ 8 → length b ≡ 8 → length c ≡ 8
    → s₁ ≡ overwrite a s → s₂ ≡ overwrite_at 8 b s₁ → s₃ ≡ overwrite_at 16 c s₂ → s₄ ≡ overwrite_at 24 d s₃ → s₄ ≡ overwrite (a ++ b ++ c ++ d) s
blocks-written a b c d s la lb lc e₁ e₂ e₃ e₄ =
    let two : length (a ++ b) ≡ 16 = simp length-append (omega (arith, la, lb)) in
    let three : length (a ++ b ++ c) ≡ 24 = simp length-append (omega (arith, la, lb, lc)) in
    e₄ ∙ rw (e₃, e₂, e₁, overwrite-tail a b s 8 la, overwrite-tail (a ++ b) c s 16 two) (overwrite-tail (a ++ b ++ c) d s 24 three)

pub answer-written : (a : Answer) (s : List ℕ) {s₁ s₂ s₃ s₄ : List ℕ} → s₁ ≡ overwrite_at 0 (to_little_endian 8 a.number) s
    → s₂ ≡ overwrite_at 8 (to_little_endian 8 a.place) s₁ → s₃ ≡ overwrite_at 16 (to_little_endian 8 a.total) s₂
    → s₄ ≡ overwrite_at 24 (to_little_endian 8 a.nulls) s₃ → s₄ ≡ overwrite (answer_bytes a) s
answer-written a s e₁ e₂ e₃ e₄ =
    blocks-written (to_little_endian 8 a.number) (to_little_endian 8 a.place) (to_little_endian 8 a.total) (to_little_endian 8 a.nulls) s refl refl refl e₁ e₂ e₃ e₄
