-- What an exported entry leaves (specs/Exported.antt), by the length of the answer slice. Assumes nothing.
use mathlib.Core.Path.{◌≡◌, sym}
use mathlib.Core.List.{List}
use Prim.Native.Nat.{ℕ, ◌≤◌, ◌<◌}
use lib.ListN.{length}
use borrow.Author.Tests.{lt-ltb, le-ltb}
use Rattle.bits.specs.Bytes.{overwrite}
use Rattle.tables.specs.declared.answer.Answer.{Answer}
use Rattle.tables.specs.Columns.{IndexColumn}
use Rattle.gathers.specs.Stored.{Output}
use Rattle.gathers.specs.Gather.{Outcome}
use Rattle.answers.specs.Exported.{answer_bytes, left, exported}

module _ {S : Type 0} (f : S → IndexColumn → Output → Outcome) (c : S) (x : IndexColumn) (o : Output) (s : List ℕ) where
  -- a short slice, whatever is gathered
  pub cut_off : length s < 32 → left 7 s o ≡ exported f s c x o
  unfolding exported
  cut_off h = rw (lt-ltb (length s) 32 h)

  -- a long one: what the gather leaves, with its numbers written
  pub written : {a : Answer} {r : ℕ} {t : List ℕ} {out : Output} → 32 ≤ length s → record { answer = a; output = out } ≡ f c x o → r ≡ a.number
      → t ≡ overwrite (answer_bytes a) s → left r t out ≡ exported f s c x o
  unfolding exported
  written h e d w = rw (le-ltb (length s) 32 h, w, sym e, d)
