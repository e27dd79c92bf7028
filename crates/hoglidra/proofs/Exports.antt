-- What `hoglidra_take` leaves, by the length of the answer slice. Assumes nothing.
use mathlib.Core.Path.{◌≡◌}
use mathlib.Core.List.{List}
use Prim.Native.Nat.{ℕ, ◌≤◌, ◌<◌}
use lib.ListN.{length}
use Rattle.bits.specs.Bytes.{overwrite}
use Rattle.tables.specs.declared.answer.Answer.{Answer}
use Rattle.tables.specs.Columns.{Column, IndexColumn}
use Rattle.gathers.specs.Stored.{Output}
use Rattle.gathers.specs.Gather.{gather}
use Rattle.entries.specs.Entry.{Gathers}
use Rattle.answers.specs.Exported.{answer_bytes, left, exported}
use Rattle.answers.proofs.Exports.{cut_off, written}

module _ (c : Column) (x : IndexColumn) (o : Output) (s : List ℕ) where
  pub short-answer : length s < 32 → Gathers (exported gather s) c x o (left 7 s o)
  short-answer h = record { right = cut_off gather c x o s h; private = λ w. cut_off gather _ x o s h }

  pub long-answer : {a : Answer} {r : ℕ} {t : List ℕ} {out : Output} → 32 ≤ length s → Gathers gather c x o (record { answer = a; output = out }) → r ≡ a.number
      → t ≡ overwrite (answer_bytes a) s → Gathers (exported gather s) c x o (left r t out)
  long-answer h g d w = record { right = written gather c x o s h g.right d w; private = λ f. written gather _ x o s h (g.private f) d w }
