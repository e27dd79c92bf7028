-- What `hoglidra_take_arrays` leaves, by the length of the answer slice. Assumes nothing.
use mathlib.Core.Path.{◌≡◌}
use mathlib.Core.List.{List}
use Prim.Native.Nat.{ℕ, ◌≤◌, ◌<◌}
use lib.ListN.{length}
use Rattle.bits.specs.Bytes.{overwrite}
use Rattle.tables.specs.declared.answer.Answer.{Answer}
use Rattle.tables.specs.Columns.{IndexColumn}
use Rattle.gathers.specs.Stored.{Output}
use Rattle.batches.specs.Batch.{Batch, gather_arrays}
use Rattle.arrays.specs.Entry.{GathersArrays}
use Rattle.answers.specs.Exported.{answer_bytes, left, exported}
use Rattle.answers.proofs.Exports.{cut_off, written}

module _ (b : Batch) (x : IndexColumn) (o : Output) (s : List ℕ) where
  pub short-answer : length s < 32 → GathersArrays (exported gather_arrays s) b x o (left 7 s o)
  short-answer h = record { right = cut_off gather_arrays b x o s h; private = cut_off gather_arrays _ x o s h }

  pub long-answer : {a : Answer} {r : ℕ} {t : List ℕ} {out : Output} → 32 ≤ length s → GathersArrays gather_arrays b x o (record { answer = a; output = out }) → r ≡ a.number
      → t ≡ overwrite (answer_bytes a) s → GathersArrays (exported gather_arrays s) b x o (left r t out)
  long-answer h g d w = record { right = written gather_arrays b x o s h g.right d w; private = written gather_arrays _ x o s h g.private d w }
