-- The part is what was found, and where nothing was found it is empty.
use Rattle.std.proofs.Common.{refl}
use Rattle.reader.proofs.Rows.{place-found, bytes-found}
use Rattle.reader.proofs.row.read_row.Goals as goal

pub returns-clause-place : goal.returns-clause-place
returns-clause-place c = place-found _ _ _ c.find_row.ensures _ c.unwrap_or.ensures refl

pub returns-clause-bytes : goal.returns-clause-bytes
returns-clause-bytes c = bytes-found _ _ _ c.find_row.ensures _ c.unwrap_or.ensures refl
