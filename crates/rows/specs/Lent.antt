-- The struct that the code passes, as what is read.
use Rattle.rows.specs.Rows.{Stretches, stretches_at}

abbrev pub stretches_of : Rattle.rows.specs.declared.row.Stretches.Stretches → Stretches
stretches_of s = stretches_at s.unit s.«data» s.starts s.lengths
