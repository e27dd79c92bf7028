-- Refusal 4, or past it 5, or past both what the total decides.
use Rattle.std.proofs.Common.{◌∙◌}
use Rattle.std.proofs.lemmas.Result.{err_from_is_err_and}
use Rattle.described.proofs.Columns.{tested-range, tested-passes, offsets-stopped, range-stopped, rest-ready, rest-told}
use Rattle.described.proofs.column.check_column.Goals as goal

pub returns-in_err-check_offsets : goal.returns-in_err-check_offsets
returns-in_err-check_offsets c =
    let p = err_from_is_err_and c.from_residual.result c.from_residual.ensures.1 in
    rw (p.1, p.2) (offsets-stopped _ _ c.check_offsets.ensures c.in_err-check_offsets.was)

pub returns-in_err-check_bounds : goal.returns-in_err-check_bounds
returns-in_err-check_bounds c =
    let p = err_from_is_err_and c.from_residual-in_err-check_bounds.result c.from_residual-in_err-check_bounds.ensures.1 in
    let e = c.check_bounds.ensures.checked ∙ tested-range c.requires.tested_for in
    rw (p.1, p.2) (range-stopped _ _ c.check_offsets.ensures c.in_ok-check_offsets.was e c.in_err-check_bounds.was)

pub measure_column-requires : goal.measure_column-requires
measure_column-requires c =
    let e = c.check_bounds.ensures.checked ∙ tested-range c.requires.tested_for in
    let p = tested-passes c.requires.tested_for c.requires.index_passes in
    rest-ready _ _ c.check_offsets.ensures c.in_ok-check_offsets.was e c.in_ok-check_bounds.was c.requires.sized p

pub returns : goal.returns
returns c =
    let e = c.check_bounds.ensures.checked ∙ tested-range c.requires.tested_for in
    rest-told _ _ c.check_offsets.ensures c.in_ok-check_offsets.was e c.in_ok-check_bounds.was _ c.measure_column.ensures
