-- Of no rows nothing is needed. Where no total is above the largest offset the rows need the bytes of all entries; else the count stops at the row of refusal 6.
use Rattle.std.proofs.Common.{arith}
use Rattle.variable.proofs.Reading.{facts, index-facts, selected-there}
use Rattle.variable.proofs.Measuring.{no_rows, bytes_fit, sum-fit, sum_over}
use Rattle.variable.proofs.total.measure_variable.Goals as goal

pub returns-then-table-eq0 : goal.returns-then-table-eq0
returns-then-table-eq0 c = no_rows c.requires.ready c.requires.layout (omega arith)

pub invariant_of-selection : goal.invariant_of-selection
invariant_of-selection c = record { there = selected-there c.requires.ready c.requires.layout }

pub sum_within_by_width-requires : goal.sum_within_by_width-requires
sum_within_by_width-requires c =
    let r = c.requires.ready in
    let l = c.requires.layout in
    record { widths = ((facts r l).width, (index-facts r l).width) }

pub overflow_mul-result : goal.overflow_mul-result
overflow_mul-result c = omega (arith, bytes_fit c.requires.ready c.requires.layout _ c.in-Ok.ensures)

pub returns-in-Ok : goal.returns-in-Ok
returns-in-Ok c = sum-fit c.requires.ready c.requires.layout _ c.in-Ok.ensures c.largest_offset-most.ensures

pub returns-in-Err : goal.returns-in-Err
returns-in-Err c =
    sum_over c.requires.ready c.requires.layout c.in-Err.ensures c.largest_offset-most.ensures c.from.ensures c.overflow_total-total.ensures
