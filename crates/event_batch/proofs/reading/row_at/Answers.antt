use Rattle.std.proofs.Common.{map, drop}
use Rattle.std.proofs.lemmas.Result.{err_from_is_err_and}
use Rattle.vast_value.specs.Headings.{field_of}
use Rattle.event_batch.specs.Reading.{row_at}
use Rattle.event_batch.proofs.LoopLemmas.{row_goes_on, row_ends, row_is_done}
use Rattle.event_batch.proofs.reading.row_at.Goals as goal

pub returns-in_err-count : goal.returns-in_err-count
returns-in_err-count c =
    let p = err_from_is_err_and c.from_residual-in_err-count.result c.from_residual-in_err-count.ensures.1 in
    rw (p.1, p.2) (row_ends c.args.format c.args.columns.now c.in_err-count.field-0.0 c.loop-column.row c.loop-column.column-index c.column-item.result c.loop-column.rest.now (row_at c.args.format (map field_of c.args.columns.now) c.args.bytes.now) c.loop-column-test.true c.column-item.is c.in_err-count.ensures.read c.loop-column.invariant)

pub loop-column-preserved : goal.loop-column-preserved
loop-column-preserved c =
    rw c.behind-rest.ensures (row_goes_on c.args.format c.args.columns.now c.loop-column.row c.loop-column.column-index c.column-item.result c.loop-column.rest.now c.put_cell_at.new.row (drop c.in_ok-count.count c.loop-column.rest.now) (row_at c.args.format (map field_of c.args.columns.now) c.args.bytes.now) c.loop-column-test.true c.column-item.is c.in_ok-count.ensures.read c.loop-column.invariant)

pub returns : goal.returns
returns c = row_is_done c.args.format c.args.columns.now c.loop-column.row c.loop-column.column-index c.loop-column.rest.now (row_at c.args.format (map field_of c.args.columns.now) c.args.bytes.now) c.loop-column-test.false c.loop-column.invariant
