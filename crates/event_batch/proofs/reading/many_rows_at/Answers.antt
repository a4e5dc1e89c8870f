use Rattle.std.proofs.Common.{map}
use Rattle.std.proofs.lemmas.Result.{err_from_is_err_and}
use Rattle.vast_value.specs.Headings.{field_of}
use Rattle.event_batch.specs.Reading.{row_at, many_at}
use Rattle.event_batch.proofs.LoopLemmas.{goes_on, ends, is_done}
use Rattle.event_batch.proofs.reading.many_rows_at.Goals as goal

pub returns-in_err-row : goal.returns-in_err-row
returns-in_err-row c =
    let p = err_from_is_err_and c.from_residual-in_err-row.result c.from_residual-in_err-row.ensures.1 in
    rw (p.1, p.2) (ends (row_at c.args.format (map field_of c.args.columns.now)) c.in_err-row.field-0.0 c.loop.rows c.args.count c.loop.counter c.loop.rest.now (many_at (row_at c.args.format (map field_of c.args.columns.now)) c.args.count c.args.bytes.now) c.loop-test.true c.in_err-row.ensures c.loop.invariant)

pub loop-preserved : goal.loop-preserved
loop-preserved c = rw c.in_ok-push.ensures.ok (goes_on (row_at c.args.format (map field_of c.args.columns.now)) c.loop.rows c.args.count c.loop.counter c.loop.rest.now c.in_ok-row.row c.in_ok-row.after.now (many_at (row_at c.args.format (map field_of c.args.columns.now)) c.args.count c.args.bytes.now) c.loop-test.true c.in_ok-row.ensures c.loop.invariant)

pub returns : goal.returns
returns c = is_done (row_at c.args.format (map field_of c.args.columns.now)) c.loop.rows c.args.count c.loop.counter c.loop.rest.now (many_at (row_at c.args.format (map field_of c.args.columns.now)) c.args.count c.args.bytes.now) c.loop-test.false c.loop.invariant
