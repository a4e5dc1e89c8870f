use Rattle.std.proofs.Common.{◌≡◌, ◌++◌, ◌∷◌, [], map}
use Rattle.std.proofs.lemmas.Result.{err_from_is_err_and}
use Rattle.std.proofs.lemmas.List.{map_push}
use Rattle.vast_value.specs.Headings.{field_of}
use Rattle.event_batch.specs.Reading.{field_at, many_at}
use Rattle.event_batch.proofs.LoopLemmas.{goes_on, ends, is_done}
use Rattle.event_batch.proofs.reading.columns_at.Goals as goal

pub returns-in_err-column : goal.returns-in_err-column
returns-in_err-column c =
    let p = err_from_is_err_and c.from_residual.result c.from_residual.ensures.1 in
    rw (p.1, p.2) (ends field_at c.in_err-column.field-0.0 (map field_of c.loop.columns) c.args.count c.loop.counter c.loop.rest.now (many_at field_at c.args.count c.args.bytes.now) c.loop-test.true c.in_err-column.ensures c.loop.invariant)

pub loop-preserved : goal.loop-preserved
loop-preserved c =
    let e : map field_of c.push.new.self ≡ map field_of c.loop.columns ++ field_of c.in_ok-column.column ∷ [] = rw c.in_ok-push.ensures.ok (map_push _ c.loop.columns c.in_ok-column.column) in
    rw e (goes_on field_at (map field_of c.loop.columns) c.args.count c.loop.counter c.loop.rest.now (field_of c.in_ok-column.column) c.in_ok-column.after.now (many_at field_at c.args.count c.args.bytes.now) c.loop-test.true c.in_ok-column.ensures c.loop.invariant)

pub returns : goal.returns
returns c = is_done field_at (map field_of c.loop.columns) c.args.count c.loop.counter c.loop.rest.now (many_at field_at c.args.count c.args.bytes.now) c.loop-test.false c.loop.invariant
