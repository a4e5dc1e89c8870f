use Rattle.std.proofs.Common.{sym}
use Rattle.event_batch.specs.Places.{behind_fields}
use Rattle.event_batch.proofs.PlaceLemmas.{goes_on, ends, is_done}
use Rattle.event_batch.proofs.place.behind_columns.Goals as goal

pub returns-in_err-rest : goal.returns-in_err-rest
returns-in_err-rest c = rw c.from_residual.ensures (ends c.args.count c.loop.counter c.loop.rest.now (behind_fields c.args.count c.args.bytes.now) c.loop-test.true (sym c.in_err-rest.ensures) c.loop.invariant)

pub loop-preserved : goal.loop-preserved
loop-preserved c = goes_on c.args.count c.loop.counter c.loop.rest.now c.in_ok-rest.rest.now (behind_fields c.args.count c.args.bytes.now) c.loop-test.true (sym c.in_ok-rest.ensures) c.loop.invariant

pub returns : goal.returns
returns c = is_done c.args.count c.loop.counter c.loop.rest.now (behind_fields c.args.count c.args.bytes.now) c.loop-test.false c.loop.invariant
