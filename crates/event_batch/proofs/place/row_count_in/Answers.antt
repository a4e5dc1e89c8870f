use Rattle.event_batch.proofs.PlaceLemmas.{count_is, count_stands}
use Rattle.event_batch.proofs.place.row_count_in.Goals as goal

pub unreachable-requires : goal.unreachable-requires
unreachable-requires c = count_stands c.args.bytes.now c.requires c.in-None.ensures

pub returns : goal.returns
returns c = count_is c.args.bytes.now (c.in-Some.count, c.in-Some.field-0-1.now) c.requires c.in-Some.ensures
