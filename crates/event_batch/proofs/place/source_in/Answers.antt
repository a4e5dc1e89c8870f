use Rattle.event_batch.proofs.PlaceLemmas.{source_is, source_stands}
use Rattle.event_batch.proofs.place.source_in.Goals as goal

pub unreachable-requires : goal.unreachable-requires
unreachable-requires c = source_stands c.args.bytes.now c.requires c.in-None.ensures

pub returns : goal.returns
returns c = source_is c.args.bytes.now (c.in-Some.source, c.in-Some.field-0-1.now) c.requires c.in-Some.ensures
