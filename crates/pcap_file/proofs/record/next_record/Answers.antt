use Rattle.std.proofs.Common.{ap}
use Rattle.source_block.specs.Holding.{Hold}
use Rattle.pcap_file.proofs.HeadLemmas.{steps_next}
use Rattle.pcap_file.proofs.record.next_record.Goals as goal

pub returns-clause-next : goal.returns-clause-next
returns-clause-next g c =
    steps_next c.args.head c.args.offset c.in_ok-size.size c.args.block.now c.whole_record.new.block c.skip.new.self c.as_slice.result.now _ _ c.in_ok-captured.captured
    c.in_ok-size.ensures.takes c.in_ok-size.ensures.whole c.in_ok-captured.ensures c.as_slice.ensures (ap (λ (h : Hold). h.bytes) c.skip.ensures) (ap (λ (h : Hold). h.taken) c.skip.ensures)
