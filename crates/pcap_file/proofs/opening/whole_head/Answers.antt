use Rattle.pcap_file.proofs.HeadLemmas.{head_ends, head_of_counts, head_of_ends}
use Rattle.pcap_file.proofs.opening.whole_head.Goals as goal

pub returns-in-Enough-clause-ends : goal.returns-in-Enough-clause-ends
returns-in-Enough-clause-ends g c =
    head_of_ends c.fill.new.self.bytes c.as_slice.result.now _ c.fill.new.self.taken c.head_of.result (rw c.in-Enough.is at c.in_ok-fill.ensures.fills) c.head_of.ensures c.as_slice.ensures

pub returns-in-Enough-clause-counts : goal.returns-in-Enough-clause-counts
returns-in-Enough-clause-counts g c =
    head_of_counts c.as_slice.result.now _ _ c.head_of.result c.head_of.ensures (rw c.in-Enough.is at c.in_ok-fill.ensures.counts)

pub returns-in-Stopped-clause-ends : goal.returns-in-Stopped-clause-ends
returns-in-Stopped-clause-ends g c =
    let fills = rw c.in-Stopped.is at c.in_ok-fill.ensures.fills in
    head_ends c.fill.new.self.bytes c.as_slice-in-Stopped.result.now _ c.fill.new.self.taken c.in-Stopped.stop c.end_of_head.result fills.0 fills.1 c.as_slice-in-Stopped.ensures c.end_of_head.ensures
