use Rattle.std.proofs.Common.{ap, ◌∙◌, arith}
use Rattle.importer.specs.Captures.{PacketsAt, Rowed}
use Rattle.pcap_flow.specs.Tracked.{Tracked}
use Rattle.importer.proofs.CaptureLemmas.{end_sound, none_held, reads_row, record_few, record_sound}
use Rattle.importer.proofs.packets.PacketReader.read.Goals as goal

pub invariant_of-self : goal.invariant_of-self
invariant_of-self g c =
    let i = c.self.inside in
    let inv = c.self.invariant in
    let sound = end_sound i.reader c.next.new.self _ _ c.in_err-captured.field-0.0 i.flows.added i.flows.flows i.first c.in_err-captured.ensures.next (inv.0, inv.2) in
    (sound.0, inv.1, sound.1, none_held c.next.new.self i.first (ap (λ (r : Rowed PacketsAt). r.at.first) c.self.view_is ∙ c.requires))

pub add-requires-clause-few : goal.add-requires-clause-few
add-requires-clause-few g c =
    record_few c.self.inside.reader c.next.new.self _ _ c.in_ok-captured.captured c.self.inside.flows.added c.in_ok-captured.ensures.next c.self.invariant.0 c.in_ok-captured.ensures.few

pub invariant_of-self-2 : goal.invariant_of-self-2
invariant_of-self-2 g c =
    let i = c.self.inside in
    let inv = c.self.invariant in
    let more = ap (λ (t : Tracked). t.added) c.in_ok-add.ensures.ok in
    let sound = record_sound i.reader c.next.new.self _ _ c.in_ok-captured.captured i.flows.added c.add.new.self.added i.flows.flows c.add.new.self.flows i.first c.in_ok-captured.ensures.next (inv.0, inv.2) (omega arith) in
    (sound.0, inv.1, sound.1, none_held c.next.new.self i.first (ap (λ (r : Rowed PacketsAt). r.at.first) c.self.view_is ∙ c.requires))

pub returns-clause-reads : goal.returns-clause-reads
returns-clause-reads g c =
    let i = c.self.inside in
    reads_row c.args.self.now i.reader c.next.new.self i.first i.flows.flows c.add.new.self.flows i.row c.in_ok-row.row c.in_ok-captured.captured c.packet_of-packet.result _ _ c.self.view_is
    c.in_ok-captured.ensures.next c.in_ok-captured.ensures.few c.packet_of-packet.ensures c.in_ok-row.ensures.row (ap (λ (t : Tracked). t.flows) c.in_ok-add.ensures.ok)
