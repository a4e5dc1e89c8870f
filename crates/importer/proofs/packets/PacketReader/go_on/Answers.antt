use Rattle.std.proofs.Common.{◌<◌, [], ◌∷◌, None, ap, sym, subst, ◌∙◌, refl}
use Rattle.zeek_log.specs.Table.{Head, Line}
use Rattle.pcap_file.specs.Reading.{is_headed}
use Rattle.importer.specs.Captures.{FlowsAt, PacketsAt, Rowed}
use Rattle.importer.specs.Coming.{Flows, HasFaults, Packets, StepsOn, packets_left}
use Rattle.importer.specs.Ending.{end_of_capture}
use Rattle.vast_value.specs.Headings.{heading_of}
use Rattle.importer.proofs.CaptureLemmas.{answers_faults, answers_flows, end_behind, gives_first, goes_on, no_row, nothing_held, open_lost, record_less, some_held}
use Rattle.importer.proofs.packets.PacketReader.go_on.Goals as goal

pub returns-in-Some-clause-goes : goal.returns-in-Some-clause-goes
returns-in-Some-clause-goes g c =
    let seen = c.self.view_is in
    gives_first c.args.self.now.at _ _ c.in-Some.row c.requires.begun
    (ap (λ (r : Rowed PacketsAt). r.at.first) (sym seen) ∙ sym c.replace.ensures.value ∙ c.in-Some.is)
    (rw c.replace.ensures.after (ap (λ (r : Rowed PacketsAt). record { reader = r.at.reader; first = None; flows = r.at.flows }) seen))

pub returns-in-Some-clause-there : goal.returns-in-Some-clause-there
returns-in-Some-clause-there g c =
    let i = c.self.inside in
    open_lost i.reader.phase (some_held i.reader i.first c.in-Some.row (sym c.replace.ensures.value ∙ c.in-Some.is) c.self.invariant.3)

pub returns-in-Ok-clause-goes : goal.returns-in-Ok-clause-goes
returns-in-Ok-clause-goes g c =
    let i = c.self.inside in
    let mid : PacketsAt = record { reader = i.reader; first = c.replace.new.dest; flows = i.flows.flows } in
    let same = nothing_held c.args.self.now i.reader i.first c.replace.new.dest i.flows.flows i.row c.self.view_is (sym c.replace.ensures.value ∙ c.in_default.is) c.replace.ensures.after in
    subst (λ (p : PacketsAt). StepsOn (Packets p) (Packets c.read.new.self.at) (g.S.Source.left c.args.source.now) (g.S.Source.left c.read.new.source) (Line c.in-Ok.row ∷ [])) same
    (goes_on mid c.read.new.self.at _ _ c.in-Ok.row (ap (λ (p : PacketsAt). is_headed p.reader.phase) same ∙ c.requires.begun) c.replace.ensures.after
    (c.in-Ok.ensures.first ∙ c.replace.ensures.after) c.in-Ok.ensures.reads)

pub returns-in-Ok-clause-less : goal.returns-in-Ok-clause-less
returns-in-Ok-clause-less g c =
    let i = c.self.inside in
    let mid : PacketsAt = record { reader = i.reader; first = c.replace.new.dest; flows = i.flows.flows } in
    let same = nothing_held c.args.self.now i.reader i.first c.replace.new.dest i.flows.flows i.row c.self.view_is (sym c.replace.ensures.value ∙ c.in_default.is) c.replace.ensures.after in
    subst (λ (p : PacketsAt). packets_left c.read.new.self.at < packets_left p) same
    (record_less mid c.read.new.self.at c.read.new.self.at _ _ c.in-Ok.row c.in-Ok.ensures.reads refl refl (no_row c.read.new.self.at.first (c.in-Ok.ensures.first ∙ c.replace.ensures.after)))

pub returns-in_ok-layout-in-Err-clause-goes : goal.returns-in_ok-layout-in-Err-clause-goes
returns-in_ok-layout-in-Err-clause-goes g c =
    let i = c.self.inside in
    let mid : PacketsAt = record { reader = i.reader; first = c.replace.new.dest; flows = i.flows.flows } in
    let same = nothing_held c.args.self.now i.reader i.first c.replace.new.dest i.flows.flows i.row c.self.view_is (sym c.replace.ensures.value ∙ c.in_default.is) c.replace.ensures.after in
    subst (λ (p : PacketsAt). StepsOn (Packets p) (Flows c.head.new.self.at) (g.S.Source.left c.args.source.now) (g.S.Source.left c.read.new.source) (Head (heading_of c.in_ok-layout-in-Err.layout) ∷ [])) same
    (answers_flows mid c.read.new.self.at _ _ c.in-Err.end c.in_ok-flows-in-Err.flows c.head.new.self _ (ap (λ (p : PacketsAt). is_headed p.reader.phase) same ∙ c.requires.begun) c.replace.ensures.after
    (sym c.is_memory.ensures ∙ c.if-is_memory.false) c.in-Err.ensures.reads c.in_ok-flows-in-Err.ensures.flows c.in_ok-layout-in-Err.ensures.told c.in_ok-layout-in-Err.ensures.head)

pub returns-in_ok-layout-in-Err-clause-faults : goal.returns-in_ok-layout-in-Err-clause-faults
returns-in_ok-layout-in-Err-clause-faults g c =
    let i = c.self.inside in
    let mid : PacketsAt = record { reader = i.reader; first = c.replace.new.dest; flows = i.flows.flows } in
    let same = nothing_held c.args.self.now i.reader i.first c.replace.new.dest i.flows.flows i.row c.self.view_is (sym c.replace.ensures.value ∙ c.in_default.is) c.replace.ensures.after in
    subst (λ (p : PacketsAt). HasFaults (Packets p) (Flows c.head.new.self.at) (g.S.Source.faults c.args.source.now) (g.S.Source.faults c.read.new.source)) same
    (answers_faults mid c.read.new.self.at _ _ c.in-Err.end c.head.new.self.at _ _ c.in-Err.ensures.reads c.in-Err.ensures.counts
    (ap (λ (r : Rowed FlowsAt). r.at.end) c.in_ok-layout-in-Err.ensures.told ∙ end_behind c.in_ok-flows-in-Err.flows _ (end_of_capture c.in-Err.end) c.in_ok-flows-in-Err.ensures.flows))
