use Rattle.std.proofs.Common.{ap, sym, ◌∙◌, refl, arith}
use Rattle.std.specs.Prelude.{Some}
use Rattle.pcap_file.specs.Reading.{is_headed}
use Rattle.importer.specs.Captures.{PacketsAt, Rowed}
use Rattle.importer.specs.Ending.{end_of_capture}
use Rattle.importer.proofs.CaptureLemmas.{answers_end, answers_faults, answers_heads, begins_on, end_behind, memory_or_end, record_less}
use Rattle.importer.proofs.packets.PacketReader.begin.Goals as goal
use Rattle.importer.proofs.packets.PacketReader.begin.Goals.{then-is_memory-via-then-is_memory, then-is_memory-via-else-is_memory+then-not-has_head}

pub returns-then-is_memory-clause-goes : goal.returns-then-is_memory-clause-goes
returns-then-is_memory-clause-goes g c =
    let old = c.args.self.now.at in
    let new = c.read.new.self.at in
    elim c.then-is_memory.branch [
      | then-is_memory-via-then-is_memory w ↦ memory_or_end old new _ _ c.in-Err.end (sym c.is_memory.ensures ∙ w.if-is_memory.true) c.in-Err.ensures.reads
      | then-is_memory-via-else-is_memory+then-not-has_head w ↦
          answers_end old new _ _ c.in-Err.end c.requires.fresh (sym c.is_memory.ensures ∙ w.if-is_memory.false)
          (ap (λ (r : Rowed PacketsAt). is_headed r.at.reader.phase) (sym c.self-in-Err.view_is) ∙ sym w.has_head.ensures ∙ w.if-not-has_head.true) c.in-Err.ensures.reads
    ]

pub returns-in_ok-layout-in-Ok-clause-goes : goal.returns-in_ok-layout-in-Ok-clause-goes
returns-in_ok-layout-in-Ok-clause-goes g c =
    rw c.in_ok-layout-in-Ok.ensures (begins_on c.flows_of_packets.ensures.steps c.args.self.now.at c.read.new.self.at _ _ _ c.in-Ok.row c.requires.fresh c.requires.none.0 c.in-Ok.ensures.reads
    (ap (λ (r : Rowed PacketsAt). r.at.reader) c.self.view_is) refl (ap (λ (r : Rowed PacketsAt). r.at.flows) c.self.view_is))

pub returns-in_ok-layout-in-Ok-clause-less : goal.returns-in_ok-layout-in-Ok-clause-less
returns-in_ok-layout-in-Ok-clause-less g c =
    record_less c.args.self.now.at c.read.new.self.at (record { reader = c.self.inside.reader; first = Some c.in-Ok.row; flows = c.self.inside.flows.flows }) _ _ c.in-Ok.row c.in-Ok.ensures.reads
    (ap (λ (r : Rowed PacketsAt). r.at.reader) c.self.view_is) (ap (λ (r : Rowed PacketsAt). r.at.flows) c.self.view_is) (omega arith)

pub returns-in_ok-flows-in-Err-clause-goes : goal.returns-in_ok-flows-in-Err-clause-goes
returns-in_ok-flows-in-Err-clause-goes g c =
    answers_heads c.flows_of_packets.ensures.steps c.args.self.now.at c.read.new.self.at _ _ c.in-Err.end c.in_ok-flows-in-Err.flows _ c.requires.fresh c.requires.none.0
    (ap (λ (r : Rowed PacketsAt). is_headed r.at.reader.phase) (sym c.self-in-Err.view_is) ∙ sym c.has_head.ensures ∙ c.if-not-has_head.false) (sym c.is_memory.ensures ∙ c.if-is_memory.false)
    c.in-Err.ensures.reads c.in_ok-flows-in-Err.ensures.flows c.in_ok-layout-in-Err.ensures

pub returns-in_ok-flows-in-Err-clause-faults : goal.returns-in_ok-flows-in-Err-clause-faults
returns-in_ok-flows-in-Err-clause-faults g c =
    answers_faults c.args.self.now.at c.read.new.self.at _ _ c.in-Err.end c.in_ok-flows-in-Err.flows.at _ _ c.in-Err.ensures.reads c.in-Err.ensures.counts
    (end_behind c.in_ok-flows-in-Err.flows _ (end_of_capture c.in-Err.end) c.in_ok-flows-in-Err.ensures.flows)
