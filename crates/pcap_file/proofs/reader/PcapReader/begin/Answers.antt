use Rattle.std.proofs.Common.{◌≡◌, ◌+◌, ◌-◌, ◌++◌, length, ap, subst, ◌∙◌, refl, arith, length-append}
use Rattle.std.proofs.lemmas.List.{length-drop}
use Rattle.source_block.specs.Holding.{Hold}
use Rattle.pcap_file.specs.Reading.{Reading, IsSound}
use Rattle.pcap_file.specs.declared.reader.Phase.{Phase}
use Rattle.pcap_file.specs.declared.reader.Phase.TheVariants.{Start, Records}
use Rattle.pcap_file.proofs.HeadLemmas.{begins}
use Rattle.pcap_file.proofs.reader.PcapReader.begin.Goals as goal

pub invariant_of-self : goal.invariant_of-self
invariant_of-self g c =
    let i = c.self.inside in
    let start : i.phase ≡ Start = ap (λ (r : Reading). r.phase) c.self.view_is ∙ c.requires in
    let sound : IsSound Start (length i.block.bytes) i.block.taken i.given = subst (λ (p : Phase). IsSound p (length i.block.bytes) i.block.taken i.given) start c.self.invariant.2 in
    let takes = c.in-Ok.ensures.takes in
    let whole = c.in-Ok.ensures.whole.0 in
    let held : length c.skip.new.self.bytes ≡ length c.whole_head.new.block.bytes - 24 = ap (λ (h : Hold). length h.bytes) c.skip.ensures ∙ length-drop 24 c.whole_head.new.block.bytes in
    let all : length c.whole_head.new.block.bytes ≡ length i.block.bytes + length takes.took = ap length takes.held ∙ length-append i.block.bytes takes.took in
    let taken : c.skip.new.self.taken ≡ c.whole_head.new.block.taken = ap (λ (h : Hold). h.taken) c.skip.ensures in
    let kept : c.skip.new.self.kept ≡ c.whole_head.new.block.kept = ap (λ (h : Hold). h.kept) c.skip.ensures in
    let was = c.self.invariant.1 in
    let bound = c.in-Ok.ensures.bound in
    let room = c.in-Ok.ensures.kept in
    let count = takes.count in
    let none = sound.1 in
    let there = sound.0 in
    (omega arith, omega arith, (omega arith, omega arith))

pub returns-in-Ok-clause-next : goal.returns-in-Ok-clause-next
returns-in-Ok-clause-next g c =
    let i = c.self.inside in
    let takes = c.in-Ok.ensures.takes in
    let mid : Reading = record { phase = Records c.in-Ok.head 24; held = c.skip.new.self.bytes; taken = c.skip.new.self.taken; kept = c.skip.new.self.kept; given = i.given } in
    begins c.in-Ok.head c.args.self.now mid c.go_on.new.self c.whole_head.new.block.bytes takes.took _ _ _ c.go_on.result
    c.requires refl (ap (λ (h : Hold). h.bytes) c.skip.ensures) (ap (λ (r : Reading). r.given) c.self.view_is)
    (ap (λ (h : Hold). h.taken) c.skip.ensures ∙ takes.count ∙ ap (λ (r : Reading). r.taken + length takes.took) c.self.view_is)
    (takes.held ∙ ap (λ (r : Reading). r.held ++ takes.took) c.self.view_is) takes.left c.in-Ok.ensures.whole.0 c.in-Ok.ensures.whole.1 c.go_on.ensures.next
