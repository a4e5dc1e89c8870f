-- Each exit and each step is one case of `carried_behind`.
use Rattle.std.proofs.Common.{◌≡◌, ◌<◌, ◌-◌, ◌+◌, ℕ, false, drop, arith, sym, ap, ◌∙◌}
use Rattle.pcap_packet.specs.Headers.{carried_behind, is_further}
use Rattle.pcap_packet.proofs.BehindLemmas.{behind_cut, behind_end, behind_followed, behind_fragment, behind_reached, test_false, test_true}
use Rattle.pcap_packet.proofs.ip.carried_behind.Goals as goal

pub returns-then-not-is_further : goal.returns-then-not-is_further
returns-then-not-is_further c =
    let this : is_further c.loop-followed.next ≡ false = grind arith in
    c.reached.ensures ∙ sym (behind_reached (8 - c.loop-followed._followed) c.loop-followed.next c.loop-followed.rest.now this) ∙ c.loop-followed.invariant

pub returns-then-rest-needed : goal.returns-then-rest-needed
returns-then-rest-needed c =
    let left : 0 < 8 - c.loop-followed._followed = omega arith in
    let further = sym c.is_further.ensures ∙ c.if-not-is_further.false in
    let cut = test_true _ _ _ c.needed.ensures c.if-rest-needed.true in
    c.nothing_carried.ensures ∙ sym (behind_cut (8 - c.loop-followed._followed) c.loop-followed.next c.loop-followed.rest.now left further cut) ∙ c.loop-followed.invariant

pub returns-then-is_later_fragment : goal.returns-then-is_later_fragment
returns-then-is_later_fragment c =
    let left : 0 < 8 - c.loop-followed._followed = omega arith in
    let further = sym c.is_further.ensures ∙ c.if-not-is_further.false in
    let whole = test_false _ _ _ c.needed.ensures c.if-rest-needed.false in
    let later = sym c.is_later_fragment.ensures ∙ c.if-is_later_fragment.true in
    sym (behind_fragment (8 - c.loop-followed._followed) c.loop-followed.next c.loop-followed.rest.now left further whole later) ∙ c.loop-followed.invariant

pub loop-followed-preserved : goal.loop-followed-preserved
loop-followed-preserved c =
    let left : 0 < 8 - c.loop-followed._followed = omega arith in
    let further = sym c.is_further.ensures ∙ c.if-not-is_further.false in
    let whole = test_false _ _ _ c.needed.ensures c.if-rest-needed.false in
    let first = sym c.is_later_fragment.ensures ∙ c.if-is_later_fragment.false in
    let one : 8 - (c.loop-followed._followed + 1) ≡ 8 - c.loop-followed._followed - 1 = omega arith in
    let rest = c.after-rest.ensures ∙ ap (λ (n : ℕ). drop n c.loop-followed.rest.now) c.header_length-length.ensures in
    rw (one, rest) (sym (behind_followed (8 - c.loop-followed._followed) c.loop-followed.next c.loop-followed.rest.now left further whole first) ∙ c.loop-followed.invariant)

pub returns-then-is_further : goal.returns-then-is_further
returns-then-is_further c =
    let none : 8 - c.loop-followed._followed ≡ 0 = omega arith in
    let further = sym c.is_further-2.ensures ∙ c.if-is_further.true in
    c.nothing_carried-then-is_further.ensures ∙ sym (behind_end c.loop-followed.next c.loop-followed.rest.now further)
    ∙ ap (λ (n : ℕ). carried_behind n c.loop-followed.next c.loop-followed.rest.now) (sym none) ∙ c.loop-followed.invariant

pub returns : goal.returns
returns c =
    let this = sym c.is_further-2.ensures ∙ c.if-is_further.false in
    c.reached-2.ensures ∙ sym (behind_reached (8 - c.loop-followed._followed) c.loop-followed.next c.loop-followed.rest.now this) ∙ c.loop-followed.invariant
