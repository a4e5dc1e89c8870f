use Rattle.std.proofs.Common.{◌≡◌, ◌+◌, ◌<◌, ◌≤◌, ◌/◌, ℕ, List, map, ap, ◌∙◌, arith, subst, sym}
use Rattle.event_history.specs.Histories.{past}
use Rattle.event_history.specs.Pieces.{parts_upto}
use Rattle.partition.specs.Parts.{piece_of}
use Rattle.history_core.specs.Shown.{Shown}
use Rattle.history_core.proofs.RangeLemmas.{all_parted, none_parted_before}
use Rattle.history_core.proofs.store.Store.parts_over.Goals as goal

pub loop-number-init : goal.loop-number-init
loop-number-init c =
    let now = c.args.self.now in
    let low = c.args.low in
    let high = c.args.high in
    let before = past now.history in
    let begin = c.reach-begin.result.0 in
    subst (λ (n : ℕ). map piece_of c.new-parts.result.items ≡ parts_upto now.limits.group low high before (begin / n))
    (sym (ap (λ (s : Shown). s.limits.group) c.self.view_is))
    (ap (λ (xs : List _). map piece_of xs) c.new-parts.ensures.items ∙ sym (none_parted_before low high before now.limits.group begin c.reach-begin.ensures.before))

pub returns : goal.returns
returns c =
    let now = c.args.self.now in
    let low = c.args.low in
    let high = c.args.high in
    let before = past now.history in
    let end = c.reach-begin.result.1 in
    let size : 0 < now.limits.group = subst (λ (s : Shown). 0 < s.limits.group) c.self.view_is c.self.invariant.groups.size in
    let far : end / now.limits.group + 1 ≤ c.loop-number.number =
    subst (λ (s : Shown). end / s.limits.group + 1 ≤ c.loop-number.number) c.self.view_is c.loop-number-test.false in
    c.loop-number.invariant ∙ all_parted low high before now.limits.group c.loop-number.number end size (omega (arith, far)) c.reach-begin.ensures.ends c.reach-begin.ensures.after
