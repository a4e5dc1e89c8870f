use Rattle.std.proofs.Common.{◌≡◌, ◌+◌, ◌*◌, ◌++◌, ℕ, map, subst}
use Rattle.event_history.specs.Choices.{reaches}
use Rattle.event_history.specs.Histories.{past}
use Rattle.event_history.specs.Pieces.{one_if, piece_in}
use Rattle.partition.specs.Parts.{piece_of}
use Rattle.history_core.specs.Shown.{Shown}
use Rattle.history_core.proofs.RangeLemmas.{step_reached}
use Rattle.history_core.proofs.store.Store.push_fragments.Goals as goal

pub loop-i-preserved : goal.loop-i-preserved
loop-i-preserved c =
    let now = c.args.self.now in
    let low = c.args.low in
    let high = c.args.high in
    let before = past now.history in
    let start : ℕ → ℕ = λ size. c.args.number * size + c.loop-i.i in
    let front = map piece_of c.loop-i.parts.items in
    let new = map piece_of c.push_fragment.new.parts.items in
    step_reached low high before (c.args.number * now.limits.group) c.loop-i.i (map piece_of c.args.parts.now.items) front new c.loop-i.invariant
    (subst (λ (s : Shown). new ≡ front ++ one_if (reaches low high before (c.args.number * s.limits.group + c.loop-i.i)) (piece_in before (c.args.number * s.limits.group + c.loop-i.i)))
    c.self.view_is c.in_ok-push_fragment.ensures)
