use Rattle.std.proofs.Common.{◌≡◌, ◌+◌, length, min, ap, ◌∙◌, arith}
use Rattle.event_history.specs.Histories.{batch_count, past}
use Rattle.history_core.specs.Shown.{Shown}
use Rattle.history_core.proofs.RangeLemmas.{none_after, none_before}
use Rattle.history_core.proofs.store.Store.reach.Goals as goal

pub returns-clause-before : goal.returns-clause-before
returns-clause-before c =
    let now = c.args.self.now in
    let low = c.args.low in
    let high = c.args.high in
    let before = past now.history in
    λ b d h. none_before low high before b d c.place_of.result c.place_of.ensures.before h

pub returns-clause-after : goal.returns-clause-after
returns-clause-after c =
    let now = c.args.self.now in
    let low = c.args.low in
    let high = c.args.high in
    let before = past now.history in
    let i = c.self.inside in
    let count : length i.kept.items ≡ batch_count before = c.self.invariant.main.count ∙ ap (λ (s : Shown). batch_count (past s.history)) c.self.view_is in
    let end : c.min.result ≡ min (batch_count before) (c.place_of-2.result + 1) = omega (arith, c.min.ensures, c.len.ensures, i.kept.ok.0, count) in
    λ b d h. none_after low high before b d c.place_of-2.result c.min.result c.place_of-2.ensures.after end h
