use Rattle.std.proofs.Common.{◌≡◌, length, map, ap, ◌∙◌, arith}
use Rattle.event_history.specs.Histories.{batch_count, past}
use Rattle.event_history.specs.Pieces.{piece_in}
use Rattle.partition.specs.Parts.{piece_of}
use Rattle.history_core.specs.Shown.{Shown}
use Rattle.history_core.proofs.RangeLemmas.{adds_none}
use Rattle.history_core.proofs.store.Store.push_fragment.Goals as goal

pub returns-then-at-len : goal.returns-then-at-len
returns-then-at-len c =
    let now = c.args.self.now in
    let low = c.args.low in
    let high = c.args.high in
    let before = past now.history in
    let i = c.self.inside in
    let count : length i.kept.items ≡ batch_count before = c.self.invariant.main.count ∙ ap (λ (s : Shown). batch_count (past s.history)) c.self.view_is in
    adds_none low high before c.args.at (map piece_of c.args.parts.now.items) (piece_in before c.args.at)
    (omega (arith, c.if-at-len.true, c.len.ensures, i.kept.ok.0, count))
