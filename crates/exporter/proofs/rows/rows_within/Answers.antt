use Rattle.std.proofs.Common.{◌≡◌, ◌-◌, min, length, ◌∙◌, arith, ap, ℕ}
use Rattle.std.proofs.lemmas.List.{length-map}
use Rattle.event_history.specs.Events.{event_of, events_of}
use Rattle.exporter.proofs.RowLemmas.{range_rows}
use Rattle.exporter.proofs.rows.rows_within.Goals as goal

pub returns-clause-rows : goal.returns-clause-rows
returns-clause-rows c =
    let h = c.args.held.now in
    let xs = events_of h.packed.content in
    let long : length xs ≡ length h.packed.content.rows = length-map h.packed.content.rows (event_of h.packed.content.heading) in
    let rows : c.from-rows.result ≡ length xs = omega (arith, c.from-rows.ensures, c.rows.ensures.count, ap (λ (n : ℕ). n) long, ap length (ap (λ x. x.content.rows) c.packed.ensures)) in
    range_rows c.args.range.0 c.args.range.1 h.first c.min-low.result c.min-high.result xs
    (c.min-high.ensures ∙ ap (λ (n : ℕ). min c.saturating_sub.result n) rows ∙ ap (λ (n : ℕ). min n (length xs)) (c.saturating_sub.ensures ∙ ap (λ (n : ℕ). c.args.range.1 - n) c.first-first.ensures))
    (c.min-low.ensures ∙ ap (λ (n : ℕ). min n c.min-high.result) (c.saturating_sub-2.ensures ∙ ap (λ (n : ℕ). c.args.range.0 - n) c.first-first.ensures))
