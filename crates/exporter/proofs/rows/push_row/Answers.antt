use Rattle.std.proofs.Common.{◌≡◌, ◌+◌, ◌∷◌, [], ◌++◌, List, Some, get_or, ap, sym, ◌∙◌}
use Rattle.std.specs.List.{slice_get}
use Rattle.vast_value.specs.declared.cell.Cell.{Cell}
use Rattle.vast_value.specs.declared.layout.Layout.{Layout}
use Rattle.vast_value.specs.Headings.{heading_of}
use Rattle.event_batch.specs.Contents.{content_of}
use Rattle.event_history.specs.Events.{Event, event_of, events_of, matches}
use Rattle.exporter.proofs.PageLemmas.{got_row, row_none, row_some}
use Rattle.exporter.proofs.rows.push_row.Goals as goal

pub returns-then-not-is_match : goal.returns-then-not-is_match
returns-then-not-is_match c =
    let b = c.args.batch.now in
    let row = c.index-rows-place.result in
    let e : Event = event_of (heading_of c.layout-layout.result.now) row in
    let at : row ≡ get_or b.rows c.args.place row = c.index-rows-place.is ∙ ap (λ (rs : List (List Cell)). get_or rs c.args.place row) c.rows.ensures in
    let is : slice_get (events_of (content_of b)) c.args.place ≡ Some e =
    got_row b row c.args.place c.requires.there at ∙ ap (λ (l : Layout). Some (event_of (heading_of l) row)) (sym c.layout-layout.ensures) in
    row_none (matches c.args.expr.now) c.args.first c.args.place (events_of (content_of b)) e c.args.founds.now is (sym c.is_match.ensures ∙ c.if-not-is_match.true)

pub returns : goal.returns
returns c =
    let b = c.args.batch.now in
    let row = c.index-rows-place.result in
    let e : Event = event_of (heading_of c.layout-layout.result.now) row in
    let at : row ≡ get_or b.rows c.args.place row = c.index-rows-place.is ∙ ap (λ (rs : List (List Cell)). get_or rs c.args.place row) c.rows.ensures in
    let is : slice_get (events_of (content_of b)) c.args.place ≡ Some e =
    got_row b row c.args.place c.requires.there at ∙ ap (λ (l : Layout). Some (event_of (heading_of l) row)) (sym c.layout-layout.ensures) in
    row_some (matches c.args.expr.now) c.args.first c.args.place (events_of (content_of b)) e c.args.founds.now c.push.new.self is (sym c.is_match.ensures ∙ c.if-not-is_match.false)
    (c.in_ok-push.ensures.ok
    ∙ ap (λ (l : Layout). c.args.founds.now ++ (c.args.first + c.args.place, event_of (heading_of l) c.in_ok-row.row) ∷ []) c.in_ok-layout.ensures
    ∙ ap (λ (r : List Cell). c.args.founds.now ++ (c.args.first + c.args.place, event_of (heading_of c.layout-layout.result.now) r) ∷ []) c.in_ok-row.ensures)
