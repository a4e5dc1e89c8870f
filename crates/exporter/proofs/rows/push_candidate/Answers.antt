use Rattle.std.proofs.Common.{◌≡◌, ◌+◌, Bool, true, not, ◌&&◌, cond, List, Some, ap, sym, ◌∙◌, arith}
use Rattle.std.proofs.lemmas.Option.{slice_get_within}
use Rattle.query_meaning.specs.Sure.{maybe, sure}
use Rattle.event_batch.specs.Contents.{content_of}
use Rattle.event_history.specs.Events.{Event, events_of}
use Rattle.exporter.specs.Pages.{is_unsure}
use Rattle.exporter.proofs.PageLemmas.{byte_of, events_long, is_candidate, row_counts, some_event, sure_matches}
use Rattle.exporter.proofs.rows.push_candidate.Goals as goal

pub get-sure-requires : goal.get-sure-requires
get-sure-requires c =
    let events : List Event = events_of (content_of c.args.batch.now) in
    let some = some_event events c.args.place (omega (arith, events_long c.args.batch.now, c.requires.there)) in
    slice_get_within c.args.pair.now.sure (c.args.offset + c.args.place) _ (c.requires.tells.sure c.args.place some.0 some.1)

pub push_row-requires-clause-sure : goal.push_row-requires-clause-sure
push_row-requires-clause-sure c = λ known e is.
    let both : Some (sure e.heading e.row c.args.expr.now) ≡ Some c.get-sure.result = sym (c.requires.tells.sure c.args.place e is) ∙ c.get-sure.ensures in
    let same : sure e.heading e.row c.args.expr.now ≡ c.get-sure.result = cc in
    sure_matches c.args.expr.now e (same ∙ known)

pub returns-clause-checked : goal.returns-clause-checked
returns-clause-checked c =
    let expr = c.args.expr.now in
    let events : List Event = events_of (content_of c.args.batch.now) in
    let some = some_event events c.args.place (omega (arith, events_long c.args.batch.now, c.requires.there)) in
    let e : Event = some.0 in
    let both : Some (sure e.heading e.row expr) ≡ Some c.get-sure.result = sym (c.requires.tells.sure c.args.place e some.1) ∙ c.get-sure.ensures in
    let same : sure e.heading e.row expr ≡ c.get-sure.result = cc in
    let may : maybe e.heading e.row expr ≡ true = is_candidate expr c.args.pair.now c.args.offset events c.args.place e c.requires.tells some.1 c.requires.candidate in
    let unsure : is_unsure expr e ≡ not c.get-sure.result = ap (λ (b : Bool). b && not (sure e.heading e.row expr)) may ∙ ap (λ (b : Bool). not b) same in
    c.from.ensures ∙ byte_of (not c.get-sure.result) ∙ ap (λ (b : Bool). cond b 1 0) (sym unsure)
    ∙ sym (row_counts (is_unsure expr) c.args.first c.args.place events e some.1)
