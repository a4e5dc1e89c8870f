use Rattle.std.proofs.Common.{◌≡◌, List, map, take, sym, subst, true}
use Rattle.std.specs.Arc.{arc_value}
use Rattle.std.specs.List.{list_all}
use Rattle.event_history.specs.Events.{Event}
use Rattle.event_history.specs.Pieces.{Piece, piece_events}
use Rattle.partition.specs.Columns.{is_covered}
use Rattle.partition.specs.Indexes.{AreSpans, IndexStands, is_sound, place_in, places_of}
use Rattle.partition.specs.Merged.{all_events}
use Rattle.partition.proofs.MergeLemmas.{added_spans, all_more, all_piece, more_events}
use Rattle.partition.proofs.merging.merged_spans.Goals as goal

pub loop-fragment-preserved : goal.loop-fragment-preserved
loop-fragment-preserved c =
    let fragments = c.args.fragments.now in
    let i = c.loop-fragment.fragment-index in
    let f = c.fragment-item.result in
    let places = map place_in c.args.columns.now in
    let index = c.index.result.now in
    let before = all_events (map arc_value (take i fragments)) in
    let stands : IndexStands index (piece_events (arc_value f)) = subst (λ (q : Piece). IndexStands index (piece_events q)) c.deref.ensures c.index.ensures in
    let more = more_events arc_value fragments i f c.loop-fragment-test.true c.fragment-item.is in
    record {
      spans = subst (λ (es : List Event). AreSpans places c.add_spans.new.spans.items es) (sym more)
          (added_spans places (places_of index.columns.items) index.spans.items c.loop-fragment.spans.items c.add_spans.new.spans.items before (piece_events (arc_value f)) c.in_ok-add_spans.ensures
          (all_piece (is_covered places) arc_value fragments i f c.loop-fragment-test.true c.fragment-item.is c.requires) stands.spans c.loop-fragment.invariant.spans);
      sound = subst (λ (es : List Event). list_all is_sound es ≡ true) (sym more) (all_more is_sound before (piece_events (arc_value f)) c.loop-fragment.invariant.sound stands.sound);
    }
