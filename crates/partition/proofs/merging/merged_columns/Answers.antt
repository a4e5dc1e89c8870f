use Rattle.std.proofs.Common.{◌≡◌, List, map, take, sym, subst, true}
use Rattle.std.specs.Arc.{arc_value}
use Rattle.std.specs.List.{list_all}
use Rattle.event_history.specs.Events.{Event}
use Rattle.event_history.specs.Pieces.{Piece, piece_events}
use Rattle.partition.specs.Columns.{is_covered}
use Rattle.partition.specs.Indexes.{places_of}
use Rattle.partition.specs.Merged.{all_events}
use Rattle.partition.proofs.MergeLemmas.{all_more, covered_within, more_events}
use Rattle.partition.proofs.merging.merged_columns.Goals as goal

pub loop-fragment-preserved : goal.loop-fragment-preserved
loop-fragment-preserved c =
    let fragments = c.args.fragments.now in
    let i = c.loop-fragment.fragment-index in
    let f = c.fragment-item.result in
    let after = places_of c.add_columns.new.columns.items in
    let before = all_events (map arc_value (take i fragments)) in
    record {
      cells = c.in_ok-add_columns.ensures.cells c.loop-fragment.invariant.cells;
      covers = subst (λ (es : List Event). list_all (is_covered after) es ≡ true) (sym (more_events arc_value fragments i f c.loop-fragment-test.true c.fragment-item.is))
          (all_more (is_covered after) before (piece_events (arc_value f))
          (covered_within (places_of c.loop-fragment.columns.items) after before c.in_ok-add_columns.ensures.keeps c.loop-fragment.invariant.covers)
          (covered_within (places_of c.index.result.now.columns.items) after (piece_events (arc_value f)) c.in_ok-add_columns.ensures.adds
          (subst (λ (q : Piece). list_all (is_covered (places_of c.index.result.now.columns.items)) (piece_events q) ≡ true) c.deref.ensures c.index.ensures.covers)));
    }
