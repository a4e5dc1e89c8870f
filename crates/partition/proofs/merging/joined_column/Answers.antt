use Rattle.std.proofs.Common.{◌∙◌, List, map, take, sym, subst}
use Rattle.std.specs.Arc.{arc_value}
use Rattle.column_index.specs.Stands.{Stands}
use Rattle.event_history.specs.Events.{Event}
use Rattle.event_history.specs.Pieces.{Piece, piece_events}
use Rattle.partition.specs.Columns.{column_cells}
use Rattle.partition.specs.Indexes.{IndexStands, place_in}
use Rattle.partition.specs.Merged.{all_events}
use Rattle.partition.proofs.MergeLemmas.{more_events}
use Rattle.partition.proofs.merging.joined_column.Goals as goal

pub loop-fragment-preserved : goal.loop-fragment-preserved
loop-fragment-preserved c =
    let fragments = c.args.fragments.now in
    let i = c.loop-fragment.fragment-index in
    let f = c.fragment-item.result in
    let p = place_in c.args.like.now in
    record {
      kind = c.in_ok-column-2.ensures.kind ∙ c.loop-fragment.invariant.kind;
      cells = subst (λ (es : List Event). Stands c.in_ok-column-2.column (column_cells p es)) (sym (more_events arc_value fragments i f c.loop-fragment-test.true c.fragment-item.is))
          (c.in_ok-column-2.ensures.cells (all_events (map arc_value (take i fragments))) (piece_events (arc_value f)) (subst (λ (q : Piece). IndexStands c.index.result.now (piece_events q)) c.deref.ensures c.index.ensures) c.loop-fragment.invariant.cells);
    }
