use Rattle.std.proofs.Common.{◌∙◌, List, length, map, flat_map, ap, sym, subst}
use Rattle.std.specs.Arc.{arc_value}
use Rattle.event_history.specs.Events.{Event, events_in}
use Rattle.event_history.specs.Pieces.{Piece}
use Rattle.partition.specs.Indexes.{IndexStands}
use Rattle.partition.proofs.MergeLemmas.{joined_events}
use Rattle.partition.proofs.sealed.Sealed.merge.Goals as goal

pub invariant_of-result : goal.invariant_of-result
invariant_of-result c =
    let pieces = map arc_value c.args.fragments.now in (
      c.in_ok-batches.ensures ∙ ap (λ (ps : List Piece). length (flat_map (λ q. q.contents) ps)) (sym c.in_ok-kept.ensures),
      subst (λ (es : List Event). IndexStands c.in_ok-index.index es)
          (sym (joined_events pieces) ∙ ap (λ (ps : List Piece). events_in (flat_map (λ q. q.contents) ps)) (sym c.in_ok-kept.ensures)) c.in_ok-index.ensures,
    )
