use Rattle.std.proofs.Common.{◌≡◌, ◌∙◌, ◌∷◌, ◌++◌, ◌+◌, [], List, length, map, flat_map, ap, sym, subst, arith}
use Rattle.std.specs.Arc.{arc_value}
use Rattle.event_batch.specs.Contents.{content_of}
use Rattle.event_history.specs.Pieces.{Follow, Piece, piece_events}
use Rattle.partition.specs.Merged.{all_events}
use Rattle.partition.proofs.MergeLemmas.{follow_more, pushed_flat, pushed_map}
use Rattle.measure.proofs.parts.fragments.Goals as goal

pub loop-at-preserved : goal.loop-at-preserved
loop-at-preserved c =
    let pieces = map arc_value c.loop-at.all.items in
    let arc = c.in_ok-new.field-0 in
    let p = arc_value arc in
    let is : p ≡ record { batch = c.loop-at.at; first = c.loop-at.first; contents = content_of c.in_ok-batch.field-0 ∷ [] } = c.in_ok-new.ensures.ok ∙ c.in_ok-fragment.ensures in
    let items : map arc_value c.push.new.self.items ≡ pieces ++ p ∷ [] = pushed_map arc_value c.loop-at.all.items arc c.push.new.self.items c.in_ok-push.ensures.items in
    let one : length p.contents ≡ 1 = ap (λ (q : Piece). length q.contents) is in
    let number : p.batch ≡ 0 + length (flat_map (λ (q : Piece). q.contents) pieces) = omega (arith, ap (λ (q : Piece). q.batch) is, c.loop-at.invariant.batches) in
    let begin : p.first ≡ 0 + length (all_events pieces) = omega (arith, ap (λ (q : Piece). q.first) is, c.loop-at.invariant.first) in
    let batches : length (flat_map (λ (q : Piece). q.contents) (pieces ++ p ∷ [])) ≡ c.loop-at.at + 1 =
    omega (arith, pushed_flat (λ (q : Piece). q.contents) pieces p, c.loop-at.invariant.batches, one) in
    let rows : c.rows.result ≡ length (piece_events p) = c.rows.ensures ∙ ap (λ (q : Piece). length (piece_events q)) (sym c.in_ok-new.ensures.ok) in
    let next : c.in-Some.next ≡ length (all_events (pieces ++ p ∷ [])) = omega (arith, pushed_flat piece_events pieces p, rows, c.loop-at.invariant.first, c.in-Some.ensures) in
    record {
      adjacent = subst (λ (ps : List Piece). Follow 0 0 ps) (sym items) (follow_more 0 0 pieces p c.loop-at.invariant.adjacent number begin);
      batches = ap (λ (ps : List Piece). length (flat_map (λ (q : Piece). q.contents) ps)) items ∙ batches;
      first = next ∙ sym (ap (λ (ps : List Piece). length (all_events ps)) items);
    }
