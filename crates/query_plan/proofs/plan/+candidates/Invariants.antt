use Rattle.std.proofs.Common.{take}
use Rattle.event_history.specs.Pieces.{piece_events}
use Rattle.partition.specs.Parts.{piece_of}
use Rattle.query_plan.proofs.PlanLemmas.{AreAll, AreAny}
use Rattle.query_plan.proofs.plan.+candidates.Given as goal

abbrev pub decreases-candidates : goal.decreases-candidates
decreases-candidates l = goal.size-candidates l

abbrev pub invariant-loop-member : goal.invariant-loop-member
invariant-loop-member l = record {
  sure : AreAll (λ k. k.sure) (take l.member-index l.member-items) (piece_events (piece_of l.fn.part)) l.all.sure;
  maybe : AreAll (λ k. k.maybe) (take l.member-index l.member-items) (piece_events (piece_of l.fn.part)) l.all.maybe;
}

abbrev pub invariant-loop-member-2 : goal.invariant-loop-member-2
invariant-loop-member-2 l = record {
  sure : AreAny (λ k. k.sure) (take l.member-index l.member-items) (piece_events (piece_of l.fn.part)) l.all.sure;
  maybe : AreAny (λ k. k.maybe) (take l.member-index l.member-items) (piece_events (piece_of l.fn.part)) l.all.maybe;
}
