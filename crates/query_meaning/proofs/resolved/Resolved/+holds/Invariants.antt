use Rattle.std.proofs.Common.{◌≡◌, map, drop}
use Rattle.std.specs.List.{list_all, list_any}
use Rattle.query_meaning.specs.Resolving.{resolved_holds}
use Rattle.query_meaning.proofs.resolved.Resolved.+holds.Given as goal

abbrev pub decreases-holds : goal.decreases-holds
decreases-holds g l = goal.size-holds g l

abbrev pub invariant-loop-member : goal.invariant-loop-member
invariant-loop-member g l =
    list_all (λ b. b) (map (resolved_holds (g.R.RowView.cells l.row)) (drop l.member-index l.member-items))
    ≡ list_all (λ b. b) (map (resolved_holds (g.R.RowView.cells l.row)) l.member-items)

abbrev pub invariant-loop-member-2 : goal.invariant-loop-member-2
invariant-loop-member-2 g l =
    list_any (λ b. b) (map (resolved_holds (g.R.RowView.cells l.row)) (drop l.member-index l.member-items))
    ≡ list_any (λ b. b) (map (resolved_holds (g.R.RowView.cells l.row)) l.member-items)
