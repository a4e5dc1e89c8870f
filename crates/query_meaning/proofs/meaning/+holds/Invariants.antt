use Rattle.std.proofs.Common.{◌≡◌, map, drop}
use Rattle.std.specs.List.{list_all, list_any}
use Rattle.vast_value.specs.Headings.{heading_of}
use Rattle.query_meaning.specs.Meaning.{holds}
use Rattle.query_meaning.proofs.meaning.+holds.Given as goal

abbrev pub decreases-holds : goal.decreases-holds
decreases-holds l = goal.size-holds l

abbrev pub invariant-loop-member : goal.invariant-loop-member
invariant-loop-member l =
    list_all (λ b. b) (map (holds (heading_of l.layout) l.row) (drop l.member-index l.member-items))
    ≡ list_all (λ b. b) (map (holds (heading_of l.layout) l.row) l.member-items)

abbrev pub invariant-loop-member-2 : goal.invariant-loop-member-2
invariant-loop-member-2 l =
    list_any (λ b. b) (map (holds (heading_of l.layout) l.row) (drop l.member-index l.member-items))
    ≡ list_any (λ b. b) (map (holds (heading_of l.layout) l.row) l.member-items)
