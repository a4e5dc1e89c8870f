use Rattle.std.proofs.Common.{◌≡◌, ◌&&◌, ◌||◌, map, drop}
use Rattle.std.specs.List.{list_all, list_any}
use Rattle.vast_value.specs.Headings.{heading_of}
use Rattle.query_meaning.specs.Sure.{known}
use Rattle.query_meaning.proofs.sure.+sure_holds.Given as goal

abbrev pub decreases-sure_holds : goal.decreases-sure_holds
decreases-sure_holds l = goal.size-sure_holds l

abbrev pub invariant-loop-member : goal.invariant-loop-member
invariant-loop-member l =
    let members = map (known (heading_of l.layout) l.row) in
    ((l.sure && list_all (λ k. k.sure) (members (drop l.member-index l.member-items))) ≡ list_all (λ k. k.sure) (members l.member-items))
    × ((l.maybe && list_all (λ k. k.maybe) (members (drop l.member-index l.member-items))) ≡ list_all (λ k. k.maybe) (members l.member-items))

abbrev pub invariant-loop-member-2 : goal.invariant-loop-member-2
invariant-loop-member-2 l =
    let members = map (known (heading_of l.layout) l.row) in
    ((l.sure || list_any (λ k. k.sure) (members (drop l.member-index l.member-items))) ≡ list_any (λ k. k.sure) (members l.member-items))
    × ((l.maybe || list_any (λ k. k.maybe) (members (drop l.member-index l.member-items))) ≡ list_any (λ k. k.maybe) (members l.member-items))
