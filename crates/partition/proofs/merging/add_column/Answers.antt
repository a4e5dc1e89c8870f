use Rattle.std.proofs.Common.{◌≡◌, List, Some, map, slice_get, sym, subst}
use Rattle.std.specs.Arc.{arc_value}
use Rattle.partition.specs.declared.index.PlacedColumn.{PlacedColumn}
use Rattle.std.specs.List.{list_any}
use Rattle.std.proofs.Common.{true}
use Rattle.partition.specs.Columns.{same_place}
use Rattle.partition.specs.Indexes.{EachColumn, place_in, places_of}
use Rattle.partition.specs.Merged.{IsWithin, all_events}
use Rattle.partition.proofs.MergeLemmas.{any_got, each_more, pushed_within, within_pushed}
use Rattle.partition.proofs.merging.add_column.Goals as goal

pub returns-in-Some-clause-adds : goal.returns-in-Some-clause-adds
returns-in-Some-clause-adds c = any_got (place_in c.args.like.now) (places_of c.args.columns.now.items) c.in-Some.field-0
    (subst (λ (cs : List PlacedColumn). slice_get (map place_in cs) c.in-Some.field-0 ≡ Some (place_in c.args.like.now)) c.deref.ensures.value c.in-Some.ensures.1)

pub returns-in_ok-push-in-None-clause-cells : goal.returns-in_ok-push-in-None-clause-cells
returns-in_ok-push-in-None-clause-cells c = λ each.
    let merged = c.in_ok-merged-in-None.merged in
    let all = all_events (map arc_value c.args.fragments.now) in
    subst (λ (cs : List PlacedColumn). EachColumn cs all) (sym c.in_ok-push-in-None.ensures.items)
    (each_more c.args.columns.now.items merged (place_in c.args.like.now) all c.in_ok-merged-in-None.ensures.place c.in_ok-merged-in-None.ensures.cells each)

pub returns-in_ok-push-in-None-clause-keeps : goal.returns-in_ok-push-in-None-clause-keeps
returns-in_ok-push-in-None-clause-keeps c =
    subst (λ (cs : List PlacedColumn). IsWithin (places_of c.args.columns.now.items) (places_of cs)) (sym c.in_ok-push-in-None.ensures.items)
    (within_pushed c.args.columns.now.items c.in_ok-merged-in-None.merged)

pub returns-in_ok-push-in-None-clause-adds : goal.returns-in_ok-push-in-None-clause-adds
returns-in_ok-push-in-None-clause-adds c =
    subst (λ (cs : List PlacedColumn). list_any (same_place (place_in c.args.like.now)) (places_of cs) ≡ true) (sym c.in_ok-push-in-None.ensures.items)
    (pushed_within c.args.columns.now.items c.in_ok-merged-in-None.merged (place_in c.args.like.now) c.in_ok-merged-in-None.ensures.place)
