use Rattle.std.proofs.Common.{◌≡◌, Some, ap, sym, ◌∙◌}
use Rattle.partition.specs.Columns.{Place}
use Rattle.partition.specs.Indexes.{place_in}
use Rattle.partition.proofs.BuildLemmas.{got_map}
use Rattle.partition.proofs.PickLemmas.{place_same}
use Rattle.partition.proofs.merging.position.Goals as goal

pub returns-then-same_place : goal.returns-then-same_place
returns-then-same_place c =
    let col = c.index-columns-at.result in
    let like = c.args.like.now in
    let same : place_in like ≡ place_in col = place_same (place_in like) (place_in col) (sym c.same_place.ensures ∙ c.if-same_place.true) in (
      c.loop-at-test.true,
      got_map place_in c.args.columns.now c.loop-at.at col c.loop-at-test.true c.index-columns-at.is ∙ ap (λ (p : Place). Some p) (sym same),
    )
