use Rattle.std.proofs.Common.{◌≡◌, ◌<◌, List, length, map, ap, ◌∙◌, arith, slice_index_or, refl}
use Rattle.partition.specs.declared.index.Span.{Span}
use Rattle.partition.specs.Indexes.{place_in, places_of}
use Rattle.partition.proofs.MergeLemmas.{added_more}
use Rattle.partition.proofs.merging.add_spans.Goals as goal

pub loop-span-preserved : goal.loop-span-preserved
loop-span-preserved c =
    let spans = c.args.index.now.spans.items in
    let i = c.loop-span.span-index in
    let s = c.span-item.result in
    let same = c.deref-span-items.ensures.value in
    let there : i < length spans = omega (arith, c.loop-span-test.true, ap (λ (xs : List Span). length xs) same) in
    let found : s ≡ slice_index_or spans i s = c.span-item.is ∙ ap (λ (xs : List Span). slice_index_or xs i s) same in
    added_more (map place_in c.args.columns.now) (places_of c.args.index.now.columns.items) spans c.args.spans.now.items c.loop-span.spans.items c.push.new.self.items i s
    (record { path = c.in_ok-path.path; time = c.time_again-time.result; rows = s.rows }) there found c.loop-span.invariant c.in_ok-path.ensures refl c.time_again-time.ensures c.in_ok-push.ensures.items
