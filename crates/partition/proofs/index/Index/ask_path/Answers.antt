use Rattle.std.proofs.Common.{◌≡◌, ◌<◌, ℕ, List, length, ap, ◌∙◌, arith, slice_index_or}
use Rattle.vast_value.specs.declared.cell.Cell.TheVariants.{One}
use Rattle.vast_value.specs.declared.value.Value.TheVariants.{Text}
use Rattle.query_meaning.specs.Relations.{meets}
use Rattle.partition.specs.declared.index.Span.{Span}
use Rattle.partition.specs.Asking.{path_meets}
use Rattle.partition.specs.Indexes.{places_of}
use Rattle.partition.proofs.SpanLemmas.{Told, path_end, path_step}
use Rattle.partition.proofs.index.Index.ask_path.Goals as goal

pub loop-span-preserved : goal.loop-span-preserved
loop-span-preserved g c =
    let test = c.args.test.now in
    let spans = c.args.self.now.spans.items in
    let places = places_of c.args.self.now.columns.items in
    let i = c.loop-span.span-index in
    let s = c.span-item.result in
    let same = c.deref-span-items.ensures.value in
    let there : i < length spans = omega (arith, c.loop-span-test.true, ap (λ (xs : List Span). length xs) same) in
    let found : s ≡ slice_index_or spans i s = c.span-item.is ∙ ap (λ (xs : List Span). slice_index_or xs i s) same in
    let told : Told (path_meets test) places spans i g.events c.loop-span.sure = record {
      told = c.loop-span.invariant.bits;
      within = c.loop-span.invariant.within;
      rest = c.loop-span.invariant.rest;
    } in
    let next = path_step test places spans i s g.events c.loop-span.sure c.push_run.new.self c.text_meets-held.result there found told
    (c.text_meets-held.ensures ∙ ap (λ (p : List ℕ). meets test.rel test.literal (One (Text p))) c.as_slice.ensures) c.in-Ok.ensures.ok in
    record { bits = next.told; within = next.within; rest = next.rest }

pub returns-clause-sure : goal.returns-clause-sure
returns-clause-sure g c =
    let told : Told (path_meets c.args.test.now) (places_of c.args.self.now.columns.items) c.args.self.now.spans.items c.loop-span.span-index g.events c.loop-span.sure = record {
      told = c.loop-span.invariant.bits;
      within = c.loop-span.invariant.within;
      rest = c.loop-span.invariant.rest;
    } in
    path_end (path_meets c.args.test.now) (places_of c.args.self.now.columns.items) c.args.self.now.spans.items c.loop-span.span-index g.events c.loop-span.sure
    (omega (arith, c.loop-span-test.false, ap (λ (xs : List Span). length xs) c.deref-span-items.ensures.value)) told

pub returns-clause-maybe : goal.returns-clause-maybe
returns-clause-maybe g c =
    let told : Told (path_meets c.args.test.now) (places_of c.args.self.now.columns.items) c.args.self.now.spans.items c.loop-span.span-index g.events c.loop-span.sure = record {
      told = c.loop-span.invariant.bits;
      within = c.loop-span.invariant.within;
      rest = c.loop-span.invariant.rest;
    } in
    c.in_ok-maybe.ensures ∙ path_end (path_meets c.args.test.now) (places_of c.args.self.now.columns.items) c.args.self.now.spans.items c.loop-span.span-index g.events c.loop-span.sure
    (omega (arith, c.loop-span-test.false, ap (λ (xs : List Span). length xs) c.deref-span-items.ensures.value)) told
