use Rattle.std.proofs.Common.{◌≡◌, ◌<◌, ℕ, Bool, List, length, ap, ◌∙◌, arith, sym, slice_index_or, replicate, false}
use Rattle.std.proofs.lemmas.List.{length-map}
use Rattle.query_meaning.specs.SureCells.{maybe_cell, sure_cell}
use Rattle.partition.specs.declared.index.Span.{Span}
use Rattle.partition.specs.Asking.{asked_time, so_far, time_of}
use Rattle.partition.specs.Indexes.{places_of, time_at}
use Rattle.partition.proofs.AskLemmas.{so_far_all, so_far_length, so_far_none}
use Rattle.partition.proofs.SpanLemmas.{Timed, here_length, time_end, time_goes_on, time_step}
use Rattle.partition.proofs.index.Index.ask_time.Goals as goal

pub loop-span-init : goal.loop-span-init
loop-span-init g c =
    let test = c.args.test.now in
    let rows = c.requires.rows in
    record {
      sure = c.in_ok-all.ensures.sure ∙ ap (λ (n : ℕ). replicate n false) rows ∙ so_far_none (time_of (sure_cell test.rel test.literal)) g.events;
      maybe = c.in_ok-all.ensures.maybe ∙ ap (λ (n : ℕ). replicate n false) rows ∙ so_far_none (time_of (maybe_cell test.rel test.literal)) g.events;
      within = omega arith;
      rest = c.requires.spans;
    }

pub loop-span-preserved : goal.loop-span-preserved
loop-span-preserved g c =
    let test = c.args.test.now in
    let spans = c.args.self.now.spans.items in
    let places = places_of c.args.self.now.columns.items in
    let i = c.loop-span.span-index in
    let from = c.loop-span.from in
    let s = c.span-item.result in
    let same = c.deref-span-items.ensures.value in
    let there : i < length spans = omega (arith, c.loop-span-test.true, ap (λ (xs : List Span). length xs) same) in
    let found : s ≡ slice_index_or spans i s = c.span-item.is ∙ ap (λ (xs : List Span). slice_index_or xs i s) same in
    let timed : Timed places spans i from g.events = record { within = c.loop-span.invariant.within; rest = c.loop-span.invariant.rest } in
    let next = time_goes_on places spans i from s g.events there found timed in
    let asked = c.in_ok-asked.ensures in
    record {
      sure = time_step (sure_cell test.rel test.literal) places spans i from s g.events c.loop-span.all.sure c.in_ok-asked.asked.sure c.in_ok-here.here.sure c.in_ok-all-2.all.sure
          there found timed c.requires.sound c.loop-span.invariant.sure asked.sure c.in_ok-here.ensures.sure c.in_ok-all-2.ensures.sure;
      maybe = time_step (maybe_cell test.rel test.literal) places spans i from s g.events c.loop-span.all.maybe c.in_ok-asked.asked.maybe c.in_ok-here.here.maybe c.in_ok-all-2.all.maybe
          there found timed c.requires.sound c.loop-span.invariant.maybe asked.maybe c.in_ok-here.ensures.maybe c.in_ok-all-2.ensures.maybe;
      within = next.within;
      rest = next.rest;
    }

pub returns-clause-sure : goal.returns-clause-sure
returns-clause-sure g c =
    let spans = c.args.self.now.spans.items in
    let places = places_of c.args.self.now.columns.items in
    let timed : Timed places spans c.loop-span.span-index c.loop-span.from g.events = record { within = c.loop-span.invariant.within; rest = c.loop-span.invariant.rest } in
    let f = time_of (sure_cell c.args.test.now.rel c.args.test.now.literal) in
    c.loop-span.invariant.sure
    ∙ ap (λ (n : ℕ). so_far f n g.events)
    (time_end places spans c.loop-span.span-index c.loop-span.from g.events (omega (arith, c.loop-span-test.false, ap (λ (xs : List Span). length xs) c.deref-span-items.ensures.value)) timed)
    ∙ so_far_all f g.events

pub returns-clause-maybe : goal.returns-clause-maybe
returns-clause-maybe g c =
    let spans = c.args.self.now.spans.items in
    let places = places_of c.args.self.now.columns.items in
    let timed : Timed places spans c.loop-span.span-index c.loop-span.from g.events = record { within = c.loop-span.invariant.within; rest = c.loop-span.invariant.rest } in
    let f = time_of (maybe_cell c.args.test.now.rel c.args.test.now.literal) in
    c.loop-span.invariant.maybe
    ∙ ap (λ (n : ℕ). so_far f n g.events)
    (time_end places spans c.loop-span.span-index c.loop-span.from g.events (omega (arith, c.loop-span-test.false, ap (λ (xs : List Span). length xs) c.deref-span-items.ensures.value)) timed)
    ∙ so_far_all f g.events

pub either-requires-clause-sure : goal.either-requires-clause-sure
either-requires-clause-sure g c =
    let test = c.args.test.now in
    let f = time_of (sure_cell test.rel test.literal) in
    let h = asked_time (sure_cell test.rel test.literal) (time_at (places_of c.args.self.now.columns.items) c.span-item.result.time) in
    ap (λ (bs : List Bool). length bs) c.loop-span.invariant.sure ∙ so_far_length f c.loop-span.from g.events
    ∙ sym (here_length c.loop-span.from c.span-item.result.rows c.in_ok-asked.asked.sure c.in_ok-here.here.sure c.in_ok-here.ensures.sure
    ∙ ap (λ (bs : List Bool). length bs) c.in_ok-asked.ensures.sure ∙ length-map g.events h)

pub either-requires-clause-maybe : goal.either-requires-clause-maybe
either-requires-clause-maybe g c =
    let test = c.args.test.now in
    let f = time_of (maybe_cell test.rel test.literal) in
    let h = asked_time (maybe_cell test.rel test.literal) (time_at (places_of c.args.self.now.columns.items) c.span-item.result.time) in
    ap (λ (bs : List Bool). length bs) c.loop-span.invariant.maybe ∙ so_far_length f c.loop-span.from g.events
    ∙ sym (here_length c.loop-span.from c.span-item.result.rows c.in_ok-asked.asked.maybe c.in_ok-here.here.maybe c.in_ok-here.ensures.maybe
    ∙ ap (λ (bs : List Bool). length bs) c.in_ok-asked.ensures.maybe ∙ length-map g.events h)
