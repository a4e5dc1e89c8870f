use Rattle.std.proofs.Common.{sym, ap, ◌∙◌, subst}
use Rattle.std.specs.Option.{option_copied}
use Rattle.event_batch.specs.Contents.{content_of}
use Rattle.archive_cache.specs.Caches.{Agrees, after_ask}
use Rattle.archive_cache.specs.Contents.{caching_of}
use Rattle.archive_cache.proofs.AskLemmas.{found_agrees, found_counts, absent_counts, found_ask, absent_ask}
use Rattle.archive_cache.proofs.cache.Cache.get.Goals as goal

pub returns-in_err-batch-in-Some-clause-step : goal.returns-in_err-batch-in-Some-clause-step
returns-in_err-batch-in-Some-clause-step g c =
    let found = sym c.peek.ensures ∙ ap option_copied c.in-Some.is in
    rw (← c.self.view_is) (found_counts c.self.inside.batches c.args.number c.in-Some.kept.now found c.args.steps.now)

pub returns-in_err-unpack-in-None-clause-step : goal.returns-in_err-unpack-in-None-clause-step
returns-in_err-unpack-in-None-clause-step g c =
    let absent = sym c.peek.ensures ∙ ap option_copied c.in-None.is in
    let counts = absent_counts c.self.inside.batches c.args.number absent c.args.steps.now in
    rw (← c.self.view_is) (c.unpack.ensures.step ∙ counts)

pub returns-in_err-batch-in-None-clause-step : goal.returns-in_err-batch-in-None-clause-step
returns-in_err-batch-in-None-clause-step g c =
    let absent = sym c.peek.ensures ∙ ap option_copied c.in-None.is in
    let counts = absent_counts c.self.inside.batches c.args.number absent c.args.steps.now in
    rw (← c.self.view_is) (c.unpack.ensures.step ∙ counts)

pub returns-in_err-share-in-None-clause-step : goal.returns-in_err-share-in-None-clause-step
returns-in_err-share-in-None-clause-step g c =
    let absent = sym c.peek.ensures ∙ ap option_copied c.in-None.is in
    let counts = absent_counts c.self.inside.batches c.args.number absent c.args.steps.now in
    rw (← c.self.view_is) (c.unpack.ensures.step ∙ counts)

pub returns-in_err-put-in-None-clause-step : goal.returns-in_err-put-in-None-clause-step
returns-in_err-put-in-None-clause-step g c =
    let absent = sym c.peek.ensures ∙ ap option_copied c.in-None.is in
    let counts = absent_counts c.self.inside.batches c.args.number absent c.args.steps.now in
    rw (← c.self.view_is) (c.unpack.ensures.step ∙ counts)

pub returns-in_ok-batch-in-Some-clause-batch : goal.returns-in_ok-batch-in-Some-clause-batch
returns-in_ok-batch-in-Some-clause-batch g c =
    let found = sym c.peek.ensures ∙ ap option_copied c.in-Some.is in
    let content = c.args.packed.now.content in
    let agrees = subst (Agrees c.args.number content) (sym c.self.view_is) c.requires in
    let same = found_agrees c.self.inside.batches c.args.number content c.in-Some.kept.now found agrees in
    ap content_of c.in_ok-batch-in-Some.ensures ∙ same

pub returns-in_ok-batch-in-Some-clause-entries : goal.returns-in_ok-batch-in-Some-clause-entries
returns-in_ok-batch-in-Some-clause-entries g c =
    let found = sym c.peek.ensures ∙ ap option_copied c.in-Some.is in
    let content = c.args.packed.now.content in
    let agrees = subst (Agrees c.args.number content) (sym c.self.view_is) c.requires in
    let kept = c.in-Some.kept.now in
    let same = found_agrees c.self.inside.batches c.args.number content kept found agrees in
    let after = found_ask c.self.inside.batches c.args.number content kept found same c.len.ensures.valid in
    ap caching_of c.promote.ensures.entries ∙ after ∙ ap (after_ask c.args.number content) c.self.view_is

pub returns-in_ok-batch-in-Some-clause-step : goal.returns-in_ok-batch-in-Some-clause-step
returns-in_ok-batch-in-Some-clause-step g c =
    let found = sym c.peek.ensures ∙ ap option_copied c.in-Some.is in
    rw (← c.self.view_is) (found_counts c.self.inside.batches c.args.number c.in-Some.kept.now found c.args.steps.now)

pub returns-in_ok-put-in-None-clause-entries : goal.returns-in_ok-put-in-None-clause-entries
returns-in_ok-put-in-None-clause-entries g c =
    let absent = sym c.peek.ensures ∙ ap option_copied c.in-None.is in
    let content = c.args.packed.now.content in
    let share = c.in_ok-share-in-None.share in
    let decoded = c.in_ok-share-in-None.ensures ∙ c.in_ok-batch-in-None.ensures.ok in
    let same = ap content_of decoded ∙ c.in_ok-unpack-in-None.ensures.batch in
    let after = absent_ask c.self.inside.batches c.args.number content share absent same c.len.ensures.valid in
    let put = ap caching_of c.in_ok-put-in-None.ensures.entries in
    put ∙ after ∙ ap (after_ask c.args.number content) c.self.view_is

pub returns-in_ok-put-in-None-clause-step : goal.returns-in_ok-put-in-None-clause-step
returns-in_ok-put-in-None-clause-step g c =
    let absent = sym c.peek.ensures ∙ ap option_copied c.in-None.is in
    let counts = absent_counts c.self.inside.batches c.args.number absent c.args.steps.now in
    rw (← c.self.view_is) (c.unpack.ensures.step ∙ counts)
