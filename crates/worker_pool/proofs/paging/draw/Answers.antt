use Rattle.std.proofs.Common.{refl, ap}
use Rattle.history_core.specs.declared.session.Session.{Session}
use Rattle.worker_pool.proofs.PageLemmas.{cache_turn, draws_left, draws_page, draws_refused, holds_settled, page_leaves, taken_agrees}
use Rattle.worker_pool.proofs.paging.draw.Goals as goal

pub settle-requires-clause-agree : goal.settle-requires-clause-agree
settle-requires-clause-agree g c =
    let turn = rw c.in-Ok.is at c.take.ensures.turn in
    taken_agrees c.a_cache_serves_a_store.ensures _ _ _ _ _ turn c.in-Ok.ensures.taken refl c.args.cache.now c.requires.cache

pub returns-in-Ok-clause-draws : goal.returns-in-Ok-clause-draws
returns-in-Ok-clause-draws g c =
    let turn = rw c.in-Ok.is at c.take.ensures.turn in
    draws_page _ _ _ _ _ _ c.in-Ok.taken _ turn c.in-Ok.ensures.taken refl (c.finds_the_answers.ensures c.in-Ok.ensures.taken.limits c.in-Ok.ensures.taken.before c.args.session.query c.in-Ok.taken.snapshot) c.settle.ensures.told
    (holds_settled c.args.session.query c.settle.result c.args.query.now.session c.settle.new.query.session c.settle.new.query.taken c.in-Ok.taken (ap (λ (s : Session). s.query) c.in-Ok.ensures.session) c.requires.free.0
    c.settle.ensures.ok c.settle.ensures.err)

pub returns-in-Ok-clause-cache : goal.returns-in-Ok-clause-cache
returns-in-Ok-clause-cache g c =
    let turn = rw c.in-Ok.is at c.take.ensures.turn in
    page_leaves c.a_cache_serves_a_store.ensures _ _ _ _ _ turn c.in-Ok.ensures.taken refl c.args.cache.now c.settle.new.cache c.requires.cache c.settle.ensures.only

pub returns-in-Left-clause-draws : goal.returns-in-Left-clause-draws
returns-in-Left-clause-draws g c =
    let turn = rw (c.in-Err.is, c.in-Left.is) at c.take.ensures.turn in
    draws_left _ _ _ _ _ _ turn c.take.ensures.known refl (rw c.requires.free.1 (ap (λ (s : Session). s.query) c.in-Err.ensures.back))

pub returns-in-Left-clause-cache : goal.returns-in-Left-clause-cache
returns-in-Left-clause-cache g c = cache_turn c.a_cache_serves_a_store.ensures _ _ _ _ c.args.cache.now c.take.ensures.turn c.requires.cache

pub returns-in-Memory-clause-draws : goal.returns-in-Memory-clause-draws
returns-in-Memory-clause-draws g c =
    let turn = rw (c.in-Err.is, c.in-Memory.is) at c.take.ensures.turn in
    draws_refused _ _ _ _ _ _ turn refl (rw c.requires.free.1 (ap (λ (s : Session). s.query) c.in-Err.ensures.back))

pub returns-in-Memory-clause-cache : goal.returns-in-Memory-clause-cache
returns-in-Memory-clause-cache g c = cache_turn c.a_cache_serves_a_store.ensures _ _ _ _ c.args.cache.now c.take.ensures.turn c.requires.cache
