use Rattle.std.proofs.lemmas.Result.{err_from_is_err_and}
use Rattle.worker_pool.proofs.FinishLemmas.{askable_sealed, kept_sealed, stops_indexing, stops_merging}
use Rattle.worker_pool.proofs.turning.finish_turn.Goals as goal

pub returns-in_err-claimed-clause-finishes : goal.returns-in_err-claimed-clause-finishes
returns-in_err-claimed-clause-finishes g c =
    let h = err_from_is_err_and c.from_residual.result c.from_residual.ensures.1 in
    rw h.1 (stops_indexing c.a_cache_serves_a_store.ensures _ c.requires.sound c.args.queries.now c.requires.askable c.args.cache.now c.requires.cache h.0 _ (rw c.in_err-claimed.was at c.index_one.ensures.indexes))

pub returns-in_err-seal_one-clause-finishes : goal.returns-in_err-seal_one-clause-finishes
returns-in_err-seal_one-clause-finishes g c =
    let h = err_from_is_err_and c.from_residual-in_err-seal_one.result c.from_residual-in_err-seal_one.ensures.1 in
    rw h.1 (stops_merging c.a_cache_serves_a_store.ensures _ c.requires.sound c.args.queries.now c.requires.askable c.args.cache.now c.requires.cache _ _ (rw c.in_ok-claimed.was at c.index_one.ensures.indexes) h.0 _
    (rw c.in_err-seal_one.was at c.seal_one.ensures.seals))

pub page_all-requires-clause-paged : goal.page_all-requires-clause-paged
page_all-requires-clause-paged g c =
    (askable_sealed c.a_cache_serves_a_store.ensures _ c.requires.sound c.args.queries.now c.requires.askable c.args.cache.now c.requires.cache _ _ (rw c.in_ok-claimed.was at c.index_one.ensures.indexes) _ _
    (rw c.in_ok-seal_one.was at c.seal_one.ensures.seals)).paged

pub page_all-requires-clause-cache : goal.page_all-requires-clause-cache
page_all-requires-clause-cache g c =
    kept_sealed c.a_cache_serves_a_store.ensures _ c.requires.sound c.args.queries.now c.requires.askable c.args.cache.now c.requires.cache _ _ (rw c.in_ok-claimed.was at c.index_one.ensures.indexes) _ _
    (rw c.in_ok-seal_one.was at c.seal_one.ensures.seals)
