use Rattle.std.proofs.lemmas.Result.{err_from_is_err_and}
use Rattle.worker_pool.proofs.IndexLemmas.{index_failed, indexed_elsewhere, none_free, publish_failed, published}
use Rattle.worker_pool.proofs.indexing.index_one.Goals as goal

pub returns-in_default-clause-indexes : goal.returns-in_default-clause-indexes
returns-in_default-clause-indexes g c = let turn = rw c.in_default.is at c.in_ok-claim.ensures.turn in none_free _ _ turn

pub returns-in_err-fragment-clause-indexes : goal.returns-in_err-fragment-clause-indexes
returns-in_err-fragment-clause-indexes g c =
    let turn = rw c.in-Some.is at c.in_ok-claim.ensures.turn in
    let h = err_from_is_err_and c.from_residual-in_err-fragment.result c.from_residual-in_err-fragment.ensures.1 in
    rw h.1 (index_failed _ _ _ _ _ turn h.0)

pub returns-in-Ok-clause-indexes : goal.returns-in-Ok-clause-indexes
returns-in-Ok-clause-indexes g c =
    let turn = rw c.in-Some.is at c.in_ok-claim.ensures.turn in published _ _ _ _ _ turn _ c.in-Ok.ensures.turn

pub returns-in-Err-Already-clause-indexes : goal.returns-in-Err-Already-clause-indexes
returns-in-Err-Already-clause-indexes g c =
    let turn = rw c.in-Some.is at c.in_ok-claim.ensures.turn in
    let last = rw c.in-Err-Already.field-0-is at c.in-Err-Already.ensures.turn in indexed_elsewhere _ _ _ _ _ turn _ _ last

pub returns-clause-indexes : goal.returns-clause-indexes
returns-clause-indexes g c =
    let turn = rw c.in-Some.is at c.in_ok-claim.ensures.turn in
    let last = rw c.in-Err-Memory.field-0-is at c.in-Err-Memory.ensures.turn in publish_failed _ _ _ _ _ turn _ _ last
