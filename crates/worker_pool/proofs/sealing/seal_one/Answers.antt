use Rattle.std.proofs.lemmas.Result.{err_from_is_err_and}
use Rattle.worker_pool.proofs.SealLemmas.{merge_failed, none_full, publish_failed, published, sealed_elsewhere}
use Rattle.worker_pool.proofs.sealing.seal_one.Goals as goal

pub returns-in_default-clause-seals : goal.returns-in_default-clause-seals
returns-in_default-clause-seals g c = let turn = rw c.in_default.is at c.in_ok-group.ensures.turn in none_full _ _ turn

pub returns-in_err-sealed-clause-seals : goal.returns-in_err-sealed-clause-seals
returns-in_err-sealed-clause-seals g c =
    let turn = rw c.in-Some.is at c.in_ok-group.ensures.turn in
    let h = err_from_is_err_and c.from_residual-in_err-sealed.result c.from_residual-in_err-sealed.ensures.1 in
    rw h.1 (merge_failed _ _ _ _ turn h.0)

pub returns-in-Ok-clause-seals : goal.returns-in-Ok-clause-seals
returns-in-Ok-clause-seals g c =
    let turn = rw c.in-Some.is at c.in_ok-group.ensures.turn in published _ _ _ _ turn _ c.in-Ok.ensures.turn

pub returns-in-Err-AlreadySealed-clause-seals : goal.returns-in-Err-AlreadySealed-clause-seals
returns-in-Err-AlreadySealed-clause-seals g c =
    let turn = rw c.in-Some.is at c.in_ok-group.ensures.turn in
    let last = rw c.in-Err-AlreadySealed.field-0-is at c.in-Err-AlreadySealed.ensures.turn in sealed_elsewhere _ _ _ _ turn _ _ last

pub returns-clause-seals : goal.returns-clause-seals
returns-clause-seals g c =
    let turn = rw c.in-Some.is at c.in_ok-group.ensures.turn in
    let last = rw c.in-Err-Memory.field-0-is at c.in-Err-Memory.ensures.turn in publish_failed _ _ _ _ turn _ _ last

pub publish_group-requires-clause-known : goal.publish_group-requires-clause-known
publish_group-requires-clause-known g c limits framed = let given = rw c.in-Some.is at c.in_ok-group.ensures.given in (given limits framed).0
