use Rattle.std.proofs.Common.{ap, arith, length, refl}
use Rattle.event_batch.specs.Contents.{Spelled, content_of}
use Rattle.worker_pool.proofs.ReadLemmas.{offer_accepted, offer_refused}
use Rattle.worker_pool.proofs.feeding.offer.Goals as goal

pub returns-in-Ok-accept-clause-offers : goal.returns-in-Ok-accept-clause-offers
returns-in-Ok-accept-clause-offers g c =
    let turn = rw c.in-Ok.ensures at c.in-Ok-accept.ensures.turn in
    offer_accepted (content_of c.args.batch.now) c.args.feed.now _ _ _ (refl, refl) _ _ turn refl
    (omega (arith, c.in-Some.ensures.1, c.from.ensures, c.rows.ensures.count, ap (λ (p : Spelled). length p.content.rows) c.in-Ok.ensures))

pub returns-in-Full-clause-offers : goal.returns-in-Full-clause-offers
returns-in-Full-clause-offers g c =
    let turn = rw (c.in-Ok.ensures, c.in-Err.is, c.in-Full.is) at c.accept.ensures.turn in
    offer_refused (content_of c.args.batch.now) c.args.feed.now _ _ _ (refl, refl) _ _ turn refl refl
