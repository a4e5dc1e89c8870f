use Rattle.std.proofs.Common.{refl}
use Rattle.worker_pool.proofs.TakeLemmas.{is_none_by, takes_drawn, takes_no}
use Rattle.worker_pool.proofs.paging.page_open.Goals as goal

pub returns-then-is_none-clause-takes : goal.returns-then-is_none-clause-takes
returns-then-is_none-clause-takes g c = takes_no c.args.query.now _ (is_none_by _ _ c.is_none.ensures c.if-is_none.true) c.requires.free c.requires.paged

pub returns-clause-takes : goal.returns-clause-takes
returns-clause-takes g c =
    takes_drawn c.page_one.result c.args.query.now c.page_one.new.query _ _ c.args.query.now.session refl c.requires.free c.page_one.ensures.draws c.page_one.ensures.session c.page_one.ensures.known
    (λ i. (c.page_one.ensures.rest.0 i, c.page_one.ensures.rest.1 i)) c.requires.paged
