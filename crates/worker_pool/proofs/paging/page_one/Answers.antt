use Rattle.std.proofs.Common.{◌++◌, List, ap, map, refl, sym}
use Rattle.std.specs.Option.{option_to_list}
use Rattle.exporter.specs.declared.finishing.Page.{Page}
use Rattle.worker_pool.specs.Paging.{told_page, told_taken}
use Rattle.worker_pool.proofs.PageLemmas.{nothing_drawn}
use Rattle.worker_pool.proofs.paging.page_one.Goals as goal

pub returns-then-is_err-clause-draws : goal.returns-then-is_err-clause-draws
returns-then-is_err-clause-draws g c =
    nothing_drawn _ c.in-Some.session _ _ _ _ (sym c.in-Some.ensures.value)
    (ap (λ (pages : List Page). map told_page pages ++ map told_taken (option_to_list c.args.query.now.taken)) c.reserve.ensures.items) (rw c.requires.free refl)
