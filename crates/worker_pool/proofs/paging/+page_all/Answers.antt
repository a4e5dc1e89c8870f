use Rattle.std.proofs.Common.{List, All, map, rules, subst}
use Rattle.std.proofs.lemmas.List.Elements.{All-tail}
use Rattle.std.proofs.lemmas.Result.{err_from_is_err_and}
use Rattle.worker_pool.specs.declared.registering.Query.{Query}
use Rattle.worker_pool.specs.Registering.{ends}
use Rattle.worker_pool.specs.Takes.{AreApart, IsFree, IsPaged, numbers_of}
use Rattle.worker_pool.proofs.TakeLemmas.{paged_rest, takes_failed, takes_none_of, takes_then}
use Rattle.turn_book.specs.Seats.{pass_standing}
use Rattle.worker_pool.proofs.paging.+page_all.Goals as goal

pub returns-in_err-page_open-in-Some-clause-takes : goal.returns-in_err-page_open-in-Some-clause-takes
returns-in_err-page_open-in-Some-clause-takes g t c =
    let whole = c.in-Some.ensures.cases.0 in
    let first = c.in-Some.first.now.end in
    let rest = ends c.in-Some.rest.now in
    let apart = subst (λ (l : List Query). AreApart (map numbers_of (ends l))) whole c.requires.apart in
    let all = subst (λ (l : List Query). All (IsPaged (pass_standing c.args.pass.now)) (ends l)) whole c.requires.paged in
    let h = err_from_is_err_and c.from_residual.result c.from_residual.ensures.1 in
    rw (h.1, whole) (takes_failed first c.page_open.new.query rest _ _ apart all h.0 (rw c.in_err-page_open-in-Some.was at c.page_open.ensures.takes))

pub page_all-requires : goal.page_all-requires
page_all-requires g t c κs within =
    let whole = c.in-Some.ensures.cases.0 in
    let first = c.in-Some.first.now.end in
    let rest = ends c.in-Some.rest.now in
    let apart = subst (λ (l : List Query). AreApart (map numbers_of (ends l))) whole c.requires.apart in
    let all = subst (λ (l : List Query). All (IsPaged (pass_standing c.args.pass.now)) (ends l)) whole c.requires.paged in
    let free = subst (λ (l : List Query). All IsFree (ends l)) whole c.requires.free in (
      search rules,
      (
        search rules,
        (
          search rules,
          (
            search rules,
            (
              c.page_open.ensures.book,
              (
                paged_rest first c.page_open.new.query rest (pass_standing c.args.pass.now) (pass_standing c.page_open.new.pass) apart all c.page_open.result c.page_open.ensures.takes,
                (All-tail IsFree first rest free, (apart.1, c.page_open.ensures.cache)),
              ),
            ),
          ),
        ),
      ),
    )

pub returns-in-None-clause-takes : goal.returns-in-None-clause-takes
returns-in-None-clause-takes g t c = takes_none_of _ _ c.in-None.ensures.cases

pub returns-in_ok-page_open-in-Some-clause-takes : goal.returns-in_ok-page_open-in-Some-clause-takes
returns-in_ok-page_open-in-Some-clause-takes g t c =
    let whole = c.in-Some.ensures.cases.0 in
    let first = c.in-Some.first.now.end in
    let rest = ends c.in-Some.rest.now in
    let apart = subst (λ (l : List Query). AreApart (map numbers_of (ends l))) whole c.requires.apart in
    let all = subst (λ (l : List Query). All (IsPaged (pass_standing c.args.pass.now)) (ends l)) whole c.requires.paged in
    rw whole (takes_then first c.page_open.new.query rest _ _ apart all _ c.page_all.result (ends c.page_all.new.queries) _ (rw c.in_ok-page_open-in-Some.was at c.page_open.ensures.takes) c.page_all.ensures.takes)
