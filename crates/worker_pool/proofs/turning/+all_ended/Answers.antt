use Rattle.worker_pool.proofs.RunLemmas.{ends_behind, ends_first}
use Rattle.worker_pool.proofs.turning.+all_ended.Goals as goal

pub returns-in-Unread : goal.returns-in-Unread
returns-in-Unread g t c = ends_first c.in-Some.first.now c.in-Some.rest.now c.args.feeds.now c.in-Some.ensures.cases.0 c.in-Unread.is

pub returns-in_default : goal.returns-in_default
returns-in_default g t c = ends_behind c.all_ended.result c.in-Some.first.now c.in-Some.rest.now c.args.feeds.now c.in-Some.ensures.cases.0 c.in_default.not-Unread c.all_ended.ensures
