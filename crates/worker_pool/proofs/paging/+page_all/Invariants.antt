use Rattle.std.proofs.Common.{length}
use Rattle.worker_pool.proofs.paging.+page_all.Given as goal

abbrev pub decreases-page_all : goal.decreases-page_all
decreases-page_all g l = length l.queries.now
