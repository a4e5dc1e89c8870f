use Rattle.std.proofs.Common.{length}
use Rattle.worker_pool.proofs.registering.+register_all.Given as goal

abbrev pub decreases-register_all : goal.decreases-register_all
decreases-register_all g l = length l.queries.now
