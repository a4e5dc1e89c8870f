use Rattle.std.proofs.Common.{length}
use Rattle.worker_pool.proofs.feeding.+read_one.Given as goal

abbrev pub decreases-read_one : goal.decreases-read_one
decreases-read_one g l = length l.feeds.now
