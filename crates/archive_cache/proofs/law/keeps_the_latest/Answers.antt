use Rattle.archive_cache.proofs.LatestLemmas.{keeps_the_latest}
use Rattle.archive_cache.proofs.law.keeps_the_latest.Goals as goal

pub returns : goal.returns
returns c = keeps_the_latest
