use Rattle.bits_law.proofs.SameLemmas.{column_clear, column_known}
use Rattle.bits_law.proofs.head.apart.Goals as goal

pub returns-then-among-present-eq0 : goal.returns-then-among-present-eq0
returns-then-among-present-eq0 g = λ words head c i literal full l u e a.
    column_known g.args.literal g.args.full g.args.present g.args.among g.args.key words head c i g.ranges.present.fits g.ranges.full.fits g.ranges.key.fits l u literal full g.if-among-present-eq0.true e a

pub returns-else-among-present-eq0 : goal.returns-else-among-present-eq0
returns-else-among-present-eq0 g = λ words head c i literal full l u e a.
    column_clear g.args.literal g.args.full g.args.present g.args.key words head c i g.ranges.full.fits g.ranges.key.fits l literal full e
