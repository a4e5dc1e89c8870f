use Rattle.round_robin.proofs.DealLemmas.{share_reached, share_passed}
use Rattle.std.proofs.Common.{sym}
use Rattle.round_robin.proofs.room.share_of.Goals as goal

pub returns-then-hand-count : goal.returns-then-hand-count
returns-then-hand-count c = sym (share_reached c.args.hands c.args.hand c.args.count c.requires c.if-hand-count.true)

pub returns-else-hand-count : goal.returns-else-hand-count
returns-else-hand-count c = sym (share_passed c.args.hands c.args.hand c.args.count c.requires c.if-hand-count.false)
