use Rattle.std.proofs.Common.{arith}
use Rattle.plain_cells.proofs.GapLemmas.{group_joined, group_begun}
use Rattle.plain_cells.proofs.groups.group_run.Goals as goal

pub returns-then-text-end-ne58-clause-are : goal.returns-then-text-end-ne58-clause-are
returns-then-text-end-ne58-clause-are c = group_joined c.args.text.now c.args.from c.loop-count.at c.in_ok-end.end c.loop-count.count c.loop-count.invariant c.in_ok-end.ensures

pub returns-then-text-end-eq58-clause-are : goal.returns-then-text-end-eq58-clause-are
returns-then-text-end-eq58-clause-are c = group_joined c.args.text.now c.args.from c.loop-count.at c.in_ok-end.end c.loop-count.count c.loop-count.invariant c.in_ok-end.ensures

pub loop-count-preserved : goal.loop-count-preserved
loop-count-preserved c =
    group_begun c.args.text.now c.args.from c.loop-count.at c.in_ok-end.end c.loop-count.count c.loop-count.invariant c.in_ok-end.ensures (omega (arith, c.if-text-end-ne58.false)) (omega (arith, c.if-end-text.false))
