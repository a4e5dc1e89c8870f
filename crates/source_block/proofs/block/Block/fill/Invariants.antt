-- The bytes so far were taken, and no read failed.
use Rattle.std.proofs.Common.{◌≡◌, ◌≤◌, ◌+◌, ◌-◌, max}
use Rattle.source_block.specs.Holding.{most_bytes}
use Rattle.source_block.specs.Taking.{Takes}
use Rattle.source_block.proofs.block.Block.fill.Given as goal

abbrev pub invariant-loop-self : goal.invariant-loop-self
invariant-loop-self g l = record {
  takes : Takes l.initial.self l.self (g.S.Source.left l.initial.source) (g.S.Source.left l.source);
  faults : g.S.Source.faults l.source ≡ g.S.Source.faults l.initial.source;
  room : l.self.taken ≤ most_bytes;
  kept : l.self.kept ≤ max l.initial.self.kept (l.need + 65536);
}

abbrev pub decreases-loop-self : goal.decreases-loop-self
decreases-loop-self g l = most_bytes - l.self.taken
