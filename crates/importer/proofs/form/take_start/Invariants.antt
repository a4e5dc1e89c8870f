-- The bytes so far were taken, and no read failed.
use Rattle.std.proofs.Common.{◌≡◌, ◌≤◌, ◌-◌, max}
use Rattle.source_block.specs.Holding.{most_bytes}
use Rattle.source_block.specs.Taking.{Takes}
use Rattle.importer.proofs.form.take_start.Given as goal

abbrev pub invariant-loop-block : goal.invariant-loop-block
invariant-loop-block g l = record {
  takes : Takes l.initial.block l.block (g.S.Source.left l.initial.source) (g.S.Source.left l.source);
  faults : g.S.Source.faults l.source ≡ g.S.Source.faults l.initial.source;
  room : l.block.taken ≤ most_bytes;
  kept : l.block.kept ≤ max l.initial.block.kept 65540;
}

abbrev pub decreases-loop-block : goal.decreases-loop-block
decreases-loop-block g l = most_bytes - l.block.taken
