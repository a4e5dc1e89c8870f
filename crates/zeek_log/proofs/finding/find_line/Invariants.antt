-- The bytes so far were taken, and those searched have no newline.
use Rattle.std.proofs.Common.{◌≡◌, ◌≤◌, ◌-◌, length, max}
use Rattle.memchr.specs.Find.{Nowhere, Passes, is_byte}
use Rattle.source_block.specs.Holding.{most_bytes}
use Rattle.source_block.specs.Taking.{Takes}
use Rattle.zeek_log.specs.Finding.{most_kept}
use Rattle.zeek_log.proofs.finding.find_line.Given as goal

abbrev pub invariant-loop-at : goal.invariant-loop-at
invariant-loop-at g l = record {
  takes : Takes l.initial.block l.block (g.S.Source.left l.initial.source) (g.S.Source.left l.source);
  faults : g.S.Source.faults l.source ≡ g.S.Source.faults l.initial.source;
  bound : l.block.taken ≤ most_bytes;
  kept : l.block.kept ≤ max l.initial.block.kept most_kept;
  within : l.searched ≤ length l.block.bytes;
  none : Nowhere (Passes (is_byte 10) l.block.bytes) 0 l.searched;
}

abbrev pub decreases-loop-at : goal.decreases-loop-at
decreases-loop-at g l = most_bytes - l.block.taken
