use Rattle.std.proofs.Common.{◌-◌, ◌≤◌, [], get_or}
use Rattle.bits_law.proofs.AskLemmas.{AreHalves}
use Rattle.bits_law.proofs.answers.split.Given as goal

-- the numbers that the words so far spell, against the key's first bits
abbrev pub invariant-loop-j : goal.invariant-loop-j
invariant-loop-j l = record {
  within : l.j ≤ l.count;
  halves : AreHalves (get_or l.blocks.blocks l.block []) l.first l.count l.key l.among l.halves.below l.halves.equal l.j;
}

abbrev pub decreases-loop-j : goal.decreases-loop-j
decreases-loop-j l = l.count - l.j
