use Rattle.std.proofs.Common.{◌∙◌, sym, arith}
use Rattle.value_reading.proofs.GapLemmas.{gap_step, gap_none}
use Rattle.value_reading.proofs.addresses.around_gap.Goals as goal

pub loop-at-preserved : goal.loop-at-preserved
loop-at-preserved c = c.loop-at.invariant ∙ gap_step c.args.text.now c.loop-at.at (omega arith) (omega arith) cc

pub returns : goal.returns
returns c = sym (c.loop-at.invariant ∙ gap_none c.args.text.now c.loop-at.at (omega arith) (omega arith))
