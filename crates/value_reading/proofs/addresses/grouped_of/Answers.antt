use Rattle.std.proofs.Common.{◌∙◌, sym}
use Rattle.value_reading.proofs.GapLemmas.{grouped_plain, grouped_gap}
use Rattle.value_reading.proofs.addresses.grouped_of.Goals as goal

pub returns-in-None : goal.returns-in-None
returns-in-None c = c.eight_groups.ensures ∙ grouped_plain c.args.text.now (sym c.in-None.ensures)

pub returns-in-Some : goal.returns-in-Some
returns-in-Some c = c.gap_read.ensures ∙ grouped_gap c.args.text.now c.in-Some.left.now c.in-Some.right.now (sym c.in-Some.ensures)
