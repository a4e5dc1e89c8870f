use Rattle.value_writing.proofs.WritingGap.{first_longest}
use Rattle.value_writing.proofs.gap_law.first_longest_gap.Goals as goal

pub returns : goal.returns
returns c = first_longest
