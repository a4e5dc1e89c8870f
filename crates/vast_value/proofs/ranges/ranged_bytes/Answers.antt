use Rattle.vast_value.proofs.ByteLemmas.{each_byte}
use Rattle.vast_value.proofs.ranges.ranged_bytes.Goals as goal

pub returns : goal.returns
returns c = each_byte c.args.text.now c.type_inv.text
