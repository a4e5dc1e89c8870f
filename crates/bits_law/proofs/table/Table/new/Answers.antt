use Rattle.std.proofs.Common.{◌∙◌, arith}
use Rattle.bits_law.specs.Blocks.{bit_at}
use Rattle.bits_law.proofs.HeldLemmas.{held_wide, held_column}
use Rattle.bits_law.proofs.table.Table.new.Goals as goal

pub returns-clause-wide : goal.returns-clause-wide
returns-clause-wide g c =
    let s = c.in_ok-new.field-0 in
    held_wide (bit_at s.blocks s.keys.items s.taken) s.blocks.width 0 ∙ c.in_ok-new.ensures.width

pub returns-clause-column : goal.returns-clause-column
returns-clause-column g c = λ j l.
    let s = c.in_ok-new.field-0 in
    held_column (bit_at s.blocks s.keys.items s.taken) s.blocks.width 0 j (omega (arith, c.in_ok-new.ensures.width))
