use Rattle.std.proofs.Common.{length, sym, ap, ◌∙◌, subst}
use Rattle.bits_law.specs.Blocks.{bit_at}
use Rattle.bits_law.specs.Contents.{IsEven}
use Rattle.bits_law.proofs.HeldLemmas.{held_present, held_even}
use Rattle.bits_law.proofs.table.Table.rows.Goals as goal

pub returns-clause-value : goal.returns-clause-value
returns-clause-value g c =
    let t = c.self.inside in
    let s = t.store in
    sym (held_present (bit_at s.blocks s.keys.items s.taken) s.blocks.width t.rows) ∙ ap (λ v. length v.present) c.self.view_is

pub returns-clause-even : goal.returns-clause-even
returns-clause-even g c =
    let t = c.self.inside in
    let s = t.store in
    subst IsEven c.self.view_is (held_even (bit_at s.blocks s.keys.items s.taken) s.blocks.width t.rows)
