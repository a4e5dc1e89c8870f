use Rattle.std.proofs.Common.{◌≡◌, ◌<◌, IfOk, arith, subst}
use Rattle.bits_law.specs.Blocks.{bit_at}
use Rattle.bits_law.proofs.ViewLemmas.{width_is, column_is}
use Rattle.bits_law.proofs.table.Table.column.Goals as goal

pub overflow_add-at : goal.overflow_add-at
overflow_add-at g c =
    let s = c.self.inside.store in
    let wide = width_is (bit_at s.blocks s.keys.items s.taken) s.blocks.width c.self.inside.rows c.args.self.now c.self.view_is in
    omega (arith, wide, c.requires, c.self.invariant.1)

pub line-requires-clause-within : goal.line-requires-clause-within
line-requires-clause-within g c =
    let s = c.self.inside.store in
    let wide = width_is (bit_at s.blocks s.keys.items s.taken) s.blocks.width c.self.inside.rows c.args.self.now c.self.view_is in
    omega (arith, wide, c.requires)

pub returns-clause-value : goal.returns-clause-value
returns-clause-value g c =
    let t = c.self.inside in
    let s = t.store in
    let wide = width_is (bit_at s.blocks s.keys.items s.taken) s.blocks.width t.rows c.args.self.now c.self.view_is in
    let under : c.args.at < s.blocks.width = omega (arith, wide, c.requires) in
    let is = column_is s.blocks c.in_ok-last.last s.keys.items s.taken t.rows c.self.invariant.0.near c.in_ok-last.ensures.bits c.args.self.now c.args.at c.self.view_is under in
    subst (λ xs. IfOk c.line.result (λ b. g.B.Bits.bits b ≡ xs)) is c.line.ensures
