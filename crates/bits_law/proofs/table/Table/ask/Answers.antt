use Rattle.std.proofs.Common.{◌+◌, ◌/◌, ◌≤◌, false, take, drop, IfOk, refl, subst, arith}
use Rattle.std.proofs.lemmas.Result.{IfOk-weaker}
use Rattle.bits_law.specs.Numbers.{holds, number_at, IsAnswer}
use Rattle.bits_law.specs.Blocks.{bit_at, bit_in, block_in}
use Rattle.bits_law.proofs.AskLemmas.{answer_held, shown_bit}
use Rattle.bits_law.proofs.ViewLemmas.{width_is}
use Rattle.bits_law.proofs.table.Table.ask.Goals as goal

pub overflow_add-question : goal.overflow_add-question
overflow_add-question g c =
    let s = c.self.inside.store in
    let wide = width_is (bit_at s.blocks s.keys.items s.taken) s.blocks.width c.self.inside.rows c.args.self.now c.self.view_is in
    omega (arith, wide, c.requires.within, c.self.invariant.1)

pub answer-requires-clause-within : goal.answer-requires-clause-within
answer-requires-clause-within g c =
    let s = c.self.inside.store in
    let wide = width_is (bit_at s.blocks s.keys.items s.taken) s.blocks.width c.self.inside.rows c.args.self.now c.self.view_is in
    omega (arith, wide, c.requires.within)

pub answer-requires-clause-narrow : goal.answer-requires-clause-narrow
answer-requires-clause-narrow g c =
    let s = c.self.inside.store in
    let wide = width_is (bit_at s.blocks s.keys.items s.taken) s.blocks.width c.self.inside.rows c.args.self.now c.self.view_is in
    omega (arith, wide, c.requires.within, c.self.invariant.1)

pub returns : goal.returns
returns g c =
    let t = c.self.inside in
    let s = t.store in
    let a = c.args in
    let last = c.in_ok-last.last in
    let wide = width_is (bit_at s.blocks s.keys.items s.taken) s.blocks.width t.rows a.self.now c.self.view_is in
    let within : a.from + a.count ≤ s.blocks.width = omega (arith, wide, c.requires.within) in
    subst (λ v. IfOk c.answer.result (λ b. IsAnswer (g.B.Bits.bits b) v.present (λ row. holds a.rel (number_at (take a.count (drop a.from v.columns)) row) a.key))) c.self.view_is
    (IfOk-weaker _ _ _ (λ b e. answer_held (bit_at s.blocks s.keys.items s.taken) (bit_in s.blocks last) s.blocks.width t.rows (λ line row l u. shown_bit s.blocks last s.keys.items s.taken t.rows c.self.invariant.0.near c.in_ok-last.ensures.bits line row l u) (g.B.Bits.bits b) (λ row. block_in s.blocks last (row / 64)) a.from a.count a.key a.rel false (λ line row. refl) within e) c.answer.ensures)
