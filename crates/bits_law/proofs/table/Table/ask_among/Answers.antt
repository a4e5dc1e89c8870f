use Rattle.std.proofs.Common.{◌≡◌, ◌+◌, ◌/◌, ◌≤◌, true, length, take, drop, IfOk, sym, ◌∙◌, refl, subst, arith}
use Rattle.std.proofs.lemmas.List.FromFn.{length-map-range_with_len}
use Rattle.std.proofs.lemmas.Result.{IfOk-weaker}
use Rattle.bits_law.specs.Numbers.{holds, number_at, IsAnswer}
use Rattle.bits_law.specs.Blocks.{bit_at, bit_in, block_in}
use Rattle.bits_law.proofs.AskLemmas.{answer_held, answer_among, shown_bit}
use Rattle.bits_law.proofs.ViewLemmas.{rows_are, width_is}
use Rattle.bits_law.proofs.table.Table.ask_among.Goals as goal

pub overflow_add-question : goal.overflow_add-question
overflow_add-question g c =
    let s = c.self.inside.store in
    let wide = width_is (bit_at s.blocks s.keys.items s.taken) s.blocks.width c.self.inside.rows c.args.self.now c.self.view_is in
    omega (arith, wide, c.requires.within, c.self.invariant.1)

pub answer-requires-clause-within : goal.answer-requires-clause-within
answer-requires-clause-within g c =
    let s = c.self.inside.store in
    let wide = width_is (bit_at s.blocks s.keys.items s.taken) s.blocks.width c.self.inside.rows c.args.self.now c.self.view_is in
    omega (arith, wide, c.requires.within)

pub answer-requires-clause-narrow : goal.answer-requires-clause-narrow
answer-requires-clause-narrow g c =
    let s = c.self.inside.store in
    let wide = width_is (bit_at s.blocks s.keys.items s.taken) s.blocks.width c.self.inside.rows c.args.self.now c.self.view_is in
    omega (arith, wide, c.requires.within, c.self.invariant.1)

pub and-requires : goal.and-requires
and-requires g c =
    let t = c.self.inside in
    let s = t.store in
    let rows : length (g.B.Bits.bits c.args.among.now) ≡ t.rows = c.requires.even ∙ sym (rows_are (bit_at s.blocks s.keys.items s.taken) s.blocks.width t.rows c.args.self.now c.self.view_is) in
    rows ∙ sym (c.in_ok-all.ensures.rows ∙ length-map-range_with_len (λ row. true) 0 t.rows)

pub returns : goal.returns
returns g c =
    let t = c.self.inside in
    let s = t.store in
    let a = c.args in
    let bits = g.B.Bits.bits in
    let last = c.in_ok-last.last in
    let wide = width_is (bit_at s.blocks s.keys.items s.taken) s.blocks.width t.rows a.self.now c.self.view_is in
    let within : a.from + a.count ≤ s.blocks.width = omega (arith, wide, c.requires.within) in
    let rows : length (bits a.among.now) ≡ t.rows = c.requires.even ∙ sym (rows_are (bit_at s.blocks s.keys.items s.taken) s.blocks.width t.rows a.self.now c.self.view_is) in
    let asked = answer_held (bit_at s.blocks s.keys.items s.taken) (bit_in s.blocks last) s.blocks.width t.rows (λ line row l u. shown_bit s.blocks last s.keys.items s.taken t.rows c.self.invariant.0.near c.in_ok-last.ensures.bits line row l u) (bits c.in_ok-all.all) (λ row. block_in s.blocks last (row / 64)) a.from a.count a.key a.rel true (λ line row. refl) within c.in_ok-all.ensures in
    subst (λ v. IfOk c.and.result (λ b. IsAnswer (bits b) (bits a.among.now) (λ row. holds a.rel (number_at (take a.count (drop a.from v.columns)) row) a.key))) c.self.view_is
    (IfOk-weaker _ _ _ (λ b e. answer_among (bits b) (bits a.among.now) (bits c.in_ok-all.all) (bit_at s.blocks s.keys.items s.taken) t.rows _ rows e asked) c.and.ensures)
