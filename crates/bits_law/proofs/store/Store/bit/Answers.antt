use Rattle.std.proofs.Common.{◌≡◌, ◌-◌, ◌/◌, suc, length, sym, ◌∙◌, arith}
use Rattle.bits_law.proofs.StoreLemmas.{bit_key}
use Rattle.bits_law.proofs.store.Store.bit.Goals as goal

pub returns-then-has_bit : goal.returns-then-has_bit
returns-then-has_bit c =
    let s = c.args.self.now in
    let row = c.args.row in
    let j = c.args.line - 1 in
    let is : c.args.line ≡ suc (c.args.line - 1) = omega (arith, c.if-line-eq0.false) in
    let here : row / 64 ≡ length s.blocks.blocks = omega (arith, c.count-count.ensures, c.if-block-count.false, c.if-block-count-2.false) in
    c.has_bit-then-has_bit.ensures
    ∙ rw (c.as_slice-keys.ensures.value, c.parts.ensures.value) (sym (bit_key s.blocks s.keys.items s.taken j c.args.line row is here (sym c.has_bit-2.ensures ∙ c.if-has_bit.true)))
