use Rattle.std.proofs.Common.{◌≡◌, suc, ◌+◌, ◌-◌, ◌*◌, ◌^◌, ◌<◌, ap, ◌∙◌, inl, inr, arith}
use Rattle.std.proofs.lemmas.Bool.{cases_lt}
use Rattle.std.proofs.lemmas.Grind.{pow_more}
use Rattle.bits_law.specs.Numbers.{has_bit}
use mir.Val.{bool_byte}
use Rattle.bits_law.proofs.WordBits.{bit-then_lowest, bit-then_other, bool_small, bool_one}
use Rattle.bits_law.proofs.row_bits.RowBits.word.Goals as goal

pub loop-j-preserved : goal.loop-j-preserved
loop-j-preserved g c =
    let bit = g.Self.RowBits.bit c.args.self.now in
    let j = c.loop-j.j in
    let w = c.loop-j.word in
    let b = bool_byte c.bit.result in
    let b_small : b < 2 = bool_small c.bit.result in
    let power : 2 ^ (j + 1) ≡ 2 ^ j * 2 = pow_more 2 j in
    record {
      small = omega (arith, power, b_small, c.loop-j.invariant.small);
      bits = λ i l. elim (cases_lt i j) [
        | inl less ↦
            let at : j + 1 - 1 - i ≡ suc (j - 1 - i) = omega arith in
            ap (has_bit (2 * w + b)) at ∙ bit-then_other w b (j - 1 - i) b_small ∙ c.loop-j.invariant.bits i less
        | inr more ↦
            let is : j ≡ i = omega arith in
            let at : j + 1 - 1 - i ≡ 0 = omega arith in
            ap (has_bit (2 * w + b)) at ∙ bit-then_lowest w b b_small ∙ bool_one c.bit.result ∙ c.bit.ensures ∙ ap (λ n. bit (64 * c.args.part + n)) is
      ];
    }
