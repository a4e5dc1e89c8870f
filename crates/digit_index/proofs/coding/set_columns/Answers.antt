use Rattle.std.proofs.Common.{◌+◌, ◌-◌, ◌/◌, ◌%◌, ◌<◌, ◌&&◌, ◌||◌, eqb, leb, ltb, length, get_or, ap, refl, ◌∙◌, arith}
use Rattle.bits_law.specs.Numbers.{has_bit}
use Rattle.bits_law.proofs.WordBits.{bit-and}
use Rattle.digit_index.proofs.DigitLemmas.{run_in_word, run_over_words}
use Rattle.digit_index.proofs.coding.set_columns.Goals as goal

pub returns-then-at-last-clause-bits : goal.returns-then-at-last-clause-bits
returns-then-at-last-clause-bits c = λ part j l u.
    let ones = c.ones_from-ones.result in
    let more = c.ones_before-more.result in
    c.add_ones.ensures.bits part (63 - j) l
    ∙ run_in_word (has_bit (get_or c.args.words.now part 0) (63 - j)) _ (c.args.first / 64) c.args.first c.args.end part j u refl c.if-at-last.true
    (bit-and ones more (63 - j) ∙ ap (λ b. b && has_bit more (63 - j)) (c.ones_from-ones.ensures j u) ∙ ap (λ b. leb (c.args.first % 64) j && b) (c.ones_before-more.ensures j u))

pub returns-clause-bits : goal.returns-clause-bits
returns-clause-bits c = λ part j l u.
    let at = c.args.first / 64 in
    let last = c.args.end / 64 in
    let behind = has_bit c.ones_before-more.result (63 - j) in
    let here : part < length c.add_ones-2.new.words = omega (arith, l, c.add_ones-2.ensures.long) in
    let there : part < length c.fill_words.new.words = omega (arith, here, c.fill_words.ensures.long) in
    c.add_ones-3.ensures.bits part (63 - j) there
    ∙ ap (λ b. b || (eqb part last && behind)) (c.fill_words.ensures.bits part (63 - j) here (omega arith) ∙ ap (λ b. b || (leb (at + 1) part && ltb part last)) (c.add_ones-2.ensures.bits part (63 - j) l))
    ∙ run_over_words (has_bit (get_or c.args.words.now part 0) (63 - j)) (has_bit c.ones_from-ones.result (63 - j)) behind at last c.args.first c.args.end part j u refl refl (omega (arith, c.if-end-first.false, c.if-at-last.false))
    (c.ones_from-ones.ensures j u) (c.ones_before-more.ensures j u)
