use Rattle.std.proofs.Common.{◌≡◌, None, rules, suc, ◌<◌, ◌∷◌, drop, length, get_or, arith, drop-cons, ap, ◌∙◌, sym}
use Rattle.std.specs.Option.{option_and_then}
use Rattle.value_reading.specs.Numbers.{if_at_most, number_behind}
use Rattle.value_reading.proofs.NumberLemmas.{digit_too_large}
use Rattle.value_reading.proofs.numbers.many_digits.Goals as goal

pub returns-in_err-number-clause-value : goal.returns-in_err-number-clause-value
returns-in_err-number-clause-value c =
    let i = c.loop-byte.byte-index in
    let text = c.args.text.now in
    let below : i < length text = omega arith in
    let e : drop i text ≡ get_or text i 0 ∷ drop (suc i) text = drop-cons text i 0 below in
    let none : option_and_then (if_at_most c.args.most) (number_behind 0 c.args.text.now) ≡ None =
    c.loop-byte.invariant.0
    ∙ ap (λ xs. option_and_then (if_at_most c.args.most) (number_behind c.loop-byte.number xs)) e
    ∙ digit_too_large c.args.most c.loop-byte.number (get_or text i 0) (drop (suc i) text) (sym c.in_err-number.ensures.value) in
    search rules
