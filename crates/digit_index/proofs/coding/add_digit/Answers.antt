use Rattle.std.proofs.Common.{◌≡◌, ◌+◌, ◌-◌, ◌*◌, ◌||◌, get_or, ap, sym, ◌∙◌, refl}
use Rattle.bits_law.specs.Numbers.{has_bit}
use Rattle.digit_index.proofs.DigitLemmas.{cond_of, digit_run}
use Rattle.digit_index.proofs.coding.add_digit.Goals as goal
use Rattle.digit_index.proofs.coding.add_digit.Goals.{in-Equality, in-Range}

pub returns-clause-bits : goal.returns-clause-bits
returns-clause-bits c = λ k j l u.
    let a = c.args in
    let end_is : c.match-coding.end ≡ cond_of a.coding (a.from + a.digit + 1) (a.from + a.count) = elim c.match-coding.branch [
      | in-Equality w ↦ w.end-is ∙ sym (ap (λ k. cond_of k (a.from + a.digit + 1) (a.from + a.count)) w.in-Equality.is)
      | in-Range w ↦ w.end-is ∙ sym (ap (λ k. cond_of k (a.from + a.digit + 1) (a.from + a.count)) w.in-Range.is)
    ] in
    c.set_columns.ensures.bits k j l u
    ∙ ap (λ b. has_bit (get_or a.words.now k 0) (63 - j) || b) (digit_run a.coding a.from a.count a.digit (a.from + a.digit) c.match-coding.end (64 * k + j) c.requires.within refl end_is)
