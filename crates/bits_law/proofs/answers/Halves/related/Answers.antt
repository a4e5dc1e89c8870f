use Rattle.std.proofs.Common.{◌||◌, not, ltb, ap, ◌∙◌, arith}
use Rattle.std.specs.Prelude.{bit_or}
use Rattle.std.proofs.lemmas.Nat.{or_lt}
use Rattle.bits_law.specs.Numbers.{has_bit}
use Rattle.bits_law.proofs.WordBits.{bit-or, bit-not}
use Rattle.bits_law.proofs.NumberLemmas.{at_most, at_least, above}
use Rattle.bits_law.proofs.answers.Halves.related.Goals as goal

pub returns-in-Ne : goal.returns-in-Ne
returns-in-Ne c = rw c.in-Ne.is (λ i n key l b e. bit-not c.args.self.equal i (omega arith) l ∙ ap not e)

pub returns-in-Le : goal.returns-in-Le
returns-in-Le c = rw c.in-Le.is (λ i n key l b e.
    bit-or c.args.self.below c.args.self.equal i ∙ ap (λ x. x || has_bit c.args.self.equal i) b ∙ ap (λ x. ltb n key || x) e ∙ at_most n key)

pub returns-in-Gt : goal.returns-in-Gt
returns-in-Gt c = rw c.in-Gt.is (λ i n key l b e.
    bit-not (bit_or c.args.self.below c.args.self.equal) i (or_lt 64 c.args.self.below c.args.self.equal (omega arith) (omega arith)) l
    ∙ ap not (bit-or c.args.self.below c.args.self.equal i ∙ ap (λ x. x || has_bit c.args.self.equal i) b ∙ ap (λ x. ltb n key || x) e)
    ∙ above n key)

pub returns-in-Ge : goal.returns-in-Ge
returns-in-Ge c = rw c.in-Ge.is (λ i n key l b e. bit-not c.args.self.below i (omega arith) l ∙ ap not b ∙ at_least n key)
