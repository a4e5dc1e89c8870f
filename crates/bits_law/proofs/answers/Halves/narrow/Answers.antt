use Rattle.std.proofs.Common.{◌||◌, ◌&&◌, ap, ◌∙◌}
use Rattle.std.specs.Prelude.{bit_and}
use Rattle.std.specs.Int.{bit_not, w64}
use Rattle.bits_law.specs.Numbers.{has_bit}
use Rattle.bits_law.proofs.WordBits.{bit-or, bit-and, bit-not}
use Rattle.bits_law.proofs.answers.Halves.narrow.Goals as goal

pub returns-then-bit-clause-below : goal.returns-then-bit-clause-below
returns-then-bit-clause-below c = rw c.if-bit.true (λ i l.
    let s = c.args.self in
    bit-or s.below (bit_and s.equal (bit_not w64 c.args.word)) i
    ∙ ap (λ b. has_bit s.below i || b) (bit-and s.equal (bit_not w64 c.args.word) i ∙ ap (λ b. has_bit s.equal i && b) (bit-not c.args.word i c.ranges.word.fits l)))

pub returns-then-bit-clause-equal : goal.returns-then-bit-clause-equal
returns-then-bit-clause-equal c = rw c.if-bit.true (λ i l. bit-and c.args.self.equal c.args.word i)

pub returns-else-bit-clause-equal : goal.returns-else-bit-clause-equal
returns-else-bit-clause-equal c = rw c.if-bit.false (λ i l.
    bit-and c.args.self.equal (bit_not w64 c.args.word) i ∙ ap (λ b. has_bit c.args.self.equal i && b) (bit-not c.args.word i c.ranges.word.fits l))
