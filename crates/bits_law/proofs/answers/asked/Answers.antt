use Rattle.bits_law.proofs.WordBits.{bit-all}
use Rattle.bits_law.proofs.answers.asked.Goals as goal

pub returns-then-all : goal.returns-then-all
returns-then-all c = rw c.if-all.true (λ i l. bit-all i l)
