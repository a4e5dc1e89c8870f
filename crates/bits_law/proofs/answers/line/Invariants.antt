use Rattle.bits_law.specs.Blocks.{bit_in}
use Rattle.bits_law.proofs.AskLemmas.{IsBegun}
use Rattle.bits_law.proofs.answers.line.Given as goal

abbrev pub invariant-loop-block : goal.invariant-loop-block
invariant-loop-block g l = IsBegun (g.B.Bits.bits l.bits) (bit_in l.blocks l.last l.at) l.rows l.block
