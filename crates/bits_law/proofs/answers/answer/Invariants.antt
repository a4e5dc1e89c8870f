use Rattle.std.proofs.Common.{◌/◌, ◌%◌, ◌&&◌, ◌||◌}
use Rattle.bits_law.specs.Numbers.{holds}
use Rattle.bits_law.specs.Blocks.{block_in, bit_in, number_in}
use Rattle.bits_law.proofs.AskLemmas.{IsBegun}
use Rattle.bits_law.proofs.answers.answer.Given as goal

abbrev pub invariant-loop-block : goal.invariant-loop-block
invariant-loop-block g l = IsBegun (g.B.Bits.bits l.bits) (λ row. (l.all || bit_in l.blocks l.last 0 row) && holds l.question.rel (number_in (block_in l.blocks l.last (row / 64)) l.question.first l.question.count (row % 64)) l.question.key) l.rows l.block
