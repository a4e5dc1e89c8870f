use Rattle.std.proofs.Common.{arith}
use Rattle.bits_law.specs.Blocks.{bit_in}
use Rattle.bits_law.proofs.AskLemmas.{begun_none, begun_more, begun_line, row_bit}
use Rattle.bits_law.proofs.answers.line.Goals as goal

pub loop-block-init : goal.loop-block-init
loop-block-init g c = begun_none _ _ _ c.empty-bits.ensures

pub loop-block-preserved : goal.loop-block-preserved
loop-block-preserved g c =
    let a = c.args in
    begun_more _ _ (bit_in a.blocks.now a.last.now a.at) a.rows c.loop-block.block c.word.result _ (omega (arith, c.blocks_of-block-end.ensures)) c.min-n.ensures c.in-Ok.ensures.ok (λ i l u. row_bit a.blocks.now a.last.now a.at c.loop-block.block i c.word.result l c.word.ensures) c.loop-block.invariant

pub returns : goal.returns
returns g c = begun_line _ (bit_in c.args.blocks.now c.args.last.now) c.args.rows c.args.at c.loop-block.block (omega (arith, c.blocks_of-block-end.ensures)) c.loop-block.invariant
