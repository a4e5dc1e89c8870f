use Rattle.std.proofs.Common.{◌/◌, ◌%◌, arith}
use Rattle.bits_law.specs.Numbers.{holds}
use Rattle.bits_law.specs.Blocks.{block_in, bit_in, number_in}
use Rattle.bits_law.proofs.AskLemmas.{begun_none, begun_more, begun_answer, asked_bit}
use Rattle.bits_law.proofs.answers.answer.Goals as goal

pub loop-block-init : goal.loop-block-init
loop-block-init g c = begun_none _ _ _ c.empty-bits.ensures

pub loop-block-preserved : goal.loop-block-preserved
loop-block-preserved g c =
    let a = c.args in
    let q = a.question in
    begun_more _ _ _ a.rows c.loop-block.block c.word-word.result _ (omega (arith, c.blocks_of-block-end.ensures)) c.min-n.ensures c.in-Ok.ensures.ok
    (λ i l u. asked_bit a.blocks.now a.last.now q.first q.count q.key c.loop-block.block i c.word-word.result a.all q.rel l (c.word-word.ensures i l))
    c.loop-block.invariant

pub returns : goal.returns
returns g c =
    let a = c.args in
    let q = a.question in
    begun_answer _ (bit_in a.blocks.now a.last.now) a.rows c.loop-block.block a.all (λ row. holds q.rel (number_in (block_in a.blocks.now a.last.now (row / 64)) q.first q.count (row % 64)) q.key) (omega (arith, c.blocks_of-block-end.ensures)) c.loop-block.invariant
