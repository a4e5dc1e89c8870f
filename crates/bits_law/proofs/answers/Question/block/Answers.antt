use Rattle.std.proofs.Common.{[], get_or, ◌∙◌, ◌&&◌, ap}
use Rattle.bits_law.specs.Numbers.{has_bit, holds}
use Rattle.bits_law.specs.Blocks.{number_in}
use Rattle.bits_law.proofs.WordBits.{bit-and}
use Rattle.bits_law.proofs.AskLemmas.{related_bit}
use Rattle.bits_law.proofs.answers.Question.block.Goals as goal

pub returns : goal.returns
returns c = λ i l.
    let q = c.args.self.now in
    let h = c.split-halves.result in
    let n = number_in (get_or c.args.blocks.now.blocks c.args.block []) q.first q.count i in
    let among = c.asked-among.result in
    bit-and among c.related.result i
    ∙ related_bit (has_bit among i) (has_bit c.related.result i) (has_bit h.below i) (has_bit h.equal i) q.rel n q.key (c.split-halves.ensures.below i l) (c.split-halves.ensures.equal i l) (c.related.ensures i n q.key l)
    ∙ ap (λ b. b && holds q.rel n q.key) (c.asked-among.ensures i l)
