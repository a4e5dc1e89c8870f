use Rattle.std.proofs.Common.{length, sym, ap, ◌∙◌}
use Rattle.bits_law.proofs.BlockLemmas.{blocks_long}
use Rattle.bits_law.proofs.packed.Blocks.count.Goals as goal

pub returns : goal.returns
returns c =
    let b = c.self.inside in
    c.len.ensures ∙ b.present.ok.0 ∙ sym (blocks_long b.width b.present.items b.heads.items b.words.items) ∙ ap (λ v. length v.blocks) c.self.view_is
