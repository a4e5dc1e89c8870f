use Rattle.std.proofs.Common.{length, sym, ap, ◌∙◌, arith}
use Rattle.bits_law.specs.Blocks.{parts, word_at}
use Rattle.bits_law.specs.Packed.{line_word}
use Rattle.bits_law.proofs.BlockLemmas.{blocks_long, word_is}
use Rattle.bits_law.proofs.packed.Blocks.word.Goals as goal

pub line_word-requires-clause-block : goal.line_word-requires-clause-block
line_word-requires-clause-block c =
    let b = c.self.inside in
    let count = blocks_long b.width b.present.items b.heads.items b.words.items in
    let same = ap (λ v. length v.blocks) c.self.view_is in
    rw c.deref.ensures.value (omega (arith, count, same, c.requires.block))

pub returns : goal.returns
returns c =
    let b = c.self.inside in
    let a = c.args in
    let count = blocks_long b.width b.present.items b.heads.items b.words.items in
    let same = ap (λ v. length v.blocks) c.self.view_is in
    let wide = ap (λ v. v.width) c.self.view_is in
    c.line_word.ensures
    ∙ rw (c.deref.ensures.value, c.deref-2.ensures.value, c.deref-3.ensures.value) (ap (λ n. line_word n b.present.items b.heads.items b.words.items a.block a.line) (c.parts.ensures.value ∙ ap parts (sym wide)))
    ∙ sym (word_is b.width b.present.items b.heads.items b.words.items a.block a.line (omega (arith, count, same, c.requires.block)) (omega (arith, wide, c.requires.line)))
    ∙ ap (λ v. word_at v a.block a.line) c.self.view_is
