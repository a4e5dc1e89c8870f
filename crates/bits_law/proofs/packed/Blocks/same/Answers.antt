use Rattle.std.proofs.Common.{◌+◌, length, sym, ap, ◌∙◌, arith}
use Rattle.bits_law.specs.Blocks.{parts, word_at}
use Rattle.bits_law.specs.Numbers.{has_bit}
use Rattle.bits_law.specs.Packed.{line_word}
use Rattle.bits_law.proofs.BlockLemmas.{blocks_long, word_is}
use Rattle.bits_law.proofs.packed.Blocks.same.Goals as goal

pub same_lines-requires-clause-block : goal.same_lines-requires-clause-block
same_lines-requires-clause-block c =
    let b = c.self.inside in
    let count = blocks_long b.width b.present.items b.heads.items b.words.items in
    let same = ap (λ v. length v.blocks) c.self.view_is in
    rw c.deref.ensures.value (omega (arith, count, same, c.requires.block))

pub returns-clause-same : goal.returns-clause-same
returns-clause-same c = λ k i less within u among.
    let b = c.self.inside in
    let a = c.args in
    let count = blocks_long b.width b.present.items b.heads.items b.words.items in
    let same = ap (λ v. length v.blocks) c.self.view_is in
    let wide = ap (λ v. v.width) c.self.view_is in
    ap (λ v. has_bit (word_at v a.block (a.line + k)) i) (sym c.self.view_is)
    ∙ ap (λ w. has_bit w i) (word_is b.width b.present.items b.heads.items b.words.items a.block (a.line + k) (omega (arith, count, same, c.requires.block)) (omega (arith, wide, within)))
    ∙ ap (λ n. has_bit (line_word n b.present.items b.heads.items b.words.items a.block (a.line + k)) i) (ap parts wide ∙ sym c.parts.ensures.value)
    ∙ rw (sym c.deref.ensures.value, sym c.deref-2.ensures.value) (c.same_lines.ensures.same b.words.items k i less u among)
