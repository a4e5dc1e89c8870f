use Rattle.std.proofs.Common.{◌++◌, ap, ◌∙◌}
use Rattle.bits_law.specs.Bitwise.{bits_below}
use Rattle.word_bitmap.specs.Words.{spelled}
use Rattle.word_bitmap.proofs.WordLemmas.{low_below}
use Rattle.word_bitmap.proofs.bitmap.WordBitmapBits.push_word.Goals as goal

pub returns-clause-ok : goal.returns-clause-ok
returns-clause-ok c =
    let w = c.self.inside.words in
    c.put.ensures.bits
    ∙ ap (λ ws. (spelled ws ++ bits_below w.last w.held) ++ bits_below c.low.result c.args.n) c.reserve.ensures.words
    ∙ ap (λ bits. bits ++ bits_below c.low.result c.args.n) c.self.view_is
    ∙ ap (λ bits. c.args.self.now ++ bits) (ap (λ x. bits_below x c.args.n) c.low.ensures.value ∙ low_below c.args.word c.args.n)
