use Rattle.std.proofs.Common.{◌%◌, ◌^◌, ap, sym, ◌∙◌, arith}
use Rattle.word_bitmap.specs.Words.{words_of}
use Rattle.word_bitmap.proofs.WordLemmas.{combine_all}
use Rattle.word_bitmap.proofs.PieceLemmas.{length_all}
use Rattle.word_bitmap.proofs.ShownLemmas.{same_length}
use Rattle.word_bitmap.proofs.words.Words.combined.Goals as goal

pub combined-requires-clause-even : goal.combined-requires-clause-even
combined-requires-clause-even c =
    (same_length c.args.self.now c.args.other.now c.requires.one c.requires.two c.requires.even).0

pub returns-clause-bits : goal.returns-clause-bits
returns-clause-bits c =
    let v = c.args.self.now in
    let w = c.args.other.now in
    let s = same_length v w c.requires.one c.requires.two c.requires.even in
    let low = c.low-last.ensures.value ∙ ap (λ x. x % 2 ^ v.held) c.word.ensures in
    let one = length_all v.pieces c.requires.one.pieces in
    let two = length_all w.pieces c.requires.two.pieces in
    combine_all c.args.ones _ (words_of v.pieces) (words_of w.pieces) v.last w.last _ v.held w.held c.in_ok-pieces.ensures.bits low (one ∙ s.0 ∙ sym two) (sym s.1) (omega (arith, c.requires.one.held))
