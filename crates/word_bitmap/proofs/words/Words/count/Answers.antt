use Rattle.std.proofs.Common.{arith}
use Rattle.word_bitmap.specs.Words.{words_of}
use Rattle.word_bitmap.proofs.WordLemmas.{count_all}
use Rattle.word_bitmap.proofs.words.Words.count.Goals as goal

pub returns : goal.returns
returns c =
    let w = c.args.self.now in
    let all = (count_all (words_of w.pieces) w.last w.held c.requires.last).0 in
    omega (arith, c.count.ensures.value, all)
