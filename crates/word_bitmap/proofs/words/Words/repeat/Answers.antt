use Rattle.std.proofs.Common.{◌≡◌, ◌+◌, ◌-◌, suc, refl, arith}
use Rattle.word_bitmap.specs.Words.{words_of, shown}
use Rattle.word_bitmap.proofs.WordLemmas.{repeat_words}
use Rattle.word_bitmap.proofs.words.Words.repeat.Goals as goal

pub returns-clause-bits : goal.returns-clause-bits
returns-clause-bits c =
    let w = c.put.new.self in
    let k : c.args.count ≡ suc (w.pieces.end + (c.args.count - 1) - w.pieces.end) = omega (arith, c.if-count-eq0.false) in
    repeat_words _ (words_of w.pieces) (shown c.args.self.now) w.last c.args.word w.held _ c.args.count c.extend.ensures.words k c.put.ensures.sound.last c.ranges.word.fits c.put.ensures.sound.held (c.put.ensures.rest refl) c.put.ensures.bits
