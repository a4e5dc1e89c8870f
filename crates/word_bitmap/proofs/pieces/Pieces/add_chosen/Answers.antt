use Rattle.std.proofs.Common.{◌≡◌, ◌+◌, ◌-◌, ◌++◌, length, map, replicate, ap, ◌∙◌, arith}
use Rattle.word_bitmap.specs.Words.{words_of, spelled, chosen}
use Rattle.word_bitmap.proofs.WordLemmas.{spelled-append, chosen_none}
use Rattle.word_bitmap.proofs.pieces.Pieces.add_chosen.Goals as goal

pub returns-then-clear-set-clause-bits : goal.returns-then-clear-set-clause-bits
returns-then-clear-set-clause-bits c =
    let old = c.args.self.now in
    let n = length c.args.words.now in
    let same : old.end + n - c.reserve.new.self.end ≡ n = omega (arith, c.reserve.ensures.end) in
    ap spelled (c.extend.ensures.words ∙ ap (λ k. words_of c.reserve.new.self ++ replicate k c.args.clear) same)
    ∙ spelled-append (words_of c.reserve.new.self) (replicate n c.args.clear)
    ∙ ap (λ ws. spelled ws ++ spelled (replicate n c.args.clear)) c.reserve.ensures.words
    ∙ ap (λ bits. spelled (words_of old) ++ bits) (chosen_none c.args.clear c.args.set n c.args.words.now c.if-clear-set.true (omega arith))

pub returns-clause-bits : goal.returns-clause-bits
returns-clause-bits c =
    ap spelled c.in_ok-add_turned.ensures.words ∙ spelled-append (words_of c.args.self.now) (map (chosen c.args.clear c.args.set) c.args.words.now)
