use Rattle.std.proofs.Common.{◌-◌, ◌++◌, map, replicate, ap, sym, ◌∙◌}
use lib.Lanes.{zip2}
use Rattle.word_bitmap.specs.Words.{words_of, spelled, word_of, chosen, part}
use Rattle.word_bitmap.specs.declared.piece.Kind.TheVariants.{Literal}
use Rattle.word_bitmap.proofs.WordLemmas.{spelled-append, joined_words, left_words, right_words, zip_words}
use Rattle.word_bitmap.proofs.PieceLemmas.{length_part}
use Rattle.word_bitmap.proofs.pieces.Pieces.add_parts.Goals as goal

pub returns-in_ok-reserve-in-Fill-right-clause-bits : goal.returns-in_ok-reserve-in-Fill-right-clause-bits
returns-in_ok-reserve-in-Fill-right-clause-bits c =
    let n = c.args.to - c.args.self.now.end in
    let old = words_of c.args.self.now in
    rw (c.in-Fill.is, c.in-Fill-right.is) (
    ap spelled (c.extend.ensures.words ∙ ap (λ e. words_of c.reserve.new.self ++ replicate (c.args.to - e) c.word.result) c.reserve.ensures.end ∙ ap (λ ws. ws ++ replicate n c.word.result) c.reserve.ensures.words ∙ ap (λ w. old ++ replicate n w) c.word.ensures)
    ∙ spelled-append old (replicate n (word_of c.args.ones c.in-Fill.a c.in-Fill-right.b))
    ∙ ap (λ bits. spelled old ++ bits) (sym (joined_words c.args.ones n c.in-Fill.a c.in-Fill-right.b)))

pub returns-in_ok-add_chosen-in-Literal-right-clause-bits : goal.returns-in_ok-add_chosen-in-Literal-right-clause-bits
returns-in_ok-add_chosen-in-Literal-right-clause-bits c =
    let n = c.args.to - c.args.self.now.end in
    let old = words_of c.args.self.now in
    let ls = c.args.second.now.literals.items in
    let even = length_part ls c.args.right c.args.self.now.end c.args.to c.requires.order c.requires.two in
    let same = rw c.in-Literal-right.is at even in
    let left = left_words c.args.ones c.in-Fill.a n (part ls (Literal c.in-Literal-right.skipped) c.args.self.now.end c.args.to) (sym same) in
    rw (c.in-Fill.is, c.in-Literal-right.is) (
    c.in_ok-add_chosen-in-Literal-right.ensures.bits
    ∙ ap (λ ws. spelled old ++ spelled (map (chosen c.word-in-Literal-right.result c.word-in-Literal-right-2.result) ws)) c.stretch_of-words.ensures
    ∙ ap (λ x. spelled old ++ spelled (map (chosen x c.word-in-Literal-right-2.result) (part ls (Literal c.in-Literal-right.skipped) c.args.self.now.end c.args.to))) c.word-in-Literal-right.ensures
    ∙ ap (λ x. spelled old ++ spelled (map (chosen (word_of c.args.ones c.in-Fill.a 0) x) (part ls (Literal c.in-Literal-right.skipped) c.args.self.now.end c.args.to))) c.word-in-Literal-right-2.ensures
    ∙ ap (λ bits. spelled old ++ bits) left)

pub returns-in_ok-add_chosen-in-Fill-right-2-clause-bits : goal.returns-in_ok-add_chosen-in-Fill-right-2-clause-bits
returns-in_ok-add_chosen-in-Fill-right-2-clause-bits c =
    let n = c.args.to - c.args.self.now.end in
    let old = words_of c.args.self.now in
    let ls = c.args.first.now.literals.items in
    let even = length_part ls c.args.left c.args.self.now.end c.args.to c.requires.order c.requires.one in
    let same = rw c.in-Literal.is at even in
    let right = right_words c.args.ones c.in-Fill-right-2.b n (part ls (Literal c.in-Literal.skipped) c.args.self.now.end c.args.to) (sym same) in
    rw (c.in-Literal.is, c.in-Fill-right-2.is) (
    c.in_ok-add_chosen-in-Fill-right-2.ensures.bits
    ∙ ap (λ ws. spelled old ++ spelled (map (chosen c.word-in-Fill-right-2.result c.word-in-Fill-right-2-2.result) ws)) c.stretch_of-words-in-Literal.ensures
    ∙ ap (λ x. spelled old ++ spelled (map (chosen x c.word-in-Fill-right-2-2.result) (part ls (Literal c.in-Literal.skipped) c.args.self.now.end c.args.to))) c.word-in-Fill-right-2.ensures
    ∙ ap (λ x. spelled old ++ spelled (map (chosen (word_of c.args.ones 0 c.in-Fill-right-2.b) x) (part ls (Literal c.in-Literal.skipped) c.args.self.now.end c.args.to))) c.word-in-Fill-right-2-2.ensures
    ∙ ap (λ bits. spelled old ++ bits) right)

pub returns-in_ok-add_joined-in-Literal-right-2-clause-bits : goal.returns-in_ok-add_joined-in-Literal-right-2-clause-bits
returns-in_ok-add_joined-in-Literal-right-2-clause-bits c =
    let old = words_of c.args.self.now in
    let xs = c.args.first.now.literals.items in
    let ys = c.args.second.now.literals.items in
    let one = rw c.in-Literal.is at (length_part xs c.args.left c.args.self.now.end c.args.to c.requires.order c.requires.one) in
    let two = rw c.in-Literal-right-2.is at (length_part ys c.args.right c.args.self.now.end c.args.to c.requires.order c.requires.two) in
    let both = zip_words c.args.ones (part xs (Literal c.in-Literal.skipped) c.args.self.now.end c.args.to) (part ys (Literal c.in-Literal-right-2.skipped) c.args.self.now.end c.args.to) (one ∙ sym two) in
    rw (c.in-Literal.is, c.in-Literal-right-2.is) (
    ap spelled (c.in_ok-add_joined-in-Literal-right-2.ensures.words ∙ ap (λ ws. old ++ zip2 (word_of c.args.ones) ws c.stretch_of.result.now) c.stretch_of-words-in-Literal.ensures ∙ ap (λ ws. old ++ zip2 (word_of c.args.ones) (part xs (Literal c.in-Literal.skipped) c.args.self.now.end c.args.to) ws) c.stretch_of.ensures)
    ∙ spelled-append old (zip2 (word_of c.args.ones) (part xs (Literal c.in-Literal.skipped) c.args.self.now.end c.args.to) (part ys (Literal c.in-Literal-right-2.skipped) c.args.self.now.end c.args.to))
    ∙ ap (λ bits. spelled old ++ bits) both)
