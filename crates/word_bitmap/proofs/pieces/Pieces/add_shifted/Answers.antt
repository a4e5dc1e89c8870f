use Rattle.std.proofs.Common.{◌++◌, drop, ap, sym, ◌∙◌}
use Rattle.std.proofs.lemmas.List.{append_assoc}
use Rattle.bits_law.specs.Bitwise.{bits_below}
use Rattle.word_bitmap.specs.Words.{words_from, words_of, spelled}
use Rattle.word_bitmap.proofs.WordLemmas.{spelled-append}
use Rattle.word_bitmap.proofs.PieceLemmas.{closed_words}
use Rattle.word_bitmap.proofs.pieces.Pieces.add_shifted.Goals as goal

pub returns-clause-bits : goal.returns-clause-bits
returns-clause-bits c =
    let p = c.close.new.self in
    let ls = c.shift_in-rest.new.literals.items in
    let have = c.len-have.result in
    let before = sym (closed_words p c.close.ensures.laid.closed (c.close.ensures.closed ∙ sym c.close.ensures.end)) ∙ c.close.ensures.words in
    let kept = rw (sym c.len-have.ensures) at c.shift_in-rest.ensures.kept in
    let bits = rw (sym c.len-have.ensures) at c.shift_in-rest.ensures.bits in
    ap (λ ws. spelled ws ++ bits_below c.shift_in-rest.result c.args.held) (c.stretch.ensures.words ∙ ap (λ ks. words_from ks 0 p.list.items ++ drop have ls) kept ∙ ap (λ ws. ws ++ drop have ls) before)
    ∙ ap (λ bs. bs ++ bits_below c.shift_in-rest.result c.args.held) (spelled-append (words_of c.args.self.now) (drop have ls))
    ∙ append_assoc (spelled (words_of c.args.self.now)) (spelled (drop have ls)) (bits_below c.shift_in-rest.result c.args.held)
    ∙ ap (λ bs. spelled (words_of c.args.self.now) ++ bs) bits
    ∙ sym (append_assoc (spelled (words_of c.args.self.now)) (bits_below c.args.last c.args.held) (spelled c.args.words.now))
