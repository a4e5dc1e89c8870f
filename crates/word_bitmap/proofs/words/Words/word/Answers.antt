use Rattle.std.proofs.Common.{◌≡◌, [], ◌∷◌, length, ap, sym, ◌∙◌, get_or, ◌++◌, arith}
use Rattle.std.proofs.lemmas.List.{get_or_append_left}
use Rattle.std.proofs.Math.Seq.{get_or-append_seam}
use Rattle.word_bitmap.specs.Words.{words_of}
use Rattle.word_bitmap.proofs.PieceLemmas.{length_all}
use Rattle.word_bitmap.proofs.words.Words.word.Goals as goal

pub returns-then-index-self : goal.returns-then-index-self
returns-then-index-self c =
    let w = c.args.self.now in
    c.word_at.ensures ∙ sym (get_or_append_left (words_of w.pieces) (w.last ∷ []) 0 c.args.index (omega (arith, length_all w.pieces c.requires.sound.pieces, c.if-index-self.true)))

pub returns-else-index-self : goal.returns-else-index-self
returns-else-index-self c =
    let w = c.args.self.now in
    let here : length (words_of w.pieces) ≡ c.args.index = omega (arith, length_all w.pieces c.requires.sound.pieces, c.if-index-self.false, c.requires.within) in
    sym (get_or-append_seam (words_of w.pieces) w.last [] 0) ∙ ap (λ i. get_or (words_of w.pieces ++ w.last ∷ []) i 0) here
