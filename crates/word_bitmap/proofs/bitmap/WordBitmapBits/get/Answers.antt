use Rattle.std.proofs.Common.{◌/◌, ◌%◌, length, eqb, ap, sym, ◌∙◌, arith, Some}
use Rattle.std.specs.List.{slice_get}
use Rattle.std.specs.Prelude.{bit_and, ◌^◌}
use Rattle.std.proofs.lemmas.Nat.Bits.{shr_and_one}
use Rattle.word_bitmap.specs.Words.{words_of}
use Rattle.word_bitmap.proofs.WordLemmas.{bit_is}
use Rattle.word_bitmap.proofs.PieceLemmas.{length_all}
use Rattle.word_bitmap.proofs.ShownLemmas.{length_shown}
use Rattle.word_bitmap.proofs.bitmap.WordBitmapBits.get.Goals as goal

pub word-requires-clause-within : goal.word-requires-clause-within
word-requires-clause-within c =
    let e = ap length (sym c.self.view_is) ∙ length_shown c.self.inside.words c.self.invariant in
    omega (arith, e, c.requires, c.self.invariant.held)

pub returns : goal.returns
returns c =
    let w = c.self.inside.words in
    let e = ap length (sym c.self.view_is) ∙ length_shown w c.self.invariant in
    let long = length_all w.pieces c.self.invariant.pieces in
    ap (λ bits. slice_get bits c.args.at) (sym c.self.view_is)
    ∙ bit_is (words_of w.pieces) w.last w.held c.args.at (omega (arith, e, c.requires, long)) (omega (arith, c.self.invariant.held))
    ∙ ap (λ x. Some (eqb x 1)) (sym (shr_and_one _ (c.args.at % 64)) ∙ ap (λ v. bit_and (v / 2 ^ (c.args.at % 64)) 1) (sym c.word.ensures))
