-- The bits of words, computed.
use Rattle.std.proofs.Common.{◌≡◌, true, false, [], ◌∷◌, refl}
use Rattle.bits_law.specs.Bitwise.{bits_below}
use Rattle.word_bitmap.specs.Words.{words_from, needs, chosen}
use Rattle.word_bitmap.specs.declared.piece.Kind.TheVariants.{Fill, Literal}

-- 6 is 110 in binary, and its lowest bit comes first; bits past the number are left out
six_in_two_and_four : (bits_below 6 2 ≡ false ∷ true ∷ []) × (bits_below 6 4 ≡ false ∷ true ∷ true ∷ false ∷ [])
unfolding bits_below
six_in_two_and_four = (refl, refl)

-- a fill up to word 2, one literal up to word 3, and one more at the place of the second literal
three_pieces : words_from (9 ∷ 5 ∷ []) 0 (record { kind = Fill 7; end = 2 } ∷ record { kind = Literal 2; end = 3 } ∷ record { kind = Literal 2; end = 4 } ∷ []) ≡ 7 ∷ 7 ∷ 9 ∷ 5 ∷ []
three_pieces = refl

-- the pieces may need eight literals, and three
needs_of_two : needs 0 (record { kind = Fill 7; end = 100 } ∷ record { kind = Literal 100; end = 103 } ∷ []) ≡ 11
needs_of_two = refl

-- 1010 where a word has ones, and 0110 elsewhere
chosen_of_two : chosen 6 10 12 ≡ 10
chosen_of_two = refl
