-- What a text's columns are read from, computed.
use Rattle.std.proofs.Common.{◌≡◌, true, false, [], ◌∷◌, refl}
use Rattle.string_index.specs.Texts.{text_bit, units}

-- the length of ab and its first byte, 97, as one number, and nothing past its end
first_of_ab : (units 2 (97 ∷ 98 ∷ []) ≡ 609) × (units 4 (97 ∷ 98 ∷ []) ≡ 39936512)
first_of_ab = (refl, refl)

-- the length is 00000010, and a begins by 01
columns_of_ab : (text_bit 6 (97 ∷ 98 ∷ []) ≡ true) × (text_bit 7 (97 ∷ 98 ∷ []) ≡ false) × (text_bit 8 (97 ∷ 98 ∷ []) ≡ false) × (text_bit 9 (97 ∷ 98 ∷ []) ≡ true)
columns_of_ab = (refl, refl, refl, refl)
