-- A text whose bytes stand for themselves is its own escape.
use Rattle.std.proofs.Common.{◌≡◌, ℕ, List, [], ◌∷◌, true, refl, arith}
use Rattle.std.proofs.lemmas.Grind.{common_steps}
use Rattle.std.specs.List.{flat_map, list_all}
use Rattle.value_writing.specs.declared.place.Place.{Place}
use Rattle.value_writing.specs.declared.place.Place.TheVariants as place
use Rattle.value_writing.specs.Writing.{byte_text, is_bare}

bare_byte : (place : Place) (b : ℕ) → is_bare place b ≡ true → byte_text place b ≡ b ∷ []
bare_byte place.Whole b h = grind (arith, common_steps)
bare_byte place.Element b h = grind (arith, common_steps)

pub bare_text : (place : Place) (text : List ℕ) → list_all (is_bare place) text ≡ true → flat_map (byte_text place) text ≡ text
bare_text place [] h = refl
bare_text place (b ∷ bs) h = grind (arith, common_steps, bare_byte place b, bare_text place bs)
