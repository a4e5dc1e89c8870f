-- Values that the definitions have, computed by the prover. Each is false where its definition is wrong.
use Rattle.std.proofs.Common.{◌≡◌, eqb, true, false, [], ◌∷◌, map, refl}
use Rattle.plain_cells.specs.Own.{stands_bare}
use Rattle.plain_cells.specs.Places.{places_of, ones_of, cut_at}

-- the first byte's place is the number given, and neighbours count
places : places_of (λ b. eqb b 9) 5 (9 ∷ (65 ∷ (9 ∷ (9 ∷ (66 ∷ []))))) ≡ 5 ∷ (7 ∷ (8 ∷ []))
places = refl

-- the lowest bit first, and none past so many
ones : ones_of 7 100 210 ≡ 101 ∷ (104 ∷ (106 ∷ []))
unfolding ones_of
ones = refl

-- a piece before the first place, an empty one between two neighbours, and one behind the last
pieces : cut_at (1 ∷ (2 ∷ [])) 0 (65 ∷ (9 ∷ (9 ∷ (66 ∷ (67 ∷ []))))) ≡ (65 ∷ []) ∷ ([] ∷ ((66 ∷ (67 ∷ [])) ∷ []))
pieces = refl

-- printable ASCII but the backslash
bare : map stands_bare (31 ∷ (32 ∷ (91 ∷ (92 ∷ (93 ∷ (126 ∷ (127 ∷ (9 ∷ [])))))))) ≡ false ∷ (true ∷ (true ∷ (false ∷ (true ∷ (true ∷ (false ∷ (false ∷ [])))))))
bare = refl
