-- Values that the definitions have, computed by the prover. Each is false where its definition is wrong.
use Rattle.std.proofs.Common.{◌≡◌, ℕ, [], ◌∷◌, refl}
use Rattle.round_robin.specs.Dealing.{dealt, share}

-- the first hand, which gets one member more than the last, and the last
first_hand : dealt {X = ℕ} 3 0 0 (10 ∷ (11 ∷ (12 ∷ (13 ∷ (14 ∷ []))))) ≡ 10 ∷ (13 ∷ [])
first_hand = refl

last_hand : dealt {X = ℕ} 3 2 0 (10 ∷ (11 ∷ (12 ∷ (13 ∷ (14 ∷ []))))) ≡ 12 ∷ []
last_hand = refl

-- a list that begins with the member number 4
later_members : dealt {X = ℕ} 3 2 4 (10 ∷ (11 ∷ (12 ∷ (13 ∷ (14 ∷ []))))) ≡ 11 ∷ (14 ∷ [])
later_members = refl

-- members number 0 and 3, and none of number 5
two_of_five : share 3 0 5 ≡ 2
two_of_five = refl

one_of_five : share 3 2 5 ≡ 1
one_of_five = refl

two_of_six : share 3 2 6 ≡ 2
two_of_six = refl
