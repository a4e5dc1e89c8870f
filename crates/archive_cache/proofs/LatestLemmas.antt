-- A cache keeps the batches that were asked for last.
use Rattle.std.proofs.Common.{◌≡◌, ℕ, zero, suc, Bool, true, false, cond, not, List, [], ◌∷◌, filter, take, nat_eq, refl, ap, sym, ◌∙◌, subst}
use Rattle.std.specs.Map.{remove_entry}
use Rattle.std.proofs.lemmas.Bool.{eqb-true}
use Rattle.archive_cache.specs.Caches.{Kept, Caching, after_ask}
use Rattle.archive_cache.specs.Laws.{others, latest, KeepsTheLatest}

filter_again : {X : Type 0} (p : X → Bool) (xs : List X) → filter p (filter p xs) ≡ filter p xs
filter_again p [] = refl
filter_again p (x ∷ xs) = (elim (p x) as (λ y. p x ≡ y
    → filter p (cond y (x ∷ filter p xs) (filter p xs)) ≡ cond y (x ∷ filter p xs) (filter p xs)) [
      | true ↦ λ t. rw t (ap (λ rest. x ∷ rest) (filter_again p xs))
      | false ↦ λ t. filter_again p xs
    ]) refl

filters_commute : {X : Type 0} (p q : X → Bool) (xs : List X) → filter p (filter q xs) ≡ filter q (filter p xs)
filters_commute p q [] = refl
filters_commute p q (x ∷ xs) = (elim (q x) as (λ b. q x ≡ b
    → filter p (cond b (x ∷ filter q xs) (filter q xs)) ≡ filter q (cond (p x) (x ∷ filter p xs) (filter p xs))) [
      | true ↦ λ kept. elim (p x) as (λ a. cond a (x ∷ filter p (filter q xs)) (filter p (filter q xs))
          ≡ filter q (cond a (x ∷ filter p xs) (filter p xs))) [
            | true ↦ rw kept (ap (λ rest. x ∷ rest) (filters_commute p q xs))
            | false ↦ filters_commute p q xs
          ]
      | false ↦ λ gone. elim (p x) as (λ a. filter p (filter q xs) ≡ filter q (cond a (x ∷ filter p xs) (filter p xs))) [
        | true ↦ rw gone (filters_commute p q xs)
        | false ↦ filters_commute p q xs
      ]
    ]) refl

-- each batch stands once
abbrev IsOnce : List Kept → Type 0
IsOnce [] = Unit {0}
IsOnce (x ∷ xs) = (others x.0 xs ≡ xs) × IsOnce xs

once_others : (n : ℕ) (xs : List Kept) → IsOnce xs → IsOnce (others n xs)
once_others n [] h = tt
once_others n (x ∷ xs) h =
    let commute = filters_commute (λ y. not (nat_eq x.0 y.0)) (λ y. not (nat_eq n y.0)) xs in
    elim (nat_eq n x.0) as (λ b. IsOnce (cond (not b) (x ∷ others n xs) (others n xs))) [
      | true ↦ once_others n xs h.1
      | false ↦ (commute ∙ ap (others n) h.0, once_others n xs h.1)
    ]

once_latest : (asks : List Kept) → IsOnce (latest asks)
once_latest [] = tt
once_latest (ask ∷ before) =
    let again = filter_again (λ x. not (nat_eq ask.0 x.0)) (latest before) in
    (again, once_others ask.0 (latest before) (once_latest before))

removed_is_others : (n : ℕ) (xs : List Kept) → IsOnce xs → remove_entry (nat_eq n) xs ≡ others n xs
removed_is_others n [] h = refl
removed_is_others n (x ∷ xs) h = (elim (nat_eq n x.0) as (λ b. nat_eq n x.0 ≡ b
    → cond b xs (x ∷ remove_entry (nat_eq n) xs) ≡ cond (not b) (x ∷ others n xs) (others n xs)) [
      | true ↦ λ same. sym (subst (λ m. others m xs ≡ xs) (sym (eqb-true n x.0 same)) h.0)
      | false ↦ λ other. ap (λ rest. x ∷ rest) (removed_is_others n xs h.1)
    ]) refl

take_none : {X : Type 0} (k : ℕ) → take {A = X} k [] ≡ []
take_none zero = refl
take_none (suc k) = refl

take_again : {X : Type 0} (k : ℕ) (xs : List X) → take k (take k xs) ≡ take k xs
take_again zero xs = refl
take_again (suc k) [] = refl
take_again (suc k) (x ∷ xs) = ap (λ rest. x ∷ rest) (take_again k xs)

take_removed : (k n : ℕ) (xs : List Kept) → take k (remove_entry (nat_eq n) (take (suc k) xs))
    ≡ take k (remove_entry (nat_eq n) xs)
take_removed zero n xs = refl
take_removed (suc k) n [] = refl
take_removed (suc k) n (x ∷ xs) = elim (nat_eq n x.0)
    as (λ b. take (suc k) (cond b (take (suc k) xs) (x ∷ remove_entry (nat_eq n) (take (suc k) xs)))
    ≡ take (suc k) (cond b xs (x ∷ remove_entry (nat_eq n) xs))) [
      | true ↦ take_again (suc k) xs
      | false ↦ ap (λ rest. x ∷ rest) (take_removed k n xs)
    ]

cut_first : (size : ℕ) (ask : Kept) (xs : List Kept)
    → take size (ask ∷ remove_entry (nat_eq ask.0) (take size xs)) ≡ take size (ask ∷ remove_entry (nat_eq ask.0) xs)
cut_first zero ask xs = refl
cut_first (suc k) ask xs = ap (λ rest. ask ∷ rest) (take_removed k ask.0 xs)

abbrev cache_of : ℕ → List Kept → Caching
cache_of size entries = record { size = size; entries = entries }

pub keeps_the_latest : (size : ℕ) (asks : List Kept) → KeepsTheLatest size asks
keeps_the_latest size [] = ap (cache_of size) (sym (take_none {X = Kept} size))
keeps_the_latest size (ask ∷ before) =
    let once = removed_is_others ask.0 (latest before) (once_latest before) in
    ap (after_ask ask.0 ask.1) (keeps_the_latest size before)
    ∙ ap (cache_of size) (cut_first size ask (latest before) ∙ ap (λ rest. take size (ask ∷ rest)) once)
