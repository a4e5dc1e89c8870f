-- Answers over ranges: later events change none, adjacent ranges join, and their ids lie in the range.
use Rattle.std.proofs.Common.{◌≡◌, ℕ, suc, ◌+◌, ◌<◌, ◌≤◌, Bool, true, false, not, cond, List, [], ◌∷◌, ◌++◌, length, take, drop, filter, refl, ap, sym, ◌∙◌, arith, nat_lt, nat_le}
use Rattle.std.proofs.lemmas.List.{length-drop, length-take, take-append-drop, take-append-le, take-take, drop-append-le, drop_all}
use Rattle.std.proofs.lemmas.List.Elements.{filter-append}
use Rattle.std.proofs.lemmas.Bool.Decides.{nat_tests}
use Rattle.event_history.specs.Delivered.{is_below}
use Rattle.event_history.specs.Events.{Event, chosen, numbered, ranged}

pub lt_true : (a b : ℕ) → a < b → nat_lt a b ≡ true
lt_true a b h = grind (arith, nat_tests)

pub lt_false : (a b : ℕ) → b ≤ a → nat_lt a b ≡ false
lt_false a b h = grind (arith, nat_tests)

pub le_true : (a b : ℕ) → a ≤ b → nat_le a b ≡ true
le_true a b h = grind (arith, nat_tests)

pub le_false : (a b : ℕ) → b < a → nat_le a b ≡ false
le_false a b h = grind (arith, nat_tests)

pub lt_of : (a b : ℕ) → nat_lt a b ≡ true → a < b
lt_of a b h = grind (arith, nat_tests)

-- later events change no answer of ids below their number
pub chosen_more : (test : Event → Bool) (from to : ℕ) (xs ys : List Event) → to ≤ length xs → chosen test from to (xs ++ ys) ≡ chosen test from to xs
chosen_more test from to xs ys h =
    ap (λ (zs : List Event). filter (λ (x : ℕ × Event). test x.1) (numbered from (drop from zs))) (take-append-le to xs ys h)

pub chosen_none : (test : Event → Bool) (from : ℕ) (xs : List Event) → chosen test from from xs ≡ []
chosen_none test from xs =
    let short : length (take from xs) ≤ from = omega (arith, length-take from xs) in
    ap (λ (zs : List Event). filter (λ (x : ℕ × Event). test x.1) (numbered from zs)) (drop_all from (take from xs) short)

pub numbered_append : (n : ℕ) (xs ys : List Event) → numbered n (xs ++ ys) ≡ numbered n xs ++ numbered (n + length xs) ys
numbered_append n [] ys =
    let e : n ≡ n + 0 = omega arith in
    ap (λ (m : ℕ). numbered m ys) e
numbered_append n (x ∷ xs) ys =
    let e : n + 1 + length xs ≡ n + suc (length xs) = omega arith in
    ap (λ (zs : List (ℕ × Event)). (n, x) ∷ zs)
    (numbered_append (n + 1) xs ys ∙ ap (λ (m : ℕ). numbered (n + 1) xs ++ numbered m ys) e)

cut_at : (from mid to : ℕ) (xs : List Event) → from ≤ mid → mid ≤ to → mid ≤ length xs
    → drop from (take to xs) ≡ drop from (take mid xs) ++ drop mid (take to xs)
cut_at from mid to xs h k l =
    let long : from ≤ length (take mid xs) = omega (arith, length-take mid xs) in
    ap (λ (zs : List Event). drop from zs) (sym (take-append-drop mid (take to xs)))
    ∙ ap (λ (zs : List Event). drop from (zs ++ drop mid (take to xs))) (take-take mid to xs k)
    ∙ drop-append-le from (take mid xs) (drop mid (take to xs)) long

ranged_join : (from mid to : ℕ) (xs : List Event) → from ≤ mid → mid ≤ to → mid ≤ length xs → ranged from to xs ≡ ranged from mid xs ++ ranged mid to xs
ranged_join from mid to xs h k l =
    let e : from + length (drop from (take mid xs)) ≡ mid = omega (arith, length-drop from (take mid xs), length-take mid xs) in
    ap (λ (zs : List Event). numbered from zs) (cut_at from mid to xs h k l)
    ∙ numbered_append from (drop from (take mid xs)) (drop mid (take to xs))
    ∙ ap (λ (m : ℕ). numbered from (drop from (take mid xs)) ++ numbered m (drop mid (take to xs))) e

-- answers over adjacent ranges join
pub chosen_join : (test : Event → Bool) (from mid to : ℕ) (xs : List Event) → from ≤ mid → mid ≤ to → mid ≤ length xs
    → chosen test from to xs ≡ chosen test from mid xs ++ chosen test mid to xs
chosen_join test from mid to xs h k l =
    ap (λ (zs : List (ℕ × Event)). filter (λ (x : ℕ × Event). test x.1) zs) (ranged_join from mid to xs h k l)
    ∙ filter-append (λ (x : ℕ × Event). test x.1) (ranged from mid xs) (ranged mid to xs)

-- A test that all ids of a run meet keeps what is kept of it, and one that none meets keeps nothing.
keeps_head : (p : ℕ × Event → Bool) (b : Bool) (x : ℕ × Event) (zs : List (ℕ × Event)) → p x ≡ true → filter p zs ≡ zs
    → filter p (cond b (x ∷ zs) zs) ≡ cond b (x ∷ zs) zs
keeps_head p true x zs px h = ap (λ (b : Bool). cond b (x ∷ filter p zs) (filter p zs)) px ∙ ap (λ (ys : List (ℕ × Event)). x ∷ ys) h
keeps_head p false x zs px h = h

drops_head : (p : ℕ × Event → Bool) (b : Bool) (x : ℕ × Event) (zs : List (ℕ × Event)) → p x ≡ false → filter p zs ≡ []
    → filter p (cond b (x ∷ zs) zs) ≡ []
drops_head p true x zs px h = ap (λ (b : Bool). cond b (x ∷ filter p zs) (filter p zs)) px ∙ h
drops_head p false x zs px h = h

pub keeps_run : (p t : ℕ × Event → Bool) (n : ℕ) (xs : List Event)
    → ((id : ℕ) (x : Event) → n ≤ id → id < n + length xs → p (id, x) ≡ true)
    → filter p (filter t (numbered n xs)) ≡ filter t (numbered n xs)
keeps_run p t n [] all = refl
keeps_run p t n (x ∷ xs) all =
    keeps_head p (t (n, x)) (n, x) (filter t (numbered (n + 1) xs)) (all n x (omega arith) (omega arith))
    (keeps_run p t (n + 1) xs (λ id y low high. all id y (omega arith) (omega arith)))

pub drops_run : (p t : ℕ × Event → Bool) (n : ℕ) (xs : List Event)
    → ((id : ℕ) (x : Event) → n ≤ id → id < n + length xs → p (id, x) ≡ false)
    → filter p (filter t (numbered n xs)) ≡ []
drops_run p t n [] none = refl
drops_run p t n (x ∷ xs) none =
    drops_head p (t (n, x)) (n, x) (filter t (numbered (n + 1) xs)) (none n x (omega arith) (omega arith))
    (drops_run p t (n + 1) xs (λ id y low high. none id y (omega arith) (omega arith)))

run_length : (from to : ℕ) (xs : List Event) → from ≤ to → from + length (drop from (take to xs)) ≤ to
run_length from to xs h = omega (arith, length-drop from (take to xs), length-take to xs)

-- an answer over a range below an id has only ids below it
pub chosen_below : (test : Event → Bool) (id from to : ℕ) (xs : List Event) → from ≤ to → to ≤ id → filter (is_below id) (chosen test from to xs) ≡ chosen test from to xs
chosen_below test id from to xs h k =
    keeps_run (is_below id) (λ x. test x.1) from (drop from (take to xs))
    (λ i x low high. lt_true i id (omega (arith, run_length from to xs h)))

pub chosen_not_above : (test : Event → Bool) (id from to : ℕ) (xs : List Event) → from ≤ to → to ≤ id → filter (λ x. not (is_below id x)) (chosen test from to xs) ≡ []
chosen_not_above test id from to xs h k =
    drops_run (λ x. not (is_below id x)) (λ x. test x.1) from (drop from (take to xs))
    (λ i x low high. ap not (lt_true i id (omega (arith, run_length from to xs h))))

-- an answer over a range from an id on has no id below it
pub chosen_not_below : (test : Event → Bool) (id from to : ℕ) (xs : List Event) → id ≤ from → filter (is_below id) (chosen test from to xs) ≡ []
chosen_not_below test id from to xs h =
    drops_run (is_below id) (λ x. test x.1) from (drop from (take to xs)) (λ i x low high. lt_false i id (omega arith))

pub chosen_above : (test : Event → Bool) (id from to : ℕ) (xs : List Event) → id ≤ from → filter (λ x. not (is_below id x)) (chosen test from to xs) ≡ chosen test from to xs
chosen_above test id from to xs h =
    keeps_run (λ x. not (is_below id x)) (λ x. test x.1) from (drop from (take to xs)) (λ i x low high. ap not (lt_false i id (omega arith)))
