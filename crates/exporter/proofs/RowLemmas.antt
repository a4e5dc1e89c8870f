-- The rows of a batch.
use Rattle.std.proofs.Common.{◌≡◌, ℕ, zero, suc, ◌+◌, ◌-◌, ◌<◌, ◌≤◌, Bool, true, false, ◌&&◌, ◌||◌, cond, List, [], ◌∷◌, ◌++◌, Some, length, filter, take, drop, refl, ap, sym, ◌∙◌, arith, min, nat_lt, nat_le, inl, inr, get_or, drop-cons}
use Rattle.std.specs.List.{slice_get, list_any}
use Rattle.std.proofs.lemmas.List.{append-nil, drop-drop, length-drop, length-take, take_all}
use Rattle.std.proofs.lemmas.List.Elements.{filter-append}
use Rattle.std.proofs.lemmas.Option.{slice_get-get_or, slice_get_within}
use Rattle.std.proofs.lemmas.Bool.Decides.{leb_tells}
use Rattle.std.proofs.Math.Seq.{take-add}
use Rattle.event_history.specs.Events.{Event, is_within, numbered}
use Rattle.event_history.proofs.AnswerLemmas.{le_false, le_true, lt_false, lt_true, numbered_append}
use Rattle.exporter.specs.Rows.{rows_between}

keeps_all : (p : ℕ × Event → Bool) (n : ℕ) (xs : List Event) → ((id : ℕ) (x : Event) → n ≤ id → id < n + length xs → p (id, x) ≡ true)
    → filter p (numbered n xs) ≡ numbered n xs
keeps_all p n [] all = refl
keeps_all p n (x ∷ xs) all =
    ap (λ (b : Bool). cond b ((n, x) ∷ filter p (numbered (n + 1) xs)) (filter p (numbered (n + 1) xs))) (all n x (omega arith) (omega arith))
    ∙ ap (λ (ys : List (ℕ × Event)). (n, x) ∷ ys) (keeps_all p (n + 1) xs (λ id y low high. all id y (omega arith) (omega arith)))

keeps_none : (p : ℕ × Event → Bool) (n : ℕ) (xs : List Event) → ((id : ℕ) (x : Event) → n ≤ id → id < n + length xs → p (id, x) ≡ false)
    → filter p (numbered n xs) ≡ []
keeps_none p n [] none = refl
keeps_none p n (x ∷ xs) none =
    ap (λ (b : Bool). cond b ((n, x) ∷ filter p (numbered (n + 1) xs)) (filter p (numbered (n + 1) xs))) (none n x (omega arith) (omega arith))
    ∙ keeps_none p (n + 1) xs (λ id y low high. none id y (omega arith) (omega arith))

and_false : (b : Bool) → (b && false) ≡ false
and_false true = refl
and_false false = refl

inside : (from to id : ℕ) (x : Event) → from ≤ id → id < to → is_within from to (id, x) ≡ true
inside from to id x h k = ap (λ (b : Bool). b && nat_lt id to) (le_true from id h) ∙ lt_true id to k

outside : (from to id : ℕ) (x : Event) → (from ≤ id → id < to → ⊥) → is_within from to (id, x) ≡ false
outside from to id x out =
    elim (leb_tells from id) as (λ _. is_within from to (id, x) ≡ false) [
      | inl h ↦ elim (leb_tells to id) as (λ _. is_within from to (id, x) ≡ false) [
        | inl k ↦ ap (λ (b : Bool). nat_le from id && b) (lt_false id to k.1) ∙ and_false (nat_le from id)
        | inr k ↦ absurd (out h.1 k.1)
      ]
      | inr h ↦ ap (λ (b : Bool). b && nat_lt id to) (le_false from id h.1)
    ]

-- Rows up to one place, and from there on.
pub rows_split : (first low mid high : ℕ) (xs : List Event) → low ≤ mid → mid ≤ high → mid ≤ length xs
    → rows_between first low high xs ≡ rows_between first low mid xs ++ rows_between first mid high xs
rows_split first low mid high xs h k l =
    let all : high - low ≡ (mid - low) + (high - mid) = omega (arith, h, k) in
    let front : List Event = take (mid - low) (drop low xs) in
    let place : low + (mid - low) ≡ mid = omega (arith, h) in
    let long : first + low + length front ≡ first + mid = omega (arith, h, l, length-take (mid - low) (drop low xs), length-drop low xs) in
    ap (λ (n : ℕ). numbered (first + low) (take n (drop low xs))) all
    ∙ ap (λ (ys : List Event). numbered (first + low) ys) (take-add (mid - low) (high - mid) (drop low xs))
    ∙ numbered_append (first + low) front (take (high - mid) (drop (mid - low) (drop low xs)))
    ∙ ap (λ (ys : List Event). numbered (first + low) front ++ numbered (first + low + length front) (take (high - mid) ys)) (drop-drop (mid - low) low xs)
    ∙ ap (λ (n : ℕ). numbered (first + low) front ++ numbered (first + low + length front) (take (high - mid) (drop n xs))) place
    ∙ ap (λ (n : ℕ). numbered (first + low) front ++ numbered n (take (high - mid) (drop mid xs))) long

pub no_rows : (first low high : ℕ) (xs : List Event) → high ≤ low → rows_between first low high xs ≡ []
no_rows first low high xs h =
    let none : high - low ≡ 0 = omega (arith, h) in
    ap (λ (n : ℕ). numbered (first + low) (take n (drop low xs))) none

pub one_row : (first place : ℕ) (e : Event) (xs : List Event) → place < length xs → get_or xs place e ≡ e
    → rows_between first place (place + 1) xs ≡ (first + place, e) ∷ []
one_row first place e xs h is =
    let one : place + 1 - place ≡ 1 = omega arith in
    ap (λ (n : ℕ). numbered (first + place) (take n (drop place xs))) one
    ∙ ap (λ (ys : List Event). numbered (first + place) (take 1 ys)) (drop-cons xs place e h)
    ∙ ap (λ (x : Event). (first + place, x) ∷ []) is

-- The events of a range are the rows between two places.
pub range_rows : (from to first low high : ℕ) (xs : List Event) → high ≡ min (to - first) (length xs) → low ≡ min (from - first) high
    → filter (is_within from to) (numbered first xs) ≡ rows_between first low high xs
range_rows from to first low high xs upper lower =
    let order : low ≤ high = omega (arith, lower) in
    let within : high ≤ length xs = omega (arith, upper) in
    let whole : numbered first xs ≡ rows_between first 0 (length xs) xs =
    ap (λ (ys : List Event). numbered first ys) (sym (take_all (length xs) xs (omega arith)))
    ∙ (let zeroth : first ≡ first + 0 = omega arith in ap (λ (n : ℕ). numbered n (take (length xs) xs)) zeroth)
    ∙ (let all : length xs ≡ length xs - 0 = omega arith in ap (λ (n : ℕ). numbered (first + 0) (take n xs)) all) in
    let cut : rows_between first 0 (length xs) xs ≡ rows_between first 0 low xs ++ (rows_between first low high xs ++ rows_between first high (length xs) xs) =
    rows_split first 0 low (length xs) xs (omega arith) (omega (arith, order, within)) (omega (arith, order, within))
    ∙ ap (λ (ys : List (ℕ × Event)). rows_between first 0 low xs ++ ys) (rows_split first low high (length xs) xs order within within) in
    let front : List Event = take (low - 0) (drop 0 xs) in
    let middle : List Event = take (high - low) (drop low xs) in
    let back : List Event = take (length xs - high) (drop high xs) in
    let long_front : length front ≡ low = omega (arith, order, within, length-take (low - 0) xs) in
    let long_middle : length middle ≡ high - low = omega (arith, order, within, length-take (high - low) (drop low xs), length-drop low xs) in
    let long_back : length back ≡ length xs - high = omega (arith, within, length-take (length xs - high) (drop high xs), length-drop high xs) in
    let none : filter (is_within from to) (rows_between first 0 low xs) ≡ [] =
    keeps_none (is_within from to) (first + 0) front (λ id x a b. outside from to id x (λ h k. omega (arith, a, b, h, k, long_front, lower))) in
    let all : filter (is_within from to) (rows_between first low high xs) ≡ rows_between first low high xs =
    keeps_all (is_within from to) (first + low) middle (λ id x a b. inside from to id x (omega (arith, a, b, long_middle, lower, upper)) (omega (arith, a, b, long_middle, lower, upper))) in
    let rest : filter (is_within from to) (rows_between first high (length xs) xs) ≡ [] =
    keeps_none (is_within from to) (first + high) back (λ id x a b. outside from to id x (λ h k. omega (arith, a, b, h, k, long_back, upper))) in
    ap (λ (ys : List (ℕ × Event)). filter (is_within from to) ys) (whole ∙ cut)
    ∙ filter-append (is_within from to) (rows_between first 0 low xs) (rows_between first low high xs ++ rows_between first high (length xs) xs)
    ∙ ap (λ (ys : List (ℕ × Event)). ys ++ filter (is_within from to) (rows_between first low high xs ++ rows_between first high (length xs) xs)) none
    ∙ filter-append (is_within from to) (rows_between first low high xs) (rows_between first high (length xs) xs)
    ∙ ap (λ (ys : List (ℕ × Event)). filter (is_within from to) (rows_between first low high xs) ++ ys) rest
    ∙ append-nil (filter (is_within from to) (rows_between first low high xs))
    ∙ all

-- Tests that no row passes, and one that some row passes.
none_numbered : (test : Event → Bool) (n : ℕ) (xs : List Event) → ((k : ℕ) (e : Event) → slice_get xs k ≡ Some e → test e ≡ false)
    → filter (λ (x : ℕ × Event). test x.1) (numbered n xs) ≡ []
none_numbered test n [] none = refl
none_numbered test n (x ∷ xs) none =
    ap (λ (b : Bool). cond b ((n, x) ∷ filter (λ (y : ℕ × Event). test y.1) (numbered (n + 1) xs)) (filter (λ (y : ℕ × Event). test y.1) (numbered (n + 1) xs))) (none 0 x refl)
    ∙ none_numbered test (n + 1) xs (λ k e is. none (suc k) e is)

any_numbered : (test : Event → Bool) (n : ℕ) (xs : List Event) → ((k : ℕ) (e : Event) → slice_get xs k ≡ Some e → test e ≡ false)
    → list_any (λ (x : ℕ × Event). test x.1) (numbered n xs) ≡ false
any_numbered test n [] none = refl
any_numbered test n (x ∷ xs) none =
    ap (λ (b : Bool). b || list_any (λ (y : ℕ × Event). test y.1) (numbered (n + 1) xs)) (none 0 x refl)
    ∙ any_numbered test (n + 1) xs (λ k e is. none (suc k) e is)

got_take : (xs : List Event) (n k : ℕ) (e : Event) → slice_get (take n xs) k ≡ Some e → (k < n) × (slice_get xs k ≡ Some e)
got_take xs zero k e h = absurd cc
got_take [] (suc n) k e h = absurd cc
got_take (x ∷ xs) (suc n) zero e h = (omega arith, h)
got_take (x ∷ xs) (suc n) (suc k) e h = let rest = got_take xs n k e h in (omega (arith, rest.0), rest.1)

got_drop : (xs : List Event) (n k : ℕ) (e : Event) → slice_get (drop n xs) k ≡ Some e → slice_get xs (n + k) ≡ Some e
got_drop xs zero k e h = let same : zero + k ≡ k = omega arith in ap (λ (i : ℕ). slice_get xs i) same ∙ h
got_drop [] (suc n) k e h = absurd cc
got_drop (x ∷ xs) (suc n) k e h = let same : suc n + k ≡ suc (n + k) = omega arith in ap (λ (i : ℕ). slice_get (x ∷ xs) i) same ∙ got_drop xs n k e h

abbrev NonePass : (Event → Bool) → ℕ → ℕ → List Event → Type 0
NonePass test low high xs = (k : ℕ) (e : Event) → low ≤ k → k < high → slice_get xs k ≡ Some e → test e ≡ false

between : (test : Event → Bool) (low high : ℕ) (xs : List Event) → NonePass test low high xs
    → (k : ℕ) (e : Event) → slice_get (take (high - low) (drop low xs)) k ≡ Some e → test e ≡ false
between test low high xs none k e h =
    let got = got_take (drop low xs) (high - low) k e h in
    none (low + k) e (omega arith) (omega (arith, got.0)) (got_drop xs low k e got.1)

pub none_pass : (test : Event → Bool) (first low high : ℕ) (xs : List Event) → ((k : ℕ) (e : Event) → low ≤ k → k < high → slice_get xs k ≡ Some e → test e ≡ false)
    → filter (λ (x : ℕ × Event). test x.1) (rows_between first low high xs) ≡ []
none_pass test first low high xs none = none_numbered test (first + low) (take (high - low) (drop low xs)) (between test low high xs none)

pub none_any : (test : Event → Bool) (first low high : ℕ) (xs : List Event) → ((k : ℕ) (e : Event) → low ≤ k → k < high → slice_get xs k ≡ Some e → test e ≡ false)
    → list_any (λ (x : ℕ × Event). test x.1) (rows_between first low high xs) ≡ false
none_any test first low high xs none = any_numbered test (first + low) (take (high - low) (drop low xs)) (between test low high xs none)

head_or : (a b : Bool) → b ≡ true → (a || b) ≡ true
head_or true b h = refl
head_or false b h = h

any_append : (test : ℕ × Event → Bool) (xs ys : List (ℕ × Event)) → list_any test ys ≡ true → list_any test (xs ++ ys) ≡ true
any_append test [] ys h = h
any_append test (x ∷ xs) ys h = head_or (test x) (list_any test (xs ++ ys)) (any_append test xs ys h)

pub some_any : (test : Event → Bool) (first low at high : ℕ) (e : Event) (xs : List Event) → low ≤ at → at < high → slice_get xs at ≡ Some e → test e ≡ true
    → list_any (λ (x : ℕ × Event). test x.1) (rows_between first low high xs) ≡ true
some_any test first low at high e xs h k is pass =
    let within : at < length xs = slice_get_within xs at e is in
    let got : get_or xs at e ≡ e = (let both : Some e ≡ Some (get_or xs at e) = sym is ∙ slice_get-get_or xs at e within in cc) in
    let front : List (ℕ × Event) = rows_between first low at xs in
    let back : List (ℕ × Event) = rows_between first (at + 1) high xs in
    ap (λ (ys : List (ℕ × Event)). list_any (λ (x : ℕ × Event). test x.1) ys)
    (rows_split first low at high xs h (omega (arith, k)) (omega (arith, within))
    ∙ ap (λ (ys : List (ℕ × Event)). front ++ ys)
    (rows_split first at (at + 1) high xs (omega arith) (omega (arith, k)) (omega (arith, within))
    ∙ ap (λ (ys : List (ℕ × Event)). ys ++ back) (one_row first at e xs within got)))
    ∙ any_append (λ (x : ℕ × Event). test x.1) front ((first + at, e) ∷ back)
    (ap (λ (b : Bool). b || list_any (λ (x : ℕ × Event). test x.1) back) pass)

numbered_long : (n : ℕ) (xs : List Event) → length (numbered n xs) ≡ length xs
numbered_long n [] = refl
numbered_long n (x ∷ xs) = omega (arith, numbered_long (n + 1) xs)

pub rows_long : (first low high : ℕ) (xs : List Event) → low ≤ high → high ≤ length xs → length (rows_between first low high xs) ≡ high - low
rows_long first low high xs h k =
    omega (arith, h, k, numbered_long (first + low) (take (high - low) (drop low xs)), length-take (high - low) (drop low xs), length-drop low xs)
