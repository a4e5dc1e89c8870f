-- Lists that are dealt out, shares of them, and hands of which one gets or gives a member.
use Rattle.std.proofs.Common.{◌≡◌, ℕ, zero, suc, ◌+◌, ◌*◌, ◌/◌, ◌%◌, ◌<◌, ◌≤◌, List, [], ◌∷◌, ◌++◌, length, get_or, set, map, reverse, refl, ap, ap₂, sym, ◌∙◌, add-one, add-zero, zero-add, inl, inr, arith}
use Rattle.std.proofs.Math.Dec.{eqb}
use Rattle.std.specs.List.{All}
use Rattle.std.proofs.lemmas.Bool.{cases_eq, cond-true, cond-false, eq-eqb, ne_eqb}
use Rattle.std.proofs.lemmas.List.{append_assoc, length-append, length-set, reverse-append, get_or-set_same, get_or-set_other, get_or_default}
use Rattle.std.proofs.lemmas.List.Elements.{All-nil, All-cons, All-head, All-tail, All-same}
use Rattle.std.proofs.lemmas.Nat.{div-add-mod', mod-mul-add, mod_below}
use Rattle.round_robin.specs.Dealing.{dealt, share}

-- the next member goes to this hand
pub next_here : {X : Type 0} (n w k : ℕ) (x : X) (xs : List X) → k % n ≡ w → dealt n w k (x ∷ xs) ≡ x ∷ dealt n w (k + 1) xs
next_here n w k x xs here = cond-true (eqb (k % n) w) (x ∷ dealt n w (k + 1) xs) (dealt n w (k + 1) xs) (eq-eqb (k % n) w here)

-- the next member goes to another hand
pub next_elsewhere : {X : Type 0} (n w k : ℕ) (x : X) (xs : List X) → (k % n ≡ w → ⊥) → dealt n w k (x ∷ xs) ≡ dealt n w (k + 1) xs
next_elsewhere n w k x xs elsewhere = cond-false (eqb (k % n) w) (x ∷ dealt n w (k + 1) xs) (dealt n w (k + 1) xs) (ne_eqb (k % n) w elsewhere)

share_here : (n w k : ℕ) → k % n ≡ w → share n w (k + 1) ≡ share n w k + 1
share_here n w k here = ap (share n w) (add-one k) ∙ cond-true (eqb (k % n) w) (share n w k + 1) (share n w k) (eq-eqb (k % n) w here)

share_elsewhere : (n w k : ℕ) → (k % n ≡ w → ⊥) → share n w (k + 1) ≡ share n w k
share_elsewhere n w k elsewhere = ap (share n w) (add-one k) ∙ cond-false (eqb (k % n) w) (share n w k + 1) (share n w k) (ne_eqb (k % n) w elsewhere)

-- A share is the number of whole rounds, and one more for the hands that the last round reaches.
rounds : (n w q r : ℕ) → share n w (q * n) ≡ q → r ≤ n → (r ≤ w → share n w (q * n + r) ≡ q) × (w < r → share n w (q * n + r) ≡ q + 1)
rounds n w q zero whole l = (λ m. ap (share n w) (add-zero (q * n)) ∙ whole, λ m. absurd (omega arith))
rounds n w q (suc r) whole l =
    let ih = rounds n w q r whole (omega arith) in
    let at : (q * n + r) % n ≡ r = mod-mul-add q n r (omega arith) in
    let next : q * n + suc r ≡ q * n + r + 1 = omega arith in
    elim (cases_eq r w) [
      | inl e ↦
          let more : share n w (q * n + suc r) ≡ share n w (q * n + r) + 1 = ap (share n w) next ∙ share_here n w (q * n + r) (at ∙ e) in
          (λ m. absurd (omega arith), λ m. omega (arith, ih.0 (omega arith)))
      | inr ne ↦
          let same : share n w (q * n + suc r) ≡ share n w (q * n + r) = ap (share n w) next ∙ share_elsewhere n w (q * n + r) (λ h. ne (sym at ∙ h)) in
          (λ m. same ∙ ih.0 (omega arith), λ m. same ∙ ih.1 (omega arith))
    ]

whole_rounds : (n w q : ℕ) → w < n → share n w (q * n) ≡ q
whole_rounds n w zero l = let none : zero * n ≡ 0 = omega arith in ap (share n w) none
whole_rounds n w (suc q) l =
    let next : suc q * n ≡ q * n + n = omega arith in
    ap (share n w) next ∙ ((rounds n w q n (whole_rounds n w q l) (omega arith)).1 l ∙ omega arith)

pub share_reached : (n w count : ℕ) → w < n → w < count % n → share n w count ≡ count / n + 1
share_reached n w count l reached =
    let low : count % n < n = mod_below count n (omega arith) in
    ap (share n w) (sym (div-add-mod' count n)) ∙ (rounds n w (count / n) (count % n) (whole_rounds n w (count / n) l) (omega arith)).1 reached

pub share_passed : (n w count : ℕ) → w < n → count % n ≤ w → share n w count ≡ count / n
share_passed n w count l passed =
    let low : count % n < n = mod_below count n (omega arith) in
    ap (share n w) (sym (div-add-mod' count n)) ∙ (rounds n w (count / n) (count % n) (whole_rounds n w (count / n) l) (omega arith)).0 passed

length_dealt_from : {X : Type 0} (n w k : ℕ) (xs : List X) → length (dealt n w k xs) + share n w k ≡ share n w (k + length xs)
length_dealt_from n w k [] = zero-add (share n w k) ∙ ap (share n w) (sym (add-zero k))
length_dealt_from n w k (x ∷ xs) =
    let ih = length_dealt_from n w (k + 1) xs in
    let next : share n w (k + 1 + length xs) ≡ share n w (k + length (x ∷ xs)) = ap (share n w) (omega arith) in
    elim (cases_eq (k % n) w) [
      | inl here ↦ let long = ap length (next_here n w k x xs here) in omega (arith, share_here n w k here)
      | inr elsewhere ↦ let long = ap length (next_elsewhere n w k x xs elsewhere) in omega (arith, share_elsewhere n w k elsewhere)
    ]

-- what a hand gets is as long as its share
pub length_dealt : {X : Type 0} (n w : ℕ) (xs : List X) → length (dealt n w 0 xs) ≡ share n w (length xs)
length_dealt n w xs = sym (add-zero (length (dealt n w 0 xs))) ∙ length_dealt_from n w 0 xs ∙ ap (share n w) (zero-add (length xs))

same_from : {X : Type 0} (n : ℕ) → 0 < n → (k : ℕ) (xs ys : List X) → length xs ≡ length ys → ((w : ℕ) → w < n → dealt n w k xs ≡ dealt n w k ys) → xs ≡ ys
same_from n some k [] [] long same = refl
same_from n some k [] (y ∷ ys) long same = absurd (omega arith)
same_from n some k (x ∷ xs) [] long same = absurd (omega arith)
same_from n some k (x ∷ xs) (y ∷ ys) long same =
    let first : x ∷ dealt n (k % n) (k + 1) xs ≡ y ∷ dealt n (k % n) (k + 1) ys =
    sym (next_here n (k % n) k x xs refl) ∙ (same (k % n) (mod_below k n some) ∙ next_here n (k % n) k y ys refl) in
    let head : x ≡ y = cc in
    ap₂ (λ z zs. z ∷ zs) head (same_from n some (k + 1) xs ys (omega arith) (λ w l. elim (cases_eq (k % n) w) [
      | inl here ↦
          let both : x ∷ dealt n w (k + 1) xs ≡ y ∷ dealt n w (k + 1) ys = sym (next_here n w k x xs here) ∙ (same w l ∙ next_here n w k y ys here) in cc
      | inr elsewhere ↦ sym (next_elsewhere n w k x xs elsewhere) ∙ (same w l ∙ next_elsewhere n w k y ys elsewhere)
    ]))

-- lists of one length of which each hand gets the same are the same
pub same_hands : {X : Type 0} (n : ℕ) (xs ys : List X) → 0 < n → length xs ≡ length ys → ((w : ℕ) → w < n → dealt n w 0 xs ≡ dealt n w 0 ys) → xs ≡ ys
same_hands n xs ys some long same = same_from n some 0 xs ys long same

all_dealt_from : {X : Type 0} (P : X → Type 0) (n : ℕ) → 0 < n → (k : ℕ) (xs : List X) → ((w : ℕ) → w < n → All P (dealt n w k xs)) → All P xs
all_dealt_from P n some k [] all = All-nil P
all_dealt_from P n some k (x ∷ xs) all =
    let i : ℕ = k % n in
    let first = All-same P (x ∷ dealt n i (k + 1) xs) (dealt n i k (x ∷ xs)) (sym (next_here n i k x xs refl)) (all i (mod_below k n some)) in
    All-cons P x xs (All-head P x (dealt n i (k + 1) xs) first) (all_dealt_from P n some (k + 1) xs (λ w l. elim (cases_eq (k % n) w) [
      | inl here ↦ All-tail P x (dealt n w (k + 1) xs) (All-same P (x ∷ dealt n w (k + 1) xs) (dealt n w k (x ∷ xs)) (sym (next_here n w k x xs here)) (all w l))
      | inr elsewhere ↦ All-same P (dealt n w (k + 1) xs) (dealt n w k (x ∷ xs)) (sym (next_elsewhere n w k x xs elsewhere)) (all w l)
    ]))

-- what holds of the members of each hand holds of all members
pub all_dealt : {X : Type 0} (P : X → Type 0) (n : ℕ) (xs : List X) → 0 < n → ((w : ℕ) → w < n → All P (dealt n w 0 xs)) → All P xs
all_dealt P n xs some all = all_dealt_from P n some 0 xs all

-- what holds of all members holds of those of a hand
pub dealt_all : {X : Type 0} (P : X → Type 0) (n w k : ℕ) (xs : List X) → All P xs → All P (dealt n w k xs)
dealt_all P n w k [] all = all
dealt_all P n w k (x ∷ xs) all =
    let rest = dealt_all P n w (k + 1) xs (All-tail P x xs all) in
    elim (cases_eq (k % n) w) [
      | inl here ↦ All-same P (dealt n w k (x ∷ xs)) (x ∷ dealt n w (k + 1) xs) (next_here n w k x xs here) (All-cons P x (dealt n w (k + 1) xs) (All-head P x xs all) rest)
      | inr elsewhere ↦ All-same P (dealt n w k (x ∷ xs)) (dealt n w (k + 1) xs) (next_elsewhere n w k x xs elsewhere) rest
    ]

-- dealt before or after a function of each member
pub map_dealt : {X Y : Type 0} (f : X → Y) (n w k : ℕ) (xs : List X) → dealt n w k (map f xs) ≡ map f (dealt n w k xs)
map_dealt f n w k [] = refl
map_dealt f n w k (x ∷ xs) =
    let rest = map_dealt f n w (k + 1) xs in
    elim (cases_eq (k % n) w) [
      | inl here ↦ next_here n w k (f x) (map f xs) here ∙ (ap (λ zs. f x ∷ zs) rest ∙ sym (ap (map f) (next_here n w k x xs here)))
      | inr elsewhere ↦ next_elsewhere n w k (f x) (map f xs) elsewhere ∙ (rest ∙ sym (ap (map f) (next_elsewhere n w k x xs elsewhere)))
    ]

-- a hand that is due a member has fewer than its share
pub below_share : {X : Type 0} (n w k : ℕ) (hand : List X) (x : X) (rest all : List X) → k % n ≡ w → hand ++ dealt n w k (x ∷ rest) ≡ dealt n w 0 all → length hand < share n w (length all)
below_share n w k hand x rest all here is =
    let parts = length-append hand (dealt n w k (x ∷ rest)) in
    let long = ap length (next_here n w k x rest here) in
    let whole = ap length is in
    omega (arith, length_dealt n w all)

-- a hand that was last to get a member has one
pub some_share : (n w k more : ℕ) → more ≡ k + 1 → k % n ≡ w → 0 < share n w more
some_share n w k more next turn =
    let is : share n w more ≡ share n w k + 1 = ap (share n w) next ∙ share_here n w k turn in omega arith

-- the last of a list, as the first of the list turned round
pub reverse_last : {X : Type 0} (xs ys : List X) (y : X) → xs ≡ ys ++ y ∷ [] → reverse xs ≡ y ∷ reverse ys
reverse_last xs ys y is = ap reverse is ∙ reverse-append ys (y ∷ [])

-- hands of which one has got the next member
pub hands_given : {X V : Type 0} (held : V → List X) (hands : List V) (n i k : ℕ) (y d0 : V) (x : X) (rest : List X) (whole : ℕ → V → List X) → k % n ≡ i → i < length hands
    → held y ≡ held (get_or hands i d0) ++ x ∷ []
    → ((w : ℕ) (d : V) → w < length hands → held (get_or hands w d) ++ dealt n w k (x ∷ rest) ≡ whole w d)
    → (w : ℕ) (d : V) → w < length (set hands i y) → held (get_or (set hands i y) w d) ++ dealt n w (k + 1) rest ≡ whole w d
hands_given held hands n i k y d0 x rest whole turn within given before w d l =
    let low : w < length hands = omega (arith, length-set hands i y) in
    let hand = held (get_or hands w d) in
    elim (cases_eq w i) [
      | inl e ↦
          let at : get_or (set hands i y) w d ≡ y = ap (λ j. get_or (set hands i y) j d) e ∙ get_or-set_same hands i y d within in
          let own : held (get_or hands i d0) ≡ hand = ap held (get_or_default hands i d0 d within ∙ ap (λ j. get_or hands j d) (sym e)) in
          ap (λ v. held v ++ dealt n w (k + 1) rest) at
          ∙ (ap (λ zs. zs ++ dealt n w (k + 1) rest) (given ∙ ap (λ zs. zs ++ x ∷ []) own)
          ∙ (append_assoc hand (x ∷ []) (dealt n w (k + 1) rest)
          ∙ (ap (λ zs. hand ++ zs) (sym (next_here n w k x rest (turn ∙ sym e))) ∙ before w d low)))
      | inr ne ↦
          ap (λ v. held v ++ dealt n w (k + 1) rest) (get_or-set_other hands i w y d ne)
          ∙ (ap (λ zs. hand ++ zs) (sym (next_elsewhere n w k x rest (λ h. ne (sym h ∙ turn)))) ∙ before w d low)
    ]

-- hands of which one has given the last member back
pub hands_taken : {X V : Type 0} (held : V → List X) (hands : List V) (n i k more : ℕ) (y d0 : V) (x : X) (rest : List X) (whole : ℕ → V → List X) → more ≡ k + 1 → k % n ≡ i → i < length hands
    → held (get_or hands i d0) ≡ held y ++ x ∷ []
    → ((w : ℕ) (d : V) → w < length hands → held (get_or hands w d) ++ dealt n w more rest ≡ whole w d)
    → (w : ℕ) (d : V) → w < length (set hands i y) → held (get_or (set hands i y) w d) ++ dealt n w k (x ∷ rest) ≡ whole w d
hands_taken held hands n i k more y d0 x rest whole next turn within taken before w d l =
    let low : w < length hands = omega (arith, length-set hands i y) in
    let hand = held (get_or hands w d) in
    let was : hand ++ dealt n w (k + 1) rest ≡ whole w d = ap (λ j. hand ++ dealt n w j rest) (sym next) ∙ before w d low in
    elim (cases_eq w i) [
      | inl e ↦
          let at : get_or (set hands i y) w d ≡ y = ap (λ j. get_or (set hands i y) j d) e ∙ get_or-set_same hands i y d within in
          let own : held (get_or hands i d0) ≡ hand = ap held (get_or_default hands i d0 d within ∙ ap (λ j. get_or hands j d) (sym e)) in
          ap (λ v. held v ++ dealt n w k (x ∷ rest)) at
          ∙ (ap (λ zs. held y ++ zs) (next_here n w k x rest (turn ∙ sym e))
          ∙ (sym (append_assoc (held y) (x ∷ []) (dealt n w (k + 1) rest))
          ∙ (ap (λ zs. zs ++ dealt n w (k + 1) rest) (sym taken ∙ own) ∙ was)))
      | inr ne ↦
          ap (λ v. held v ++ dealt n w k (x ∷ rest)) (get_or-set_other hands i w y d ne)
          ∙ (ap (λ zs. hand ++ zs) (next_elsewhere n w k x rest (λ h. ne (sym h ∙ turn))) ∙ was)
    ]

-- what hands hold, of which one has given the last member back
pub shares_taken : {X V : Type 0} (held : V → List X) (hands : List V) (n i k more : ℕ) (y d0 : V) (x : X) → more ≡ k + 1 → k % n ≡ i → i < length hands
    → held (get_or hands i d0) ≡ held y ++ x ∷ []
    → ((w : ℕ) (d : V) → w < length hands → length (held (get_or hands w d)) ≡ share n w more)
    → (w : ℕ) (d : V) → w < length (set hands i y) → length (held (get_or (set hands i y) w d)) ≡ share n w k
shares_taken held hands n i k more y d0 x next turn within taken before w d l =
    let low : w < length hands = omega (arith, length-set hands i y) in
    let was : length (held (get_or hands w d)) ≡ share n w (k + 1) = before w d low ∙ ap (share n w) next in
    elim (cases_eq w i) [
      | inl e ↦
          let at : get_or (set hands i y) w d ≡ y = ap (λ j. get_or (set hands i y) j d) e ∙ get_or-set_same hands i y d within in
          let own : held (get_or hands i d0) ≡ held (get_or hands w d) = ap held (get_or_default hands i d0 d within ∙ ap (λ j. get_or hands j d) (sym e)) in
          let long : length (held (get_or hands w d)) ≡ length (held y) + 1 = ap length (sym own ∙ taken) ∙ length-append (held y) (x ∷ []) in
          ap (λ v. length (held v)) at ∙ omega (arith, share_here n w k (turn ∙ sym e))
      | inr ne ↦
          ap (λ v. length (held v)) (get_or-set_other hands i w y d ne)
          ∙ (was ∙ share_elsewhere n w k (λ h. ne (sym h ∙ turn)))
    ]

-- hands of which one is another with the same room
pub rooms_kept : {V : Type 0} (room : V → ℕ) (hands : List V) (i : ℕ) (y d0 : V) (need : ℕ → ℕ) → i < length hands → room y ≡ room (get_or hands i d0)
    → ((w : ℕ) (d : V) → w < length hands → need w ≤ room (get_or hands w d))
    → (w : ℕ) (d : V) → w < length (set hands i y) → need w ≤ room (get_or (set hands i y) w d)
rooms_kept room hands i y d0 need within same before w d l =
    let low : w < length hands = omega (arith, length-set hands i y) in
    let was = before w d low in
    elim (cases_eq w i) [
      | inl e ↦
          let at : room (get_or (set hands i y) w d) ≡ room y = ap room (ap (λ j. get_or (set hands i y) j d) e ∙ get_or-set_same hands i y d within) in
          let own : room (get_or hands i d0) ≡ room (get_or hands w d) = ap room (get_or_default hands i d0 d within ∙ ap (λ j. get_or hands j d) (sym e)) in
          omega arith
      | inr ne ↦ let at : room (get_or (set hands i y) w d) ≡ room (get_or hands w d) = ap room (get_or-set_other hands i w y d ne) in omega arith
    ]
