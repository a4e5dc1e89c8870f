-- Where a needle occurs in a text, and addresses that agree in no bit.
use Rattle.std.proofs.Common.{◌≡◌, ℕ, zero, suc, ◌+◌, ◌-◌, ◌/◌, ◌^◌, ◌<◌, ◌≤◌, ◌==◌, Bool, true, false, ◌||◌, List, [], ◌∷◌, ◌++◌, None, Some, length, take, drop, inl, inr, refl, ap, sym, ◌∙◌, arith, ⊎_elim}
use Rattle.std.proofs.lemmas.Bool.{cases_Bool, eq-eqb}
use Rattle.std.proofs.lemmas.List.{length-take, take-append-drop, take_at}
use Rattle.std.proofs.lemmas.Slice.Eq.{bytes_eq-Decides}
use Rattle.std.proofs.Math.Bool.{or-true}
use Rattle.std.proofs.Math.Nat.{div-eq_of_lt}
use Rattle.memchr.specs.Find.{OccursAt, FindsNeedle}
use Rattle.memchr.proofs.lemmas.MatchLemmas.{OccursAt-part, OccursAt-from_part}
use Rattle.query_meaning.specs.Relations.{stands_first, has_text}
use Rattle.query_meaning.specs.Laws.{Occurs}

first_is : (needle text : List ℕ) → take (length needle) text ≡ needle → stands_first needle text ≡ true
first_is needle text e = (bytes_eq-Decides needle (take (length needle) text)).1 (sym e)

is_first : (needle text : List ℕ) → stands_first needle text ≡ true → OccursAt text needle 0
is_first needle text e =
    let same : needle ≡ take (length needle) text = (bytes_eq-Decides needle (take (length needle) text)).0 e in
    let long : length needle ≤ length text = omega (arith, ap length same, length-take (length needle) text) in
    OccursAt-from_part text needle 0 (omega arith) (sym same)

-- what occurs behind the first byte occurs in the rest
occurs_behind : (needle : List ℕ) (b : ℕ) (bs : List ℕ) (k : ℕ) → OccursAt (b ∷ bs) needle (suc k) → OccursAt bs needle k
occurs_behind needle b bs k h =
    let fits : suc k + length needle ≤ length (b ∷ bs) = h.fits in
    OccursAt-from_part bs needle k (omega (arith, fits)) (OccursAt-part (b ∷ bs) needle (suc k) h)

occurs_later : (needle : List ℕ) (b : ℕ) (bs : List ℕ) (k : ℕ) → OccursAt bs needle k → OccursAt (b ∷ bs) needle (suc k)
occurs_later needle b bs k h =
    let fits : k + length needle ≤ length bs = h.fits in
    OccursAt-from_part (b ∷ bs) needle (suc k) (omega (arith, fits)) (OccursAt-part bs needle k h)

has_from : (needle text : List ℕ) (k : ℕ) → OccursAt text needle k → has_text needle text ≡ true
has_from [] [] k h = refl
has_from (x ∷ xs) [] k h = let fits : k + length (x ∷ xs) ≤ length {A = ℕ} [] = h.fits in absurd (omega (arith, fits))
has_from needle (b ∷ bs) zero h =
    ap (λ (t : Bool). t || has_text needle bs) (first_is needle (b ∷ bs) (OccursAt-part (b ∷ bs) needle 0 h))
has_from needle (b ∷ bs) (suc k) h =
    ap (λ (t : Bool). stands_first needle (b ∷ bs) || t) (has_from needle bs k (occurs_behind needle b bs k h))
    ∙ or-true (stands_first needle (b ∷ bs))

has_nowhere : (needle text : List ℕ) → ((k : ℕ) → k < length text + 1 → ¬ OccursAt text needle k) → has_text needle text ≡ false
has_nowhere [] [] none = absurd (none 0 (omega arith) (is_first [] [] refl))
has_nowhere (x ∷ xs) [] none = refl
has_nowhere needle (b ∷ bs) none =
    let first : stands_first needle (b ∷ bs) ≡ false =
    ⊎_elim (λ yes. absurd (none 0 (omega arith) (is_first needle (b ∷ bs) yes))) (λ is. is) (cases_Bool (stands_first needle (b ∷ bs))) in
    let rest : has_text needle bs ≡ false =
    has_nowhere needle bs (λ k l h. none (suc k) (omega (arith, l)) (occurs_later needle b bs k h)) in
    ap (λ (t : Bool). t || has_text needle bs) first ∙ rest

-- a text has a needle where a search finds a place
pub has_found : (needle text : List ℕ) (k : ℕ) → FindsNeedle text needle 0 (Some k) → true ≡ has_text needle text
has_found needle text k finds = sym (has_from needle text k finds.1)

pub has_not_found : (needle text : List ℕ) → FindsNeedle text needle 0 None → false ≡ has_text needle text
has_not_found needle text nowhere = sym (has_nowhere needle text (λ k l h. nowhere k (omega arith) l h))

-- two addresses agree in their first 0 bits
pub agree_in_none : (a b bits : ℕ) → bits ≡ 0 → a < 2 ^ 128 → b < 2 ^ 128 → true ≡ (a / 2 ^ (128 - bits) == b / 2 ^ (128 - bits))
agree_in_none a b bits none small_a small_b =
    let power : 2 ^ (128 - bits) ≡ 2 ^ 128 = ap (λ (n : ℕ). 2 ^ (128 - n)) none in
    let first : a / 2 ^ (128 - bits) ≡ 0 = ap (λ (p : ℕ). a / p) power ∙ div-eq_of_lt small_a in
    let second : b / 2 ^ (128 - bits) ≡ 0 = ap (λ (p : ℕ). b / p) power ∙ div-eq_of_lt small_b in
    sym (eq-eqb (a / 2 ^ (128 - bits)) (b / 2 ^ (128 - bits)) (first ∙ sym second))

-- where the needle stands first, the text is the needle and what is behind it
first_split : (needle text : List ℕ) → stands_first needle text ≡ true → text ≡ needle ++ drop (length needle) text
first_split needle text e =
    let same : needle ≡ take (length needle) text = (bytes_eq-Decides needle (take (length needle) text)).0 e in
    sym (take-append-drop (length needle) text) ∙ ap (λ (front : List ℕ). front ++ drop (length needle) text) (sym same)

occurs_first : (needle text : List ℕ) → stands_first needle text ≡ true → Occurs needle text
occurs_first needle text e = record { front = []; back = drop (length needle) text; is = first_split needle text e }

occurs_behind_first : (needle : List ℕ) (b : ℕ) (bs : List ℕ) → Occurs needle bs → Occurs needle (b ∷ bs)
occurs_behind_first needle b bs o = record { front = b ∷ o.front; back = o.back; is = ap (λ (rest : List ℕ). b ∷ rest) o.is }

empty_occurs : (needle : List ℕ) → has_text needle [] ≡ true → Occurs needle []
empty_occurs [] h = record { front = []; back = []; is = refl }
empty_occurs (x ∷ xs) h = absurd cc

pub has_occurs : (needle text : List ℕ) → has_text needle text ≡ true → Occurs needle text
has_occurs needle [] h = empty_occurs needle h
has_occurs needle (b ∷ bs) h = elim (cases_Bool (stands_first needle (b ∷ bs))) [
  | inl here ↦ occurs_first needle (b ∷ bs) here
  | inr later ↦ occurs_behind_first needle b bs (has_occurs needle bs (rw later at h))
]

starts_first : (needle back : List ℕ) → stands_first needle (needle ++ back) ≡ true
starts_first needle back = first_is needle (needle ++ back) (take_at needle back (length needle) refl)

has_at : (front needle back : List ℕ) → has_text needle (front ++ (needle ++ back)) ≡ true
has_at [] [] [] = refl
has_at [] [] (b ∷ bs) = refl
has_at [] (x ∷ xs) back = ap (λ (t : Bool). t || has_text (x ∷ xs) (xs ++ back)) (starts_first (x ∷ xs) back)
has_at (b ∷ bs) needle back =
    ap (λ (t : Bool). stands_first needle (b ∷ (bs ++ (needle ++ back))) || t) (has_at bs needle back) ∙ or-true (stands_first needle (b ∷ (bs ++ (needle ++ back))))

pub occurs_has : (needle text : List ℕ) → Occurs needle text → has_text needle text ≡ true
occurs_has needle text o = ap (has_text needle) o.is ∙ has_at o.front needle o.back
