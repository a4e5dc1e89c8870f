-- The gap of an address: two colons.
use Rattle.std.proofs.Common.{◌≡◌, ℕ, zero, suc, ◌+◌, ◌-◌, ◌*◌, ◌<◌, ◌≤◌, Bool, true, false, if◌then◌else◌, nat_le, List, [], ◌∷◌, ◌++◌, Option, None, Some, length, take, drop, get_or, replicate, refl, ap, sym, ◌∙◌, subst, arith, ◌&&◌}
use Rattle.std.proofs.lemmas.Bool.Decides.{nat_tests}
use Rattle.std.proofs.lemmas.List.{drop_all, length-replicate}
use Rattle.std.specs.List.{fold}
use Rattle.std.proofs.lemmas.List.Sums.{fold-append}
use Rattle.std.specs.Option.{option_map, option_and_then}
use Rattle.value_reading.specs.Addresses.{is_colon, around_gap, eight_groups, with_gap, number_of_groups, gapped, grouped_of}
use Rattle.value_reading.specs.Places.{groups_in, groups_behind, groups_read, if_eight, with_zeros, gap_read}

abbrev pub behind_front : List ℕ → Option (List ℕ × List ℕ) → Option (List ℕ × List ℕ)
behind_front front gap = option_map (λ p. (front ++ p.0, p.1)) gap

eight_by : (groups : List ℕ) → option_and_then if_eight (groups_behind 0 0 groups) ≡ eight_groups groups
eight_by groups =
    elim (nat_le (0 + length groups) 8) as (λ t. nat_le (0 + length groups) 8 ≡ t → option_and_then if_eight (if t then Some (number_of_groups groups, 0 + length groups) else None) ≡ eight_groups groups) [
      | true ↦ λ e. grind (arith, nat_tests)
      | false ↦ λ e. grind (arith, nat_tests)
    ] refl

pub eight_is : (groups : Option (List ℕ)) → option_and_then if_eight (groups_read 0 0 groups) ≡ option_and_then eight_groups groups
eight_is None = refl
eight_is (Some groups) = eight_by groups

abbrev put_front : ℕ → Option (List ℕ × List ℕ) → Option (List ℕ × List ℕ)
put_front x gap = option_map (λ p. (x ∷ p.0, p.1)) gap

behind_more : (x : ℕ) (xs : List ℕ) (gap : Option (List ℕ × List ℕ)) → behind_front (x ∷ xs) gap ≡ put_front x (behind_front xs gap)
behind_more x xs None = refl
behind_more x xs (Some p) = refl

behind_one : (x : ℕ) (gap : Option (List ℕ × List ℕ)) → behind_front [] (put_front x gap) ≡ behind_front (x ∷ []) gap
behind_one x None = refl
behind_one x (Some p) = refl

pub behind_none : (gap : Option (List ℕ × List ℕ)) → gap ≡ behind_front [] gap
behind_none None = refl
behind_none (Some p) = refl

-- no gap here
step_on : (text : List ℕ) (i : ℕ) → i + 1 < length text → (is_colon (get_or text i 0) && is_colon (get_or text (suc i) 0)) ≡ false
    → behind_front (take i text) (around_gap (drop i text)) ≡ behind_front (take (suc i) text) (around_gap (drop (suc i) text))
step_on [] i below none = absurd (omega arith)
step_on (x ∷ []) i below none = absurd (omega arith)
step_on (x ∷ (y ∷ r)) zero below none =
    let here : around_gap (x ∷ (y ∷ r)) ≡ put_front x (around_gap (y ∷ r)) = rw none refl in
    ap (behind_front []) here ∙ behind_one x (around_gap (y ∷ r))
step_on (x ∷ (y ∷ r)) (suc i) below none =
    behind_more x (take i (y ∷ r)) (around_gap (drop i (y ∷ r)))
    ∙ ap (put_front x) (step_on (y ∷ r) i (omega arith) none)
    ∙ sym (behind_more x (take (suc i) (y ∷ r)) (around_gap (drop (suc i) (y ∷ r))))

here_on : (text : List ℕ) (i : ℕ) → i + 1 < length text → (is_colon (get_or text i 0) && is_colon (get_or text (suc i) 0)) ≡ true
    → behind_front (take i text) (around_gap (drop i text)) ≡ Some (take i text, drop (suc (suc i)) text)
here_on [] i below gap = absurd (omega arith)
here_on (x ∷ []) i below gap = absurd (omega arith)
here_on (x ∷ (y ∷ r)) zero below gap =
    let here : around_gap (x ∷ (y ∷ r)) ≡ Some ([], r) = rw gap refl in
    ap (behind_front []) here
here_on (x ∷ (y ∷ r)) (suc i) below gap =
    behind_more x (take i (y ∷ r)) (around_gap (drop i (y ∷ r))) ∙ ap (put_front x) (here_on (y ∷ r) i (omega arith) gap)

end_on : (text : List ℕ) (i : ℕ) → length text ≤ i + 1 → around_gap (drop i text) ≡ None
end_on [] i past = ap around_gap (drop_all i [] (omega arith))
end_on (x ∷ []) zero past = refl
end_on (x ∷ (y ∷ r)) zero past = absurd (omega arith)
end_on (x ∷ xs) (suc i) past = end_on xs i (omega arith)

pub gap_step : (text : List ℕ) (at : ℕ) → 1 ≤ at → at < length text → (is_colon (get_or text (at - 1) 0) && is_colon (get_or text at 0)) ≡ false
    → behind_front (take (at - 1) text) (around_gap (drop (at - 1) text)) ≡ behind_front (take ((at + 1) - 1) text) (around_gap (drop ((at + 1) - 1) text))
gap_step text at some below none =
    let e : at ≡ suc (at - 1) = omega arith in
    let f : suc (at - 1) ≡ (at + 1) - 1 = omega arith in
    step_on text (at - 1) (omega arith) (subst (λ j. (is_colon (get_or text (at - 1) 0) && is_colon (get_or text j 0)) ≡ false) e none)
    ∙ ap (λ j. behind_front (take j text) (around_gap (drop j text))) f

pub gap_here : (text : List ℕ) (at : ℕ) → 1 ≤ at → at < length text → (is_colon (get_or text (at - 1) 0) && is_colon (get_or text at 0)) ≡ true
    → behind_front (take (at - 1) text) (around_gap (drop (at - 1) text)) ≡ Some (take (at - 1) text, drop (at + 1) text)
gap_here text at some below gap =
    let e : at ≡ suc (at - 1) = omega arith in
    let f : suc (suc (at - 1)) ≡ at + 1 = omega arith in
    here_on text (at - 1) (omega arith) (subst (λ j. (is_colon (get_or text (at - 1) 0) && is_colon (get_or text j 0)) ≡ true) e gap)
    ∙ ap (λ j. Some (take (at - 1) text, drop j text)) f

pub gap_none : (text : List ℕ) (at : ℕ) → length text ≤ at → 1 ≤ at → behind_front (take (at - 1) text) (around_gap (drop (at - 1) text)) ≡ None
gap_none text at past some = ap (behind_front (take (at - 1) text)) (end_on text (at - 1) (omega arith))

-- Reading both sides of a gap.

abbrev add_group : ℕ → ℕ → ℕ
add_group n g = n * 65536 + g

abbrev when_few : ℕ → ℕ → Option (ℕ × ℕ)
when_few number count = if nat_le count 8 then Some (number, count) else None

first_groups : (groups : List ℕ) → groups_behind 0 0 groups ≡ when_few (number_of_groups groups) (length groups)
first_groups groups = let e : 0 + length groups ≡ length groups = omega arith in ap (when_few (number_of_groups groups)) e

few_enough : (number count : ℕ) → count ≤ 8 → when_few number count ≡ Some (number, count)
few_enough number count few = let e : nat_le count 8 ≡ true = grind (arith, nat_tests) in rw e refl

abbrev zeros_for : List ℕ → ℕ × ℕ → ℕ × ℕ → Option ℕ
zeros_for right l r = with_zeros l r (Some right)

abbrev right_of : List ℕ → Option (ℕ × ℕ) → ℕ × ℕ → Option ℕ
right_of right o l = option_and_then (zeros_for right l) o

abbrev behind : List ℕ → ℕ × ℕ → Option (ℕ × ℕ)
behind right x = groups_behind x.0 x.1 right

abbrev first : ℕ × ℕ → ℕ
first x = x.0

too_many : (l r : List ℕ) (a b : Bool) → nat_le (length l + length r) 7 ≡ false
    → option_and_then (right_of r (if a then Some (number_of_groups r, length r) else None)) (if b then Some (number_of_groups l, length l) else None) ≡ None
too_many l r a false many = refl
too_many l r false true many = refl
too_many l r true true many = rw many refl

gap_sides : (l r : List ℕ) (few : Bool) → nat_le (length l + length r) 7 ≡ few → gap_read (Some l) (Some r) ≡ with_gap l r
gap_sides l r false many =
    ap (λ o. option_and_then (right_of r o) (groups_behind 0 0 l)) (first_groups r)
    ∙ ap (option_and_then (right_of r (when_few (number_of_groups r) (length r)))) (first_groups l)
    ∙ too_many l r (nat_le (length r) 8) (nat_le (length l) 8) many
    ∙ rw many refl
gap_sides l r true few =
    let sum : length l + length r ≤ 7 = grind (arith, nat_tests) in
    let k : ℕ = 8 - (length l + length r) in
    let zeros : List ℕ = replicate k 0 in
    let long : length zeros ≡ k = length-replicate k 0 in
    let padded : ℕ = fold add_group (number_of_groups l) zeros in
    let left : groups_behind 0 0 l ≡ Some (number_of_groups l, length l) = first_groups l ∙ few_enough (number_of_groups l) (length l) (omega arith) in
    let right : groups_behind 0 0 r ≡ Some (number_of_groups r, length r) = first_groups r ∙ few_enough (number_of_groups r) (length r) (omega arith) in
    let gap : groups_behind (number_of_groups l) (length l) zeros ≡ Some (padded, length l + length zeros) = few_enough padded (length l + length zeros) (omega arith) in
    let all : groups_behind padded (length l + length zeros) r ≡ Some (fold add_group padded r, (length l + length zeros) + length r) =
    few_enough (fold add_group padded r) ((length l + length zeros) + length r) (omega arith) in
    let joined : fold add_group padded r ≡ number_of_groups (l ++ (zeros ++ r)) =
    sym (fold-append add_group 0 l (zeros ++ r) ∙ fold-append add_group (number_of_groups l) zeros r) in
    ap (λ o. option_and_then (right_of r o) (groups_behind 0 0 l)) right
    ∙ ap (option_and_then (right_of r (Some (number_of_groups r, length r)))) left
    ∙ ap (λ (b : Bool). if b then option_map first (option_and_then (behind r) (groups_behind (number_of_groups l) (length l) zeros)) else None) few
    ∙ ap (λ o. option_map first (option_and_then (behind r) o)) gap
    ∙ ap (option_map first) all
    ∙ ap Some joined
    ∙ ap (λ (b : Bool). if b then Some (number_of_groups (l ++ (zeros ++ r))) else None) (sym few)

no_right : (o : Option (ℕ × ℕ)) → option_and_then {T = ℕ × ℕ} {U = ℕ} (λ l. None) o ≡ None
no_right None = refl
no_right (Some x) = refl

pub gap_is : (left right : Option (List ℕ)) → gap_read left right ≡ option_and_then (λ l. option_and_then (with_gap l) right) left
gap_is None right = refl
gap_is (Some l) None = no_right (groups_behind 0 0 l)
gap_is (Some l) (Some r) = gap_sides l r (nat_le (length l + length r) 7) refl

pub grouped_plain : (text : List ℕ) → around_gap text ≡ None → option_and_then if_eight (groups_read 0 0 (groups_in true text)) ≡ grouped_of text
grouped_plain text none = eight_is (groups_in true text) ∙ ap (λ o. gapped o text) (sym none)

pub grouped_gap : (text left right : List ℕ) → around_gap text ≡ Some (left, right) → gap_read (groups_in false left) (groups_in true right) ≡ grouped_of text
grouped_gap text left right gap = gap_is (groups_in false left) (groups_in true right) ∙ ap (λ o. gapped o text) (sym gap)
