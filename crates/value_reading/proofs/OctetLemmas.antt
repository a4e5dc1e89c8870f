-- A dotted number read from left to right is the number of its pieces.
use Rattle.std.proofs.Common.{◌≡◌, ℕ, zero, suc, ◌+◌, ◌-◌, ◌*◌, ◌<◌, Bool, true, false, if◌then◌else◌, nat_le, List, [], ◌∷◌, Option, None, Some, length, drop, get_or, refl, ap, sym, ◌∙◌, arith}
use Rattle.std.proofs.lemmas.Bool.Decides.{nat_tests}
use Rattle.std.specs.List.{before_first, slice_split}
use Rattle.std.specs.Option.{option_map, option_and_then}
use Rattle.value_reading.specs.Numbers.{is_digit, is_point, number_behind, number_of, if_at_most}
use Rattle.value_reading.specs.Addresses.{short_number, octets, dotted_of}
use Rattle.value_reading.specs.Places.{octet_behind, octet_at, octet_and_point, behind_one, at_end, last_octet, dotted_at}
use Rattle.value_reading.proofs.CutLemmas.{from_first, other_pieces, before-yes, before-no, from-yes, from-no, split_first}

abbrev Place : Type 0
Place = Option (ℕ × List ℕ)

abbrev with_rest : List ℕ → ℕ → ℕ × List ℕ
with_rest rest number = (number, rest)

abbrev ended_at : ℕ → ℕ × List ℕ → Option ℕ
ended_at n x = at_end (n * 256 + x.0) x.1

abbrev and_point : ℕ → ℕ × List ℕ → Place
and_point n x = option_map (λ rest. (n * 256 + x.0, rest)) (behind_one x.1)

abbrev taken : ℕ → ℕ → List ℕ → List ℕ → Place
taken more n piece rest =
    if nat_le (length piece) more then option_map (with_rest rest) (option_and_then (if_at_most 255) (number_behind n piece)) else None

abbrev ended : ℕ → List ℕ → Place
ended n rest = option_map (with_rest rest) (if_at_most 255 n)

taken-nil : (more n : ℕ) (rest : List ℕ) → taken more n [] rest ≡ ended n rest
taken-nil more n rest = grind (arith, nat_tests)

taken-digit : (more n b : ℕ) (piece rest : List ℕ) → is_digit b ≡ true → taken (suc more) n (b ∷ piece) rest ≡ taken more (n * 10 + (b - 48)) piece rest
taken-digit more n b piece rest digit =
    let few : nat_le (length (b ∷ piece)) (suc more) ≡ nat_le (length piece) more = grind (arith, nat_tests) in
    let number : number_behind n (b ∷ piece) ≡ number_behind (n * 10 + (b - 48)) piece = rw digit refl in
    cc

taken-other : (more n b : ℕ) (piece rest : List ℕ) → is_digit b ≡ false → taken more n (b ∷ piece) rest ≡ None
taken-other more n b piece rest digit =
    let number : number_behind n (b ∷ piece) ≡ None = rw digit refl in
    elim (nat_le (length (b ∷ piece)) more) as (λ few. (if few then option_map (with_rest rest) (option_and_then (if_at_most 255) (number_behind n (b ∷ piece))) else None) ≡ None) [
      | true ↦ ap (λ o. option_map (with_rest rest) (option_and_then (if_at_most 255) o)) number
      | false ↦ refl
    ]

taken-none : (n b : ℕ) (piece rest : List ℕ) → taken 0 n (b ∷ piece) rest ≡ None
taken-none n b piece rest = let few : nat_le (length (b ∷ piece)) 0 ≡ false = grind (arith, nat_tests) in rw few refl

no_point : (b : ℕ) → is_digit b ≡ true → is_point b ≡ false
no_point b digit = grind (arith, nat_tests)

-- the end, or a point
pub octet_behind-nil : (more n : ℕ) (text : List ℕ) → length text < 1 → octet_behind more n text ≡ option_map (with_rest text) (if_at_most 255 n)
octet_behind-nil more n [] empty = taken-nil more n []
octet_behind-nil more n (b ∷ bs) empty = absurd (omega arith)

pub octet_behind-point : (more n : ℕ) (text : List ℕ) → 0 < length text → get_or text 0 0 ≡ 46 → octet_behind more n text ≡ option_map (with_rest text) (if_at_most 255 n)
octet_behind-point more n [] some point = absurd (omega arith)
octet_behind-point more n (b ∷ bs) some point =
    let hit : is_point b ≡ true = grind (arith, nat_tests) in
    ap (λ xs. taken more n xs (from_first is_point (b ∷ bs))) (before-yes is_point b bs hit)
    ∙ taken-nil more n (from_first is_point (b ∷ bs))
    ∙ ap (ended n) (from-yes is_point b bs hit)

octet_behind-cons : (more n b : ℕ) (bs : List ℕ) → is_point b ≡ false → octet_behind more n (b ∷ bs) ≡ taken more n (b ∷ before_first is_point bs) (from_first is_point bs)
octet_behind-cons more n b bs miss =
    ap (λ xs. taken more n xs (from_first is_point (b ∷ bs))) (before-no is_point b bs miss)
    ∙ ap (taken more n (b ∷ before_first is_point bs)) (from-no is_point b bs miss)

pub octet_behind-digit : (more n : ℕ) (text : List ℕ) → 0 < length text → is_digit (get_or text 0 0) ≡ true → octet_behind (more + 1) n text ≡ octet_behind more (n * 10 + (get_or text 0 0 - 48)) (drop 1 text)
octet_behind-digit more n [] some digit = absurd (omega arith)
octet_behind-digit more n (b ∷ bs) some digit =
    ap (λ m. octet_behind m n (b ∷ bs)) (omega arith)
    ∙ octet_behind-cons (suc more) n b bs (no_point b digit)
    ∙ taken-digit more n b (before_first is_point bs) (from_first is_point bs) digit

-- neither a digit nor a point
other_none : (more n b : ℕ) (bs : List ℕ) → is_point b ≡ false → is_digit b ≡ false → octet_behind more n (b ∷ bs) ≡ None
other_none more n b bs point digit =
    octet_behind-cons more n b bs point ∙ taken-other more n b (before_first is_point bs) (from_first is_point bs) digit

-- miss more digits are left
pub octet_behind-none : (n : ℕ) (text : List ℕ) → 0 < length text → is_point (get_or text 0 0) ≡ false → octet_behind 0 n text ≡ None
octet_behind-none n [] some point = absurd (omega arith)
octet_behind-none n (b ∷ bs) some point =
    octet_behind-cons 0 n b bs point ∙ taken-none n b (before_first is_point bs) (from_first is_point bs)

ends_by : (more n b : ℕ) (bs : List ℕ) (point : Bool) → is_point b ≡ point → is_digit b ≡ false → octet_behind more n (b ∷ bs) ≡ octet_behind 0 n (b ∷ bs)
ends_by more n b bs true point digit =
    let here : get_or (b ∷ bs) 0 0 ≡ 46 = grind (arith, nat_tests) in
    octet_behind-point more n (b ∷ bs) (omega arith) here ∙ sym (octet_behind-point 0 n (b ∷ bs) (omega arith) here)
ends_by more n b bs false point digit = other_none more n b bs point digit ∙ sym (other_none 0 n b bs point digit)

-- where miss digit follows, more digits change nothing
pub octet_behind-ends : (more n : ℕ) (text : List ℕ) → (0 < length text → is_digit (get_or text 0 0) ≡ false) → octet_behind more n text ≡ octet_behind 0 n text
octet_behind-ends more n [] digit = taken-nil more n [] ∙ sym (taken-nil 0 n [])
octet_behind-ends more n (b ∷ bs) digit = ends_by more n b bs (is_point b) refl (digit (omega arith))

-- a number that begins with a digit
begins : (b : ℕ) (piece rest : List ℕ) → is_digit b ≡ true → option_map (with_rest rest) (short_number 255 (b ∷ piece)) ≡ taken 2 (b - 48) piece rest
begins b piece rest digit =
    let few : nat_le (length (b ∷ piece)) 3 ≡ nat_le (length piece) 2 = grind (arith, nat_tests) in
    let first : 0 * 10 + (b - 48) ≡ b - 48 = omega arith in
    let number : number_of (b ∷ piece) ≡ number_behind (0 * 10 + (b - 48)) piece = rw digit refl in
    let number' : number_of (b ∷ piece) ≡ number_behind (b - 48) piece = number ∙ ap (λ m. number_behind m piece) first in
    elim (nat_le (length piece) 2) as (λ t. nat_le (length (b ∷ piece)) 3 ≡ t → option_map (with_rest rest) (short_number 255 (b ∷ piece)) ≡ (if t then option_map (with_rest rest) (option_and_then (if_at_most 255) (number_behind (b - 48) piece)) else None)) [
      | true ↦ λ e. rw e (ap (λ o. option_map (with_rest rest) (option_and_then (if_at_most 255) o)) number')
      | false ↦ λ e. rw e refl
    ] few

pub octet_at-digit : (text : List ℕ) → 0 < length text → is_digit (get_or text 0 0) ≡ true → octet_at text ≡ octet_behind 2 (get_or text 0 0 - 48) (drop 1 text)
octet_at-digit [] some digit = absurd (omega arith)
octet_at-digit (b ∷ bs) some digit =
    ap (λ xs. option_map (with_rest (from_first is_point (b ∷ bs))) (short_number 255 xs)) (before-no is_point b bs (no_point b digit))
    ∙ ap (λ xs. option_map (with_rest xs) (short_number 255 (b ∷ before_first is_point bs))) (from-no is_point b bs (no_point b digit))
    ∙ begins b (before_first is_point bs) (from_first is_point bs) digit

nothing : (b : ℕ) (piece rest : List ℕ) → is_digit b ≡ false → option_map (with_rest rest) (short_number 255 (b ∷ piece)) ≡ None
nothing b piece rest digit =
    let number : number_of (b ∷ piece) ≡ None = rw digit refl in
    elim (nat_le (length (b ∷ piece)) 3) as (λ t. option_map (with_rest rest) (if t then option_and_then (if_at_most 255) (number_of (b ∷ piece)) else None) ≡ None) [
      | true ↦ ap (λ o. option_map (with_rest rest) (option_and_then (if_at_most 255) o)) number
      | false ↦ refl
    ]

other_octet : (b : ℕ) (bs : List ℕ) (point : Bool) → is_point b ≡ point → is_digit b ≡ false → octet_at (b ∷ bs) ≡ None
other_octet b bs true point digit =
    ap (λ xs. option_map (with_rest (from_first is_point (b ∷ bs))) (short_number 255 xs)) (before-yes is_point b bs point)
other_octet b bs false point digit =
    ap (λ xs. option_map (with_rest (from_first is_point (b ∷ bs))) (short_number 255 xs)) (before-no is_point b bs point)
    ∙ nothing b (before_first is_point bs) (from_first is_point (b ∷ bs)) digit

pub octet_at-none : (text : List ℕ) → (0 < length text → is_digit (get_or text 0 0) ≡ false) → octet_at text ≡ None
octet_at-none [] digit = refl
octet_at-none (b ∷ bs) digit = other_octet b bs (is_point b) refl (digit (omega arith))

-- Four numbers with points between them, of which the first so many have a point behind them.

abbrev octets_behind : ℕ → ℕ → List (List ℕ) → Option ℕ
octets_behind zero n [] = None
octets_behind zero n (p ∷ []) = option_map (λ a. n * 256 + a) (short_number 255 p)
octets_behind zero n (p ∷ (q ∷ ps)) = None
octets_behind (suc k) n [] = None
octets_behind (suc k) n (p ∷ ps) = option_and_then (λ a. octets_behind k (n * 256 + a) ps) (short_number 255 p)

none_then : (o : Option ℕ) → option_and_then {T = ℕ} {U = ℕ} (λ a. None) o ≡ None
none_then None = refl
none_then (Some a) = refl

two_pieces : (p : ℕ → Bool) (text : List ℕ) → (b : ℕ) (bs : List ℕ) → from_first p text ≡ b ∷ bs → slice_split p text ≡ before_first p text ∷ (before_first p bs ∷ other_pieces p (from_first p bs))
two_pieces p text b bs e = split_first p text ∙ ap (λ xs. before_first p text ∷ other_pieces p xs) e ∙ ap (λ xs. before_first p text ∷ xs) (split_first p bs)

abbrev octets_of_rest : ℕ → ℕ × List ℕ → Option ℕ
octets_of_rest k x = octets_behind k x.0 (slice_split is_point x.1)

nothing_left : (k n : ℕ) → octets_behind k n [] ≡ None
nothing_left zero n = refl
nothing_left (suc k) n = refl

last_map : (n : ℕ) (o : Option ℕ) → option_map (λ a. n * 256 + a) o ≡ option_and_then (ended_at n) (option_map (with_rest []) o)
last_map n None = refl
last_map n (Some a) = refl

last_none : (n b : ℕ) (bs : List ℕ) (o : Option ℕ) → option_and_then (ended_at n) (option_map (with_rest (b ∷ bs)) o) ≡ None
last_none n b bs None = refl
last_none n b bs (Some a) = refl

step_by : (n k : ℕ) (piece rest : List ℕ) (o : Option ℕ)
    → option_and_then (λ a. octets_behind k (n * 256 + a) (other_pieces is_point rest)) o
    ≡ option_and_then (octets_of_rest k) (option_and_then (and_point n) (option_map (with_rest rest) o))
step_by n k piece rest None = refl
step_by n k piece [] (Some a) = nothing_left k (n * 256 + a)
step_by n k piece (b ∷ bs) (Some a) = refl

step : (n k : ℕ) (text : List ℕ) → octets_behind (suc k) n (slice_split is_point text) ≡ option_and_then (octets_of_rest k) (octet_and_point n text)
step n k text =
    ap (octets_behind (suc k) n) (split_first is_point text)
    ∙ step_by n k (before_first is_point text) (from_first is_point text) (short_number 255 (before_first is_point text))

last_by : (n : ℕ) (piece rest : List ℕ) (o : Option ℕ) → short_number 255 piece ≡ o
    → octets_behind 0 n (piece ∷ other_pieces is_point rest) ≡ option_and_then (ended_at n) (option_map (with_rest rest) o)
last_by n piece [] o e = ap (option_map (λ a. n * 256 + a)) e ∙ last_map n o
last_by n piece (b ∷ bs) o e = ap (λ xs. octets_behind 0 n (piece ∷ xs)) (split_first is_point bs) ∙ sym (last_none n b bs o)

last : (n : ℕ) (text : List ℕ) → octets_behind 0 n (slice_split is_point text) ≡ last_octet n text
last n text =
    ap (octets_behind 0 n) (split_first is_point text)
    ∙ last_by n (before_first is_point text) (from_first is_point text) (short_number 255 (before_first is_point text)) refl

then_same : {X : Type 0} (f g : X → Option ℕ) → ((x : X) → f x ≡ g x) → (o : Option X) → option_and_then f o ≡ option_and_then g o
then_same f g e None = refl
then_same f g e (Some x) = e x

then_none : {X : Type 0} (f : X → Option ℕ) → ((x : X) → f x ≡ None) → (o : Option X) → option_and_then f o ≡ None
then_none f e None = refl
then_none f e (Some x) = e x

four : (pieces : List (List ℕ)) → octets pieces ≡ octets_behind 3 0 pieces
four [] = refl
four (a ∷ []) = sym (then_none _ (λ x. refl) (short_number 255 a))
four (a ∷ (b ∷ [])) = sym (then_none _ (λ x. then_none _ (λ y. refl) (short_number 255 b)) (short_number 255 a))
four (a ∷ (b ∷ (c ∷ []))) = sym (then_none _ (λ x. then_none _ (λ y. then_none _ (λ z. refl) (short_number 255 c)) (short_number 255 b)) (short_number 255 a))
four (a ∷ (b ∷ (c ∷ (d ∷ [])))) =
    then_same _ _
    (λ x. let e : x ≡ 0 * 256 + x = omega arith in
    ap (λ n. option_and_then (λ y. option_and_then (λ z. option_map (λ w. ((n * 256 + y) * 256 + z) * 256 + w) (short_number 255 d)) (short_number 255 c)) (short_number 255 b)) e)
    (short_number 255 a)
four (a ∷ (b ∷ (c ∷ (d ∷ (e ∷ more))))) =
    sym (then_none _ (λ x. then_none _ (λ y. then_none _ (λ z. refl) (short_number 255 c)) (short_number 255 b)) (short_number 255 a))

pub dotted_at-is : (text : List ℕ) → dotted_at text ≡ dotted_of text
dotted_at-is text =
    sym (four (slice_split is_point text)
    ∙ step 0 2 text
    ∙ then_same _ _ (λ a. step a.0 1 a.1 ∙ then_same _ _ (λ b. step b.0 0 b.1 ∙ then_same _ _ (λ c. last c.0 c.1) (octet_and_point b.0 b.1)) (octet_and_point a.0 a.1)) (octet_and_point 0 text))

pub ruleset whole = dotted_at-is

pub ruleset ending = (octet_behind-nil, octet_behind-point, octet_behind-none)

pub ruleset stepping = (octet_behind-digit, octet_behind-ends)

pub ruleset beginning = (octet_at-digit, octet_at-none)
