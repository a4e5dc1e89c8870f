-- No word has two literal forms: what a word begins with, ends with and holds tells its form.
use Rattle.std.proofs.Common.{◌≡◌, ℕ, ◌+◌, ◌-◌, ◌*◌, ◌/◌, ◌%◌, Bool, true, false, ◌&&◌, ◌||◌, cond, eqb, nat_le, List, [], ◌∷◌, ◌++◌, Option, None, Some, is_some, length, get_or, refl, ap, ◌∙◌, arith, inl, inr}
use Rattle.std.specs.Prelude.{slice_index}
use Rattle.std.specs.List.{list_all, list_any, slice_split, onto_first}
use Rattle.std.specs.Option.{option_map, option_and_then, option_or}
use Rattle.std.proofs.lemmas.Bool.{cases_Bool, ne_eqb, eqb-true}
use Rattle.std.proofs.lemmas.List.Folds.{list_all-append, list_all_at}
use Rattle.std.proofs.lemmas.Grind.{common_steps}
use Rattle.value_reading.specs.Numbers.{is_digit, number_behind, number_of, if_at_most, number_up_to, begins_with, is_point}
use Rattle.value_reading.specs.Addresses.{is_colon, is_hexadecimal, digit_value, hexadecimal_behind, group_of, short_number, octets, dotted_of, last_groups, groups_to_end, plain_groups, pieces_of, around_gap, eight_groups, with_gap, gapped, grouped_of}

pub both : (a b : Bool) → (a && b) ≡ true → (a ≡ true) × (b ≡ true)
both true true h = (refl, refl)
both true false h = absurd cc
both false b h = absurd cc

-- Bytes that pass a test

not_equal : (p : ℕ → Bool) (c b : ℕ) → p b ≡ true → p c ≡ false → eqb b c ≡ false
not_equal p c b h k = ne_eqb b c (λ e. let same : p b ≡ p c = ap p e in cc)

pub first_is_not : (p : ℕ → Bool) (c : ℕ) (w : List ℕ) → list_all p w ≡ true → p c ≡ false → begins_with c w ≡ false
first_is_not p c [] h k = refl
first_is_not p c (b ∷ bs) h k = not_equal p c b (both (p b) (list_all p bs) h).0 k

pub last_is_not : (p : ℕ → Bool) (c : ℕ) (w : List ℕ) → list_all p w ≡ true → p c ≡ false → eqb 0 c ≡ false → eqb (slice_index w (length w - 1)) c ≡ false
last_is_not p c [] h k z = z
last_is_not p c (b ∷ bs) h k z = ne_eqb (slice_index (b ∷ bs) (length (b ∷ bs) - 1)) c (λ e.
    let fails : p (get_or (b ∷ bs) (length (b ∷ bs) - 1) 0) ≡ false = ap p e ∙ k in
    let none : list_all p (b ∷ bs) ≡ false = list_all_at p (b ∷ bs) (length (b ∷ bs) - 1) 0 (omega arith) fails in
    cc)

pub none_of : (p q : ℕ → Bool) → ((b : ℕ) → p b ≡ true → q b ≡ false) → (w : List ℕ) → list_all p w ≡ true → list_any q w ≡ false
none_of p q f [] h = refl
none_of p q f (b ∷ bs) h = let a = both (p b) (list_all p bs) h in rw (f b a.0, none_of p q f bs a.1) refl

pub weaker : (p q : ℕ → Bool) → ((b : ℕ) → p b ≡ true → q b ≡ true) → (w : List ℕ) → list_all p w ≡ true → list_all q w ≡ true
weaker p q f [] h = refl
weaker p q f (b ∷ bs) h = let a = both (p b) (list_all p bs) h in rw (f b a.0, weaker p q f bs a.1) refl

-- Digits

behind_digits : (n : ℕ) (w : List ℕ) → is_some (number_behind n w) ≡ true → list_all is_digit w ≡ true
behind_digits n [] h = refl
behind_digits n (d ∷ ds) h =
    elim (is_digit d) as (λ b. is_some (cond b (number_behind (n * 10 + (d - 48)) ds) None) ≡ true → (b && list_all is_digit ds) ≡ true) [
      | true ↦ λ k. behind_digits (n * 10 + (d - 48)) ds k
      | false ↦ λ k. absurd cc
    ] h

pub number_digits : (w : List ℕ) → is_some (number_of w) ≡ true → list_all is_digit w ≡ true
number_digits [] h = absurd cc
number_digits (d ∷ ds) h = behind_digits 0 (d ∷ ds) h

pub then_some : {X Y : Type 0} (f : X → Option Y) (o : Option X) → is_some (option_and_then f o) ≡ true → is_some o ≡ true
then_some f None h = absurd cc
then_some f (Some x) h = refl

pub map_some : {X Y : Type 0} (f : X → Y) (o : Option X) → is_some (option_map f o) ≡ true → is_some o ≡ true
map_some f None h = absurd cc
map_some f (Some x) h = refl

pub up_to_digits : (most : ℕ) (w : List ℕ) → is_some (number_up_to most w) ≡ true → list_all is_digit w ≡ true
up_to_digits most w h = number_digits w (then_some (if_at_most most) (number_of w) h)

pub short_digits : (most : ℕ) (w : List ℕ) → is_some (short_number most w) ≡ true → list_all is_digit w ≡ true
short_digits most w h =
    elim (nat_le (length w) 3) as (λ b. is_some (cond b (number_up_to most w) None) ≡ true → list_all is_digit w ≡ true) [
      | true ↦ λ k. up_to_digits most w k
      | false ↦ λ k. absurd cc
    ] h

-- Pieces

onto_all : (p q : ℕ → Bool) (b : ℕ) (ps : List (List ℕ)) → list_all (list_all p) (onto_first b ps) ≡ true → (p b ≡ true) × (list_all (list_all p) ps ≡ true)
onto_all p q b [] h = let a = both (p b && true) true h in ((both (p b) true a.0).0, refl)
onto_all p q b (x ∷ xs) h =
    let a = both (p b && list_all p x) (list_all (list_all p) xs) h in
    let c = both (p b) (list_all p x) a.0 in
    (c.0, rw (c.1, a.1) refl)

-- where each piece passes, each byte passes or parts two pieces
split_all : (p q : ℕ → Bool) (w : List ℕ) → list_all (list_all p) (slice_split q w) ≡ true → list_all (λ b. q b || p b) w ≡ true
split_all p q [] h = refl
split_all p q (b ∷ bs) h =
    elim (q b) as (λ t. list_all (list_all p) (cond t ([] ∷ slice_split q bs) (onto_first b (slice_split q bs))) ≡ true → ((t || p b) && list_all (λ b. q b || p b) bs) ≡ true) [
      | true ↦ λ k. split_all p q bs k
      | false ↦ λ k. let a = onto_all p q b (slice_split q bs) k in rw (a.0, split_all p q bs a.1) refl
    ] h

either : (a b : Bool) → (a || b) ≡ false → (a ≡ false) × (b ≡ false)
either true b h = absurd cc
either false b h = (refl, h)

-- a text that nothing parts is one piece
split_one : (q : ℕ → Bool) (w : List ℕ) → list_any q w ≡ false → slice_split q w ≡ w ∷ []
split_one q [] h = refl
split_one q (b ∷ bs) h = let a = either (q b) (list_any q bs) h in rw (a.0, split_one q bs a.1) refl

-- Dotted numbers

four : (x y z w : Option ℕ) (a b c d : Bool) → (is_some x ≡ true → a ≡ true) → (is_some y ≡ true → b ≡ true) → (is_some z ≡ true → c ≡ true) → (is_some w ≡ true → d ≡ true)
    → is_some (option_and_then (λ a. option_and_then (λ b. option_and_then (λ c. option_map (λ d. ((a * 256 + b) * 256 + c) * 256 + d) w) z) y) x) ≡ true → (a && (b && (c && (d && true)))) ≡ true
four None y z w a b c d fa fb fc fd h = absurd cc
four (Some x) None z w a b c d fa fb fc fd h = absurd cc
four (Some x) (Some y) None w a b c d fa fb fc fd h = absurd cc
four (Some x) (Some y) (Some z) None a b c d fa fb fc fd h = absurd cc
four (Some x) (Some y) (Some z) (Some w) a b c d fa fb fc fd h = rw (fa refl, fb refl, fc refl, fd refl) refl

octets_digits : (ps : List (List ℕ)) → is_some (octets ps) ≡ true → list_all (list_all is_digit) ps ≡ true
octets_digits [] h = absurd cc
octets_digits (a ∷ []) h = absurd cc
octets_digits (a ∷ (b ∷ [])) h = absurd cc
octets_digits (a ∷ (b ∷ (c ∷ []))) h = absurd cc
octets_digits (a ∷ (b ∷ (c ∷ (d ∷ (e ∷ es))))) h = absurd cc
octets_digits (a ∷ (b ∷ (c ∷ (d ∷ [])))) h =
    four (short_number 255 a) (short_number 255 b) (short_number 255 c) (short_number 255 d) (list_all is_digit a) (list_all is_digit b) (list_all is_digit c) (list_all is_digit d)
    (short_digits 255 a) (short_digits 255 b) (short_digits 255 c) (short_digits 255 d) h

-- the bytes of an address, and its marks
abbrev pub is_mark : ℕ → Bool
is_mark b = is_point b || is_colon b

abbrev pub is_address_byte : ℕ → Bool
is_address_byte b = is_colon b || (is_point b || is_hexadecimal b)

pub dotted_bytes : (w : List ℕ) → is_some (dotted_of w) ≡ true → list_all is_address_byte w ≡ true
dotted_bytes w h =
    weaker (λ b. is_point b || is_digit b) is_address_byte (λ b k. grind (arith, common_steps)) w
    (split_all is_digit is_point w (octets_digits (slice_split is_point w) h))

any_more : (p q : ℕ → Bool) → ((b : ℕ) → q b ≡ false → p b ≡ false) → (w : List ℕ) → list_any q w ≡ false → list_any p w ≡ false
any_more p q f [] h = refl
any_more p q f (b ∷ bs) h = let a = either (q b) (list_any q bs) h in rw (f b a.0, any_more p q f bs a.1) refl

mark_point : (b : ℕ) → is_mark b ≡ false → is_point b ≡ false
mark_point b h = (either (is_point b) (is_colon b) h).0

mark_colon : (b : ℕ) → is_mark b ≡ false → is_colon b ≡ false
mark_colon b h = (either (is_point b) (is_colon b) h).1

pub dotted_mark : (w : List ℕ) → is_some (dotted_of w) ≡ true → list_any is_mark w ≡ true
dotted_mark w h = elim (cases_Bool (list_any is_mark w)) [
  | inl hit ↦ hit
  | inr miss ↦
      let one : slice_split is_point w ≡ w ∷ [] = split_one is_point w (any_more is_point is_mark mark_point w miss) in
      let none : is_some (octets (slice_split is_point w)) ≡ false = rw one refl in
      absurd cc
]

-- Groups

behind_hexadecimal : (n : ℕ) (w : List ℕ) → is_some (hexadecimal_behind n w) ≡ true → list_all is_hexadecimal w ≡ true
behind_hexadecimal n [] h = refl
behind_hexadecimal n (d ∷ ds) h =
    elim (is_hexadecimal d) as (λ b. is_some (cond b (hexadecimal_behind (n * 16 + digit_value d) ds) None) ≡ true → (b && list_all is_hexadecimal ds) ≡ true) [
      | true ↦ λ k. behind_hexadecimal (n * 16 + digit_value d) ds k
      | false ↦ λ k. absurd cc
    ] h

abbrev is_plain : ℕ → Bool
is_plain b = is_point b || is_hexadecimal b

or_true : (b : Bool) → (b || true) ≡ true
or_true true = refl
or_true false = refl

group_bytes : (w : List ℕ) → is_some (group_of w) ≡ true → list_all is_plain w ≡ true
group_bytes [] h = refl
group_bytes (d ∷ ds) h =
    elim (nat_le (length (d ∷ ds)) 4) as (λ b. is_some (cond b (hexadecimal_behind 0 (d ∷ ds)) None) ≡ true → list_all is_plain (d ∷ ds) ≡ true) [
      | true ↦ λ k. weaker is_hexadecimal is_plain (λ b j. rw (j, or_true (is_point b)) refl) (d ∷ ds) (behind_hexadecimal 0 (d ∷ ds) k)
      | false ↦ λ k. absurd cc
    ] h

pub or_some : {X : Type 0} (a b : Option X) (p : Bool) → (is_some a ≡ true → p ≡ true) → (is_some b ≡ true → p ≡ true) → is_some (option_or a b) ≡ true → p ≡ true
or_some None b p f g h = g h
or_some (Some x) b p f g h = f refl

last_bytes : (w : List ℕ) → is_some (last_groups w) ≡ true → list_all is_plain w ≡ true
last_bytes w h =
    or_some (option_map (λ g. g ∷ []) (group_of w)) (option_map (λ n. n / 65536 ∷ (n % 65536 ∷ [])) (dotted_of w)) (list_all is_plain w)
    (λ k. group_bytes w (map_some (λ g. g ∷ []) (group_of w) k))
    (λ k. weaker (λ b. is_point b || is_digit b) is_plain (λ b j. grind (arith, common_steps)) w
    (split_all is_digit is_point w (octets_digits (slice_split is_point w) (map_some (λ n. n / 65536 ∷ (n % 65536 ∷ [])) (dotted_of w) k))))
    h

chained : (x : Option ℕ) (gs : Option (List ℕ)) → is_some (option_and_then (λ g. option_map (λ gs. g ∷ gs) gs) x) ≡ true → (is_some x ≡ true) × (is_some gs ≡ true)
chained None gs h = absurd cc
chained (Some x) None h = absurd cc
chained (Some x) (Some gs) h = (refl, refl)

end_bytes : (ps : List (List ℕ)) → is_some (groups_to_end ps) ≡ true → list_all (list_all is_plain) ps ≡ true
end_bytes [] h = refl
end_bytes (w ∷ []) h = rw (last_bytes w h) refl
end_bytes (w ∷ (v ∷ vs)) h =
    let a = chained (group_of w) (groups_to_end (v ∷ vs)) h in
    rw (group_bytes w a.0, end_bytes (v ∷ vs) a.1) refl

plain_bytes : (ps : List (List ℕ)) → is_some (plain_groups ps) ≡ true → list_all (list_all is_plain) ps ≡ true
plain_bytes [] h = refl
plain_bytes (w ∷ ws) h =
    let a = chained (group_of w) (plain_groups ws) h in
    rw (group_bytes w a.0, plain_bytes ws a.1) refl

pieces_bytes : (w : List ℕ) → list_all (list_all is_plain) (pieces_of w) ≡ true → list_all is_address_byte w ≡ true
pieces_bytes [] h = refl
pieces_bytes (b ∷ bs) h = split_all is_plain is_colon (b ∷ bs) h

pair_of : (p q : List ℕ × List ℕ) → Some p ≡ Some q → (p.0 ≡ q.0) × (p.1 ≡ q.1)
pair_of p q h = let same : p ≡ q = cc in (ap (λ (x : List ℕ × List ℕ). x.0) same, ap (λ (x : List ℕ × List ℕ). x.1) same)

gap_front : (b : ℕ) (w l r : List ℕ) (gap : Option (List ℕ × List ℕ)) → around_gap w ≡ gap → ((l r : List ℕ) → around_gap w ≡ Some (l, r) → w ≡ l ++ 58 ∷ (58 ∷ r))
    → option_map {U = List ℕ × List ℕ} (λ p. (b ∷ p.0, p.1)) gap ≡ Some (l, r) → b ∷ w ≡ l ++ 58 ∷ (58 ∷ r)
gap_front b w l r None e f h = absurd cc
gap_front b w l r (Some sides) e f h =
    let rest : w ≡ sides.0 ++ 58 ∷ (58 ∷ sides.1) = f sides.0 sides.1 e in
    let a = pair_of (b ∷ sides.0, sides.1) (l, r) h in
    ap (λ xs. b ∷ xs) rest ∙ (ap (λ xs. xs ++ 58 ∷ (58 ∷ sides.1)) a.0 ∙ ap (λ xs. l ++ 58 ∷ (58 ∷ xs)) a.1)

gap_by : (b c : ℕ) (rest l r : List ℕ) (x y : Bool) → is_colon b ≡ x → is_colon c ≡ y → ((l r : List ℕ) → around_gap (c ∷ rest) ≡ Some (l, r) → c ∷ rest ≡ l ++ 58 ∷ (58 ∷ r))
    → cond {A = Option (List ℕ × List ℕ)} (x && y) (Some ([], rest)) (option_map (λ p. (b ∷ p.0, p.1)) (around_gap (c ∷ rest))) ≡ Some (l, r) → b ∷ (c ∷ rest) ≡ l ++ 58 ∷ (58 ∷ r)
gap_by b c rest l r true true p q f h =
    let first : b ≡ 58 = eqb-true b 58 p in
    let second : c ≡ 58 = eqb-true c 58 q in
    let a = pair_of ([], rest) (l, r) h in
    ap (λ x. x ∷ (c ∷ rest)) first ∙ (ap (λ x. 58 ∷ (x ∷ rest)) second ∙ (ap (λ xs. 58 ∷ (58 ∷ xs)) a.1 ∙ ap (λ xs. xs ++ 58 ∷ (58 ∷ r)) a.0))
gap_by b c rest l r true false p q f h = gap_front b (c ∷ rest) l r (around_gap (c ∷ rest)) refl f h
gap_by b c rest l r false y p q f h = gap_front b (c ∷ rest) l r (around_gap (c ∷ rest)) refl f h

-- a gap is two colons between its sides
gap_parts : (w l r : List ℕ) → around_gap w ≡ Some (l, r) → w ≡ l ++ 58 ∷ (58 ∷ r)
gap_parts [] l r h = absurd cc
gap_parts (b ∷ []) l r h = absurd cc
gap_parts (b ∷ (c ∷ rest)) l r h =
    gap_by b c rest l r (is_colon b) (is_colon c) refl refl (gap_parts (c ∷ rest)) h

sides_bytes : (w l r : List ℕ) → w ≡ l ++ 58 ∷ (58 ∷ r) → list_all is_address_byte l ≡ true → list_all is_address_byte r ≡ true → list_all is_address_byte w ≡ true
sides_bytes w l r e h k = ap (list_all is_address_byte) e ∙ (list_all-append is_address_byte l (58 ∷ (58 ∷ r)) ∙ rw (h, k) refl)

any_behind : (p : ℕ → Bool) (l : List ℕ) (c : ℕ) (r : List ℕ) → p c ≡ true → list_any p (l ++ c ∷ r) ≡ true
any_behind p [] c r h = rw h refl
any_behind p (b ∷ bs) c r h = rw (any_behind p bs c r h, or_true (p b)) refl

last_few : (x y : Option ℕ) → is_some (option_and_then eight_groups (option_or (option_map (λ g. g ∷ []) x) (option_map (λ n. n / 65536 ∷ (n % 65536 ∷ [])) y))) ≡ false
last_few None None = refl
last_few None (Some y) = refl
last_few (Some x) y = refl

no_colon_groups : (w : List ℕ) → list_any is_colon w ≡ false → is_some (option_and_then eight_groups (groups_to_end (pieces_of w))) ≡ false
no_colon_groups [] h = refl
no_colon_groups (b ∷ bs) h = rw (split_one is_colon (b ∷ bs) h) (last_few (group_of (b ∷ bs)) (dotted_of (b ∷ bs)))

both_sides : (l r : Option (List ℕ)) → is_some (option_and_then (λ left. option_and_then (with_gap left) r) l) ≡ true → (is_some l ≡ true) × (is_some r ≡ true)
both_sides None r h = absurd cc
both_sides (Some l) None h = absurd cc
both_sides (Some l) (Some r) h = (refl, refl)

gapped_bytes : (gap : Option (List ℕ × List ℕ)) (w : List ℕ) → around_gap w ≡ gap → is_some (gapped gap w) ≡ true → (list_all is_address_byte w ≡ true) × (list_any is_mark w ≡ true)
gapped_bytes None w e h = (
  pieces_bytes w (end_bytes (pieces_of w) (then_some eight_groups (groups_to_end (pieces_of w)) h)),
  elim (cases_Bool (list_any is_mark w)) [
    | inl hit ↦ hit
    | inr miss ↦ let none = no_colon_groups w (any_more is_colon is_mark mark_colon w miss) in absurd cc
  ],
)
gapped_bytes (Some sides) w e h =
    let parts : w ≡ sides.0 ++ 58 ∷ (58 ∷ sides.1) = gap_parts w sides.0 sides.1 e in
    let a = both_sides (plain_groups (pieces_of sides.0)) (groups_to_end (pieces_of sides.1)) h in (
      sides_bytes w sides.0 sides.1 parts (pieces_bytes sides.0 (plain_bytes (pieces_of sides.0) a.0)) (pieces_bytes sides.1 (end_bytes (pieces_of sides.1) a.1)),
      ap (list_any is_mark) parts ∙ any_behind is_mark sides.0 58 (58 ∷ sides.1) refl,
    )

pub grouped_bytes : (w : List ℕ) → is_some (grouped_of w) ≡ true → (list_all is_address_byte w ≡ true) × (list_any is_mark w ≡ true)
grouped_bytes w h = gapped_bytes (around_gap w) w refl h
