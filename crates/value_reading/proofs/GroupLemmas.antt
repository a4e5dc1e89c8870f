-- Groups read from left to right are the groups of the pieces.
use Rattle.std.proofs.Common.{◌≡◌, ℕ, suc, ◌+◌, ◌-◌, ◌*◌, ◌^◌, ◌<◌, ◌≤◌, Bool, true, false, if◌then◌else◌, nat_le, List, [], ◌∷◌, Option, None, Some, length, take, drop, get_or, replicate, refl, ap, sym, ◌∙◌, arith}
use Rattle.std.proofs.Math.Nat.{pow-le-pow_right}
use Rattle.std.proofs.lemmas.Grind.{pow_more}
use Rattle.std.proofs.lemmas.Bool.Decides.{nat_tests}
use Rattle.std.proofs.lemmas.List.{length-drop, take_all, drop_all}
use Rattle.std.specs.List.{position_or_len, before_first, slice_split, fold}
use Rattle.std.specs.Option.{option_map, option_and_then}
use Rattle.value_reading.specs.Addresses.{is_colon, group_of, groups_to_end, plain_groups}
use Rattle.value_reading.specs.Places.{one_group, groups_in, last_in, groups_behind, groups_read}
use Rattle.value_reading.proofs.CutLemmas.{from_first, other_pieces, split_first}

sixteen_pow : (i j : ℕ) → i ≤ j → 16 ^ i ≤ 16 ^ j
sixteen_pow i j h = pow-le-pow_right (omega arith) h

group_pow : (i j : ℕ) → i ≤ j → 65536 ^ i ≤ 65536 ^ j
group_pow i j h = pow-le-pow_right (omega arith) h

pub digits_small : (g i : ℕ) → g < 16 ^ i → i ≤ 4 → g < 65536
digits_small g i below few = let q : 16 ^ i ≤ 16 ^ 4 = sixteen_pow i 4 few in omega arith

-- one more hexadecimal digit behind fewer than four
pub digit_fits : (g i d : ℕ) → g < 16 ^ i → i < 4 → d < 16 → (g * 16 + d < 65536) × (g * 16 + d < 16 ^ (i + 1))
digit_fits g i d below few digit =
    let p : 16 ^ (i + 1) ≡ 16 ^ i * 16 = pow_more 16 i in
    let q : 16 ^ (i + 1) ≤ 16 ^ 4 = sixteen_pow (i + 1) 4 (omega arith) in
    (omega arith, omega arith)

-- one more group behind fewer than eight
pub group_fits : (n c g : ℕ) → n < 65536 ^ c → c < 8 → g < 65536 → (n * 65536 + g < 2 ^ 128) × (n * 65536 + g < 65536 ^ (c + 1))
group_fits n c g below few group =
    let p : 65536 ^ (c + 1) ≡ 65536 ^ c * 65536 = pow_more 65536 c in
    let q : 65536 ^ (c + 1) ≤ 65536 ^ 8 = group_pow (c + 1) 8 (omega arith) in
    (omega arith, omega arith)

abbrev pub groups_of : Bool → List (List ℕ) → Option (List ℕ)
groups_of true pieces = groups_to_end pieces
groups_of false pieces = plain_groups pieces

pub groups_in-some : (d : Bool) (text : List ℕ) → 0 < length text → groups_in d text ≡ groups_of d (slice_split is_colon text)
groups_in-some true [] some = absurd (omega arith)
groups_in-some false [] some = absurd (omega arith)
groups_in-some true (b ∷ bs) some = refl
groups_in-some false (b ∷ bs) some = refl

abbrev group_then : Option (List ℕ) → ℕ → Option (List ℕ)
group_then groups g = option_map (λ gs. g ∷ gs) groups

groups_of-more : (d : Bool) (piece next : List ℕ) (pieces : List (List ℕ)) → groups_of d (piece ∷ (next ∷ pieces)) ≡ option_and_then (group_then (groups_of d (next ∷ pieces))) (group_of piece)
groups_of-more true piece next pieces = refl
groups_of-more false piece next pieces = refl

abbrev pub read_behind : Option (List ℕ) → ℕ × ℕ → Option (ℕ × ℕ)
read_behind groups x = groups_read x.0 x.1 groups

abbrev add_group : ℕ → ℕ → ℕ
add_group n g = n * 65536 + g

abbrev when_few : ℕ → ℕ → Option (ℕ × ℕ)
when_few number count = if nat_le count 8 then Some (number, count) else None

pub one_more : (n c g : ℕ) (gs : List ℕ) → groups_behind n c (g ∷ gs) ≡ option_and_then (read_behind (Some gs)) (groups_behind n c (g ∷ []))
one_more n c g gs =
    let sum : c + length (g ∷ gs) ≡ (c + 1) + length gs = omega arith in
    ap (when_few (fold add_group (n * 65536 + g) gs)) sum
    ∙ elim (nat_le (c + 1) 8) as (λ t. nat_le (c + 1) 8 ≡ t → when_few (fold add_group (n * 65536 + g) gs) ((c + 1) + length gs) ≡ option_and_then (read_behind (Some gs)) (if t then Some (n * 65536 + g, c + 1) else None)) [
      | true ↦ λ e. refl
      | false ↦ λ e. let many : nat_le ((c + 1) + length gs) 8 ≡ false = grind (arith, nat_tests) in rw many refl
    ] refl

-- one more zero
pub zeros_step : (n c zeros i : ℕ) → i < zeros → groups_behind n c (replicate (zeros - i) 0) ≡ option_and_then (read_behind (Some (replicate (zeros - (i + 1)) 0))) (groups_behind n c (0 ∷ []))
zeros_step n c zeros i below =
    let e : zeros - i ≡ suc (zeros - (i + 1)) = omega arith in
    ap (λ k. groups_behind n c (replicate k 0)) e ∙ one_more n c 0 (replicate (zeros - (i + 1)) 0)

none_behind : (o : Option (ℕ × ℕ)) → option_and_then (read_behind None) o ≡ None
none_behind None = refl
none_behind (Some x) = refl

read_more : (n c : ℕ) (groups : Option (List ℕ)) (o : Option ℕ)
    → groups_read n c (option_and_then (group_then groups) o) ≡ option_and_then (read_behind groups) (groups_read n c (option_map (λ g. g ∷ []) o))
read_more n c groups None = refl
read_more n c None (Some g) = sym (none_behind (groups_behind n c (g ∷ [])))
read_more n c (Some gs) (Some g) = one_more n c g gs

step_by : (n c : ℕ) (d : Bool) (piece front more : List ℕ) (b : ℕ) → front ≡ b ∷ more
    → groups_read n c (groups_of d (piece ∷ other_pieces is_colon front)) ≡ option_and_then (read_behind (groups_of d (slice_split is_colon more))) (groups_read n c (one_group piece))
step_by n c d piece front more b e =
    ap (λ xs. groups_read n c (groups_of d (piece ∷ other_pieces is_colon xs))) e
    ∙ ap (λ ps. groups_read n c (groups_of d (piece ∷ ps))) (split_first is_colon more)
    ∙ ap (groups_read n c) (groups_of-more d piece (before_first is_colon more) (other_pieces is_colon (from_first is_colon more)))
    ∙ read_more n c (groups_of d (before_first is_colon more ∷ other_pieces is_colon (from_first is_colon more))) (group_of piece)
    ∙ ap (λ ps. option_and_then (read_behind (groups_of d ps)) (groups_read n c (one_group piece))) (sym (split_first is_colon more))

cons_of : (xs more : List ℕ) → 0 < length xs → more ≡ drop 1 xs → xs ≡ get_or xs 0 0 ∷ more
cons_of [] more some e = absurd (omega arith)
cons_of (x ∷ xs) more some e = ap (λ ys. x ∷ ys) (sym e)

-- a piece with a colon behind it
pub read_step : (n c : ℕ) (d : Bool) (rest piece behind more : List ℕ) (k : ℕ) → k ≡ position_or_len is_colon rest → k < length rest → piece ≡ take k rest → behind ≡ drop k rest → more ≡ drop 1 behind
    → groups_read n c (groups_of d (slice_split is_colon rest)) ≡ option_and_then (read_behind (groups_of d (slice_split is_colon more))) (groups_read n c (one_group piece))
read_step n c d rest piece behind more k at below front back rest_is =
    let piece' : before_first is_colon rest ≡ piece = ap (λ j. take j rest) (sym at) ∙ sym front in
    let behind' : from_first is_colon rest ≡ behind = ap (λ j. drop j rest) (sym at) ∙ sym back in
    let some : 0 < length behind = rw back (omega (arith, length-drop k rest)) in
    ap (λ ps. groups_read n c (groups_of d ps)) (split_first is_colon rest)
    ∙ ap (λ xs. groups_read n c (groups_of d (xs ∷ other_pieces is_colon (from_first is_colon rest)))) piece'
    ∙ step_by n c d piece (from_first is_colon rest) more (get_or behind 0 0) (behind' ∙ cons_of behind more some rest_is)

plain_last : (o : Option ℕ) → option_and_then (group_then (Some [])) o ≡ option_map (λ g. g ∷ []) o
plain_last None = refl
plain_last (Some g) = refl

last_of : (d : Bool) (piece : List ℕ) → groups_of d (piece ∷ []) ≡ last_in d piece
last_of true piece = refl
last_of false piece = plain_last (group_of piece)

-- the last piece
pub read_last : (n c : ℕ) (d : Bool) (rest : List ℕ) (k : ℕ) → k ≡ position_or_len is_colon rest → length rest ≤ k
    → groups_read n c (groups_of d (slice_split is_colon rest)) ≡ groups_read n c (last_in d rest)
read_last n c d rest k at past =
    let whole : take (position_or_len is_colon rest) rest ≡ rest = take_all (position_or_len is_colon rest) rest (omega arith) in
    let none : drop (position_or_len is_colon rest) rest ≡ [] = drop_all (position_or_len is_colon rest) rest (omega arith) in
    ap (λ ps. groups_read n c (groups_of d ps)) (split_first is_colon rest)
    ∙ ap (λ xs. groups_read n c (groups_of d (xs ∷ other_pieces is_colon (from_first is_colon rest)))) whole
    ∙ ap (λ xs. groups_read n c (groups_of d (rest ∷ other_pieces is_colon xs))) none
    ∙ ap (groups_read n c) (last_of d rest)
