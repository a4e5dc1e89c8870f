-- Addresses and subnets, by RFC 4291, 2.2. An IPv4 address a.b.c.d is ::ffff:a.b.c.d.
use Rattle.std.specs.Prelude.{ℕ, ◌+◌, ◌-◌, ◌*◌, ◌/◌, ◌%◌, ◌^◌, Bool, ◌&&◌, ◌||◌, ◌==◌, if◌then◌else◌, List, [], ◌∷◌, ◌++◌, Option, None, Some, length, replicate, nat_le}
use Rattle.std.specs.List.{before_first, after_first, slice_split, fold}
use Rattle.std.specs.Option.{option_map, option_and_then, option_or}
use Rattle.vast_value.specs.declared.net.Net.{Net}
use Rattle.vast_value.specs.Nets.{net_of}
use Rattle.value_reading.specs.Numbers.{is_digit, number_up_to, is_point}

abbrev pub is_colon : ℕ → Bool
is_colon b = b == 58

abbrev pub is_slash : ℕ → Bool
is_slash b = b == 47

-- one to three digits of a number that is at most so much
abbrev pub short_number : ℕ → List ℕ → Option ℕ
short_number most text = if nat_le (length text) 3 then number_up_to most text else None

abbrev pub octets : List (List ℕ) → Option ℕ
octets (a ∷ (b ∷ (c ∷ (d ∷ [])))) =
    option_and_then (λ a. option_and_then (λ b. option_and_then (λ c. option_map (λ d. ((a * 256 + b) * 256 + c) * 256 + d)
    (short_number 255 d)) (short_number 255 c)) (short_number 255 b)) (short_number 255 a)
octets _ = None

-- four numbers of one to three digits, each at most 255, with dots between them
abbrev pub dotted_of : List ℕ → Option ℕ
dotted_of text = octets (slice_split is_point text)

abbrev pub is_hexadecimal : ℕ → Bool
is_hexadecimal b = is_digit b || ((nat_le 97 b && nat_le b 102) || (nat_le 65 b && nat_le b 70))

-- the value of a hexadecimal digit in either case
abbrev pub digit_value : ℕ → ℕ
digit_value b = if is_digit b then b - 48 else (if nat_le 97 b then b - 87 else b - 55)

abbrev pub hexadecimal_behind : ℕ → List ℕ → Option ℕ
hexadecimal_behind n [] = Some n
hexadecimal_behind n (d ∷ ds) = if is_hexadecimal d then hexadecimal_behind (n * 16 + digit_value d) ds else None

-- one to four hexadecimal digits
abbrev pub group_of : List ℕ → Option ℕ
group_of [] = None
group_of (d ∷ ds) = if nat_le (length (d ∷ ds)) 4 then hexadecimal_behind 0 (d ∷ ds) else None

-- the last piece is a group, or the last two groups as a dotted number
abbrev pub last_groups : List ℕ → Option (List ℕ)
last_groups piece =
    option_or (option_map (λ g. g ∷ []) (group_of piece))
    (option_map (λ n. n / 65536 ∷ (n % 65536 ∷ [])) (dotted_of piece))

-- the groups of the pieces between colons, the last of which may be a dotted number
abbrev pub groups_to_end : List (List ℕ) → Option (List ℕ)
groups_to_end [] = Some []
groups_to_end (piece ∷ []) = last_groups piece
groups_to_end (piece ∷ (next ∷ more)) =
    option_and_then (λ g. option_map (λ gs. g ∷ gs) (groups_to_end (next ∷ more))) (group_of piece)

-- the groups of the pieces between colons, none of which is a dotted number
abbrev pub plain_groups : List (List ℕ) → Option (List ℕ)
plain_groups [] = Some []
plain_groups (piece ∷ more) = option_and_then (λ g. option_map (λ gs. g ∷ gs) (plain_groups more)) (group_of piece)

abbrev pub pieces_of : List ℕ → List (List ℕ)
pieces_of [] = []
pieces_of (b ∷ bs) = slice_split is_colon (b ∷ bs)

-- what stands before the first `::` and behind it, if there is one
abbrev pub around_gap : List ℕ → Option (List ℕ × List ℕ)
around_gap [] = None
around_gap (b ∷ []) = None
around_gap (b ∷ (c ∷ rest)) =
    if is_colon b && is_colon c then Some ([], rest) else option_map (λ p. (b ∷ p.0, p.1)) (around_gap (c ∷ rest))

abbrev pub number_of_groups : List ℕ → ℕ
number_of_groups groups = fold (λ n g. n * 65536 + g) 0 groups

-- eight groups
abbrev pub eight_groups : List ℕ → Option ℕ
eight_groups groups = if length groups == 8 then Some (number_of_groups groups) else None

-- seven groups or fewer, with zeros for the others where the gap is
abbrev pub with_gap : List ℕ → List ℕ → Option ℕ
with_gap left right =
    if nat_le (length left + length right) 7
    then Some (number_of_groups (left ++ (replicate (8 - (length left + length right)) 0 ++ right))) else None

abbrev pub gapped : Option (List ℕ × List ℕ) → List ℕ → Option ℕ
gapped None text = option_and_then eight_groups (groups_to_end (pieces_of text))
gapped (Some sides) text =
    option_and_then (λ left. option_and_then (with_gap left) (groups_to_end (pieces_of sides.1))) (plain_groups (pieces_of sides.0))

-- Eight groups of one to four hexadecimal digits with colons between them; `::` stands once for one or more zero groups;
-- the last two groups may be a dotted number.
abbrev pub grouped_of : List ℕ → Option ℕ
grouped_of text = gapped (around_gap text) text

-- ::ffff:0:0 and a dotted number
abbrev pub mapped : ℕ → ℕ
mapped n = 65535 * 2 ^ 32 + n

abbrev pub address_of : List ℕ → Option ℕ
address_of text = option_or (option_map mapped (dotted_of text)) (grouped_of text)

-- the subnet of the first so many bits of an address, whose other bits are set to 0
abbrev pub subnet : ℕ → ℕ → Option Net
subnet address bits = net_of (address / 2 ^ (128 - bits) * 2 ^ (128 - bits)) bits

abbrev pub subnet_from : Option ℕ → Option ℕ → List ℕ → Option Net
subnet_from (Some dotted) grouped bits = option_and_then (λ n. subnet (mapped dotted) (96 + n)) (short_number 32 bits)
subnet_from None (Some address) bits = option_and_then (subnet address) (short_number 128 bits)
subnet_from None None bits = None

-- An address, a slash, and one to three digits: at most 32 after the dotted form, else at most 128.
abbrev pub subnet_of : List ℕ → Option Net
subnet_of text =
    subnet_from (dotted_of (before_first is_slash text)) (grouped_of (before_first is_slash text)) (after_first is_slash text)
