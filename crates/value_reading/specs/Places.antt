-- What is taken from the front of a text when it is read from left to right. These words serve the code's own contracts;
-- what a text reads as is said by the other files, which cut it into pieces.
use Rattle.std.specs.Prelude.{ℕ, ◌+◌, ◌-◌, ◌*◌, ◌==◌, replicate, Bool, true, false, if◌then◌else◌, List, [], ◌∷◌, Option, None, Some, length, drop, nat_le}
use Rattle.std.specs.List.{before_first, position_or_len, fold}
use Rattle.std.specs.Option.{option_map, option_and_then}
use Rattle.value_reading.specs.Numbers.{number_behind, if_at_most, is_point}
use Rattle.value_reading.specs.Addresses.{short_number, group_of, last_groups, pieces_of, groups_to_end, plain_groups}

-- A number of at most 255 up to the next point or the end, of at most so many digits behind those that gave n, and what
-- stands from that point on.
abbrev pub octet_behind : ℕ → ℕ → List ℕ → Option (ℕ × List ℕ)
octet_behind more n text =
    if nat_le (length (before_first is_point text)) more
    then option_map (λ number. (number, drop (position_or_len is_point text) text)) (option_and_then (if_at_most 255) (number_behind n (before_first is_point text)))
    else None

-- a number of one to three digits, at most 255, up to the next point or the end, and what stands from that point on
abbrev pub octet_at : List ℕ → Option (ℕ × List ℕ)
octet_at text = option_map (λ number. (number, drop (position_or_len is_point text) text)) (short_number 255 (before_first is_point text))

abbrev pub behind_one : List ℕ → Option (List ℕ)
behind_one [] = None
behind_one (b ∷ bs) = Some bs

-- such a number with a point behind it, in the next place of a dotted number, and what stands behind the point
abbrev pub octet_and_point : ℕ → List ℕ → Option (ℕ × List ℕ)
octet_and_point n text = option_and_then (λ x. option_map (λ rest. (n * 256 + x.0, rest)) (behind_one x.1)) (octet_at text)

abbrev pub at_end : ℕ → List ℕ → Option ℕ
at_end n [] = Some n
at_end n (b ∷ bs) = None

abbrev pub last_octet : ℕ → List ℕ → Option ℕ
last_octet n text = option_and_then (λ x. at_end (n * 256 + x.0) x.1) (octet_at text)

abbrev pub dotted_at : List ℕ → Option ℕ
dotted_at text =
    option_and_then (λ a. option_and_then (λ b. option_and_then (λ c. last_octet c.0 c.1)
    (octet_and_point b.0 b.1)) (octet_and_point a.0 a.1)) (octet_and_point 0 text)

-- the group of a hexadecimal number
abbrev pub one_group : List ℕ → Option (List ℕ)
one_group piece = option_map (λ g. g ∷ []) (group_of piece)

-- the groups of a text, the last of which may be a dotted number, or not
abbrev pub groups_in : Bool → List ℕ → Option (List ℕ)
groups_in true text = groups_to_end (pieces_of text)
groups_in false text = plain_groups (pieces_of text)

-- the last piece, which may be a dotted number, or not
abbrev pub last_in : Bool → List ℕ → Option (List ℕ)
last_in true piece = last_groups piece
last_in false piece = one_group piece

-- groups behind as many others that have a number: the number of all and how many they are, if they are at most eight
abbrev pub groups_behind : ℕ → ℕ → List ℕ → Option (ℕ × ℕ)
groups_behind number count groups =
    if nat_le (count + length groups) 8 then Some (fold (λ n g. n * 65536 + g) number groups, count + length groups) else None

abbrev pub groups_read : ℕ → ℕ → Option (List ℕ) → Option (ℕ × ℕ)
groups_read number count groups = option_and_then (groups_behind number count) groups

-- how many zeros stand for a gap between so many groups
abbrev pub zeros_between : ℕ × ℕ → ℕ × ℕ → List ℕ
zeros_between left right = replicate (8 - (left.1 + right.1)) 0

abbrev pub if_eight : ℕ × ℕ → Option ℕ
if_eight x = if x.1 == 8 then Some x.0 else None

-- the groups on both sides of a gap, with the zeros between them
abbrev pub with_zeros : ℕ × ℕ → ℕ × ℕ → Option (List ℕ) → Option ℕ
with_zeros left right groups =
    if nat_le (left.1 + right.1) 7
    then option_map (λ x. x.0) (option_and_then (λ x. groups_read x.0 x.1 groups) (groups_behind left.0 left.1 (zeros_between left right)))
    else None

abbrev pub gap_read : Option (List ℕ) → Option (List ℕ) → Option ℕ
gap_read left right = option_and_then (λ l. option_and_then (λ r. with_zeros l r right) (groups_read 0 0 right)) (groups_read 0 0 left)
