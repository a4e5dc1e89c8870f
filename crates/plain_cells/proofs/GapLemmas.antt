-- Addresses in groups.
use Rattle.std.proofs.Common.{◌≡◌, ℕ, suc, ◌+◌, ◌-◌, ◌*◌, ◌/◌, ◌%◌, ◌<◌, ◌≤◌, true, false, ◌&&◌, eqb, leb, ltb, List, [], ◌∷◌, ◌++◌, Option, None, Some, length, take, drop, get_or, refl, ap, ap₂, sym, ◌∙◌, subst, arith}
use Rattle.std.specs.Prelude.{IsSome}
use Rattle.std.proofs.lemmas.Bool.{and_parts, and_from, or_from, or_parts, ltb-true, leb-true, lt-ltb, le-leb, ne_eqb, eq-eqb}
use Rattle.std.proofs.lemmas.List.{append-nil, append_assoc, length-append, length-take-le, length-drop, drop-drop}
use Rattle.std.proofs.lemmas.List.Folds.{list_all-append, list_any-append}
use Rattle.std.specs.List.{list_all, list_any, prefix_len, slice_split}
use Rattle.std.specs.Option.{option_map, option_and_then, option_or, is_some}
use Rattle.value_reading.specs.Addresses.{is_colon, is_hexadecimal, digit_value, hexadecimal_behind, group_of, groups_to_end, plain_groups, pieces_of, around_gap, eight_groups, with_gap, gapped, grouped_of, address_of, mapped, dotted_of}
use Rattle.plain_cells.specs.Groups.{is_group, with_colons, colon_behind, AreGroups, AreBegun}
use Rattle.plain_cells.proofs.LaneLemmas.{all_before}
use Rattle.plain_cells.proofs.PartLemmas.{take-add}
use Rattle.plain_cells.proofs.ReadableLemmas.{has_none}
use Rattle.plain_cells.proofs.SecondLemmas.{parted}
use Rattle.plain_cells.proofs.OctetLemmas.{split_front, split_whole}

-- Hexadecimal digits

-- a byte that is no hexadecimal digit
hex_other : (b d : ℕ) → is_hexadecimal b ≡ false → is_hexadecimal d ≡ true → eqb d b ≡ false
hex_other b d other is = ne_eqb d b (λ same. absurd (let e : true ≡ false = sym is ∙ ap is_hexadecimal same ∙ other in cc))

hex_none : (b : ℕ) (ds : List ℕ) → is_hexadecimal b ≡ false → list_all is_hexadecimal ds ≡ true → list_any (λ d. eqb d b) ds ≡ false
hex_none b [] other all = refl
hex_none b (d ∷ ds) other all =
    let both = and_parts (is_hexadecimal d) (list_all is_hexadecimal ds) all in
    rw (hex_other b d other both.0, hex_none b ds other both.1) refl

hex_some : (n : ℕ) (ds : List ℕ) → list_all is_hexadecimal ds ≡ true → IsSome (hexadecimal_behind n ds)
hex_some n [] all = refl
hex_some n (d ∷ ds) all =
    let both = and_parts (is_hexadecimal d) (list_all is_hexadecimal ds) all in
    rw both.0 (hex_some (n * 16 + digit_value d) ds both.1)

-- One group

group_parts : (g : List ℕ) → is_group g ≡ true → (0 < length g) × ((length g ≤ 4) × (list_all is_hexadecimal g ≡ true))
group_parts g is =
    let outer = and_parts (ltb 0 (length g)) (leb (length g) 4 && list_all is_hexadecimal g) is in
    let inner = and_parts (leb (length g) 4) (list_all is_hexadecimal g) outer.1 in
    (ltb-true 0 (length g) outer.0, (leb-true (length g) 4 inner.0, inner.1))

no_colon : (g : List ℕ) → is_group g ≡ true → list_any is_colon g ≡ false
no_colon g is = hex_none 58 g refl (group_parts g is).1.1

group_some : (g : List ℕ) → is_group g ≡ true → IsSome (group_of g)
group_some [] is = absurd cc
group_some (d ∷ ds) is =
    let parts = group_parts (d ∷ ds) is in
    rw (le-leb (length (d ∷ ds)) 4 parts.1.0) (hex_some 0 (d ∷ ds) parts.1.1)

-- The numbers of groups

record Numbers (gs : List (List ℕ)) : Type 0 where
  numbers : List ℕ
  plain : plain_groups gs ≡ Some numbers
  end : groups_to_end gs ≡ Some numbers
  long : length numbers ≡ length gs

some_of : {X : Type 0} (o : Option X) → IsSome o → (x : X) × (o ≡ Some x)
some_of None some = absurd cc
some_of (Some x) some = (x, refl)

numbers_of : (gs : List (List ℕ)) → list_all is_group gs ≡ true → Numbers gs
numbers_of [] all = record { numbers = []; plain = refl; end = refl; long = refl }
numbers_of (g ∷ []) all =
    let both = and_parts (is_group g) true all in
    let read = some_of (group_of g) (group_some g both.0) in
    record {
      numbers = read.0 ∷ [];
      plain = ap (λ (o : Option ℕ). option_and_then (λ g. option_map (λ gs. g ∷ gs) (Some [])) o) read.1;
      end = ap (λ (o : Option ℕ). option_or (option_map (λ g. g ∷ []) o) (option_map (λ n. n / 65536 ∷ (n % 65536 ∷ [])) (dotted_of g))) read.1;
      long = refl;
    }
numbers_of (g ∷ (h ∷ gs)) all =
    let both = and_parts (is_group g) (list_all is_group (h ∷ gs)) all in
    let read = some_of (group_of g) (group_some g both.0) in
    let rest = numbers_of (h ∷ gs) both.1 in
    record {
      numbers = read.0 ∷ rest.numbers;
      plain = ap₂ (λ (o : Option ℕ) (m : Option (List ℕ)). option_and_then (λ g. option_map (λ gs. g ∷ gs) m) o) read.1 rest.plain;
      end = ap₂ (λ (o : Option ℕ) (m : Option (List ℕ)). option_and_then (λ g. option_map (λ gs. g ∷ gs) m) o) read.1 rest.end;
      long = ap suc rest.long;
    }

-- Groups with colons

split_colons : (gs : List (List ℕ)) → 0 < length gs → list_all is_group gs ≡ true → slice_split is_colon (with_colons gs) ≡ gs
split_colons [] some all = absurd (omega arith)
split_colons (g ∷ []) some all = split_whole is_colon g (no_colon g (and_parts (is_group g) true all).0)
split_colons (g ∷ (h ∷ gs)) some all =
    let both = and_parts (is_group g) (list_all is_group (h ∷ gs)) all in
    split_front is_colon g 58 (with_colons (h ∷ gs)) (no_colon g both.0) refl ∙ ap (λ (l : List (List ℕ)). g ∷ l) (split_colons (h ∷ gs) (omega arith) both.1)

-- what a text of groups begins with
record Begins (text : List ℕ) : Type 0 where
  first : ℕ
  more : List ℕ
  is : text ≡ first ∷ more
  other : eqb first 58 ≡ false

group_begins : (g rest : List ℕ) → is_group g ≡ true → Begins (g ++ rest)
group_begins [] rest is = absurd cc
group_begins (d ∷ ds) rest is =
    let parts = group_parts (d ∷ ds) is in
    let both = and_parts (is_hexadecimal d) (list_all is_hexadecimal ds) parts.1.1 in
    record { first = d; more = ds ++ rest; is = refl; other = hex_other 58 d refl both.0 }

colons_begin : (g : List ℕ) (gs : List (List ℕ)) (rest : List ℕ) → list_all is_group (g ∷ gs) ≡ true → Begins (with_colons (g ∷ gs) ++ rest)
colons_begin g [] rest all = group_begins g rest (and_parts (is_group g) true all).0
colons_begin g (h ∷ gs) rest all =
    let both = and_parts (is_group g) (list_all is_group (h ∷ gs)) all in
    subst (λ (l : List ℕ). Begins l) (sym (append_assoc g (58 ∷ with_colons (h ∷ gs)) rest)) (group_begins g (58 ∷ with_colons (h ∷ gs) ++ rest) both.0)

abbrev Gap : Type 0
Gap = Option (List ℕ × List ℕ)

abbrev front_of : List ℕ → Gap → Gap
front_of front gap = option_map (λ p. (front ++ p.0, p.1)) gap

front_more : (x : ℕ) (xs : List ℕ) (gap : Gap) → option_map (λ p. (x ∷ p.0, p.1)) (front_of xs gap) ≡ front_of (x ∷ xs) gap
front_more x xs None = refl
front_more x xs (Some p) = refl

-- the gap behind bytes that are no colons
gap_behind : (g : List ℕ) (r : ℕ) (rs : List ℕ) → list_any is_colon g ≡ false → around_gap (g ++ r ∷ rs) ≡ front_of g (around_gap (r ∷ rs))
gap_behind [] r rs none = front_nil (around_gap (r ∷ rs))
  where
    front_nil : (gap : Gap) → gap ≡ front_of [] gap
    front_nil None = refl
    front_nil (Some p) = refl
gap_behind (x ∷ []) r rs none =
    let both = or_parts (is_colon x) (list_any is_colon []) none in
    rw both.0 (front_one x (around_gap (r ∷ rs)))
  where
    front_one : (x : ℕ) (gap : Gap) → option_map (λ p. (x ∷ p.0, p.1)) gap ≡ front_of (x ∷ []) gap
    front_one x None = refl
    front_one x (Some p) = refl
gap_behind (x ∷ (y ∷ ys)) r rs none =
    let both = or_parts (is_colon x) (list_any is_colon (y ∷ ys)) none in
    let here : around_gap (x ∷ (y ∷ ys ++ r ∷ rs)) ≡ option_map (λ p. (x ∷ p.0, p.1)) (around_gap (y ∷ ys ++ r ∷ rs)) = rw both.0 refl in
    here ∙ ap (option_map (λ p. (x ∷ p.0, p.1))) (gap_behind (y ∷ ys) r rs both.1) ∙ front_more x (y ∷ ys) (around_gap (r ∷ rs))

no_gap : (g : List ℕ) → list_any is_colon g ≡ false → around_gap g ≡ None
no_gap [] none = refl
no_gap (x ∷ []) none = refl
no_gap (x ∷ (y ∷ ys)) none =
    let both = or_parts (is_colon x) (list_any is_colon (y ∷ ys)) none in
    rw (both.0, no_gap (y ∷ ys) both.1) refl

one_colon : (text : List ℕ) → Begins text → around_gap (58 ∷ text) ≡ option_map (λ p. (58 ∷ p.0, p.1)) (around_gap text)
one_colon text b = subst (λ (l : List ℕ). around_gap (58 ∷ l) ≡ option_map (λ p. (58 ∷ p.0, p.1)) (around_gap l)) (sym b.is) (rw b.other refl)

colons_no_gap : (gs : List (List ℕ)) → list_all is_group gs ≡ true → around_gap (with_colons gs) ≡ None
colons_no_gap [] all = refl
colons_no_gap (g ∷ []) all = no_gap g (no_colon g (and_parts (is_group g) true all).0)
colons_no_gap (g ∷ (h ∷ gs)) all =
    let both = and_parts (is_group g) (list_all is_group (h ∷ gs)) all in
    let begins : Begins (with_colons (h ∷ gs)) = subst (λ (l : List ℕ). Begins l) (append-nil (with_colons (h ∷ gs))) (colons_begin h gs [] both.1) in
    gap_behind g 58 (with_colons (h ∷ gs)) (no_colon g both.0)
    ∙ ap (front_of g) (one_colon (with_colons (h ∷ gs)) begins ∙ ap (option_map (λ p. (58 ∷ p.0, p.1))) (colons_no_gap (h ∷ gs) both.1))

colons_gap : (gs : List (List ℕ)) (rest : List ℕ) → list_all is_group gs ≡ true → around_gap (with_colons gs ++ 58 ∷ (58 ∷ rest)) ≡ Some (with_colons gs, rest)
colons_gap [] rest all = refl
colons_gap (g ∷ []) rest all =
    gap_behind g 58 (58 ∷ rest) (no_colon g (and_parts (is_group g) true all).0) ∙ ap (λ (l : List ℕ). Some (let pair : List ℕ × List ℕ = (l, rest) in pair)) (append-nil g)
colons_gap (g ∷ (h ∷ gs)) rest all =
    let both = and_parts (is_group g) (list_all is_group (h ∷ gs)) all in
    let tail : List ℕ = with_colons (h ∷ gs) ++ 58 ∷ (58 ∷ rest) in
    ap around_gap (append_assoc g (58 ∷ with_colons (h ∷ gs)) (58 ∷ (58 ∷ rest)))
    ∙ gap_behind g 58 tail (no_colon g both.0)
    ∙ ap (front_of g) (one_colon tail (colons_begin h gs (58 ∷ (58 ∷ rest)) both.1) ∙ ap (option_map (λ p. (58 ∷ p.0, p.1))) (colons_gap (h ∷ gs) rest both.1))

-- Whole addresses

pieces_split : (gs : List (List ℕ)) → list_all is_group gs ≡ true → pieces_of (with_colons gs) ≡ gs
pieces_split [] all = refl
pieces_split (g ∷ gs) all = some_pieces (with_colons (g ∷ gs)) (colons_some g gs all) ∙ split_colons (g ∷ gs) (omega arith) all
  where
    some_pieces : (text : List ℕ) → 0 < length text → pieces_of text ≡ slice_split is_colon text
    some_pieces [] some = absurd (omega arith)
    some_pieces (b ∷ bs) some = refl

    colons_some : (g : List ℕ) (gs : List (List ℕ)) → list_all is_group (g ∷ gs) ≡ true → 0 < length (with_colons (g ∷ gs))
    colons_some g [] all = (group_parts g (and_parts (is_group g) true all).0).0
    colons_some g (h ∷ gs) all = omega (arith, (group_parts g (and_parts (is_group g) (list_all is_group (h ∷ gs)) all).0).0, length-append g (58 ∷ with_colons (h ∷ gs)))

address_by : (text : List ℕ) → IsSome (grouped_of text) → IsSome (address_of text)
address_by text some = or_some (option_map mapped (dotted_of text)) (grouped_of text) some
  where
    or_some : (a b : Option ℕ) → IsSome b → IsSome (option_or a b)
    or_some None b some = some
    or_some (Some x) b some = refl

pub eight_read : (gs : List (List ℕ)) → list_all is_group gs ≡ true → length gs ≡ 8 → IsSome (address_of (with_colons gs))
eight_read gs all eight =
    let read = numbers_of gs all in
    let whole : grouped_of (with_colons gs) ≡ option_and_then eight_groups (groups_to_end (pieces_of (with_colons gs))) = ap (λ (gap : Gap). gapped gap (with_colons gs)) (colons_no_gap gs all) in
    let numbers : option_and_then eight_groups (groups_to_end (pieces_of (with_colons gs))) ≡ eight_groups read.numbers =
    ap (option_and_then eight_groups) (ap groups_to_end (pieces_split gs all) ∙ read.end) in
    address_by (with_colons gs) (ap is_some (whole ∙ numbers) ∙ rw (eq-eqb (length read.numbers) 8 (read.long ∙ eight)) refl)

pub gap_read : (ls rs : List (List ℕ)) → list_all is_group ls ≡ true → list_all is_group rs ≡ true → length ls + length rs ≤ 7 → IsSome (address_of (with_colons ls ++ 58 ∷ (58 ∷ with_colons rs)))
gap_read ls rs all_ls all_rs few =
    let text : List ℕ = with_colons ls ++ 58 ∷ (58 ∷ with_colons rs) in
    let left = numbers_of ls all_ls in
    let right = numbers_of rs all_rs in
    let whole : grouped_of text ≡ option_and_then (λ left. option_and_then (with_gap left) (groups_to_end (pieces_of (with_colons rs)))) (plain_groups (pieces_of (with_colons ls))) =
    ap (λ (gap : Gap). gapped gap text) (colons_gap ls (with_colons rs) all_ls) in
    let numbers : option_and_then (λ left. option_and_then (with_gap left) (groups_to_end (pieces_of (with_colons rs)))) (plain_groups (pieces_of (with_colons ls))) ≡ with_gap left.numbers right.numbers =
    ap₂ (λ (l r : Option (List ℕ)). option_and_then (λ left. option_and_then (with_gap left) r) l) (ap plain_groups (pieces_split ls all_ls) ∙ left.plain) (ap groups_to_end (pieces_split rs all_rs) ∙ right.end) in
    let within : length left.numbers + length right.numbers ≤ 7 = omega (arith, left.long, right.long) in
    address_by text (ap is_some (whole ∙ numbers) ∙ rw (le-leb (length left.numbers + length right.numbers) 7 within) refl)

-- Groups as they stand in a text

pub group_led : (text rest : List ℕ) (at led : ℕ) → at + 16 ≤ length text → rest ≡ drop at text → led ≡ prefix_len is_hexadecimal (take 16 rest) → 0 < led → led ≤ 4 → AreGroups text at (at + led) 1
group_led text rest at led room back is some few =
    let count : led ≡ at + led - at = omega arith in
    let same : take led rest ≡ take (at + led - at) (drop at text) = ap₂ (λ (n : ℕ) (l : List ℕ). take n l) count back in
    let long : length (take led rest) ≡ led = length-take-le led rest (omega (arith, ap length back, length-drop at text)) in
    let all : list_all is_hexadecimal (take led rest) ≡ true = all_before is_hexadecimal 16 led rest (omega arith) in
    let group : is_group (take led rest) ≡ true =
    and_from (ltb 0 (length (take led rest))) (leb (length (take led rest)) 4 && list_all is_hexadecimal (take led rest)) (lt-ltb 0 (length (take led rest)) (omega (arith, long)))
    (and_from (leb (length (take led rest)) 4) (list_all is_hexadecimal (take led rest)) (le-leb (length (take led rest)) 4 (omega (arith, long))) all) in
    record {
      within = omega arith;
      low = omega arith;
      groups = take led rest ∷ [];
      are = and_from (is_group (take led rest)) true group refl;
      long = refl;
      is = sym same;
    }

record Single (gs : List (List ℕ)) : Type 0 where
  group : List ℕ
  is : gs ≡ group ∷ []

single_of : (gs : List (List ℕ)) → length gs ≡ 1 → Single gs
single_of [] one = absurd (omega arith)
single_of (g ∷ []) one = record { group = g; is = refl }
single_of (g ∷ (h ∷ gs)) one = absurd (omega arith)

with_last : (gs : List (List ℕ)) (g : List ℕ) → with_colons (gs ++ g ∷ []) ≡ colon_behind gs ++ g
with_last [] g = refl
with_last (h ∷ []) g = sym (append_assoc h (58 ∷ []) g)
with_last (h ∷ (i ∷ gs)) g = ap (λ (l : List ℕ). h ++ 58 ∷ l) (with_last (i ∷ gs) g) ∙ sym (append_assoc h (58 ∷ colon_behind (i ∷ gs)) g)

behind_last : (gs : List (List ℕ)) (g : List ℕ) → colon_behind (gs ++ g ∷ []) ≡ colon_behind gs ++ (g ++ 58 ∷ [])
behind_last [] g = refl
behind_last (h ∷ gs) g = ap (λ (l : List ℕ). h ++ 58 ∷ l) (behind_last gs g) ∙ sym (append_assoc h (58 ∷ colon_behind gs) (g ++ 58 ∷ []))

part_more : (text : List ℕ) (from at end : ℕ) → from ≤ at → at ≤ end → take (end - from) (drop from text) ≡ take (at - from) (drop from text) ++ take (end - at) (drop at text)
part_more text from at end low high =
    let count : end - from ≡ (at - from) + (end - at) = omega arith in
    let back : drop (at - from) (drop from text) ≡ drop at text = drop-drop (at - from) from text ∙ ap (λ (n : ℕ). drop n text) (omega arith) in
    ap (λ (n : ℕ). take n (drop from text)) count ∙ take-add (at - from) (end - at) (drop from text) ∙ ap (λ (l : List ℕ). take (at - from) (drop from text) ++ take (end - at) l) back

more_groups : (gs one : List (List ℕ)) (g : List ℕ) → list_all is_group gs ≡ true → list_all is_group one ≡ true → one ≡ g ∷ [] → list_all is_group (gs ++ g ∷ []) ≡ true
more_groups gs one g all last is = list_all-append is_group gs (g ∷ []) ∙ and_from (list_all is_group gs) (list_all is_group (g ∷ [])) all (ap (list_all is_group) (sym is) ∙ last)

-- one more group behind those with a colon behind each
pub group_joined : (text : List ℕ) (from at end count : ℕ) → AreBegun text from at count → AreGroups text at end 1 → AreGroups text from end (count + 1)
group_joined text from at end count begun next =
    let one = single_of next.groups next.long in
    let g : List ℕ = one.group in
    let last : take (end - at) (drop at text) ≡ g = next.is ∙ ap with_colons one.is in
    let low : from ≤ at = begun.low in
    let high : at ≤ end = next.low in
    record {
      within = next.within;
      low = omega arith;
      groups = begun.groups ++ g ∷ [];
      are = more_groups begun.groups next.groups g begun.are next.are one.is;
      long = omega (arith, length-append begun.groups (g ∷ []), begun.long);
      is = part_more text from at end low high ∙ ap₂ (λ (xs ys : List ℕ). xs ++ ys) begun.is last ∙ sym (with_last begun.groups g);
    }

-- the same with a colon behind it
pub group_begun : (text : List ℕ) (from at end count : ℕ) → AreBegun text from at count → AreGroups text at end 1 → get_or text end 0 ≡ 58 → end < length text → AreBegun text from (end + 1) (count + 1)
group_begun text from at end count begun next colon inside =
    let one = single_of next.groups next.long in
    let g : List ℕ = one.group in
    let last : take (end - at) (drop at text) ≡ g = next.is ∙ ap with_colons one.is in
    let low : from ≤ at = begun.low in
    let high : at ≤ end = next.low in
    let none : end + 1 - (end + 1) ≡ 0 = omega arith in
    let cut : take (end + 1 - from) (drop from text) ≡ take (end - from) (drop from text) ++ 58 ∷ [] =
    parted text from end (end + 1) 58 (omega arith) (omega arith) (omega arith) colon ∙ ap (λ (n : ℕ). take (end - from) (drop from text) ++ 58 ∷ take n (drop (end + 1) text)) none in
    record {
      low = omega arith;
      groups = begun.groups ++ g ∷ [];
      are = more_groups begun.groups next.groups g begun.are next.are one.is;
      long = omega (arith, length-append begun.groups (g ∷ []), begun.long);
      is =
          cut ∙ ap (λ (l : List ℕ). l ++ 58 ∷ []) (part_more text from at end low high ∙ ap₂ (λ (xs ys : List ℕ). xs ++ ys) begun.is last)
          ∙ append_assoc (colon_behind begun.groups) g (58 ∷ []) ∙ sym (behind_last begun.groups g);
    }

pub nothing_begun : (text : List ℕ) (from : ℕ) → AreBegun text from from 0
nothing_begun text from =
    let none : from - from ≡ 0 = omega arith in
    record { low = omega arith; groups = []; are = refl; long = refl; is = ap (λ (n : ℕ). take n (drop from text)) none }

pub no_groups : (text : List ℕ) (from : ℕ) → from ≤ length text → AreGroups text from from 0
no_groups text from within =
    let none : from - from ≡ 0 = omega arith in
    record { within = within; low = omega arith; groups = []; are = refl; long = refl; is = ap (λ (n : ℕ). take n (drop from text)) none }

-- No backslash

colons_none : (gs : List (List ℕ)) → list_all is_group gs ≡ true → has_none (with_colons gs)
colons_none [] all = refl
colons_none (g ∷ []) all = hex_none 92 g refl (group_parts g (and_parts (is_group g) true all).0).1.1
colons_none (g ∷ (h ∷ gs)) all =
    let both = and_parts (is_group g) (list_all is_group (h ∷ gs)) all in
    list_any-append (λ b. eqb b 92) g (58 ∷ with_colons (h ∷ gs))
    ∙ or_from (list_any (λ b. eqb b 92) g) (list_any (λ b. eqb b 92) (58 ∷ with_colons (h ∷ gs))) (hex_none 92 g refl (group_parts g both.0).1.1) (colons_none (h ∷ gs) both.1)

-- Whole addresses in a text

pub eight_stand : (text : List ℕ) (count : ℕ) → AreGroups text 0 count 8 → IsSome (address_of (take count text)) × has_none (take count text)
eight_stand text count all =
    let front : count - 0 ≡ count = omega arith in
    let is : take count text ≡ with_colons all.groups = ap (λ (n : ℕ). take n text) (sym front) ∙ all.is in (
      subst (λ (l : List ℕ). IsSome (address_of l)) (sym is) (eight_read all.groups all.are all.long),
      subst (λ (l : List ℕ). has_none l) (sym is) (colons_none all.groups all.are),
    )

pub gap_stands : (text : List ℕ) (end count left right : ℕ) → AreGroups text 0 end left → get_or text end 0 ≡ 58 → get_or text (end + 1) 0 ≡ 58 → AreGroups text (end + 2) count right → left + right ≤ 7
    → IsSome (address_of (take count text)) × has_none (take count text)
gap_stands text end count left right before first second behind few =
    let ls = before.groups in
    let rs = behind.groups in
    let high : end + 2 ≤ count = behind.low in
    let within : count ≤ length text = behind.within in
    let all : count ≡ count - 0 = omega arith in
    let none : end + 1 - (end + 1) ≡ 0 = omega arith in
    let one : end + 1 + 1 ≡ end + 2 = omega arith in
    let inner : take (count - (end + 1)) (drop (end + 1) text) ≡ 58 ∷ with_colons rs =
    parted text (end + 1) (end + 1) count 58 (omega arith) (omega arith) within second
    ∙ ap₂ (λ (n k : ℕ). take n (drop (end + 1) text) ++ 58 ∷ take (count - k) (drop k text)) none one ∙ ap (λ (l : List ℕ). 58 ∷ l) behind.is in
    let is : take count text ≡ with_colons ls ++ 58 ∷ (58 ∷ with_colons rs) =
    ap (λ (n : ℕ). take n text) all ∙ parted text 0 end count 58 (omega arith) (omega arith) within first
    ∙ ap₂ (λ (xs ys : List ℕ). xs ++ 58 ∷ ys) before.is inner in
    let lone : has_none (with_colons ls ++ 58 ∷ (58 ∷ with_colons rs)) =
    list_any-append (λ b. eqb b 92) (with_colons ls) (58 ∷ (58 ∷ with_colons rs))
    ∙ or_from (list_any (λ b. eqb b 92) (with_colons ls)) (list_any (λ b. eqb b 92) (58 ∷ (58 ∷ with_colons rs))) (colons_none ls before.are) (colons_none rs behind.are) in (
      subst (λ (l : List ℕ). IsSome (address_of l)) (sym is) (gap_read ls rs before.are behind.are (omega (arith, before.long, behind.long))),
      subst (λ (l : List ℕ). has_none l) (sym is) lone,
    )
