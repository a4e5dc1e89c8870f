-- Groups that were written are read again.
use Rattle.std.proofs.Common.{◌≡◌, ℕ, ◌+◌, ◌*◌, ◌/◌, ◌%◌, ◌<◌, ◌≤◌, Bool, true, false, not, ltb, List, [], ◌∷◌, ◌++◌, map, Option, None, Some, refl, ap, sym, ◌∙◌, append_assoc, arith, inl, inr}
use Rattle.std.specs.List.{list_all, flat_map, slice_split}
use Rattle.std.specs.Option.{option_map, option_and_then}
use Rattle.std.proofs.lemmas.Bool.{cases_lt, lt-ltb, le-ltb, ltb-true, ne_eqb}
use Rattle.value_reading.specs.Addresses.{is_colon, hexadecimal_behind, group_of, last_groups, groups_to_end, plain_groups, pieces_of, around_gap}
use Rattle.value_writing.specs.Writing.{hexadecimal, group_text, joined_groups}
use Rattle.value_writing.proofs.WritingNumbers.{both, not_true, all_weaker}
use Rattle.value_writing.proofs.WritingTexts.{digit_is, digit_again}
use Rattle.value_writing.proofs.WritingDotted.{split_joined, joined_all}

abbrev pub is_group : ℕ → Bool
is_group g = ltb g 65536

-- One group

behind_digit : (n d : ℕ) (ds : List ℕ) → d < 16 → hexadecimal_behind n (hexadecimal d ∷ ds) ≡ hexadecimal_behind (n * 16 + d) ds
behind_digit n d ds h = rw (digit_is d h, digit_again d h) refl

one_digit : (a : ℕ) → a < 16 → group_of (hexadecimal a ∷ []) ≡ Some (0 * 16 + a)
one_digit a ha = behind_digit 0 a [] ha

two_digits : (a b : ℕ) → a < 16 → b < 16 → group_of (hexadecimal a ∷ (hexadecimal b ∷ [])) ≡ Some ((0 * 16 + a) * 16 + b)
two_digits a b ha hb = behind_digit 0 a (hexadecimal b ∷ []) ha ∙ behind_digit (0 * 16 + a) b [] hb

three_digits : (a b c : ℕ) → a < 16 → b < 16 → c < 16 → group_of (hexadecimal a ∷ (hexadecimal b ∷ (hexadecimal c ∷ []))) ≡ Some (((0 * 16 + a) * 16 + b) * 16 + c)
three_digits a b c ha hb hc =
    behind_digit 0 a (hexadecimal b ∷ (hexadecimal c ∷ [])) ha
    ∙ (behind_digit (0 * 16 + a) b (hexadecimal c ∷ []) hb ∙ behind_digit ((0 * 16 + a) * 16 + b) c [] hc)

four_digits : (a b c d : ℕ) → a < 16 → b < 16 → c < 16 → d < 16 → group_of (hexadecimal a ∷ (hexadecimal b ∷ (hexadecimal c ∷ (hexadecimal d ∷ [])))) ≡ Some ((((0 * 16 + a) * 16 + b) * 16 + c) * 16 + d)
four_digits a b c d ha hb hc hd =
    behind_digit 0 a (hexadecimal b ∷ (hexadecimal c ∷ (hexadecimal d ∷ []))) ha
    ∙ (behind_digit (0 * 16 + a) b (hexadecimal c ∷ (hexadecimal d ∷ [])) hb
    ∙ (behind_digit ((0 * 16 + a) * 16 + b) c (hexadecimal d ∷ []) hc ∙ behind_digit (((0 * 16 + a) * 16 + b) * 16 + c) d [] hd))

pub group_again : (g : ℕ) → g < 65536 → group_of (group_text g) ≡ Some g
group_again g h = elim (cases_lt g 16) [
  | inl one ↦
      let whole : 0 * 16 + g ≡ g = omega arith in
      rw (lt-ltb g 16 one) (one_digit g one ∙ ap (λ (x : ℕ). Some x) whole)
  | inr more ↦ elim (cases_lt g 256) [
    | inl two ↦
        let whole : (0 * 16 + g / 16) * 16 + g % 16 ≡ g = omega arith in
        rw (le-ltb g 16 more, lt-ltb g 256 two) (two_digits (g / 16) (g % 16) (omega arith) (omega arith) ∙ ap (λ (x : ℕ). Some x) whole)
    | inr more2 ↦ elim (cases_lt g 4096) [
      | inl three ↦
          let whole : ((0 * 16 + g / 256) * 16 + g / 16 % 16) * 16 + g % 16 ≡ g = omega arith in
          rw (le-ltb g 16 more, le-ltb g 256 more2, lt-ltb g 4096 three) (three_digits (g / 256) (g / 16 % 16) (g % 16) (omega arith) (omega arith) (omega arith) ∙ ap (λ (x : ℕ). Some x) whole)
      | inr four ↦
          let whole : (((0 * 16 + g / 4096) * 16 + g / 256 % 16) * 16 + g / 16 % 16) * 16 + g % 16 ≡ g = omega arith in
          rw (le-ltb g 16 more, le-ltb g 256 more2, le-ltb g 4096 four) (four_digits (g / 4096) (g / 256 % 16) (g / 16 % 16) (g % 16) (omega arith) (omega arith) (omega arith) (omega arith) ∙ ap (λ (x : ℕ). Some x) whole)
    ]
  ]
]

-- A test that passes hexadecimal digits passes groups.
module _ (p : ℕ → Bool) (low : (b : ℕ) → 48 ≤ b → b ≤ 57 → p b ≡ true) (high : (b : ℕ) → 97 ≤ b → b ≤ 102 → p b ≡ true) where
  digit_passes : (d : ℕ) → d < 16 → p (hexadecimal d) ≡ true
  digit_passes d h = elim (cases_lt d 10) [
    | inl small ↦ rw (lt-ltb d 10 small) (low (48 + d) (omega arith) (omega arith))
    | inr large ↦ rw (le-ltb d 10 large) (high (87 + d) (omega arith) (omega arith))
  ]

  group_passes : (g : ℕ) → g < 65536 → list_all p (group_text g) ≡ true
  group_passes g h = elim (cases_lt g 16) [
    | inl one ↦ rw (lt-ltb g 16 one, digit_passes g one) refl
    | inr more ↦ elim (cases_lt g 256) [
      | inl two ↦ rw (le-ltb g 16 more, lt-ltb g 256 two, digit_passes (g / 16) (omega arith), digit_passes (g % 16) (omega arith)) refl
      | inr more2 ↦ elim (cases_lt g 4096) [
        | inl three ↦ rw (le-ltb g 16 more, le-ltb g 256 more2, lt-ltb g 4096 three, digit_passes (g / 256) (omega arith), digit_passes (g / 16 % 16) (omega arith), digit_passes (g % 16) (omega arith)) refl
        | inr four ↦ rw (le-ltb g 16 more, le-ltb g 256 more2, le-ltb g 4096 four, digit_passes (g / 4096) (omega arith), digit_passes (g / 256 % 16) (omega arith), digit_passes (g / 16 % 16) (omega arith), digit_passes (g % 16) (omega arith)) refl
      ]
    ]
  ]

  groups_pass : (gs : List ℕ) → list_all is_group gs ≡ true → list_all (λ g. list_all p (group_text g)) gs ≡ true
  groups_pass gs h = all_weaker is_group (λ g. list_all p (group_text g)) (λ g small. group_passes g (ltb-true g 65536 small)) gs h

  pub joined_passes : p 58 ≡ true → (gs : List ℕ) → list_all is_group gs ≡ true → list_all p (joined_groups gs) ≡ true
  joined_passes k [] h = refl
  joined_passes k (g ∷ gs) h = joined_all p 58 group_text k g gs (groups_pass (g ∷ gs) h)

-- Groups between colons

not_colon_low : (b : ℕ) → 48 ≤ b → b ≤ 57 → not (is_colon b) ≡ true
not_colon_low b low high = rw (ne_eqb b 58 (λ e. omega arith)) refl

not_colon_high : (b : ℕ) → 97 ≤ b → b ≤ 102 → not (is_colon b) ≡ true
not_colon_high b low high = rw (ne_eqb b 58 (λ e. omega arith)) refl

abbrev no_colon : List ℕ → Bool
no_colon text = list_all (λ b. not (is_colon b)) text

group_no_colon : (g : ℕ) → is_group g ≡ true → no_colon (group_text g) ≡ true
group_no_colon g h = group_passes (λ b. not (is_colon b)) not_colon_low not_colon_high g (ltb-true g 65536 h)

pieces_full : (n : ℕ) (xs rest : List ℕ) → group_of xs ≡ Some n → pieces_of (xs ++ rest) ≡ slice_split is_colon (xs ++ rest)
pieces_full n [] rest h = absurd cc
pieces_full n (x ∷ xs) rest h = refl

pieces_again : (g : ℕ) (gs : List ℕ) → list_all is_group (g ∷ gs) ≡ true → pieces_of (joined_groups (g ∷ gs)) ≡ map group_text (g ∷ gs)
pieces_again g gs h =
    let a = both (is_group g) (list_all is_group gs) h in
    pieces_full g (group_text g) (flat_map (λ y. (58 ∷ []) ++ group_text y) gs) (group_again g (ltb-true g 65536 a.0))
    ∙ split_joined is_colon 58 group_text refl g gs (groups_pass (λ b. not (is_colon b)) not_colon_low not_colon_high (g ∷ gs) h)

plain_map : (gs : List ℕ) → list_all is_group gs ≡ true → plain_groups (map group_text gs) ≡ Some gs
plain_map [] h = refl
plain_map (g ∷ gs) h =
    let a = both (is_group g) (list_all is_group gs) h in
    rw (group_again g (ltb-true g 65536 a.0), plain_map gs a.1) refl

last_again : (g : ℕ) (piece : List ℕ) → group_of piece ≡ Some g → last_groups piece ≡ Some (g ∷ [])
last_again g piece h = rw h refl

end_map : (gs : List ℕ) → list_all is_group gs ≡ true → groups_to_end (map group_text gs) ≡ Some gs
end_map [] h = refl
end_map (g ∷ []) h = last_again g (group_text g) (group_again g (ltb-true g 65536 (both (is_group g) true h).0))
end_map (g ∷ (next ∷ more)) h =
    let a = both (is_group g) (list_all is_group (next ∷ more)) h in
    ap (λ (x : Option ℕ). option_and_then (λ g. option_map (λ gs. g ∷ gs) (groups_to_end (map group_text (next ∷ more)))) x) (group_again g (ltb-true g 65536 a.0))
    ∙ ap (λ (x : Option (List ℕ)). option_map (λ gs. g ∷ gs) x) (end_map (next ∷ more) a.1)

pub plain_again : (gs : List ℕ) → list_all is_group gs ≡ true → plain_groups (pieces_of (joined_groups gs)) ≡ Some gs
plain_again [] h = refl
plain_again (g ∷ gs) h = ap plain_groups (pieces_again g gs h) ∙ plain_map (g ∷ gs) h

pub end_again : (gs : List ℕ) → list_all is_group gs ≡ true → groups_to_end (pieces_of (joined_groups gs)) ≡ Some gs
end_again [] h = refl
end_again (g ∷ gs) h = ap groups_to_end (pieces_again g gs h) ∙ end_map (g ∷ gs) h

-- The gap

abbrev Sides : Type 0
Sides = List ℕ × List ℕ

-- what stands before the gap, with more in front
abbrev behind : List ℕ → Sides → Sides
behind xs p = (xs ++ p.0, p.1)

one_behind : (b : ℕ) (rest : List ℕ) → is_colon b ≡ false → around_gap (b ∷ rest) ≡ option_map (behind (b ∷ [])) (around_gap rest)
one_behind b [] h = refl
one_behind b (c ∷ rest) h = rw h refl

behind_twice : (b : ℕ) (xs : List ℕ) (o : Option Sides) → option_map (behind (b ∷ [])) (option_map (behind xs) o) ≡ option_map (behind (b ∷ xs)) o
behind_twice b xs None = refl
behind_twice b xs (Some p) = refl

behind_nothing : (o : Option Sides) → o ≡ option_map (behind []) o
behind_nothing None = refl
behind_nothing (Some p) = refl

gap_over_piece : (xs rest : List ℕ) → no_colon xs ≡ true → around_gap (xs ++ rest) ≡ option_map (behind xs) (around_gap rest)
gap_over_piece [] rest h = behind_nothing (around_gap rest)
gap_over_piece (x ∷ xs) rest h =
    let a = both (not (is_colon x)) (no_colon xs) h in
    one_behind x (xs ++ rest) (not_true (is_colon x) a.0) ∙ (ap (option_map (behind (x ∷ []))) (gap_over_piece xs rest a.1) ∙ behind_twice x xs (around_gap rest))

colon_over_piece : (n : ℕ) (xs rest : List ℕ) → group_of xs ≡ Some n → no_colon xs ≡ true → around_gap (58 ∷ (xs ++ rest)) ≡ option_map (behind (58 ∷ xs)) (around_gap rest)
colon_over_piece n [] rest k h = absurd cc
colon_over_piece n (x ∷ xs) rest k h =
    let a = both (not (is_colon x)) (no_colon xs) h in
    rw (not_true (is_colon x) a.0) (ap (option_map (behind (58 ∷ []))) (gap_over_piece (x ∷ xs) rest h) ∙ behind_twice 58 (x ∷ xs) (around_gap rest))

both_behind : (xs ys : List ℕ) (o : Option Sides) → option_map (behind xs) (option_map (behind ys) o) ≡ option_map (behind (xs ++ ys)) o
both_behind xs ys None = refl
both_behind xs ys (Some p) = ap (λ (x : List ℕ). Some (x, p.1)) (sym (append_assoc xs ys p.0))

abbrev more_groups : List ℕ → List ℕ
more_groups gs = flat_map (λ g. (58 ∷ []) ++ group_text g) gs

gap_over_more : (gs rest : List ℕ) → list_all is_group gs ≡ true → around_gap (more_groups gs ++ rest) ≡ option_map (behind (more_groups gs)) (around_gap rest)
gap_over_more [] rest h = behind_nothing (around_gap rest)
gap_over_more (g ∷ gs) rest h =
    let a = both (is_group g) (list_all is_group gs) h in
    ap (λ (x : List ℕ). around_gap (58 ∷ x)) (append_assoc (group_text g) (more_groups gs) rest)
    ∙ (colon_over_piece g (group_text g) (more_groups gs ++ rest) (group_again g (ltb-true g 65536 a.0)) (group_no_colon g a.0)
    ∙ (ap (option_map (behind (58 ∷ group_text g))) (gap_over_more gs rest a.1) ∙ both_behind (58 ∷ group_text g) (more_groups gs) (around_gap rest)))

pub gap_over : (gs rest : List ℕ) → list_all is_group gs ≡ true → around_gap (joined_groups gs ++ rest) ≡ option_map (behind (joined_groups gs)) (around_gap rest)
gap_over [] rest h = behind_nothing (around_gap rest)
gap_over (g ∷ gs) rest h =
    let a = both (is_group g) (list_all is_group gs) h in
    ap around_gap (append_assoc (group_text g) (more_groups gs) rest)
    ∙ (gap_over_piece (group_text g) (more_groups gs ++ rest) (group_no_colon g a.0)
    ∙ (ap (option_map (behind (group_text g))) (gap_over_more gs rest a.1) ∙ both_behind (group_text g) (more_groups gs) (around_gap rest)))
