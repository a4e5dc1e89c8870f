-- Addresses that were written are read again.
use Rattle.std.proofs.Common.{◌≡◌, ℕ, zero, suc, ◌+◌, ◌-◌, ◌*◌, ◌/◌, ◌%◌, ◌^◌, ◌<◌, ◌≤◌, Bool, true, false, not, cond, leb, List, [], ◌∷◌, ◌++◌, length, take, drop, None, Some, refl, ap, sym, ◌∙◌, arith, inl, inr}
use Rattle.std.specs.Prelude.{replicate}
use Rattle.std.specs.List.{list_all, prefix_len}
use Rattle.std.proofs.lemmas.Bool.{cases_Bool, cond-true, cond-false, le-leb, lt-ltb, leb-true, eqb-true, ne_eqb}
use Rattle.std.proofs.lemmas.List.{append-nil, length-take-le, length-drop}
use Rattle.std.proofs.lemmas.List.Sums.{prefix_len-le-length}
use Rattle.std.proofs.lemmas.Nat.{shr-shr, div-add-mod'}
use Rattle.value_writing.specs.declared.run.Run.{Run}
use Rattle.value_reading.specs.Numbers.{is_point}
use Rattle.value_reading.specs.Addresses.{around_gap, number_of_groups, with_gap, grouped_of, dotted_of, octets, mapped, address_of}
use Rattle.value_writing.specs.Writing.{groups_of, joined_groups, longer_run, is_zero, longest_run, gapped_text, grouped_text, dotted_text, is_mapped, address_text}
use Rattle.value_writing.proofs.WritingNumbers.{both, all_append}
use Rattle.value_writing.proofs.WritingDotted.{split_none, dotted_again, dotted_all}
use Rattle.value_writing.proofs.WritingGroups.{is_group, joined_passes, plain_again, end_again, gap_over}

-- The number of the groups

group_step : (a k : ℕ) → a / 2 ^ (k + 16) * 2 ^ 16 + a / 2 ^ k % 2 ^ 16 ≡ a / 2 ^ k
group_step a k = rw (← (shr-shr a k 16)) (div-add-mod' (a / 2 ^ k) (2 ^ 16))

pub number_again : (a : ℕ) → a < 2 ^ 128 → number_of_groups (groups_of a) ≡ a
number_again a h =
    let top : 0 * 65536 + a / 2 ^ 112 % 2 ^ 16 ≡ a / 2 ^ 112 = omega arith in
    let last : a / 2 ^ 16 * 2 ^ 16 + a % 2 ^ 16 ≡ a = div-add-mod' a (2 ^ 16) in
    rw (top, group_step a 96, group_step a 80, group_step a 64, group_step a 48, group_step a 32, group_step a 16) last

are_groups : (a : ℕ) → list_all is_group (groups_of a) ≡ true
are_groups a =
    rw (
      lt-ltb (a / 2 ^ 112 % 2 ^ 16) 65536 (omega arith),
      lt-ltb (a / 2 ^ 96 % 2 ^ 16) 65536 (omega arith),
      lt-ltb (a / 2 ^ 80 % 2 ^ 16) 65536 (omega arith),
      lt-ltb (a / 2 ^ 64 % 2 ^ 16) 65536 (omega arith),
      lt-ltb (a / 2 ^ 48 % 2 ^ 16) 65536 (omega arith),
      lt-ltb (a / 2 ^ 32 % 2 ^ 16) 65536 (omega arith),
      lt-ltb (a / 2 ^ 16 % 2 ^ 16) 65536 (omega arith),
      lt-ltb (a % 2 ^ 16) 65536 (omega arith),
    ) refl

-- The run

-- a run of zeros among groups that begin at so much
record IsRun (at : ℕ) (gs : List ℕ) (run : Run) : Type 0 where
  before : ℕ
  start : run.start ≡ at + before
  fits : before + run.count ≤ length gs
  whole : take before gs ++ (replicate run.count 0 ++ drop (before + run.count) gs) ≡ gs

zeros_whole : (gs : List ℕ) → replicate (prefix_len is_zero gs) 0 ++ drop (prefix_len is_zero gs) gs ≡ gs
zeros_whole [] = refl
zeros_whole (g ∷ gs) = elim (cases_Bool (is_zero g)) [
  | inl zero_group ↦
      let one : 1 + prefix_len is_zero gs ≡ suc (prefix_len is_zero gs) = omega arith in
      let is : g ≡ 0 = eqb-true g 0 zero_group in
      rw (zero_group, one, zeros_whole gs) (ap (λ (x : ℕ). x ∷ gs) (sym is))
  | inr other ↦ rw other refl
]

zeros_fit : (gs : List ℕ) → prefix_len is_zero gs ≤ length gs
zeros_fit gs = prefix_len-le-length is_zero gs

run_here : (at : ℕ) (gs : List ℕ) → IsRun at gs (record { start = at; count = prefix_len is_zero gs })
run_here at gs =
    let same : 0 + prefix_len is_zero gs ≡ prefix_len is_zero gs = omega arith in
    record { before = 0; start = omega arith; fits = rw same (zeros_fit gs); whole = rw same (zeros_whole gs) }

run_behind : (at g : ℕ) (gs : List ℕ) (run : Run) → IsRun (at + 1) gs run → IsRun at (g ∷ gs) run
run_behind at g gs run h =
    let moved : suc h.before + run.count ≡ suc (h.before + run.count) = omega arith in
    record { before = suc h.before; start = omega (arith, h.start); fits = omega (arith, h.fits); whole = rw moved (ap (λ (xs : List ℕ). g ∷ xs) h.whole) }

longer_either : (at : ℕ) (gs : List ℕ) (a b : Run) → IsRun at gs a → IsRun at gs b → IsRun at gs (longer_run a b)
longer_either at gs a b ha hb = elim (leb b.count a.count) as (λ t. IsRun at gs (cond t a b)) [ true ↦ ha | false ↦ hb ]

longest_is_run : (at : ℕ) (gs : List ℕ) → IsRun at gs (longest_run at gs)
longest_is_run at [] = record { before = 0; start = omega arith; fits = omega arith; whole = refl }
longest_is_run at (g ∷ gs) = longer_either at (g ∷ gs) _ _ (run_here at (g ∷ gs)) (run_behind at g gs (longest_run (at + 1) gs) (longest_is_run (at + 1) gs))

all_take : (p : ℕ → Bool) (n : ℕ) (xs : List ℕ) → list_all p xs ≡ true → list_all p (take n xs) ≡ true
all_take p zero xs h = refl
all_take p (suc n) [] h = refl
all_take p (suc n) (x ∷ xs) h = let a = both (p x) (list_all p xs) h in rw (a.0, all_take p n xs a.1) refl

all_drop : (p : ℕ → Bool) (n : ℕ) (xs : List ℕ) → list_all p xs ≡ true → list_all p (drop n xs) ≡ true
all_drop p zero xs h = h
all_drop p (suc n) [] h = refl
all_drop p (suc n) (x ∷ xs) h = all_drop p n xs (both (p x) (list_all p xs) h).1

-- Groups, with a gap or without

abbrev around : List ℕ → List ℕ → List ℕ
around left right = joined_groups left ++ 58 ∷ (58 ∷ joined_groups right)

gap_found : (left right : List ℕ) → list_all is_group left ≡ true → around_gap (around left right) ≡ Some (joined_groups left, joined_groups right)
gap_found left right h =
    gap_over left (58 ∷ (58 ∷ joined_groups right)) h ∙ ap (λ (xs : List ℕ). Some (xs, joined_groups right)) (append-nil (joined_groups left))

around_again : (left right : List ℕ) → list_all is_group left ≡ true → list_all is_group right ≡ true → grouped_of (around left right) ≡ with_gap left right
around_again left right h k = rw (gap_found left right h, plain_again left h, end_again right k) refl

no_gap : (gs : List ℕ) → list_all is_group gs ≡ true → around_gap (joined_groups gs) ≡ None
no_gap gs h = ap around_gap (sym (append-nil (joined_groups gs))) ∙ gap_over gs [] h

plain_text_again : (gs : List ℕ) → length gs ≡ 8 → list_all is_group gs ≡ true → grouped_of (joined_groups gs) ≡ Some (number_of_groups gs)
plain_text_again gs n h = rw (no_gap gs h, end_again gs h, n) refl

filled : (gs left right : List ℕ) (count : ℕ) → length left + (count + length right) ≡ 8 → 1 ≤ count → left ++ (replicate count 0 ++ right) ≡ gs → with_gap left right ≡ Some (number_of_groups gs)
filled gs left right count n some whole =
    let fill : 8 - (length left + length right) ≡ count = omega arith in
    rw (le-leb (length left + length right) 7 (omega arith), fill, whole) refl

gapped_again : (run : Run) (gs : List ℕ) → IsRun 0 gs run → length gs ≡ 8 → list_all is_group gs ≡ true → grouped_of (gapped_text run gs) ≡ Some (number_of_groups gs)
gapped_again run gs r n h = elim (cases_Bool (leb 2 run.count)) [
  | inl gap ↦
      let at : run.start ≡ r.before = omega (arith, r.start) in
      let fits : r.before + run.count ≤ length gs = r.fits in
      let two : 2 ≤ run.count = leb-true 2 run.count gap in
      let left = take run.start gs in
      let right = drop (run.start + run.count) gs in
      let left_is : length left ≡ run.start = length-take-le run.start gs (omega arith) in
      let right_is : length right ≡ length gs - (run.start + run.count) = length-drop (run.start + run.count) gs in
      let whole : left ++ (replicate run.count 0 ++ right) ≡ gs = rw at r.whole in
      ap grouped_of (cond-true (leb 2 run.count) (around left right) (joined_groups gs) gap)
      ∙ (around_again left right (all_take is_group run.start gs h) (all_drop is_group (run.start + run.count) gs h)
      ∙ filled gs left right run.count (omega arith) (omega arith) whole)
  | inr none ↦ ap grouped_of (cond-false (leb 2 run.count) (around (take run.start gs) (drop (run.start + run.count) gs)) (joined_groups gs) none) ∙ plain_text_again gs n h
]

pub grouped_again : (a : ℕ) → a < 2 ^ 128 → grouped_of (grouped_text (groups_of a)) ≡ Some a
unfolding grouped_text
grouped_again a h =
    gapped_again (longest_run 0 (groups_of a)) (groups_of a) (longest_is_run 0 (groups_of a)) refl (are_groups a)
    ∙ ap (λ (x : ℕ). Some x) (number_again a h)

-- A test that passes hexadecimal digits and the colon passes groups.
module _ (p : ℕ → Bool) (low : (b : ℕ) → 48 ≤ b → b ≤ 57 → p b ≡ true) (high : (b : ℕ) → 97 ≤ b → b ≤ 102 → p b ≡ true) (colon : p 58 ≡ true) where
  gapped_passes : (run : Run) (gs : List ℕ) → list_all is_group gs ≡ true → list_all p (gapped_text run gs) ≡ true
  gapped_passes run gs h = elim (leb 2 run.count) as (λ t. list_all p (cond t (around (take run.start gs) (drop (run.start + run.count) gs)) (joined_groups gs)) ≡ true) [
    | true ↦ all_append p (joined_groups (take run.start gs)) (58 ∷ (58 ∷ joined_groups (drop (run.start + run.count) gs)))
        (joined_passes p low high colon (take run.start gs) (all_take is_group run.start gs h))
        (rw (colon, joined_passes p low high colon (drop (run.start + run.count) gs) (all_drop is_group (run.start + run.count) gs h)) refl)
    | false ↦ joined_passes p low high colon gs h
  ]

  pub grouped_passes : (a : ℕ) → list_all p (grouped_text (groups_of a)) ≡ true
  unfolding grouped_text
  grouped_passes a = gapped_passes (longest_run 0 (groups_of a)) (groups_of a) (are_groups a)

  pub address_passes : p 46 ≡ true → (a : ℕ) → list_all p (address_text a) ≡ true
  address_passes point a = elim (is_mapped a) as (λ t. list_all p (cond t (dotted_text (a % 2 ^ 32)) (grouped_text (groups_of a))) ≡ true) [
    | true ↦ dotted_all p low point (a % 2 ^ 32)
    | false ↦ grouped_passes a
  ]

-- Whole addresses

no_point_low : (b : ℕ) → 48 ≤ b → b ≤ 57 → not (is_point b) ≡ true
no_point_low b low high = rw (ne_eqb b 46 (λ e. omega arith)) refl

no_point_high : (b : ℕ) → 97 ≤ b → b ≤ 102 → not (is_point b) ≡ true
no_point_high b low high = rw (ne_eqb b 46 (λ e. omega arith)) refl

-- groups are no dotted number
pub grouped_no_dots : (a : ℕ) → dotted_of (grouped_text (groups_of a)) ≡ None
grouped_no_dots a = ap octets (split_none is_point (grouped_text (groups_of a)) (grouped_passes (λ b. not (is_point b)) no_point_low no_point_high refl a))

pub mapped_again : (a : ℕ) → is_mapped a ≡ true → mapped (a % 2 ^ 32) ≡ a
mapped_again a h = let e = eqb-true (a / 2 ^ 32) 65535 h in omega (arith, e)

pub address_again : (a : ℕ) → a < 2 ^ 128 → address_of (address_text a) ≡ Some a
address_again a h = elim (cases_Bool (is_mapped a)) [
  | inl v4 ↦
      ap address_of (cond-true (is_mapped a) (dotted_text (a % 2 ^ 32)) (grouped_text (groups_of a)) v4)
      ∙ (rw (dotted_again (a % 2 ^ 32) (omega arith)) (ap (λ (x : ℕ). Some x) (mapped_again a v4)))
  | inr v6 ↦
      ap address_of (cond-false (is_mapped a) (dotted_text (a % 2 ^ 32)) (grouped_text (groups_of a)) v6)
      ∙ (rw (grouped_no_dots a, grouped_again a h) refl)
]
