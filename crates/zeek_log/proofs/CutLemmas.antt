-- The first piece of a text, by the first separator.
use Rattle.std.proofs.Common.{◌≡◌, ℕ, zero, suc, ◌+◌, ◌-◌, ◌<◌, ◌≤◌, ◌==◌, Bool, true, false, ◌||◌, List, [], ◌∷◌, None, Some, length, take, drop, get_or, refl, ap, sym, ◌∙◌, subst, add-one, arith, cond}
use Rattle.std.proofs.lemmas.Bool.Decides.{nat_tests}
use Rattle.std.specs.List.{slice_split, onto_first, position_or_len, list_any}
use Rattle.std.proofs.lemmas.List.Sums.{position_or_len_is}
use Rattle.std.proofs.lemmas.List.{length-take, length-drop, drop-drop, get_or-drop}
use Rattle.memchr.proofs.lemmas.FindLemmas.{Nowhere-then}
use Rattle.memchr.specs.Find.{IsFirstByte, Nowhere, Passes, is_byte}
use Rattle.vast_value.specs.Layouts.{is_empty}
use Rattle.zeek_log.specs.Cuts.{SplitsPiece, has_backslash}
use Rattle.zeek_log.specs.Lines.{pieces_of}

pub not_true : (b : Bool) → ¬ (b ≡ true) → b ≡ false
not_true true n = absurd (n refl)
not_true false n = refl

-- a list that is split at the first element that passes
pub split_first : (p : ℕ → Bool) (xs : List ℕ) (k : ℕ) → k < length xs → ((j : ℕ) → j < k → ¬ (p (get_or xs j 0) ≡ true)) → p (get_or xs k 0) ≡ true
    → slice_split p xs ≡ take k xs ∷ slice_split p (drop (suc k) xs)
split_first p [] k below before here = absurd (omega arith)
split_first p (x ∷ xs) zero below before here = rw here refl
split_first p (x ∷ xs) (suc k) below before here =
    let no : p x ≡ false = not_true (p x) (before 0 (omega arith)) in
    let rest : slice_split p xs ≡ take k xs ∷ slice_split p (drop (suc k) xs) =
    split_first p xs k (omega arith) (λ j h. before (suc j) (omega arith)) here in
    rw (no, rest) refl

-- a list in which none passes
pub split_none : (p : ℕ → Bool) (xs : List ℕ) → ((j : ℕ) → j < length xs → ¬ (p (get_or xs j 0) ≡ true)) → slice_split p xs ≡ xs ∷ []
split_none p [] none = refl
split_none p (x ∷ xs) none =
    let no : p x ≡ false = not_true (p x) (none 0 (omega arith)) in
    let rest : slice_split p xs ≡ xs ∷ [] = split_none p xs (λ j h. none (suc j) (omega arith)) in
    rw (no, rest) refl

left_none : (a b : Bool) → (a || b) ≡ false → a ≡ false
left_none true b none = none
left_none false b none = refl

right_none : (a b : Bool) → (a || b) ≡ false → b ≡ false
right_none true b none = absurd cc
right_none false b none = none

or_true : (b : Bool) → (b || true) ≡ true
or_true true = refl
or_true false = refl

none_taken : (p : ℕ → Bool) (n : ℕ) (xs : List ℕ) → list_any p xs ≡ false → list_any p (take n xs) ≡ false
none_taken p zero xs none = refl
none_taken p (suc n) [] none = refl
none_taken p (suc n) (x ∷ xs) none =
    let no : p x ≡ false = left_none (p x) (list_any p xs) none in
    let rest : list_any p (take n xs) ≡ false = none_taken p n xs (right_none (p x) (list_any p xs) none) in
    rw (no, rest) refl

none_dropped : (p : ℕ → Bool) (n : ℕ) (xs : List ℕ) → list_any p xs ≡ false → list_any p (drop n xs) ≡ false
none_dropped p zero xs none = none
none_dropped p (suc n) [] none = refl
none_dropped p (suc n) (x ∷ xs) none = none_dropped p n xs (right_none (p x) (list_any p xs) none)

none_passes : (p : ℕ → Bool) (xs : List ℕ) → ((j : ℕ) → j < length xs → ¬ (p (get_or xs j 0) ≡ true)) → list_any p xs ≡ false
none_passes p [] none = refl
none_passes p (x ∷ xs) none =
    let no : p x ≡ false = not_true (p x) (none 0 (omega arith)) in
    let rest : list_any p xs ≡ false = none_passes p xs (λ j h. none (suc j) (omega arith)) in
    rw (no, rest) refl

one_passes : (p : ℕ → Bool) (xs : List ℕ) (k : ℕ) → k < length xs → p (get_or xs k 0) ≡ true → list_any p xs ≡ true
one_passes p [] k below here = absurd (omega arith)
one_passes p (x ∷ xs) zero below here = rw here refl
one_passes p (x ∷ xs) (suc k) below here =
    let rest : list_any p xs ≡ true = one_passes p xs k (omega arith) here in
    rw rest (or_true (p x))

-- whether a backslash was found
pub backslash_found : (text : List ℕ) (k : ℕ) → IsFirstByte (is_byte 92) text (Some k) → true ≡ has_backslash text
backslash_found text k first = sym (one_passes (is_byte 92) text k first.0.high first.1)

pub backslash_none : (text : List ℕ) → IsFirstByte (is_byte 92) text None → false ≡ has_backslash text
backslash_none text none = sym (none_passes (is_byte 92) text (λ j h. none j (omega arith) h))

dropped_more : (xs behind rest : List ℕ) (k : ℕ) → behind ≡ drop k xs → rest ≡ drop 1 behind → rest ≡ drop (suc k) xs
dropped_more xs behind rest k back next =
    next ∙ ap (λ (t : List ℕ). drop 1 t) back ∙ drop-drop 1 k xs ∙ ap (λ (n : ℕ). drop n xs) (add-one k)

splits_piece : (s : ℕ) (text : List ℕ) (k : ℕ) → IsFirstByte (is_byte s) text (Some k) → SplitsPiece s text (take k text) (Some (drop (suc k) text))
splits_piece s text k first = record {
  pieces = split_first (is_byte s) text k first.0.high (λ j h. first.0.before j (omega arith) h) first.1;
  shorter = omega (arith, first.0.high, length-drop (suc k) text);
  within = omega (arith, length-take k text);
  plain = none_taken (is_byte 92) k text;
  plain_left = none_dropped (is_byte 92) (suc k) text;
}

pub splits_piece_at : (s : ℕ) (text piece behind rest : List ℕ) (k : ℕ) → IsFirstByte (is_byte s) text (Some k)
    → piece ≡ take k text → behind ≡ drop k text → rest ≡ drop 1 behind → SplitsPiece s text piece (Some rest)
splits_piece_at s text piece behind rest k first front back next =
    subst (λ (l : List ℕ). SplitsPiece s text l (Some rest)) (sym front)
    (subst (λ (r : List ℕ). SplitsPiece s text (take k text) (Some r)) (sym (dropped_more text behind rest k back next))
    (splits_piece s text k first))

pub splits_only_at : (s : ℕ) (text : List ℕ) → IsFirstByte (is_byte s) text None → SplitsPiece s text text None
splits_only_at s text none = record {
  pieces = split_none (is_byte s) text (λ j h. none j (omega arith) h);
  shorter = omega arith;
  within = omega arith;
  plain = λ none. none;
  plain_left = λ none. refl;
}

onto_first_some : (x : ℕ) (xs : List (List ℕ)) → is_empty (onto_first x xs) ≡ false
onto_first_some x [] = refl
onto_first_some x (y ∷ ys) = refl

-- a text has at least one piece
pub pieces_some : (s : ℕ) (text : List ℕ) → is_empty (pieces_of s text) ≡ false
pieces_some s [] = refl
pieces_some s (b ∷ bs) =
    elim (b == s) as (λ t. is_empty (cond t ([] ∷ pieces_of s bs) (onto_first b (pieces_of s bs))) ≡ false) [
      | true ↦ refl
      | false ↦ onto_first_some b (pieces_of s bs)
    ]

-- a byte behind others
behind_at : (text rest : List ℕ) (from j : ℕ) → rest ≡ drop from text → from ≤ j → get_or rest (j - from) 0 ≡ get_or text j 0
behind_at text rest from j back low =
    let whole : from + (j - from) ≡ j = omega arith in
    ap (λ (xs : List ℕ). get_or xs (j - from) 0) back ∙ get_or-drop from text (j - from) 0 ∙ ap (λ (i : ℕ). get_or text i 0) whole

none_behind : (p : ℕ → Bool) (text rest : List ℕ) (from to : ℕ) → rest ≡ drop from text → Nowhere (Passes p rest) 0 to → Nowhere (Passes p text) from (from + to)
none_behind p text rest from to back none j low high passes =
    none (j - from) (omega arith) (omega arith) (subst (λ (b : ℕ). p b ≡ true) (sym (behind_at text rest from j back low)) passes)

-- the first byte that passes behind some that don't
pub found_behind : (p : ℕ → Bool) (text rest : List ℕ) (from k : ℕ) → Nowhere (Passes p text) 0 from → rest ≡ drop from text → from ≤ length text
    → IsFirstByte p rest (Some k) → IsFirstByte p text (Some (from + k))
found_behind p text rest from k none back le first =
    let len : length rest ≡ length (drop from text) = ap length back in
    let same : from + k - from ≡ k = omega arith in (
      record {
        low = omega arith;
        high = omega (arith, first.0.high, len, length-drop from text);
        before = Nowhere-then none (none_behind p text rest from k back first.0.before);
      },
      subst (λ (b : ℕ). p b ≡ true) (ap (λ (i : ℕ). get_or rest i 0) (sym same) ∙ behind_at text rest from (from + k) back (omega arith)) first.1,
    )

pub none_found_behind : (p : ℕ → Bool) (text rest : List ℕ) (from : ℕ) → Nowhere (Passes p text) 0 from → rest ≡ drop from text → from ≤ length text
    → IsFirstByte p rest None → IsFirstByte p text None
none_found_behind p text rest from none back le first =
    let len : length rest ≡ length text - from = ap length back ∙ length-drop from text in
    let whole : from + length rest ≡ length text = omega arith in
    subst (λ (n : ℕ). Nowhere (Passes p text) 0 n) whole (Nowhere-then none (none_behind p text rest from (length rest) back first))

-- the first separator's place
pub position_found : (s : ℕ) (text : List ℕ) (k : ℕ) → IsFirstByte (is_byte s) text (Some k) → k ≡ position_or_len (is_byte s) text
position_found s text k first =
    sym (position_or_len_is (is_byte s) text k 0 (omega (arith, first.0.high)) (λ j h. not_true (is_byte s (get_or text j 0)) (first.0.before j (omega arith) h)) (λ below. first.1))

pub position_none : (s : ℕ) (text : List ℕ) → IsFirstByte (is_byte s) text None → length text ≡ position_or_len (is_byte s) text
position_none s text none =
    sym (position_or_len_is (is_byte s) text (length text) 0 (omega arith) (λ j h. not_true (is_byte s (get_or text j 0)) (none j (omega arith) h)) (λ below. absurd (omega arith)))

some_not_zero : (xs : List (List ℕ)) → is_empty xs ≡ false → (length xs == 0) ≡ false
some_not_zero [] some = cc
some_not_zero (x ∷ xs) some = grind (arith, nat_tests)

pub pieces_not_zero : (s : ℕ) (text : List ℕ) → (length (pieces_of s text) == 0) ≡ false
pieces_not_zero s text = some_not_zero (pieces_of s text) (pieces_some s text)
