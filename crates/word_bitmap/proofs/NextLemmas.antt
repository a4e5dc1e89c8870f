-- The first one from a place on.
use Rattle.std.proofs.Common.{◌≡◌, ◌≢◌, ℕ, zero, suc, ◌+◌, ◌-◌, ◌*◌, ◌/◌, ◌%◌, ◌^◌, ◌<◌, ◌≤◌, true, eqb, List, [], ◌∷◌, ◌++◌, length, get_or, refl, ap, sym, ◌∙◌, subst, inl, inr, arith, Some}
use Rattle.std.specs.Int.{bit_at, trailing_zeros}
use mir.Syntax.{w64}
use Rattle.std.proofs.lemmas.Bool.{cases_lt}
use Rattle.std.proofs.lemmas.List.{length-append, get_or_append_left}
use Rattle.std.proofs.Math.Seq.{get_or-append_seam}
use Rattle.std.proofs.lemmas.Nat.{shr-shr, shr_below, shr_le}
use Rattle.std.proofs.lemmas.Nat.Bits.{bit_at-trailing_zeros, bit_at_above, bit_at-zero}
use Rattle.std.proofs.lemmas.Option.{slice_get_within}
use Rattle.bits_law.specs.Bitwise.{IsNextOne, IsClearFrom, bits_below}
use Rattle.word_bitmap.specs.Words.{spelled}
use Rattle.bits_law.proofs.WordBits.{length_below}
use Rattle.word_bitmap.proofs.WordLemmas.{bit_is, length_spelled}

length_all : (ws : List ℕ) (last n : ℕ) → length (spelled ws ++ bits_below last n) ≡ 64 * length ws + n
length_all ws last n =
    let long = length-append (spelled ws) (bits_below last n) in
    omega (arith, long, length_spelled ws, length_below last n)

pub found_one : (ws : List ℕ) (last n from at : ℕ) → n ≤ 64 → from ≤ at → at < 64 * length ws + n → bit_at (get_or (ws ++ last ∷ []) (at / 64) 0) (at % 64) ≡ 1 → ((k : ℕ) → from ≤ k → k < at → bit_at (get_or (ws ++ last ∷ []) (k / 64) 0) (k % 64) ≡ 0) → IsNextOne (spelled ws ++ bits_below last n) from at
found_one ws last n from at wide f l one clear = record {
  after = f;
  one = bit_is ws last n at l wide ∙ ap (λ x. Some (eqb x 1)) one;
  first = λ k g u. bit_is ws last n k (omega arith) wide ∙ ap (λ x. Some (eqb x 1)) (clear k g u);
}

pub no_one : (ws : List ℕ) (last n from : ℕ) → n ≤ 64 → ((k : ℕ) → from ≤ k → k < 64 * length ws + n → bit_at (get_or (ws ++ last ∷ []) (k / 64) 0) (k % 64) ≡ 0) → IsClearFrom (spelled ws ++ bits_below last n) from
no_one ws last n from wide clear k f e =
    let u = slice_get_within (spelled ws ++ bits_below last n) k true e in
    let within : k < 64 * length ws + n = omega (arith, u, length_all ws last n) in
    let is = bit_is ws last n k within wide ∙ ap (λ x. Some (eqb x 1)) (clear k f within) in
    cc

-- a bit of a shifted word
shifted_bit : (w s t : ℕ) → bit_at (w / 2 ^ s) t ≡ bit_at w (s + t)
shifted_bit w s t = ap (λ x. x % 2) (shr-shr w s t)

-- no ones up to a word, where the first one is 0 from the place on, and those after it are 0
pub clear_range : (all : List ℕ) (from to : ℕ) → get_or all (from / 64) 0 / 2 ^ (from % 64) ≡ 0 → ((j : ℕ) → from / 64 + 1 ≤ j → j < to → get_or all j 0 ≡ 0) → (k : ℕ) → from ≤ k → k < 64 * to → bit_at (get_or all (k / 64) 0) (k % 64) ≡ 0
clear_range all from to z rest k f l = elim (cases_lt (from / 64) (k / 64)) [
  | inl later ↦ ap (λ w. bit_at w (k % 64)) (rest (k / 64) (omega arith) (omega arith)) ∙ bit_at-zero (k % 64)
  | inr same ↦
      let here : k / 64 ≡ from / 64 = omega arith in
      let split : from % 64 + (k % 64 - from % 64) ≡ k % 64 = omega arith in
      ap (λ i. bit_at (get_or all i 0) (k % 64)) here
      ∙ ap (bit_at (get_or all (from / 64) 0)) (sym split)
      ∙ sym (shifted_bit (get_or all (from / 64) 0) (from % 64) (k % 64 - from % 64))
      ∙ ap (λ w. bit_at w (k % 64 - from % 64)) z
      ∙ bit_at-zero (k % 64 - from % 64)
]

-- a one lies before the end
pub before_end : (ws : List ℕ) (last n i j : ℕ) → i ≤ length ws → j < 64 → last < 2 ^ n → bit_at (get_or (ws ++ last ∷ []) i 0) j ≡ 1 → 64 * i + j < 64 * length ws + n
before_end ws last n i j u v l one = elim (cases_lt i (length ws)) [
  | inl whole ↦ omega arith
  | inr over ↦
      let end : i ≡ length ws = omega arith in
      let here : bit_at last j ≡ 1 = ap (λ w. bit_at w j) (sym (get_or-append_seam ws last [] 0) ∙ ap (λ k. get_or (ws ++ last ∷ []) k 0) (sym end)) ∙ one in
      elim (cases_lt j n) [
        | inl short ↦ omega arith
        | inr long ↦ (let none = bit_at_above last n j l long in absurd (omega (arith, none, here)))
      ]
]

-- the first one of a word, from the place on
pub first_here : (ws : List ℕ) (last n from w : ℕ) → n ≤ 64 → last < 2 ^ n → from < 64 * length ws + n → n < 64 → w ≡ get_or (ws ++ last ∷ []) (from / 64) 0 → w < 2 ^ 64 → w / 2 ^ (from % 64) ≢ 0 → IsNextOne (spelled ws ++ bits_below last n) from (from + trailing_zeros w64 (w / 2 ^ (from % 64)))
first_here ws last n from w wide l within short e small some =
    found_one ws last n from (from + t) wide (omega arith) (let b = before_end ws last n (from / 64) (s + t) (omega arith) in_word l (ap (λ w. bit_at w (s + t)) (sym e) ∙ one) in omega arith)
    (at_word from t in_word (λ i. ap (λ w. bit_at w (s + t)) (ap (λ j. get_or (ws ++ last ∷ []) j 0) i ∙ sym e) ∙ one))
    (λ k f u.
    let same : k / 64 ≡ from / 64 = omega (arith, in_word) in
    let split : s + (k - from) ≡ k % 64 = omega (arith, in_word) in
    ap (λ j. bit_at (get_or (ws ++ last ∷ []) j 0) (k % 64)) same
    ∙ ap (λ w. bit_at w (k % 64)) (sym e)
    ∙ ap (bit_at w) (sym split)
    ∙ sym (shifted_bit w s (k - from))
    ∙ found.2 (k - from) (omega arith))
  where
    s : ℕ
    s = from % 64

    rest : ℕ
    rest = w / 2 ^ s

    t : ℕ
    t = trailing_zeros w64 rest

    pos : (r : ℕ) → r ≢ 0 → 0 < r
    pos zero h = absurd (h refl)
    pos (suc r) h = omega arith

    low : rest < 2 ^ (64 - s)
    low = shr_below w (64 - s) s (let e : 64 - s + s ≡ 64 = omega arith in subst (λ i. w < 2 ^ i) (sym e) small)

    rest_small : rest < 2 ^ 64
    rest_small = let h = shr_le w s in omega (arith, h, small)

    found : (t < 64) × (bit_at rest t ≡ 1) × ((i : ℕ) → i < t → bit_at rest i ≡ 0)
    found = bit_at-trailing_zeros w64 rest (pos rest some) rest_small

    in_word : s + t < 64
    in_word = elim (cases_lt (s + t) 64) [
      | inl within ↦ within
      | inr over ↦ (let none = bit_at_above rest (64 - s) t low (omega arith) in absurd (omega (arith, none, found.1)))
    ]

    one : bit_at w (s + t) ≡ 1
    one = sym (shifted_bit w s t) ∙ found.1

    at_word : (from t : ℕ) → from % 64 + t < 64 → ((from + t) / 64 ≡ from / 64 → bit_at (get_or (ws ++ last ∷ []) ((from + t) / 64) 0) (from % 64 + t) ≡ 1) → bit_at (get_or (ws ++ last ∷ []) ((from + t) / 64) 0) ((from + t) % 64) ≡ 1
    at_word from t u h =
        let q : (from + t) / 64 ≡ from / 64 = omega arith in
        let r : (from + t) % 64 ≡ from % 64 + t = omega arith in
        ap (bit_at (get_or (ws ++ last ∷ []) ((from + t) / 64) 0)) r ∙ h q

-- the first one of a later word
pub first_later : (ws : List ℕ) (last n from at w : ℕ) → n ≤ 64 → last < 2 ^ n → at ≤ length ws → from / 64 + 1 ≤ at → w ≡ get_or (ws ++ last ∷ []) at 0 → w < 2 ^ 64 → w ≢ 0 → get_or (ws ++ last ∷ []) (from / 64) 0 / 2 ^ (from % 64) ≡ 0 → ((j : ℕ) → from / 64 + 1 ≤ j → j < at → get_or ws j 0 ≡ 0) → IsNextOne (spelled ws ++ bits_below last n) from (64 * at + trailing_zeros w64 w)
first_later ws last n from at w wide l within after e small some z clear =
    found_one ws last n from (64 * at + t) wide (omega arith) (before_end ws last n at t within found.0 l (ap (λ w. bit_at w t) (sym e) ∙ found.1))
    (ap (bit_at (get_or (ws ++ last ∷ []) ((64 * at + t) / 64) 0)) r ∙ ap (λ i. bit_at (get_or (ws ++ last ∷ []) i 0) t) q ∙ ap (λ w. bit_at w t) (sym e) ∙ found.1)
    (λ k f u. elim (cases_lt k (64 * at)) [
      | inl before ↦ clear_range (ws ++ last ∷ []) from at z (λ j g v. get_or_append_left ws (last ∷ []) 0 j (omega arith) ∙ clear j g v) k f before
      | inr inside ↦
          let i : k / 64 ≡ at = omega (arith, found.0) in
          let j : k % 64 < t = omega (arith, found.0) in
          ap (λ i. bit_at (get_or (ws ++ last ∷ []) i 0) (k % 64)) i ∙ ap (λ w. bit_at w (k % 64)) (sym e) ∙ found.2 (k % 64) j
    ])
  where
    t : ℕ
    t = trailing_zeros w64 w

    pos : (r : ℕ) → r ≢ 0 → 0 < r
    pos zero h = absurd (h refl)
    pos (suc r) h = omega arith

    found : (t < 64) × (bit_at w t ≡ 1) × ((i : ℕ) → i < t → bit_at w i ≡ 0)
    found = bit_at-trailing_zeros w64 w (pos w some) small

    q : (64 * at + t) / 64 ≡ at
    q = omega (arith, found.0)

    r : (64 * at + t) % 64 ≡ t
    r = omega (arith, found.0)

-- none where the words from a place on are 0
pub none_later : (ws : List ℕ) (last n from at w : ℕ) → n ≤ 64 → at ≤ length ws → w ≡ get_or (ws ++ last ∷ []) at 0 → w ≡ 0 → (at < length ws → 0 < get_or ws at 0) → get_or (ws ++ last ∷ []) (from / 64) 0 / 2 ^ (from % 64) ≡ 0 → ((j : ℕ) → from / 64 + 1 ≤ j → j < at → get_or ws j 0 ≡ 0) → IsClearFrom (spelled ws ++ bits_below last n) from
none_later ws last n from at w wide within e none set z clear =
    no_one ws last n from wide (λ k f u. clear_range (ws ++ last ∷ []) from (length ws + 1) z zero_at k f (omega arith))
  where
    end : at ≡ length ws
    end = elim (cases_lt at (length ws)) [
      | inl less ↦ (let s = set less in let g = get_or_append_left ws (last ∷ []) 0 at less in absurd (omega (arith, s, g, e, none)))
      | inr over ↦ omega arith
    ]

    zero_at : (j : ℕ) → from / 64 + 1 ≤ j → j < length ws + 1 → get_or (ws ++ last ∷ []) j 0 ≡ 0
    zero_at j g v = elim (cases_lt j (length ws)) [
      | inl less ↦ get_or_append_left ws (last ∷ []) 0 j less ∙ clear j g (omega (arith, end))
      | inr over ↦ (let same : j ≡ at = omega (arith, end) in ap (λ i. get_or (ws ++ last ∷ []) i 0) same ∙ sym e ∙ none)
    ]

-- none where the place is in the unfinished word
pub none_here : (ws : List ℕ) (last n from : ℕ) → n ≤ 64 → from / 64 ≡ length ws → get_or (ws ++ last ∷ []) (from / 64) 0 / 2 ^ (from % 64) ≡ 0 → IsClearFrom (spelled ws ++ bits_below last n) from
none_here ws last n from wide e z =
    no_one ws last n from wide (λ k f u. clear_range (ws ++ last ∷ []) from (length ws + 1) z (λ j g v. absurd (omega (arith, e))) k f (omega arith))
