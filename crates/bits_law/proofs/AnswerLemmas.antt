-- Answers about the keys that a table stands for.
use Rattle.std.proofs.Common.{◌≡◌, ℕ, zero, suc, ◌+◌, ◌-◌, ◌*◌, ◌/◌, ◌%◌, ◌^◌, ◌<◌, ◌≤◌, Bool, false, eqb, List, [], ◌∷◌, length, get_or, take, drop, not, ◌&&◌, ◌||◌, Option, None, Some, refl, ap, sym, ◌∙◌, subst, replicate, ◌++◌, arith}
use Rattle.std.proofs.lemmas.Grind.{common_steps}
use Rattle.std.proofs.lemmas.Nat.{mod-pow-add, shr-shr}
use Rattle.std.proofs.lemmas.Bool.Decides.{nat_tests}
use Rattle.std.proofs.lemmas.List.{ext_get_or, get_or-map, length-map, get_or-take, get_or-drop, length-take, length-drop, take_all}
use Rattle.bits_law.specs.Bitwise.{bitwise, and_not}
use Rattle.bits_law.specs.Keys.{meets, answers, with_gap, with_key, EachKey}
use Rattle.bits_law.specs.Numbers.{then_bit, number_at, IsAnswer}
use Rattle.bits_law.proofs.NumberLemmas.{number_at-more}

-- operations on answers to two questions about the same keys
module _ {K : Type 0} where
  pub answers-and : (p q : K → Bool) (keys : List (Option K)) → bitwise ◌&&◌ (answers p keys) (answers q keys) ≡ answers (λ k. p k && q k) keys
  answers-and p q [] = refl
  answers-and p q (None ∷ keys) = ap (λ bits. false ∷ bits) (answers-and p q keys)
  answers-and p q (Some k ∷ keys) = ap (λ bits. (p k && q k) ∷ bits) (answers-and p q keys)

  pub answers-or : (p q : K → Bool) (keys : List (Option K)) → bitwise ◌||◌ (answers p keys) (answers q keys) ≡ answers (λ k. p k || q k) keys
  answers-or p q [] = refl
  answers-or p q (None ∷ keys) = ap (λ bits. false ∷ bits) (answers-or p q keys)
  answers-or p q (Some k ∷ keys) = ap (λ bits. (p k || q k) ∷ bits) (answers-or p q keys)

  pub answers-and_not : (p q : K → Bool) (keys : List (Option K)) → bitwise and_not (answers p keys) (answers q keys) ≡ answers (λ k. p k && not (q k)) keys
  answers-and_not p q [] = refl
  answers-and_not p q (None ∷ keys) = ap (λ bits. false ∷ bits) (answers-and_not p q keys)
  answers-and_not p q (Some k ∷ keys) = ap (λ bits. (p k && not (q k)) ∷ bits) (answers-and_not p q keys)

  pub length-answers : (p : K → Bool) (keys : List (Option K)) → length (answers p keys) ≡ length keys
  length-answers p keys = length-map keys (meets p)

  -- tests that agree on the keys have one answer
  pub answers-same : (p q : K → Bool) (keys : List (Option K)) → ((row : ℕ) (k : K) → row < length keys → get_or keys row None ≡ Some k → p k ≡ q k) → answers p keys ≡ answers q keys
  answers-same p q [] e = refl
  answers-same p q (None ∷ keys) e = ap (λ bits. false ∷ bits) (answers-same p q keys (λ row k l. e (suc row) k (omega arith)))
  answers-same p q (Some k ∷ keys) e =
      ap (λ b. b ∷ answers p keys) (e 0 k (omega arith) refl)
      ∙ ap (λ bits. q k ∷ bits) (answers-same p q keys (λ row k l. e (suc row) k (omega arith)))

  -- what is asked of the rows that pass one test is a test of the keys
  pub asked : (keys : List (Option K)) (p q : K → Bool) (g : ℕ → Bool) (answer present : List Bool) → present ≡ answers p keys → IsAnswer answer present g → ((row : ℕ) (k : K) → row < length keys → get_or keys row None ≡ Some k → g row ≡ q k) → answer ≡ answers (λ k. p k && q k) keys
  asked keys p q g answer present e a h =
      ext_get_or false answer (answers (λ k. p k && q k) keys) (a.rows ∙ ap length e ∙ length-map keys (meets p) ∙ sym (length-map keys (meets (λ k. p k && q k)))) (λ row l.
      let under : row < length present = omega (arith, a.rows) in
      let in_keys : row < length keys = omega (arith, ap length e, length-map keys (meets p)) in
      a.each row under ∙ ap (λ xs. get_or xs row false && g row) e ∙ ap (λ b. b && g row) (get_or-map (meets p) keys row None false in_keys)
      ∙ at_key row (get_or keys row None) refl in_keys
      ∙ sym (get_or-map (meets (λ k. p k && q k)) keys row None false in_keys))
    where
      at_key : (row : ℕ) (o : Option K) → get_or keys row None ≡ o → row < length keys → (meets p o && g row) ≡ meets (λ k. p k && q k) o
      at_key row None e l = refl
      at_key row (Some k) e l = ap (λ b. p k && b) (h row k l e)

  -- the number at a row, of slices that hold `n` bits of `x` from bit `m` on, the highest first
  pub number_at_key : (bit : ℕ → K → Bool) (keys : List (Option K)) (slices : List (List Bool)) (row : ℕ) (k : K) (x m n : ℕ) → length slices ≡ n → row < length keys → get_or keys row None ≡ Some k → ((j : ℕ) → j < n → get_or slices j [] ≡ answers (bit j) keys) → ((j : ℕ) → j < n → bit j k ≡ eqb (x / 2 ^ (m + (n - 1 - j)) % 2) 1) → number_at slices row ≡ x / 2 ^ m % 2 ^ n
  number_at_key bit keys slices row k x m n wide l e columns bits =
      ap (λ ss. number_at ss row) (sym (take_all n slices (omega (arith, wide)))) ∙ first n (omega arith) ∙ ap (λ i. x / 2 ^ i % 2 ^ n) (from_m m n)
    where
      from_m : (m n : ℕ) → m + (n - n) ≡ m
      from_m m n = omega arith

      bit_is : (j : ℕ) → j < n → get_or (get_or slices j []) row false ≡ eqb (x / 2 ^ (m + (n - 1 - j)) % 2) 1
      bit_is j u = ap (λ xs. get_or xs row false) (columns j u) ∙ get_or-map (meets (bit j)) keys row None false l ∙ ap (meets (bit j)) e ∙ bits j u

      one_more : (y i : ℕ) → then_bit (y / 2 % 2 ^ i) (eqb (y % 2) 1) ≡ y % 2 ^ (i + 1)
      one_more y i =
          let h : y % 2 ^ (i + 1) ≡ (y / 2 % 2 ^ i) * 2 + y % 2 = mod-pow-add y i 1 in
          grind (arith, nat_tests)

      first : (i : ℕ) → i ≤ n → number_at (take i slices) row ≡ x / 2 ^ (m + (n - i)) % 2 ^ i
      first zero u = grind (arith, common_steps)
      first (suc i) u =
          let at : n - 1 - i ≡ n - suc i = omega arith in
          let higher : m + (n - i) ≡ m + (n - suc i) + 1 = omega arith in
          let more : i + 1 ≡ suc i = omega arith in
          ap (λ c. number_at (take c slices) row) (sym more)
          ∙ number_at-more slices i row (omega (arith, wide))
          ∙ ap (λ n. then_bit n (get_or (get_or slices i []) row false)) (first i (omega arith))
          ∙ ap (then_bit (x / 2 ^ (m + (n - i)) % 2 ^ i)) (bit_is i u)
          ∙ ap (λ s. then_bit (x / 2 ^ (m + (n - i)) % 2 ^ i) (eqb (x / 2 ^ (m + s) % 2) 1)) at
          ∙ ap (λ s. then_bit (x / 2 ^ s % 2 ^ i) (eqb (x / 2 ^ (m + (n - suc i)) % 2) 1)) higher
          ∙ ap (λ y. then_bit (y % 2 ^ i) (eqb (x / 2 ^ (m + (n - suc i)) % 2) 1)) (sym (shr-shr x (m + (n - suc i)) 1))
          ∙ one_more (x / 2 ^ (m + (n - suc i))) i
          ∙ ap (λ c. x / 2 ^ (m + (n - suc i)) % 2 ^ c) more

-- conditions on keys, as the list grows
pub EachKey-gap : {K : Type 0} (P : K → Type 0) (keys : List (Option K)) (rows : ℕ) → EachKey P keys → EachKey P (with_gap keys rows)
EachKey-gap P keys rows h row key e = in_gap P keys (rows - length keys) row key h e
  where
    in_none : {K : Type 0} (n row : ℕ) (key : K) → get_or (replicate n None) row None ≡ Some key → ⊥
    in_none zero row key e = cc
    in_none (suc n) zero key e = cc
    in_none (suc n) (suc row) key e = in_none n row key e

    in_gap : {K : Type 0} (P : K → Type 0) (keys : List (Option K)) (n row : ℕ) (key : K) → EachKey P keys → get_or (keys ++ replicate n None) row None ≡ Some key → P key
    in_gap P [] n row key h e = absurd (in_none n row key e)
    in_gap P (k ∷ keys) n zero key h e = h zero key e
    in_gap P (k ∷ keys) n (suc row) key h e = in_gap P keys n row key (λ i q d. h (suc i) q d) e

pub EachKey-append : {K : Type 0} (P : K → Type 0) (keys more : List (Option K)) → EachKey P keys → EachKey P more → EachKey P (keys ++ more)
EachKey-append P [] more h m row key e = m row key e
EachKey-append P (k ∷ keys) more h m zero key e = h zero key e
EachKey-append P (k ∷ keys) more h m (suc row) key e = EachKey-append P keys more (λ i q d. h (suc i) q d) m row key e

pub EachKey-key : {K : Type 0} (P : K → Type 0) (keys : List (Option K)) (row : ℕ) (key : K) → EachKey P keys → P key → EachKey P (with_key keys row key)
EachKey-key P keys row key h p = EachKey-append P (with_gap keys row) (Some key ∷ []) (EachKey-gap P keys row h) (only P key p)
  where
    only : {K : Type 0} (P : K → Type 0) (key : K) → P key → EachKey P (Some key ∷ [])
    only P key p zero q e = let same : key ≡ q = cc in subst P same p
    only P key p (suc row) q e = cc

-- what is asked of `n` slices from `from` on, among the rows that pass a test, where they hold `n` bits of a number
-- of each key, from bit `m` on
pub asked_slices : {K : Type 0} (keys : List (Option K)) (columns : List (List Bool)) (from m n : ℕ) (number : K → ℕ) (p : K → Bool) (relates : ℕ → Bool) (answer among : List Bool) → from + n ≤ length columns → ((j : ℕ) → j < n → get_or columns (from + j) [] ≡ answers (λ k. eqb (number k / 2 ^ (m + (n - 1 - j)) % 2) 1) keys) → among ≡ answers p keys → IsAnswer answer among (λ row. relates (number_at (take n (drop from columns)) row)) → answer ≡ answers (λ k. p k && relates (number k / 2 ^ m % 2 ^ n)) keys
asked_slices {K} keys columns from m n number p relates answer among w cs e a =
    asked keys p (λ k. relates (number k / 2 ^ m % 2 ^ n)) (λ row. relates (number_at (take n (drop from columns)) row)) answer among e a
    (λ row k l q. ap relates (number_at_key bits keys (take n (drop from columns)) row k (number k) m n wide l q (λ j u. get_or-take n (drop from columns) j [] u ∙ get_or-drop from columns j [] ∙ cs j u) (λ j u. refl)))
  where
    bits : ℕ → K → Bool
    bits j k = eqb (number k / 2 ^ (m + (n - 1 - j)) % 2) 1

    wide : length (take n (drop from columns)) ≡ n
    wide = length-take n (drop from columns) ∙ omega (arith, length-drop from columns)
