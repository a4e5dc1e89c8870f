-- From the lanes of one load to its bytes.
use Rattle.std.proofs.Common.{◌≡◌, ℕ, zero, suc, ◌+◌, ◌%◌, ◌^◌, ◌≤◌, eqb, Bool, true, false, not, cond, List, [], ◌∷◌, map, length, take, drop, replicate, Fits, w8, refl, sym, ap, ap₂, ◌∙◌, arith, inl, inr}
use Rattle.std.proofs.lemmas.Bool.{agree_below, agree_below_at, cases_Bool, and_parts, and_from}
use Rattle.std.proofs.lemmas.List.Folds.{list_all-append}
use Rattle.std.proofs.lemmas.Simd.{map-map, mask_l-mod, first_set_mask_l}
use Rattle.std.proofs.lemmas.List.{length-map}
use Rattle.std.specs.List.{prefix_len, list_all}
use lib.Count.{count_trailing_zeros}
use Rattle.plain_cells.proofs.PartLemmas.{take-add}
use lib.Lanes.{zip2, mask_l, top, Each1}

-- what agrees on each byte agrees on bytes
pub map-agree : (f g : ℕ → Bool) (v : List ℕ) → Each1 (Fits w8) v → agree_below f g 256 ≡ true → map f v ≡ map g v
map-agree f g [] fit all = refl
map-agree f g (x ∷ xs) fit all =
    ap₂ (λ (b : Bool) (l : List Bool). b ∷ l) (agree_below_at f g 256 x all (fit.0).fits) (map-agree f g xs fit.1 all)

-- `simd_ge` and `simd_gt` have their sides changed
pub from_splat : (h : ℕ → ℕ → ℕ) (v : List ℕ) (n y : ℕ) → length v ≡ n → zip2 h (replicate n y) v ≡ map (h y) v
from_splat h v n y long = ap (λ (k : ℕ). zip2 h (replicate k y) v) (sym long) ∙ splat_left h y v
  where
    splat_left : (h : ℕ → ℕ → ℕ) (y : ℕ) (xs : List ℕ) → zip2 h (replicate (length xs) y) xs ≡ map (h y) xs
    splat_left h y [] = refl
    splat_left h y (x ∷ xs) = ap (λ (r : List ℕ). h y x ∷ r) (splat_left h y xs)

-- the mask of lanes that were computed byte by byte
pub mask_of : (f : ℕ → ℕ) (p : ℕ → Bool) (v z : List ℕ) → length v ≤ 64 → Each1 (Fits w8) v → z ≡ map f v → agree_below (λ x. top 7 (f x)) p 256 ≡ true
    → mask_l (map (top 7) z) % 2 ^ 64 ≡ mask_l (map p v)
mask_of f p v z few fit lanes all =
    let same : map (top 7) z ≡ map p v = ap (map (top 7)) lanes ∙ map-map (top 7) f v ∙ map-agree (λ x. top 7 (f x)) p v fit all in
    ap (λ (ms : List Bool). mask_l ms % 2 ^ 64) same ∙ mask_l-mod (map p v) 64 (omega (arith, length-map v p))

prefix-not-not : (p : ℕ → Bool) (xs : List ℕ) → prefix_len (λ x. not (not (p x))) xs ≡ prefix_len p xs
prefix-not-not p [] = refl
prefix-not-not p (x ∷ xs) =
    elim (p x) as (λ t. cond (not (not t)) (1 + prefix_len (λ x. not (not (p x))) xs) 0 ≡ cond t (1 + prefix_len p xs) 0) [
      | true ↦ ap (λ (n : ℕ). 1 + n) (prefix-not-not p xs)
      | false ↦ refl
    ]

-- where the first bit is set that marks a byte that fails
pub first_other : (p : ℕ → Bool) (v : List ℕ) (n m : ℕ) → length v ≡ n → n ≤ 64 → m ≡ mask_l (map (λ x. not (p x)) v)
    → cond (eqb m 0) n (count_trailing_zeros 64 m) ≡ prefix_len p v
first_other p v n m long few is =
    ap (λ (k : ℕ). cond (eqb k 0) n (count_trailing_zeros 64 k)) is ∙ first_set_mask_l (λ x. not (p x)) v n long few ∙ prefix-not-not p v

-- the bytes before the first that fails
pub all_before : (p : ℕ → Bool) (n k : ℕ) (xs : List ℕ) → k ≤ prefix_len p (take n xs) → list_all p (take k xs) ≡ true
all_before p n zero xs low = refl
all_before p zero (suc k) xs low = absurd (omega arith)
all_before p (suc n) (suc k) [] low = absurd (omega arith)
all_before p (suc n) (suc k) (x ∷ xs) low =
    elim (cases_Bool (p x)) [
      | inl passes ↦ let less : suc k ≤ 1 + prefix_len p (take n xs) = rw passes at low in rw (passes, all_before p n k xs (omega arith)) refl
      | inr fails ↦ let less : suc k ≤ 0 = rw fails at low in absurd (omega arith)
    ]

-- What is known of more bytes is known of fewer.
pub all_fewer : (p : ℕ → Bool) (a b : ℕ) (xs : List ℕ) → a ≤ b → list_all p (take b xs) ≡ true → list_all p (take a xs) ≡ true
all_fewer p zero b xs low all = refl
all_fewer p (suc a) zero xs low all = absurd (omega arith)
all_fewer p (suc a) (suc b) [] low all = refl
all_fewer p (suc a) (suc b) (x ∷ xs) low all =
    let both = and_parts (p x) (list_all p (take b xs)) all in
    rw (both.0, all_fewer p a b xs (omega arith) both.1) refl

-- the bytes of a load behind those before it
pub all_more : (p : ℕ → Bool) (at k : ℕ) (text rest : List ℕ) → rest ≡ drop at text → list_all p (take at text) ≡ true → k ≤ prefix_len p (take 16 rest) → list_all p (take (at + k) text) ≡ true
all_more p at k text rest back before low =
    ap (list_all p) (take-add at k text) ∙ list_all-append p (take at text) (take k (drop at text))
    ∙ and_from (list_all p (take at text)) (list_all p (take k (drop at text))) before (ap (λ (l : List ℕ). list_all p (take k l)) (sym back) ∙ all_before p 16 k rest low)

-- Bytes that pass stand before the first that fails.
pub reached : (p : ℕ → Bool) (n k : ℕ) (xs : List ℕ) → k ≤ n → k ≤ length xs → list_all p (take k xs) ≡ true → k ≤ prefix_len p (take n xs)
reached p n zero xs low within all = omega arith
reached p zero (suc k) xs low within all = absurd (omega arith)
reached p (suc n) (suc k) [] low within all = absurd (omega arith)
reached p (suc n) (suc k) (x ∷ xs) low within all =
    let both = and_parts (p x) (list_all p (take k xs)) all in
    let more : k ≤ prefix_len p (take n xs) = reached p n k xs (omega arith) (omega arith) both.1 in
    rw both.0 (omega arith)
