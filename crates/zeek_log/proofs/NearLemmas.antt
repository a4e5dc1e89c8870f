-- Which of the first 16 bytes pass, as bits.
use Rattle.std.proofs.Common.{◌≡◌, ◌↔◌, ℕ, ◌+◌, ◌<◌, ◌≤◌, Bool, true, false, List, cond, eqb, leb, length, get_or, take, replicate, refl, ap, ◌∙◌, arith}
use Rattle.std.proofs.lemmas.Bool.{leb-true, leb-false, false≢true}
use Rattle.std.proofs.lemmas.List.{get_or_past}
use Rattle.std.proofs.lemmas.Simd.{length-chunk, get_or-chunk, length-zip2, get_or-zip2, get_or-replicate, bit_mask_l}
use Rattle.std.specs.Int.{bit_at}
use Rattle.std.specs.Simd.Lanes.{zip2, mask_l}
use Rattle.memchr.specs.Find.{is_byte}

-- whether each of the first 16 bytes is this one
abbrev pub tests : List ℕ → ℕ → List Bool
tests text b = zip2 eqb (take 16 text) (replicate 16 b)

front_long : (text : List ℕ) → 16 ≤ length text → length (take 16 text) ≡ 16
front_long text long = length-chunk 0 16 text long

pub tests_long : (text : List ℕ) (b : ℕ) → 16 ≤ length text → length (tests text b) ≡ 16
tests_long text b long = length-zip2 eqb (take 16 text) (replicate 16 b) (front_long text long) ∙ front_long text long

test_at : (text : List ℕ) (b k : ℕ) → 16 ≤ length text → k < 16 → get_or (tests text b) k false ≡ is_byte b (get_or text k 0)
test_at text b k long low =
    let same : 0 + k ≡ k = omega arith in
    get_or-zip2 eqb (take 16 text) (replicate 16 b) k 0 0 false (omega (arith, front_long text long)) low
    ∙ ap (eqb (get_or (take 16 text) k 0)) (get_or-replicate 16 k b 0 low)
    ∙ ap (λ (x : ℕ). eqb x b) (get_or-chunk 0 16 text k 0 low)
    ∙ ap (λ (j : ℕ). eqb (get_or text j 0) b) same

bit_test : (t : Bool) (bit : ℕ) → bit ≡ cond t 1 0 → (bit ≡ 1) ↔ (t ≡ true)
bit_test true bit e = (λ h. refl, λ h. e)
bit_test false bit e = (λ h. absurd (omega (arith, h, e)), λ h. absurd cc)

marked_by : (text : List ℕ) (b k : ℕ) (t : Bool) → leb 16 k ≡ t → 16 ≤ length text → (bit_at (mask_l (tests text b)) k ≡ 1) ↔ ((k < 16) × (is_byte b (get_or text k 0) ≡ true))
marked_by text b k true past long =
    let high : 16 ≤ k = leb-true 16 k past in
    let none : get_or (tests text b) k false ≡ false = get_or_past (tests text b) k false (omega (arith, tests_long text b long)) in
    let is = bit_test false (bit_at (mask_l (tests text b)) k) (bit_mask_l (tests text b) k ∙ ap (λ (t : Bool). cond t 1 0) none) in
    (λ h. absurd (false≢true (is.0 h)), λ h. absurd (omega (arith, h.0)))
marked_by text b k false past long =
    let low : k < 16 = leb-false 16 k past in
    let here : get_or (tests text b) k false ≡ is_byte b (get_or text k 0) = test_at text b k long low in
    let is = bit_test (is_byte b (get_or text k 0)) (bit_at (mask_l (tests text b)) k) (bit_mask_l (tests text b) k ∙ ap (λ (t : Bool). cond t 1 0) here) in
    (λ h. (low, is.0 h), λ h. is.1 h.1)

-- a bit is set where the byte is this one
pub marked : (text : List ℕ) (b k : ℕ) → 16 ≤ length text → (bit_at (mask_l (tests text b)) k ≡ 1) ↔ ((k < 16) × (is_byte b (get_or text k 0) ≡ true))
marked text b k long = marked_by text b k (leb 16 k) refl long
