-- Joined pieces are split again, and dotted numbers read back.
use Rattle.std.proofs.Common.{◌≡◌, ℕ, ◌+◌, ◌*◌, ◌/◌, ◌%◌, ◌^◌, ◌<◌, ◌≤◌, Bool, true, not, List, [], ◌∷◌, ◌++◌, length, map, Some, refl, ap, ◌∙◌, arith}
use Rattle.std.specs.Fmt.{decimal}
use Rattle.std.specs.List.{list_all, join_by, slice_split}
use Rattle.std.proofs.lemmas.Bool.{le-leb, ne_eqb}
use Rattle.std.proofs.lemmas.Fmt.{length-decimal-le}
use Rattle.std.proofs.lemmas.List.{append-nil}
use Rattle.value_reading.specs.Numbers.{is_point}
use Rattle.value_reading.specs.Addresses.{short_number, octets, dotted_of}
use Rattle.value_writing.specs.Writing.{octets_of, dotted_text}
use Rattle.value_writing.proofs.WritingNumbers.{both, not_true, all_append, up_to_again, decimal_all}

pub split_none : (p : ℕ → Bool) (xs : List ℕ) → list_all (λ b. not (p b)) xs ≡ true → slice_split p xs ≡ xs ∷ []
split_none p [] h = refl
split_none p (x ∷ xs) h =
    let a = both (not (p x)) (list_all (λ b. not (p b)) xs) h in
    rw (not_true (p x) a.0, split_none p xs a.1) refl

split_first : (p : ℕ → Bool) (xs : List ℕ) (c : ℕ) (ys : List ℕ) → list_all (λ b. not (p b)) xs ≡ true → p c ≡ true → slice_split p (xs ++ c ∷ ys) ≡ xs ∷ slice_split p ys
split_first p [] c ys h k = rw k refl
split_first p (x ∷ xs) c ys h k =
    let a = both (not (p x)) (list_all (λ b. not (p b)) xs) h in
    rw (not_true (p x) a.0, split_first p xs c ys a.1 k) refl

-- pieces without the byte that was put between them are split there again
pub split_joined : {X : Type 0} (p : ℕ → Bool) (c : ℕ) (f : X → List ℕ) → p c ≡ true → (x : X) (xs : List X)
    → list_all (λ y. list_all (λ b. not (p b)) (f y)) (x ∷ xs) ≡ true → slice_split p (join_by f (c ∷ []) (x ∷ xs)) ≡ map f (x ∷ xs)
split_joined {X} p c f k x [] h =
    let a = both (list_all (λ b. not (p b)) (f x)) true h in
    ap (slice_split p) (append-nil (f x)) ∙ split_none p (f x) a.0
split_joined {X} p c f k x (y ∷ ys) h =
    let a = both (list_all (λ b. not (p b)) (f x)) (list_all (λ z. list_all (λ b. not (p b)) (f z)) (y ∷ ys)) h in
    split_first p (f x) c (join_by f (c ∷ []) (y ∷ ys)) a.0 k ∙ ap (λ (parts : List (List ℕ)). f x ∷ parts) (split_joined p c f k y ys a.1)

-- a test that passes the pieces and the byte between them passes the whole
pub joined_all : {X : Type 0} (p : ℕ → Bool) (c : ℕ) (f : X → List ℕ) → p c ≡ true → (x : X) (xs : List X)
    → list_all (λ y. list_all p (f y)) (x ∷ xs) ≡ true → list_all p (join_by f (c ∷ []) (x ∷ xs)) ≡ true
joined_all {X} p c f k x [] h = let a = both (list_all p (f x)) true h in all_append p (f x) [] a.0 refl
joined_all {X} p c f k x (y ∷ ys) h =
    let a = both (list_all p (f x)) (list_all (λ z. list_all p (f z)) (y ∷ ys)) h in
    all_append p (f x) (c ∷ join_by f (c ∷ []) (y ∷ ys)) a.0 (rw (k, joined_all p c f k y ys a.1) refl)

-- Dotted numbers

pub short_again : (most n : ℕ) → n ≤ most → n < 1000 → short_number most (decimal n) ≡ Some n
short_again most n h k = rw (le-leb (length (decimal n)) 3 (length-decimal-le 3 n (omega arith) k (omega arith)), up_to_again most n h (omega arith)) refl

digit_no_point : (b : ℕ) → 48 ≤ b → b ≤ 57 → not (is_point b) ≡ true
digit_no_point b low high = rw (ne_eqb b 46 (λ e. omega arith)) refl

pub octets_all : (p : ℕ → Bool) → ((b : ℕ) → 48 ≤ b → b ≤ 57 → p b ≡ true) → (n : ℕ) → list_all (λ o. list_all p (decimal o)) (octets_of n) ≡ true
octets_all p f n =
    rw (decimal_all p f (n / 2 ^ 24 % 256) (omega arith), decimal_all p f (n / 2 ^ 16 % 256) (omega arith), decimal_all p f (n / 2 ^ 8 % 256) (omega arith), decimal_all p f (n % 256) (omega arith)) refl

octets_again : (a b c d : ℕ) → a < 256 → b < 256 → c < 256 → d < 256 → octets (map decimal (a ∷ (b ∷ (c ∷ (d ∷ []))))) ≡ Some (((a * 256 + b) * 256 + c) * 256 + d)
octets_again a b c d ha hb hc hd =
    rw (short_again 255 a (omega arith) (omega arith), short_again 255 b (omega arith) (omega arith), short_again 255 c (omega arith) (omega arith), short_again 255 d (omega arith) (omega arith)) refl

pub dotted_again : (n : ℕ) → n < 2 ^ 32 → dotted_of (dotted_text n) ≡ Some n
unfolding dotted_text
dotted_again n h =
    let whole : ((n / 2 ^ 24 % 256 * 256 + n / 2 ^ 16 % 256) * 256 + n / 2 ^ 8 % 256) * 256 + n % 256 ≡ n = omega arith in
    ap octets (split_joined is_point 46 decimal refl (n / 2 ^ 24 % 256) (n / 2 ^ 16 % 256 ∷ (n / 2 ^ 8 % 256 ∷ (n % 256 ∷ []))) (octets_all (λ b. not (is_point b)) digit_no_point n))
    ∙ (octets_again (n / 2 ^ 24 % 256) (n / 2 ^ 16 % 256) (n / 2 ^ 8 % 256) (n % 256) (omega arith) (omega arith) (omega arith) (omega arith) ∙ ap (λ (x : ℕ). Some x) whole)

-- a test that passes the digits and the point passes a dotted number
pub dotted_all : (p : ℕ → Bool) → ((b : ℕ) → 48 ≤ b → b ≤ 57 → p b ≡ true) → p 46 ≡ true → (n : ℕ) → list_all p (dotted_text n) ≡ true
unfolding dotted_text
dotted_all p f k n = joined_all p 46 decimal k (n / 2 ^ 24 % 256) (n / 2 ^ 16 % 256 ∷ (n / 2 ^ 8 % 256 ∷ (n % 256 ∷ []))) (octets_all p f n)
