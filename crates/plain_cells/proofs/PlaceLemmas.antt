-- The places of bytes, by a mask and by a list.
use Rattle.std.proofs.Common.{◌≡◌, ℕ, zero, suc, ◌+◌, ◌-◌, ◌*◌, ◌/◌, ◌%◌, ◌^◌, ◌<◌, ◌≤◌, Bool, true, false, cond, List, [], ◌∷◌, ◌++◌, map, length, take, drop, set, refl, ap, ap₂, sym, ◌∙◌, subst, arith, inl, inr}
use Rattle.std.proofs.Math.Nat.{pow-suc, one-le-pow, zero-mod}
use lib.Arith.{mod-mul}
use Rattle.std.proofs.lemmas.Bool.{cases_eq}
use Rattle.std.proofs.lemmas.Nat.{one_shl}
use Rattle.std.proofs.lemmas.List.{append_assoc, append-nil, length-append, length-take, drop_at, take_at, take-take, take-map, take_more_set, length-take-le}
use Rattle.std.specs.List.{slice_split, onto_first}
use lib.Count.{count_trailing_zeros}
use lib.Lanes.{mask_l}
use Rattle.plain_cells.specs.Places.{places_of, ones_of, cut_at}
use Rattle.plain_cells.proofs.PartLemmas.{take-add}

-- Places in a list

pub places-append : (p : ℕ → Bool) (at : ℕ) (xs ys : List ℕ) → places_of p at (xs ++ ys) ≡ places_of p at xs ++ places_of p (at + length xs) ys
places-append p at [] ys = let e : at ≡ at + 0 = omega arith in ap (λ (i : ℕ). places_of p i ys) e
places-append p at (x ∷ xs) ys =
    let e : at + 1 + length xs ≡ at + suc (length xs) = omega arith in
    let rest : places_of p (at + 1) (xs ++ ys) ≡ places_of p (at + 1) xs ++ places_of p (at + suc (length xs)) ys =
    places-append p (at + 1) xs ys ∙ ap (λ (i : ℕ). places_of p (at + 1) xs ++ places_of p i ys) e in
    elim (p x) as (λ t. cond t (at ∷ places_of p (at + 1) (xs ++ ys)) (places_of p (at + 1) (xs ++ ys)) ≡ cond t (at ∷ places_of p (at + 1) xs) (places_of p (at + 1) xs) ++ places_of p (at + suc (length xs)) ys) [
      | true ↦ ap (λ (l : List ℕ). at ∷ l) rest
      | false ↦ rest
    ]

-- Bits of a mask

pub ones-zero : (k at : ℕ) → ones_of k at 0 ≡ []
unfolding ones_of
ones-zero zero at = refl
ones-zero (suc k) at = ones-zero k (at + 1)

ones-odd : (k at m : ℕ) → m % 2 ≡ 1 → ones_of (suc k) at m ≡ at ∷ ones_of k (at + 1) (m / 2)
unfolding ones_of
ones-odd k at m odd = rw odd refl

ones-even : (k at m : ℕ) → m % 2 ≡ 0 → ones_of (suc k) at m ≡ ones_of k (at + 1) (m / 2)
unfolding ones_of
ones-even k at m even = rw even refl

-- the bits of a mask stand where the bytes pass
pub mask-places : (p : ℕ → Bool) (k at : ℕ) (xs : List ℕ) → length xs ≤ k → ones_of k at (mask_l (map p xs)) ≡ places_of p at xs
mask-places p k at [] few = ones-zero k at
mask-places p zero at (x ∷ xs) few = absurd (omega arith)
mask-places p (suc k) at (x ∷ xs) few =
    let m : ℕ = mask_l (map p xs) in
    let rest : ones_of k (at + 1) m ≡ places_of p (at + 1) xs = mask-places p k (at + 1) xs (omega arith) in
    elim (p x) as (λ t. ones_of (suc k) at (cond t 1 0 + 2 * m) ≡ cond t (at ∷ places_of p (at + 1) xs) (places_of p (at + 1) xs)) [
      | true ↦
          let half : (1 + 2 * m) / 2 ≡ m = omega arith in
          ones-odd k at (1 + 2 * m) (omega arith) ∙ ap (λ (h : ℕ). at ∷ ones_of k (at + 1) h) half ∙ ap (λ (l : List ℕ). at ∷ l) rest
      | false ↦
          let half : (0 + 2 * m) / 2 ≡ m = omega arith in
          ones-even k at (0 + 2 * m) (omega arith) ∙ ap (λ (h : ℕ). ones_of k (at + 1) h) half ∙ rest
    ]

-- the lowest bit that is set, and those behind it
pub record LowFirst (k at m t : ℕ) : Type 0 where
  pub below : t < k
  pub low : 2 ^ t ≤ m
  pub ones : ones_of k at m ≡ (at + t) ∷ ones_of k at (m - 2 ^ t)

trailing-odd : (k m : ℕ) → m % 2 ≡ 1 → count_trailing_zeros (suc k) m ≡ 0
unfolding count_trailing_zeros
trailing-odd k m odd = rw odd refl

trailing-even : (k m : ℕ) → m % 2 ≡ 0 → count_trailing_zeros (suc k) m ≡ suc (count_trailing_zeros k (m / 2))
unfolding count_trailing_zeros
trailing-even k m even = rw even refl

low_odd : (k at m : ℕ) → m % 2 ≡ 1 → LowFirst (suc k) at m 0
low_odd k at m odd =
    let even : (m - 1) % 2 ≡ 0 = omega arith in
    let half : (m - 1) / 2 ≡ m / 2 = omega arith in
    let same : at + 0 ≡ at = omega arith in
    record {
      below = omega arith;
      low = omega arith;
      ones = ones-odd k at m odd ∙ sym (ap (λ (i : ℕ). i ∷ ones_of (suc k) at (m - 1)) same ∙ ap (λ (l : List ℕ). at ∷ l) (ones-even k at (m - 1) even ∙ ap (λ (h : ℕ). ones_of k (at + 1) h) half));
    }

low_even : (k at m t : ℕ) → m % 2 ≡ 0 → LowFirst k (at + 1) (m / 2) t → LowFirst (suc k) at m (suc t)
low_even k at m t even first =
    let power : 2 ^ suc t ≡ 2 ^ t * 2 = pow-suc 2 t in
    let low : 2 ^ t ≤ m / 2 = first.low in
    let less : (m - 2 ^ suc t) % 2 ≡ 0 = omega (arith, power, low) in
    let half : (m - 2 ^ suc t) / 2 ≡ m / 2 - 2 ^ t = omega (arith, power, low) in
    let same : at + suc t ≡ at + 1 + t = omega arith in
    let below : t < k = first.below in
    record {
      below = omega arith;
      low = omega (arith, power, low);
      ones =
          ones-even k at m even ∙ first.ones
          ∙ sym (ap (λ (i : ℕ). i ∷ ones_of (suc k) at (m - 2 ^ suc t)) same ∙ ap (λ (l : List ℕ). (at + 1 + t) ∷ l) (ones-even k at (m - 2 ^ suc t) less ∙ ap (λ (h : ℕ). ones_of k (at + 1) h) half));
    }

half_below : (k m : ℕ) → m < 2 ^ suc k → m / 2 < 2 ^ k
half_below k m small = let power : 2 ^ suc k ≡ 2 ^ k * 2 = pow-suc 2 k in omega (arith, power)

pub low_first : (k at m : ℕ) → 0 < m → m < 2 ^ k → LowFirst k at m (count_trailing_zeros k m)
low_first zero at m some small = absurd (omega arith)
low_first (suc k) at m some small =
    elim (cases_eq (m % 2) 1) [
      | inl odd ↦ subst (λ (t : ℕ). LowFirst (suc k) at m t) (sym (trailing-odd k m odd)) (low_odd k at m odd)
      | inr other ↦
          let even : m % 2 ≡ 0 = omega (arith, other) in
          subst (λ (t : ℕ). LowFirst (suc k) at m t) (sym (trailing-even k m even))
          (low_even k at m (count_trailing_zeros k (m / 2)) even (low_first k (at + 1) (m / 2) (omega arith) (half_below k m small)))
    ]

-- What stands between

-- a piece before the first of others
abbrev onto_front : List ℕ → List (List ℕ) → List (List ℕ)
onto_front piece [] = []
onto_front piece (part ∷ parts) = (piece ++ part) ∷ parts

onto-nil : (parts : List (List ℕ)) → onto_front [] parts ≡ parts
onto-nil [] = refl
onto-nil (part ∷ parts) = refl

some_part : (p : ℕ → Bool) (xs : List ℕ) (b : ℕ) (piece : List ℕ) → onto_front (piece ++ b ∷ []) (slice_split p xs) ≡ onto_front piece (onto_first b (slice_split p xs))
some_part p [] b piece = ap (λ (l : List ℕ). l ∷ []) (append_assoc piece (b ∷ []) [])
some_part p (x ∷ xs) b piece =
    elim (p x) as (λ t. onto_front (piece ++ b ∷ []) (cond t ([] ∷ slice_split p xs) (onto_first x (slice_split p xs))) ≡ onto_front piece (onto_first b (cond t ([] ∷ slice_split p xs) (onto_first x (slice_split p xs))))) [
      | true ↦ ap (λ (l : List ℕ). l ∷ slice_split p xs) (append_assoc piece (b ∷ []) [])
      | false ↦ first_part x b piece (slice_split p xs)
    ]
  where
    first_part : (x b : ℕ) (piece : List ℕ) (parts : List (List ℕ)) → onto_front (piece ++ b ∷ []) (onto_first x parts) ≡ onto_front piece (onto_first b (onto_first x parts))
    first_part x b piece [] = ap (λ (l : List ℕ). l ∷ []) (append_assoc piece (b ∷ []) (x ∷ []))
    first_part x b piece (part ∷ parts) = ap (λ (l : List ℕ). l ∷ parts) (append_assoc piece (b ∷ []) (x ∷ part))

between : (p : ℕ → Bool) (rest done piece text : List ℕ) (from at : ℕ) → text ≡ done ++ (piece ++ rest) → from ≡ length done → at ≡ from + length piece
    → cut_at (places_of p at rest) from text ≡ onto_front piece (slice_split p rest)
between p [] done piece text from at is start here =
    ap (λ (l : List ℕ). l ∷ []) (ap (drop from) is ∙ drop_at done (piece ++ []) from (sym start))
between p (r ∷ rs) done piece text from at is start here =
    let back : drop from text ≡ piece ++ r ∷ rs = ap (drop from) is ∙ drop_at done (piece ++ r ∷ rs) from (sym start) in
    let long : at - from ≡ length piece = omega arith in
    let cut : take (at - from) (drop from text) ≡ piece ++ [] = ap (λ (n : ℕ). take n (drop from text)) long ∙ ap (take (length piece)) back ∙ take_at piece (r ∷ rs) (length piece) refl ∙ sym (append-nil piece) in
    let done' : List ℕ = done ++ (piece ++ r ∷ []) in
    let is' : text ≡ done' ++ ([] ++ rs) = is ∙ ap (λ (l : List ℕ). done ++ l) (sym (append_assoc piece (r ∷ []) rs)) ∙ sym (append_assoc done (piece ++ r ∷ []) rs) in
    let past : at + 1 ≡ length done' = omega (arith, length-append done (piece ++ r ∷ []), length-append piece (r ∷ [])) in
    let yes : cut_at (places_of p (at + 1) rs) (at + 1) text ≡ slice_split p rs = between p rs done' [] text (at + 1) (at + 1) is' past (omega arith) ∙ onto-nil (slice_split p rs) in
    let is'' : text ≡ done ++ ((piece ++ r ∷ []) ++ rs) = is ∙ ap (λ (l : List ℕ). done ++ l) (sym (append_assoc piece (r ∷ []) rs)) in
    let no : cut_at (places_of p (at + 1) rs) from text ≡ onto_front (piece ++ r ∷ []) (slice_split p rs) =
    between p rs done (piece ++ r ∷ []) text from (at + 1) is'' start (omega (arith, length-append piece (r ∷ []))) in
    elim (p r) as (λ t. cut_at (cond t (at ∷ places_of p (at + 1) rs) (places_of p (at + 1) rs)) from text ≡ onto_front piece (cond t ([] ∷ slice_split p rs) (onto_first r (slice_split p rs)))) [
      | true ↦ ap (λ (l : List ℕ). l ∷ cut_at (places_of p (at + 1) rs) (at + 1) text) cut ∙ ap (λ (ls : List (List ℕ)). (piece ++ []) ∷ ls) yes
      | false ↦ no ∙ some_part p rs r piece
    ]

-- A text split at each byte that passes is what stands between the places of these bytes.
pub pieces_stand_between : (p : ℕ → Bool) (text : List ℕ) → cut_at (places_of p 0 text) 0 text ≡ slice_split p text
pieces_stand_between p text = between p text [] [] text 0 0 refl refl refl ∙ onto-nil (slice_split p text)

-- A mask cut to its lowest bits

pub mask-cut : (k : ℕ) (ms : List Bool) → mask_l ms % 2 ^ k ≡ mask_l (take k ms)
mask-cut zero ms = omega arith
mask-cut (suc k) [] = zero-mod (2 ^ suc k)
mask-cut (suc k) (b ∷ bs) =
    let m : ℕ = mask_l bs in
    let power : 2 ^ suc k ≡ 2 ^ k * 2 = pow-suc 2 k in
    let some : 0 < 2 ^ k = one-le-pow k 2 (omega arith) in
    let rest : m % 2 ^ k ≡ mask_l (take k bs) = mask-cut k bs in
    elim b as (λ t. (cond t 1 0 + 2 * m) % 2 ^ suc k ≡ cond t 1 0 + 2 * mask_l (take k bs)) [
      | true ↦
          let half : (1 + 2 * m) / 2 ≡ m = omega arith in
          let odd : (1 + 2 * m) % 2 ≡ 1 = omega arith in
          let parts : (1 + 2 * m) % (2 ^ k * 2) ≡ ((1 + 2 * m) / 2 % 2 ^ k) * 2 + (1 + 2 * m) % 2 = mod-mul (1 + 2 * m) {m = 2 ^ k} {c = 2} some (omega arith) in
          let low : ((1 + 2 * m) / 2) % 2 ^ k ≡ mask_l (take k bs) = ap (λ (h : ℕ). h % 2 ^ k) half ∙ rest in
          ap (λ (n : ℕ). (1 + 2 * m) % n) power ∙ parts ∙ omega (arith, low, odd)
      | false ↦
          let half : (0 + 2 * m) / 2 ≡ m = omega arith in
          let even : (0 + 2 * m) % 2 ≡ 0 = omega arith in
          let parts : (0 + 2 * m) % (2 ^ k * 2) ≡ ((0 + 2 * m) / 2 % 2 ^ k) * 2 + (0 + 2 * m) % 2 = mod-mul (0 + 2 * m) {m = 2 ^ k} {c = 2} some (omega arith) in
          let low : ((0 + 2 * m) / 2) % 2 ^ k ≡ mask_l (take k bs) = ap (λ (h : ℕ). h % 2 ^ k) half ∙ rest in
          ap (λ (n : ℕ). (0 + 2 * m) % n) power ∙ parts ∙ omega (arith, low, even)
    ]

-- the places among the first bytes of a load
pub cut-places : (p : ℕ → Bool) (k n at : ℕ) (xs : List ℕ) → k ≤ n → n ≤ 64 → ones_of 64 at (mask_l (map p (take n xs)) % 2 ^ k) ≡ places_of p at (take k xs)
cut-places p k n at xs low few =
    let cut : mask_l (map p (take n xs)) % 2 ^ k ≡ mask_l (map p (take k xs)) = mask-cut k (map p (take n xs)) ∙ ap mask_l (take-map p k (take n xs) ∙ ap (map p) (take-take k n xs low)) in
    ap (ones_of 64 at) cut ∙ mask-places p 64 at (take k xs) (omega (arith, length-take k xs))

-- places in a text and in what stands behind
pub more_places : (p : ℕ → Bool) (at k : ℕ) (text rest : List ℕ) → at ≤ length text → rest ≡ drop at text
    → places_of p 0 (take at text) ++ places_of p at (take k rest) ≡ places_of p 0 (take (at + k) text)
more_places p at k text rest within back =
    let long : 0 + length (take at text) ≡ at = omega (arith, length-take-le at text within) in
    sym (
    ap (places_of p 0) (take-add at k text) ∙ places-append p 0 (take at text) (take k (drop at text))
    ∙ ap (λ (n : ℕ). places_of p 0 (take at text) ++ places_of p n (take k (drop at text))) long
    ∙ ap (λ (l : List ℕ). places_of p 0 (take at text) ++ places_of p at (take k l)) (sym back)
    )

-- Places put one behind the other

pub shift_low : (at left : ℕ) → 0 < left → left < 2 ^ 64 → 1 * 2 ^ count_trailing_zeros 64 left % 2 ^ 64 ≤ left
shift_low at left some small =
    let first = low_first 64 at left some small in
    subst (λ (n : ℕ). n ≤ left) (sym (one_shl (count_trailing_zeros 64 left) 64 first.below)) first.low

pub put_more : (places whole : List ℕ) (n at left : ℕ) → n < length places → 0 < left → left < 2 ^ 64 → take n places ++ ones_of 64 at left ≡ whole
    → take (n + 1) (set places n (at + count_trailing_zeros 64 left)) ++ ones_of 64 at (left - 1 * 2 ^ count_trailing_zeros 64 left % 2 ^ 64) ≡ whole
put_more places whole n at left room some small is =
    let first = low_first 64 at left some small in
    let t : ℕ = count_trailing_zeros 64 left in
    let shift : 1 * 2 ^ t % 2 ^ 64 ≡ 2 ^ t = one_shl t 64 first.below in
    ap₂ (λ (xs : List ℕ) (m : ℕ). xs ++ ones_of 64 at (left - m)) (take_more_set places n (at + t) room) shift
    ∙ append_assoc (take n places) ((at + t) ∷ []) (ones_of 64 at (left - 2 ^ t))
    ∙ ap (λ (xs : List ℕ). take n places ++ xs) (sym first.ones) ∙ is

-- where a place is left, there are more of them than were put
pub too_many : (places before : List ℕ) (n count at left marks : ℕ) → n ≡ length places → count ≤ length before → 0 < left → left < 2 ^ 64
    → take n places ++ ones_of 64 at left ≡ take count before ++ ones_of 64 at marks → length places < count + length (ones_of 64 at marks)
too_many places before n count at left marks full within some small is =
    let first = low_first 64 at left some small in
    let more : length (ones_of 64 at left) ≡ suc (length (ones_of 64 at (left - 2 ^ count_trailing_zeros 64 left))) = ap length first.ones in
    let all : length (take n places ++ ones_of 64 at left) ≡ length (take count before ++ ones_of 64 at marks) = ap length is in
    let put : length (take n places) ≡ n = length-take-le n places (omega arith) in
    let had : length (take count before) ≡ count = length-take-le count before within in
    omega (arith, all, more, put, had, length-append (take n places) (ones_of 64 at left), length-append (take count before) (ones_of 64 at marks))

-- Places of one load behind those before it

pub load_places : (p : ℕ → Bool) (at : ℕ) (text rest before after : List ℕ) (marks : ℕ) → before ≡ places_of p 0 (take at text) → after ≡ before ++ ones_of 64 at marks
    → marks ≡ mask_l (map p (take 32 rest)) → rest ≡ drop at text → at ≤ length text → after ≡ places_of p 0 (take (at + 32) text)
load_places p at text rest before after marks had put is back within =
    put ∙ ap₂ (λ (xs ys : List ℕ). xs ++ ys) had (ap (ones_of 64 at) is ∙ mask-places p 64 at (take 32 rest) (omega (arith, length-take 32 rest)))
    ∙ more_places p at 32 text rest within back

-- the same of so many bytes of a load
pub part_places : (p : ℕ → Bool) (at k : ℕ) (text rest before after : List ℕ) (marks : ℕ) → before ≡ places_of p 0 (take at text) → after ≡ before ++ ones_of 64 at marks
    → k < 32 → marks ≡ mask_l (map p (take 32 rest)) % (1 * 2 ^ k % 2 ^ 64) → rest ≡ drop at text → at ≤ length text → after ≡ places_of p 0 (take (at + k) text)
part_places p at k text rest before after marks had put few is back within =
    let shift : 1 * 2 ^ k % 2 ^ 64 ≡ 2 ^ k = one_shl k 64 (omega arith) in
    let cut : marks ≡ mask_l (map p (take 32 rest)) % 2 ^ k = is ∙ ap (λ (n : ℕ). mask_l (map p (take 32 rest)) % n) shift in
    put ∙ ap₂ (λ (xs ys : List ℕ). xs ++ ys) had (ap (ones_of 64 at) cut ∙ cut-places p k 32 at rest (omega arith) (omega arith))
    ∙ more_places p at k text rest within back

-- more of a text has no fewer places
pub places-le : (p : ℕ → Bool) (a b : ℕ) (text : List ℕ) → a ≤ b → length (places_of p 0 (take a text)) ≤ length (places_of p 0 (take b text))
places-le p a b text low =
    let all : b ≡ a + (b - a) = omega arith in
    let parts : places_of p 0 (take b text) ≡ places_of p 0 (take a text) ++ places_of p (0 + length (take a text)) (take (b - a) (drop a text)) =
    ap (λ (n : ℕ). places_of p 0 (take n text)) all ∙ ap (places_of p 0) (take-add a (b - a) text) ∙ places-append p 0 (take a text) (take (b - a) (drop a text)) in
    omega (arith, ap length parts, length-append (places_of p 0 (take a text)) (places_of p (0 + length (take a text)) (take (b - a) (drop a text))))

-- Where the places of a load don't fit, there are more places in the text than fit.
pub load_short : (p : ℕ → Bool) (to count : ℕ) (text before after places : List ℕ) (n at marks : ℕ) → length places < n + length (ones_of 64 at marks) → length before ≡ n
    → after ≡ before ++ ones_of 64 at marks → after ≡ places_of p 0 (take to text) → to ≤ count → length places < length (places_of p 0 (take count text))
load_short p to count text before after places n at marks short long put is low =
    omega (arith, short, long, ap length put, ap length is, length-append before (ones_of 64 at marks), places-le p to count text low)

-- the places of a line and of its newline
pub line_cut : (p : ℕ → Bool) (at last end : ℕ) (text before after : List ℕ) → end ≡ at + last → before ≡ places_of p 0 (take (at + last) text) → after ≡ before ++ (at + last) ∷ [] → after ≡ places_of p 0 (take end text) ++ end ∷ []
line_cut p at last end text before after is had put =
    put ∙ ap (λ (l : List ℕ). l ++ (at + last) ∷ []) had ∙ ap (λ (n : ℕ). places_of p 0 (take n text) ++ n ∷ []) (sym is)
