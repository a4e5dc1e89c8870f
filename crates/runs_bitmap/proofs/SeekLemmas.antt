-- A place in a bitmap that is found among its runs, and the ones that are counted.
use Rattle.std.proofs.Common.{◌≡◌, ◌≢◌, ℕ, zero, suc, ◌+◌, ◌-◌, ◌<◌, ◌≤◌, max, Bool, true, false, cond, leb, List, [], ◌∷◌, ◌++◌, length, get_or, drop, replicate, refl, ap, sym, ◌∙◌, inl, inr, arith, Some}
use Rattle.std.specs.List.{slice_get, count_by}
use Rattle.std.specs.List.Sorted.{IsPartitionedBy, IsPartitionPoint}
use Rattle.std.proofs.lemmas.Bool.Decides.{nat_tests}
use Rattle.std.proofs.lemmas.Bool.{cases_lt}
use Rattle.std.proofs.lemmas.List.{length-replicate, drop-replicate, drop-append-le}
use Rattle.std.proofs.lemmas.List.Sums.{sum_by-append}
use Rattle.std.proofs.Math.Seq.{drop-append-add}
use Rattle.bits_law.specs.Bitwise.{IsNextOne, IsClearFrom}
use Rattle.runs_bitmap.specs.Runs.{rendered, AreApart, AreAhead, bit_at, runs_after}
use Rattle.runs_bitmap.specs.declared.run.Run.{Run}
use Rattle.runs_bitmap.proofs.RunLemmas.{ahead, ahead_next, stretch_some, after_stretch}

-- runs end in order
ends_rise : (least : ℕ) (runs : List Run) (len i j : ℕ) (d : Run) → AreApart least runs len → i ≤ j → j < length runs → (get_or runs i d).end ≤ (get_or runs j d).end
ends_rise least [] len i j d h o l = absurd (omega arith)
ends_rise least (r ∷ rs) len zero zero d h o l = omega arith
ends_rise least (r ∷ rs) len zero (suc j) d h o l = ends_from rs (r.end + 1) len j (omega arith) h.3 d r.end (omega arith)
  where
    ends_from : (rs : List Run) (least len j : ℕ) → j < length rs → AreApart least rs len → (d : Run) (e : ℕ) → e ≤ least → e ≤ (get_or rs j d).end
    ends_from [] least len j l h d e u = absurd (omega arith)
    ends_from (q ∷ rs) least len zero l h d e u = omega (arith, h.0, h.1)
    ends_from (q ∷ rs) least len (suc j) l h d e u = ends_from rs (q.end + 1) len j (omega arith) h.3 d e (omega (arith, h.0, h.1))
ends_rise least (r ∷ rs) len (suc i) zero d h o l = absurd (omega arith)
ends_rise least (r ∷ rs) len (suc i) (suc j) d h o l = ends_rise (r.end + 1) rs len i j d h.3 (omega arith) (omega arith)

pub partitioned : (least : ℕ) (runs : List Run) (len at : ℕ) → AreApart least runs len → IsPartitionedBy (λ (r : Run). leb r.end at) runs
partitioned least runs len at h i j d o l t =
    let rise = ends_rise least runs len i j d h o l in
    grind (arith, nat_tests)

-- past a part of known length
drop_past : (xs ys : List Bool) (n : ℕ) → length xs ≤ n → drop n (xs ++ ys) ≡ drop (n - length xs) ys
drop_past xs ys n l =
    let e : length xs + (n - length xs) ≡ n = omega arith in
    ap (λ k. drop k (xs ++ ys)) (sym e) ∙ drop-append-add xs ys (n - length xs)

drop_within : (n k : ℕ) (b : Bool) (ys : List Bool) → n ≤ k → drop n (replicate k b ++ ys) ≡ replicate (k - n) b ++ ys
drop_within n k b ys l =
    drop-append-le n (replicate k b) ys (omega (arith, length-replicate k b)) ∙ ap (λ xs. xs ++ ys) (drop-replicate n k b)

drop_over : (n k : ℕ) (b : Bool) (ys : List Bool) → k ≤ n → drop n (replicate k b ++ ys) ≡ drop (n - k) ys
drop_over n k b ys l =
    drop_past (replicate k b) ys n (omega (arith, length-replicate k b)) ∙ ap (λ m. drop (n - m) ys) (length-replicate k b)

-- on to a place before the end of the first run
within_first : (from at : ℕ) (r : Run) (rest : List Bool) → from ≤ at → at < r.end → r.start < r.end → drop (at - from) (replicate (r.start - from) false ++ (replicate (r.end - max from r.start) true ++ rest)) ≡ replicate (r.start - at) false ++ (replicate (r.end - max at r.start) true ++ rest)
within_first from at r rest l u s = elim (cases_lt r.start at) [
  | inl after ↦
      let zeros : r.start - from ≤ at - from = omega arith in
      let none : r.start - at ≡ 0 = omega arith in
      let short : at - from - (r.start - from) ≤ r.end - max from r.start = omega arith in
      let left : r.end - max from r.start - (at - from - (r.start - from)) ≡ r.end - max at r.start = omega arith in
      drop_over (at - from) (r.start - from) false (replicate (r.end - max from r.start) true ++ rest) zeros
      ∙ drop_within (at - from - (r.start - from)) (r.end - max from r.start) true rest short
      ∙ ap (λ k. replicate k true ++ rest) left
      ∙ ap (λ k. replicate k false ++ (replicate (r.end - max at r.start) true ++ rest)) (sym none)
  | inr before ↦
      let zeros : at - from ≤ r.start - from = omega arith in
      let left : r.start - from - (at - from) ≡ r.start - at = omega arith in
      let same : r.end - max from r.start ≡ r.end - max at r.start = omega arith in
      drop_within (at - from) (r.start - from) false (replicate (r.end - max from r.start) true ++ rest) zeros
      ∙ ap (λ k. replicate k false ++ (replicate (r.end - max from r.start) true ++ rest)) left
      ∙ ap (λ k. replicate (r.start - at) false ++ (replicate k true ++ rest)) same
]

-- on to a place after the end of the first run
past_first : (from at : ℕ) (r : Run) (rest : List Bool) → from < r.end → r.end ≤ at → r.start < r.end → drop (at - from) (replicate (r.start - from) false ++ (replicate (r.end - max from r.start) true ++ rest)) ≡ drop (at - r.end) rest
past_first from at r rest f l s =
    let zeros : r.start - from ≤ at - from = omega arith in
    let ones : r.end - max from r.start ≤ at - from - (r.start - from) = omega arith in
    let left : at - from - (r.start - from) - (r.end - max from r.start) ≡ at - r.end = omega arith in
    drop_over (at - from) (r.start - from) false (replicate (r.end - max from r.start) true ++ rest) zeros
    ∙ drop_over (at - from - (r.start - from)) (r.end - max from r.start) true rest ones
    ∙ ap (λ k. drop k rest) left

-- the place `at`, of which the first `k` runs have ended
seek : (from at : ℕ) (runs : List Run) (len k : ℕ) → AreAhead from runs len → from ≤ at → ((j : ℕ) (d : Run) → j < k → (get_or runs j d).end ≤ at) → ((j : ℕ) (d : Run) → k ≤ j → j < length runs → at < (get_or runs j d).end) → k ≤ length runs → (AreAhead at (drop k runs) len) × (drop (at - from) (rendered from runs len) ≡ rendered at (drop k runs) len)
seek from at [] len zero h l before after w = (tt, drop-replicate (at - from) (len - from) false ∙ ap (λ n. replicate n false) (let e : len - from - (at - from) ≡ len - at = omega arith in e))
seek from at [] len (suc k) h l before after w = absurd (omega arith)
seek from at (r ∷ rs) len zero h l before after w =
    let u : at < r.end = after 0 r (omega arith) (omega arith) in
    ((u, h.1, h.2, h.3), within_first from at r (rendered r.end rs len) l u h.1)
seek from at (r ∷ rs) len (suc k) h l before after w =
    let past : r.end ≤ at = before 0 r (omega arith) in
    let more = seek r.end at rs len k (ahead_next r.end rs len h.3) past (λ j d u. before (suc j) d (omega arith)) (λ j d u v. after (suc j) d (omega arith) (omega arith)) (omega arith) in
    (more.0, past_first from at r (rendered r.end rs len) h.0 past h.1 ∙ more.1)

pub found : (runs : List Run) (len at k : ℕ) → AreApart 0 runs len → k ≤ length runs → IsPartitionPoint (λ (r : Run). leb r.end at ≡ true) (λ (r : Run). leb r.end at ≡ false) runs k → (AreAhead at (drop k runs) len) × (drop at (rendered 0 runs len) ≡ rendered at (drop k runs) len)
found runs len at k h w p =
    let from_start : at - 0 ≡ at = omega arith in
    let s = seek 0 at runs len k (ahead 0 runs len h) (omega arith)
    (λ j d u. let t = p.0 j d (omega arith) u in grind (arith, nat_tests))
    (λ j d u v. let t = p.1 j d u v in grind (arith, nat_tests)) w in
    (s.0, ap (λ n. drop n (rendered 0 runs len)) (sym from_start) ∙ s.1)

slice_get-drop : (xs ys : List Bool) (i n : ℕ) (x : Bool) → drop i xs ≡ x ∷ ys → slice_get xs i ≡ Some x
slice_get-drop [] ys zero n x e = cc
slice_get-drop [] ys (suc i) n x e = cc
slice_get-drop (y ∷ xs) ys zero n x e = let same : y ≡ x = cc in ap (λ b. Some b) same
slice_get-drop (y ∷ xs) ys (suc i) n x e = slice_get-drop xs ys i n x e

-- the bit at a place that was found
pub found_bit : (runs left : List Run) (len at : ℕ) → at < len → AreAhead at left len → drop at (rendered 0 runs len) ≡ rendered at left len → slice_get (rendered 0 runs len) at ≡ Some (bit_at at left)
found_bit runs left len at l h e =
    let some = stretch_some at left len l h in
    slice_get-drop (rendered 0 runs len) (rendered (at + 1) (runs_after (at + 1) left) len) at 0 (bit_at at left)
    (e ∙ (after_stretch at left len 1 h l (omega (arith, some.0))).1)

count-append : (xs ys : List Bool) → count_by (λ b. b) (xs ++ ys) ≡ count_by (λ b. b) xs + count_by (λ b. b) ys
count-append xs ys = sum_by-append (λ b. cond b 1 0) xs ys

count-ones : (n : ℕ) → count_by (λ b. b) (replicate n true) ≡ n
count-ones zero = refl
count-ones (suc n) = let h = count-append (true ∷ []) (replicate n true) in omega (arith, count-ones n)

count-zeros : (n : ℕ) → count_by (λ b. b) (replicate n false) ≡ 0
count-zeros zero = refl
count-zeros (suc n) = let h = count-append (false ∷ []) (replicate n false) in omega (arith, count-zeros n)

pub count-run : (at : ℕ) (r : Run) (rest : List Run) (len : ℕ) → at ≤ r.start → count_by (λ b. b) (rendered at (r ∷ rest) len) ≡ (r.end - r.start) + count_by (λ b. b) (rendered r.end rest len)
count-run at r rest len l =
    let outer = count-append (replicate (r.start - at) false) (replicate (r.end - max at r.start) true ++ rendered r.end rest len) in
    let inner = count-append (replicate (r.end - max at r.start) true) (rendered r.end rest len) in
    let zeros = count-zeros (r.start - at) in
    let ones = count-ones (r.end - max at r.start) in
    let same : r.end - max at r.start ≡ r.end - r.start = omega arith in
    outer ∙ omega arith

pub count-end : (at len : ℕ) → count_by (λ b. b) (rendered at [] len) ≡ 0
count-end at len = count-zeros (len - at)

slice_get-from : (xs : List Bool) (from k : ℕ) → from ≤ k → slice_get xs k ≡ slice_get (drop from xs) (k - from)
slice_get-from xs zero k l = ap (slice_get xs) (let e : k ≡ k - 0 = omega arith in e)
slice_get-from [] (suc from) k l = refl
slice_get-from (x ∷ xs) (suc from) zero l = absurd (omega arith)
slice_get-from (x ∷ xs) (suc from) (suc k) l =
    let e : suc k - suc from ≡ k - from = omega arith in
    slice_get-from xs from k (omega arith) ∙ ap (slice_get (drop from xs)) (sym e)

in_zeros : (n k : ℕ) (ys : List Bool) → k < n → slice_get (replicate n false ++ ys) k ≡ Some false
in_zeros zero k ys l = absurd (omega arith)
in_zeros (suc n) zero ys l = refl
in_zeros (suc n) (suc k) ys l = in_zeros n k ys (omega arith)

after_zeros : (n : ℕ) (x : Bool) (ys : List Bool) → slice_get (replicate n false ++ (x ∷ ys)) n ≡ Some x
after_zeros zero x ys = refl
after_zeros (suc n) x ys = after_zeros n x ys

all_zeros : (n k : ℕ) → slice_get (replicate n false) k ≢ Some true
all_zeros zero k e = cc
all_zeros (suc n) zero e = cc
all_zeros (suc n) (suc k) e = all_zeros n k e

begins_with : (n : ℕ) (ys : List Bool) → 0 < n → replicate n true ++ ys ≡ true ∷ (replicate (n - 1) true ++ ys)
begins_with zero ys l = absurd (omega arith)
begins_with (suc n) ys l = ap (λ k. true ∷ (replicate k true ++ ys)) (let e : n ≡ suc n - 1 = omega arith in e)

-- the first one from `from` on is in the first run that ends after it
pub next_found : (bits : List Bool) (from len at : ℕ) (r : Run) (rest : List Run) → AreAhead from (r ∷ rest) len → drop from bits ≡ rendered from (r ∷ rest) len → at ≡ max r.start from → IsNextOne bits from at
next_found bits from len at r rest h e m = record {
  after = omega arith;
  one =
      let gap : at - from ≡ r.start - from = omega arith in
      let some : 0 < r.end - max from r.start = omega (arith, h.0, h.1) in
      slice_get-from bits from at (omega arith) ∙ ap (λ xs. slice_get xs (at - from)) e ∙ ap (slice_get (rendered from (r ∷ rest) len)) gap
      ∙ ap (λ ys. slice_get (replicate (r.start - from) false ++ ys) (r.start - from)) (begins_with (r.end - max from r.start) (rendered r.end rest len) some)
      ∙ after_zeros (r.start - from) true _;
  first = λ k l u. slice_get-from bits from k l ∙ ap (λ xs. slice_get xs (k - from)) e ∙ in_zeros (r.start - from) (k - from) _ (omega arith);
}

pub next_none : (bits : List Bool) (from len : ℕ) → drop from bits ≡ rendered from [] len → IsClearFrom bits from
next_none bits from len e k l one =
    all_zeros (len - from) (k - from) (sym (slice_get-from bits from k l ∙ ap (λ xs. slice_get xs (k - from)) e) ∙ one)
