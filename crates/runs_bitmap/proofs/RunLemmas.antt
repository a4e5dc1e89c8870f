-- Bits that runs stand for.
use Rattle.std.proofs.Common.{◌≡◌, ℕ, zero, suc, ◌+◌, ◌-◌, ◌<◌, ◌≤◌, max, Bool, true, false, leb, ltb, not, List, [], ◌∷◌, ◌++◌, length, get_or, set, map, take, drop, replicate, refl, ap, sym, ◌∙◌, subst, inl, inr, arith}
use Rattle.std.proofs.lemmas.Bool.Decides.{nat_tests}
use Rattle.std.proofs.lemmas.Bool.{cases_lt}
use Rattle.std.proofs.lemmas.List.{append_assoc, append-nil, length-append, length-replicate, replicate-append-replicate, drop_more, take_more}
use Rattle.bits_law.specs.Bitwise.{bitwise}
use Rattle.bits_law.proofs.BitwiseLemmas.{bitwise-append}
use Rattle.runs_bitmap.specs.Runs.{rendered, AreApart, AreAhead, bit_at, stretch_at, runs_after, reach, free_from}
use Rattle.runs_bitmap.specs.declared.run.Run.{Run}

-- runs apart are ahead of where they begin
pub ahead : (at : ℕ) (runs : List Run) (len : ℕ) → AreApart at runs len → AreAhead at runs len
ahead at [] len h = tt
ahead at (r ∷ rs) len h = (omega (arith, h.0, h.1), h.1, h.2, h.3)

pub apart_from : (least more : ℕ) (runs : List Run) (len : ℕ) → least ≤ more → AreApart more runs len → AreApart least runs len
apart_from least more [] len l h = tt
apart_from least more (r ∷ rs) len l h = (omega (arith, h.0), h.1, h.2, h.3)

pub apart_to : (least : ℕ) (runs : List Run) (len more : ℕ) → len ≤ more → AreApart least runs len → AreApart least runs more
apart_to least [] len more l h = tt
apart_to least (r ∷ rs) len more l h = (h.0, h.1, omega (arith, h.2), apart_to (r.end + 1) rs len more l h.3)

pub ahead_next : (end : ℕ) (runs : List Run) (len : ℕ) → AreApart (end + 1) runs len → AreAhead end runs len
ahead_next end runs len h = ahead end runs len (apart_from end (end + 1) runs len (omega arith) h)

join : (n m k : ℕ) (b : Bool) → n + m ≡ k → replicate n b ++ replicate m b ≡ replicate k b
join n m k b e = replicate-append-replicate n m b ∙ ap (λ i. replicate i b) e

pub length_rendered : (at : ℕ) (runs : List Run) (len : ℕ) → at ≤ len → AreAhead at runs len → length (rendered at runs len) ≡ len - at
length_rendered at [] len l h = length-replicate (len - at) false
length_rendered at (r ∷ rs) len l h =
    let zeros = length-replicate (r.start - at) false in
    let ones = length-replicate (r.end - max at r.start) true in
    let rest = length_rendered r.end rs len h.2 (ahead_next r.end rs len h.3) in
    let outer = length-append (replicate (r.start - at) false) (replicate (r.end - max at r.start) true ++ rendered r.end rs len) in
    let inner = length-append (replicate (r.end - max at r.start) true) (rendered r.end rs len) in
    omega (arith, h.0, h.1, h.2)

-- zeros at the end
pub more_zeros : (at : ℕ) (runs : List Run) (len n : ℕ) → at ≤ len → AreAhead at runs len → rendered at runs (len + n) ≡ rendered at runs len ++ replicate n false
more_zeros at [] len n l h = sym (join (len - at) n (len + n - at) false (omega arith))
more_zeros at (r ∷ rs) len n l h =
    ap (λ bits. replicate (r.start - at) false ++ (replicate (r.end - max at r.start) true ++ bits)) (more_zeros r.end rs len n h.2 (ahead_next r.end rs len h.3))
    ∙ sym (append_assoc (replicate (r.start - at) false) (replicate (r.end - max at r.start) true ++ rendered r.end rs len) (replicate n false)
    ∙ ap (λ bits. replicate (r.start - at) false ++ bits) (append_assoc (replicate (r.end - max at r.start) true) (rendered r.end rs len) (replicate n false)))

-- a run of ones at the end, that begins there
pub push_ones : (at : ℕ) (runs : List Run) (len : ℕ) (last : Run) → at ≤ len → AreAhead at runs len → last.start ≡ len → len < last.end → rendered at (runs ++ last ∷ []) last.end ≡ rendered at runs len ++ replicate (last.end - len) true
push_ones at [] len last l h e m =
    let none : last.end - last.end ≡ 0 = omega arith in
    let ones : last.end - max at last.start ≡ last.end - len = omega arith in
    ap (λ n. replicate (n - at) false ++ (replicate (last.end - max at last.start) true ++ replicate (last.end - last.end) false)) e
    ∙ ap (λ n. replicate (len - at) false ++ (replicate n true ++ replicate (last.end - last.end) false)) ones
    ∙ ap (λ n. replicate (len - at) false ++ (replicate (last.end - len) true ++ replicate n false)) none
    ∙ ap (λ bits. replicate (len - at) false ++ bits) (append-nil (replicate (last.end - len) true))
push_ones at (r ∷ rs) len last l h e m =
    ap (λ bits. replicate (r.start - at) false ++ (replicate (r.end - max at r.start) true ++ bits)) (push_ones r.end rs len last h.2 (ahead_next r.end rs len h.3) e m)
    ∙ sym (append_assoc (replicate (r.start - at) false) (replicate (r.end - max at r.start) true ++ rendered r.end rs len) (replicate (last.end - len) true)
    ∙ ap (λ bits. replicate (r.start - at) false ++ bits) (append_assoc (replicate (r.end - max at r.start) true) (rendered r.end rs len) (replicate (last.end - len) true)))

pub push_apart : (least : ℕ) (runs : List Run) (len : ℕ) (last : Run) → AreApart least runs len → free_from least runs ≤ len → last.start ≡ len → len < last.end → AreApart least (runs ++ last ∷ []) last.end
push_apart least [] len last h f e m = (omega arith, omega arith, omega arith, tt)
push_apart least (r ∷ rs) len last h f e m = (h.0, h.1, omega (arith, h.2), push_apart (r.end + 1) rs len last h.3 f e m)

-- the last run ends just before the next one may begin
pub free_last : (least : ℕ) (runs : List Run) (j : ℕ) (d : Run) → j + 1 ≡ length runs → free_from least runs ≡ (get_or runs j d).end + 1
free_last least [] j d e = absurd (omega arith)
free_last least (r ∷ []) zero d e = refl
free_last least (r ∷ []) (suc j) d e = absurd (omega arith)
free_last least (r ∷ q ∷ rs) zero d e = absurd (omega arith)
free_last least (r ∷ q ∷ rs) (suc j) d e = free_last (r.end + 1) (q ∷ rs) j d (omega arith)

pub end_within : (least : ℕ) (runs : List Run) (len j : ℕ) (d : Run) → j < length runs → AreApart least runs len → ((get_or runs j d).start < (get_or runs j d).end) × ((get_or runs j d).end ≤ len)
end_within least [] len j d l h = absurd (omega arith)
end_within least (r ∷ rs) len zero d l h = (h.1, h.2)
end_within least (r ∷ rs) len (suc j) d l h = end_within (r.end + 1) rs len j d (omega arith) h.3

-- the last run, made longer by ones
pub lengthen_ones : (at : ℕ) (runs : List Run) (len j : ℕ) (last : Run) → AreAhead at runs len → j + 1 ≡ length runs → (get_or runs j last).end ≡ len → last.start ≡ (get_or runs j last).start → len < last.end → rendered at (set runs j last) last.end ≡ rendered at runs len ++ replicate (last.end - len) true
lengthen_ones at [] len j last h n e s m = absurd (omega arith)
lengthen_ones at (r ∷ []) len zero last h n e s m =
    let none : last.end - last.end ≡ 0 = omega arith in
    let none_before : len - r.end ≡ 0 = omega arith in
    let ones : (r.end - max at r.start) + (last.end - len) ≡ last.end - max at r.start = omega (arith, h.0, h.1) in
    ap (λ s. replicate (s - at) false ++ (replicate (last.end - max at s) true ++ replicate (last.end - last.end) false)) s
    ∙ ap (λ n. replicate (r.start - at) false ++ (replicate (last.end - max at r.start) true ++ replicate n false)) none
    ∙ ap (λ bits. replicate (r.start - at) false ++ bits) (append-nil (replicate (last.end - max at r.start) true))
    ∙ ap (λ bits. replicate (r.start - at) false ++ bits) (sym (join (r.end - max at r.start) (last.end - len) (last.end - max at r.start) true ones))
    ∙ sym (append_assoc (replicate (r.start - at) false) (replicate (r.end - max at r.start) true) (replicate (last.end - len) true))
    ∙ ap (λ bits. (replicate (r.start - at) false ++ bits) ++ replicate (last.end - len) true) (sym (append-nil (replicate (r.end - max at r.start) true)))
    ∙ ap (λ n. (replicate (r.start - at) false ++ (replicate (r.end - max at r.start) true ++ replicate n false)) ++ replicate (last.end - len) true) (sym none_before)
lengthen_ones at (r ∷ []) len (suc j) last h n e s m = absurd (omega arith)
lengthen_ones at (r ∷ q ∷ rs) len zero last h n e s m = absurd (omega arith)
lengthen_ones at (r ∷ q ∷ rs) len (suc j) last h n e s m =
    ap (λ bits. replicate (r.start - at) false ++ (replicate (r.end - max at r.start) true ++ bits)) (lengthen_ones r.end (q ∷ rs) len j last (ahead_next r.end (q ∷ rs) len h.3) (omega arith) e s m)
    ∙ sym (append_assoc (replicate (r.start - at) false) (replicate (r.end - max at r.start) true ++ rendered r.end (q ∷ rs) len) (replicate (last.end - len) true)
    ∙ ap (λ bits. replicate (r.start - at) false ++ bits) (append_assoc (replicate (r.end - max at r.start) true) (rendered r.end (q ∷ rs) len) (replicate (last.end - len) true)))

pub lengthen_apart : (least : ℕ) (runs : List Run) (len j : ℕ) (last : Run) → AreApart least runs len → j + 1 ≡ length runs → (get_or runs j last).end ≡ len → last.start ≡ (get_or runs j last).start → len < last.end → AreApart least (set runs j last) last.end
lengthen_apart least [] len j last h n e s m = absurd (omega arith)
lengthen_apart least (r ∷ []) len zero last h n e s m = (omega (arith, h.0), omega (arith, h.1), omega arith, tt)
lengthen_apart least (r ∷ []) len (suc j) last h n e s m = absurd (omega arith)
lengthen_apart least (r ∷ q ∷ rs) len zero last h n e s m = absurd (omega arith)
lengthen_apart least (r ∷ q ∷ rs) len (suc j) last h n e s m = (h.0, h.1, omega (arith, h.2), lengthen_apart (r.end + 1) (q ∷ rs) len j last h.3 (omega arith) e s m)

-- a stretch of equal bits, and what comes after it
pub stretch_some : (at : ℕ) (runs : List Run) (len : ℕ) → at < len → AreAhead at runs len → (0 < stretch_at at runs len) × (at + stretch_at at runs len ≤ len)
stretch_some at [] len l h = (omega arith, omega arith)
stretch_some at (r ∷ rs) len l h = elim (cases_lt at r.start) [
  | inl less ↦ let e : ltb at r.start ≡ true = grind (arith, nat_tests) in rw e (omega arith, omega (arith, h.1, h.2))
  | inr over ↦ let e : ltb at r.start ≡ false = grind (arith, nat_tests) in rw e (omega (arith, h.0), omega (arith, h.0, h.2))
]

pub after_stretch : (at : ℕ) (runs : List Run) (len n : ℕ) → AreAhead at runs len → at < len → n ≤ stretch_at at runs len → (AreAhead (at + n) (runs_after (at + n) runs) len) × (rendered at runs len ≡ replicate n (bit_at at runs) ++ rendered (at + n) (runs_after (at + n) runs) len)
after_stretch at [] len n h l m = (tt, sym (join n (len - (at + n)) (len - at) false (omega arith)))
after_stretch at (r ∷ rs) len n h l m = elim (cases_lt at r.start) [
  | inl less ↦
      let before : ltb at r.start ≡ true = grind (arith, nat_tests) in
      let zero_bit : leb r.start at ≡ false = grind (arith, nat_tests) in
      let short : n ≤ r.start - at = rw before at m in
      let within : ltb (at + n) r.end ≡ true = (let u : at + n < r.end = omega (arith, h.1) in grind (arith, nat_tests)) in
      let ones : r.end - max at r.start ≡ r.end - max (at + n) r.start = omega arith in
      rw (within, zero_bit) (
        (omega (arith, h.1), h.1, h.2, h.3),
        ap (λ bits. bits ++ (replicate (r.end - max at r.start) true ++ rendered r.end rs len)) (sym (join n (r.start - (at + n)) (r.start - at) false (omega arith)))
            ∙ append_assoc (replicate n false) (replicate (r.start - (at + n)) false) (replicate (r.end - max at r.start) true ++ rendered r.end rs len)
            ∙ ap (λ k. replicate n false ++ (replicate (r.start - (at + n)) false ++ (replicate k true ++ rendered r.end rs len))) ones,
      )
  | inr over ↦
      let not_before : ltb at r.start ≡ false = grind (arith, nat_tests) in
      let one_bit : leb r.start at ≡ true = grind (arith, nat_tests) in
      let short : n ≤ r.end - at = rw not_before at m in
      let no_zeros : r.start - at ≡ 0 = omega arith in
      let ones : n + (r.end - max (at + n) r.start) ≡ r.end - max at r.start = omega (arith, h.0) in
      elim (cases_lt (at + n) r.end) [
        | inl inside ↦
            let within : ltb (at + n) r.end ≡ true = grind (arith, nat_tests) in
            let none : r.start - (at + n) ≡ 0 = omega arith in
            rw (within, one_bit) (
              (inside, h.1, h.2, h.3),
              ap (λ k. replicate k false ++ (replicate (r.end - max at r.start) true ++ rendered r.end rs len)) no_zeros
                  ∙ ap (λ bits. bits ++ rendered r.end rs len) (sym (join n (r.end - max (at + n) r.start) (r.end - max at r.start) true ones))
                  ∙ append_assoc (replicate n true) (replicate (r.end - max (at + n) r.start) true) (rendered r.end rs len)
                  ∙ ap (λ k. replicate n true ++ (replicate k false ++ (replicate (r.end - max (at + n) r.start) true ++ rendered r.end rs len))) (sym none),
            )
        | inr outside ↦
            let past : ltb (at + n) r.end ≡ false = grind (arith, nat_tests) in
            let at_end : at + n ≡ r.end = omega (arith, h.0) in
            let all : r.end - max at r.start ≡ n = omega (arith, h.0) in
            rw (past, one_bit) (
              subst (λ e. AreAhead e rs len) (sym at_end) (ahead_next r.end rs len h.3),
              ap (λ k. replicate k false ++ (replicate (r.end - max at r.start) true ++ rendered r.end rs len)) no_zeros
                  ∙ ap (λ k. replicate k true ++ rendered r.end rs len) all
                  ∙ ap (λ e. replicate n true ++ rendered e rs len) (sym at_end),
            )
      ]
]

pub reach_push : (at : ℕ) (runs : List Run) (r : Run) → reach at (runs ++ r ∷ []) ≡ r.end
reach_push at [] r = refl
reach_push at (q ∷ runs) r = reach_push q.end runs r

-- one more run is appended to runs of `len` bits
pub join_step : (runs new : List Run) (r : Run) (rest : List Run) (at len m : ℕ) (all : List Bool) → AreApart 0 runs (len + at) → AreApart at (r ∷ rest) m → rendered 0 new (len + r.end) ≡ rendered 0 runs (len + r.start) ++ replicate (len + r.end - (len + r.start)) true → rendered 0 runs (len + at) ++ rendered at (r ∷ rest) m ≡ all → rendered 0 new (len + r.end) ++ rendered r.end rest m ≡ all
join_step runs new r rest at len m all a h e t =
    let from : len + r.start ≡ len + at + (r.start - at) = omega (arith, h.0) in
    let ones : len + r.end - (len + r.start) ≡ r.end - max at r.start = omega (arith, h.0) in
    ap (λ bits. bits ++ rendered r.end rest m) (e
    ∙ ap (λ k. rendered 0 runs k ++ replicate (len + r.end - (len + r.start)) true) from
    ∙ ap (λ bits. bits ++ replicate (len + r.end - (len + r.start)) true) (more_zeros 0 runs (len + at) (r.start - at) (omega arith) (ahead 0 runs (len + at) a))
    ∙ ap (λ k. (rendered 0 runs (len + at) ++ replicate (r.start - at) false) ++ replicate k true) ones)
    ∙ append_assoc (rendered 0 runs (len + at) ++ replicate (r.start - at) false) (replicate (r.end - max at r.start) true) (rendered r.end rest m)
    ∙ append_assoc (rendered 0 runs (len + at)) (replicate (r.start - at) false) (replicate (r.end - max at r.start) true ++ rendered r.end rest m)
    ∙ t

-- zeros up to the end are appended last
pub join_end : (runs : List Run) (at len m : ℕ) (all : List Bool) → AreApart 0 runs (len + at) → at ≤ m → rendered 0 runs (len + at) ++ replicate (m - at) false ≡ all → rendered 0 runs (len + m) ≡ all
join_end runs at len m all a l t =
    let to : len + m ≡ len + at + (m - at) = omega arith in
    ap (rendered 0 runs) to ∙ more_zeros 0 runs (len + at) (m - at) (omega arith) (ahead 0 runs (len + at) a) ∙ t

-- a run that begins after the last one doesn't touch it
pub free_when : (runs : List Run) (len count : ℕ) (x : Run) → AreApart 0 runs len → count ≡ length runs → 0 < count → x ≡ get_or runs (count - 1) x → (x.end ≡ len → ⊥) → free_from 0 runs ≤ len
free_when runs len count x a n some e ne =
    let j : count - 1 + 1 ≡ length runs = omega arith in
    let f = free_last 0 runs (count - 1) x j in
    let w = end_within 0 runs len (count - 1) x (omega arith) a in
    let same : (get_or runs (count - 1) x).end ≡ x.end = ap (λ (r : Run). r.end) (sym e) in
    omega (arith, f, w.1, same)

pub free_none : (runs : List Run) (len : ℕ) → length runs ≡ 0 → free_from 0 runs ≤ len
free_none [] len e = omega arith
free_none (r ∷ rs) len e = absurd (omega arith)

-- the run that is appended next, and those after it
pub next_run : (more : List Run) (i m : ℕ) (d : Run) → i < length more → AreApart (reach 0 (take i more)) (drop i more) m → AreApart (reach 0 (take i more)) (get_or more i d ∷ drop (i + 1) more) m
next_run more i m d l h = subst (λ rs. AreApart (reach 0 (take i more)) rs m) (drop_more more i d l) h

pub next_reach : (more : List Run) (i : ℕ) (d : Run) → i < length more → reach 0 (take (i + 1) more) ≡ (get_or more i d).end
next_reach more i d l = ap (reach 0) (take_more more i d l) ∙ reach_push 0 (take i more) (get_or more i d)

-- bits of 0 more, or zeros
pub extend_none : (runs : List Run) (len n : ℕ) (bit : Bool) → AreApart 0 runs len → (bit ≡ true → n ≡ 0) → rendered 0 runs (len + n) ≡ rendered 0 runs len ++ replicate n bit
extend_none runs len n true h e = rw (e refl) (more_zeros 0 runs len 0 (omega arith) (ahead 0 runs len h))
extend_none runs len n false h e = more_zeros 0 runs len n (omega arith) (ahead 0 runs len h)

-- two bitmaps, joined one stretch further
bitwise-equal : (f : Bool → Bool → Bool) (n : ℕ) (x y : Bool) → bitwise f (replicate n x) (replicate n y) ≡ replicate n (f x y)
bitwise-equal f zero x y = refl
bitwise-equal f (suc n) x y = ap (λ bits. f x y ∷ bits) (bitwise-equal f n x y)

pub combine_step : (f : Bool → Bool → Bool) (n : ℕ) (x y : Bool) (out more left right left_rest right_rest all : List Bool) → left ≡ replicate n x ++ left_rest → right ≡ replicate n y ++ right_rest → more ≡ out ++ replicate n (f x y) → out ++ bitwise f left right ≡ all → more ++ bitwise f left_rest right_rest ≡ all
combine_step f n x y out more left right left_rest right_rest all l r m h =
    ap (λ bits. bits ++ bitwise f left_rest right_rest) m
    ∙ append_assoc out (replicate n (f x y)) (bitwise f left_rest right_rest)
    ∙ ap (λ bits. out ++ bits) (
    ap (λ bits. bits ++ bitwise f left_rest right_rest) (sym (bitwise-equal f n x y))
    ∙ sym (bitwise-append f (replicate n x) (replicate n y) left_rest right_rest (length-replicate n x ∙ sym (length-replicate n y)))
    ∙ ap (λ bits. bitwise f bits (replicate n y ++ right_rest)) (sym l)
    ∙ ap (bitwise f left) (sym r))
    ∙ h

-- a bitmap joined with itself
pub bitwise-self : (xs : List Bool) → bitwise (λ x y. not x) xs xs ≡ map not xs
bitwise-self [] = refl
bitwise-self (x ∷ xs) = ap (λ bits. not x ∷ bits) (bitwise-self xs)

pub length_bits : (runs : List Run) (len : ℕ) → AreApart 0 runs len → length (rendered 0 runs len) ≡ len
length_bits runs len h =
    let e : len - 0 ≡ len = omega arith in
    length_rendered 0 runs len (omega arith) (ahead 0 runs len h) ∙ e
