-- What a backslash gives with what stands behind it.
use Rattle.std.proofs.Common.{◌≡◌, ℕ, ◌+◌, ◌*◌, ◌<◌, ◌≤◌, ◌^◌, Bool, true, false, ◌&&◌, ◌||◌, ◌==◌, if◌then◌else◌, nat_le, List, [], ◌∷◌, length, get_or, drop, IsTrue, refl, ap, ◌∙◌, arith}
use Rattle.std.proofs.lemmas.Bool.Decides.{nat_tests}
use Rattle.std.specs.List.{list_any, list_all}
use Rattle.std.proofs.lemmas.Bool.{lt-ltb, le-leb, leb-true}
use Rattle.std.specs.Str.{bytes_eq}
use Rattle.vast_value.specs.Fit.{is_byte, is_short}
use Rattle.value_reading.specs.Addresses.{is_hexadecimal, digit_value}
use Rattle.value_reading.specs.Escapes.{is_byte_escape, unescaped}

-- a byte that is no backslash stays
pub other_stays : (a : ℕ) (bs : List ℕ) → (a == 92) ≡ false → unescaped (a ∷ bs) ≡ a ∷ unescaped bs
other_stays a [] other = refl
other_stays a (b ∷ []) other = rw other refl
other_stays a (b ∷ (c ∷ [])) other = rw other refl
other_stays a (b ∷ (c ∷ (d ∷ rest))) other = rw other refl

-- two backslashes are one
pub backslash_twice : (bs : List ℕ) → unescaped (92 ∷ (92 ∷ bs)) ≡ 92 ∷ unescaped bs
backslash_twice [] = refl
backslash_twice (c ∷ []) = refl
backslash_twice (c ∷ (d ∷ rest)) = refl

pub escape-twice : (behind : List ℕ) → 0 < length behind → get_or behind 0 0 ≡ 92 → unescaped (92 ∷ behind) ≡ 92 ∷ unescaped (drop 1 behind)
escape-twice [] some same = absurd (omega arith)
escape-twice (b ∷ bs) some same = ap (λ x. unescaped (92 ∷ (x ∷ bs))) same ∙ backslash_twice bs

pub escape-short : (behind : List ℕ) → 0 < length behind → (get_or behind 0 0 == 92) ≡ false → length behind < 3 → unescaped (92 ∷ behind) ≡ 92 ∷ unescaped behind
escape-short [] some other short = absurd (omega arith)
escape-short (b ∷ []) some other short = rw other refl
escape-short (b ∷ (c ∷ [])) some other short = rw other refl
escape-short (b ∷ (c ∷ (d ∷ rest))) some other short = absurd (omega arith)

pub escape-stays : (behind : List ℕ) → 3 ≤ length behind → (get_or behind 0 0 == 92) ≡ false → is_byte_escape (get_or behind 0 0) (get_or behind 1 0) (get_or behind 2 0) ≡ false
    → unescaped (92 ∷ behind) ≡ 92 ∷ unescaped behind
escape-stays [] long other none = absurd (omega arith)
escape-stays (b ∷ []) long other none = absurd (omega arith)
escape-stays (b ∷ (c ∷ [])) long other none = absurd (omega arith)
escape-stays (b ∷ (c ∷ (d ∷ rest))) long other none = rw (other, none) refl

pub escape-byte : (behind : List ℕ) → 3 ≤ length behind → (get_or behind 0 0 == 92) ≡ false → is_byte_escape (get_or behind 0 0) (get_or behind 1 0) (get_or behind 2 0) ≡ true
    → unescaped (92 ∷ behind) ≡ (digit_value (get_or behind 1 0) * 16 + digit_value (get_or behind 2 0)) ∷ unescaped (drop 3 behind)
escape-byte [] long other byte = absurd (omega arith)
escape-byte (b ∷ []) long other byte = absurd (omega arith)
escape-byte (b ∷ (c ∷ [])) long other byte = absurd (omega arith)
escape-byte (b ∷ (c ∷ (d ∷ rest))) long other byte = rw (other, byte) refl

left_none : (a b : Bool) → (a || b) ≡ false → a ≡ false
left_none true b none = none
left_none false b none = refl

right_none : (a b : Bool) → (a || b) ≡ false → b ≡ false
right_none true b none = absurd cc
right_none false b none = none

-- without a backslash nothing changes
pub plain_stays : (xs : List ℕ) → list_any (λ b. b == 92) xs ≡ false → unescaped xs ≡ xs
plain_stays [] none = refl
plain_stays (x ∷ xs) none =
    let other : (x == 92) ≡ false = left_none (x == 92) (list_any (λ b. b == 92) xs) none in
    let rest : list_any (λ b. b == 92) xs ≡ false = right_none (x == 92) (list_any (λ b. b == 92) xs) none in
    other_stays x xs other ∙ ap (λ ys. x ∷ ys) (plain_stays xs rest)

pub next-other : (rest : List ℕ) → 0 < length rest → (get_or rest 0 0 == 92) ≡ false → unescaped rest ≡ get_or rest 0 0 ∷ unescaped (drop 1 rest)
next-other [] some other = absurd (omega arith)
next-other (b ∷ bs) some other = other_stays b bs other

pub next-backslash : (rest : List ℕ) → 0 < length rest → get_or rest 0 0 ≡ 92 → unescaped rest ≡ unescaped (92 ∷ drop 1 rest)
next-backslash [] some same = absurd (omega arith)
next-backslash (b ∷ bs) some same = ap (λ x. unescaped (x ∷ bs)) same

-- Undoing escapes makes no text longer, and bytes stay bytes.

digit_below : (b : ℕ) → is_hexadecimal b ≡ true → digit_value b < 16
digit_below b digit = grind (arith, nat_tests)

byte_of_digits : (high low : ℕ) → digit_value high < 16 → digit_value low < 16 → is_byte (digit_value high * 16 + digit_value low) ≡ true
byte_of_digits high low h l = lt-ltb _ _ (omega arith)

pick_shorter : (t : Bool) (x y : List ℕ) (n : ℕ) → length x ≤ n → length y ≤ n → length (if t then x else y) ≤ n
pick_shorter true x y n h k = h
pick_shorter false x y n h k = k

pub length-unescaped : (xs : List ℕ) → length (unescaped xs) ≤ length xs
length-unescaped [] = omega arith
length-unescaped (a ∷ []) = omega arith
length-unescaped (a ∷ (b ∷ [])) = pick_shorter (a == 92 && b == 92) (92 ∷ []) (a ∷ (b ∷ [])) 2 (omega arith) (omega arith)
length-unescaped (a ∷ (b ∷ (c ∷ []))) =
    pick_shorter (a == 92 && b == 92) (92 ∷ (c ∷ [])) (a ∷ unescaped (b ∷ (c ∷ []))) 3 (omega arith) (omega (arith, length-unescaped (b ∷ (c ∷ []))))
length-unescaped (a ∷ (b ∷ (c ∷ (d ∷ rest)))) =
    pick_shorter (a == 92 && b == 92) (92 ∷ unescaped (c ∷ (d ∷ rest)))
    (if a == 92 && is_byte_escape b c d then (digit_value c * 16 + digit_value d) ∷ unescaped rest else a ∷ unescaped (b ∷ (c ∷ (d ∷ rest))))
    (length (a ∷ (b ∷ (c ∷ (d ∷ rest)))))
    (omega (arith, length-unescaped (c ∷ (d ∷ rest))))
    (pick_shorter (a == 92 && is_byte_escape b c d) ((digit_value c * 16 + digit_value d) ∷ unescaped rest) (a ∷ unescaped (b ∷ (c ∷ (d ∷ rest))))
    (length (a ∷ (b ∷ (c ∷ (d ∷ rest))))) (omega (arith, length-unescaped rest)) (omega (arith, length-unescaped (b ∷ (c ∷ (d ∷ rest))))))

and_left : (a b : Bool) → (a && b) ≡ true → a ≡ true
and_left true b h = refl
and_left false b h = h

and_right : (a b : Bool) → (a && b) ≡ true → b ≡ true
and_right true b h = h
and_right false b h = absurd cc

and_both : (a b : Bool) → a ≡ true → b ≡ true → (a && b) ≡ true
and_both true b h k = k
and_both false b h k = h

head_byte : (x : ℕ) (xs : List ℕ) → list_all is_byte (x ∷ xs) ≡ true → is_byte x ≡ true
head_byte x xs h = and_left (is_byte x) (list_all is_byte xs) h

tail_bytes : (x : ℕ) (xs : List ℕ) → list_all is_byte (x ∷ xs) ≡ true → list_all is_byte xs ≡ true
tail_bytes x xs h = and_right (is_byte x) (list_all is_byte xs) h

more_bytes : (x : ℕ) (xs : List ℕ) → is_byte x ≡ true → list_all is_byte xs ≡ true → list_all is_byte (x ∷ xs) ≡ true
more_bytes x xs h k = and_both (is_byte x) (list_all is_byte xs) h k

pick_bytes : (t : Bool) (x y : List ℕ) → (t ≡ true → list_all is_byte x ≡ true) → list_all is_byte y ≡ true → list_all is_byte (if t then x else y) ≡ true
pick_bytes true x y h k = h refl
pick_bytes false x y h k = k

escape_is_byte : (a b c d : ℕ) → (a == 92 && is_byte_escape b c d) ≡ true → is_byte (digit_value c * 16 + digit_value d) ≡ true
escape_is_byte a b c d h =
    let escape : (is_hexadecimal c && is_hexadecimal d) ≡ true = and_right (b == 120) (is_hexadecimal c && is_hexadecimal d) (and_right (a == 92) (is_byte_escape b c d) h) in
    byte_of_digits c d (digit_below c (and_left (is_hexadecimal c) (is_hexadecimal d) escape)) (digit_below d (and_right (is_hexadecimal c) (is_hexadecimal d) escape))

pub bytes-unescaped : (xs : List ℕ) → list_all is_byte xs ≡ true → list_all is_byte (unescaped xs) ≡ true
bytes-unescaped [] h = refl
bytes-unescaped (a ∷ []) h = h
bytes-unescaped (a ∷ (b ∷ [])) h = pick_bytes (a == 92 && b == 92) (92 ∷ []) (a ∷ (b ∷ [])) (λ same. refl) h
bytes-unescaped (a ∷ (b ∷ (c ∷ []))) h =
    let bs : list_all is_byte (b ∷ (c ∷ [])) ≡ true = tail_bytes a (b ∷ (c ∷ [])) h in
    pick_bytes (a == 92 && b == 92) (92 ∷ (c ∷ [])) (a ∷ unescaped (b ∷ (c ∷ []))) (λ same. more_bytes 92 (c ∷ []) refl (tail_bytes b (c ∷ []) bs))
    (more_bytes a (unescaped (b ∷ (c ∷ []))) (head_byte a (b ∷ (c ∷ [])) h) (bytes-unescaped (b ∷ (c ∷ [])) bs))
bytes-unescaped (a ∷ (b ∷ (c ∷ (d ∷ rest)))) h =
    let bs : list_all is_byte (b ∷ (c ∷ (d ∷ rest))) ≡ true = tail_bytes a (b ∷ (c ∷ (d ∷ rest))) h in
    let cs : list_all is_byte (c ∷ (d ∷ rest)) ≡ true = tail_bytes b (c ∷ (d ∷ rest)) bs in
    let rs : list_all is_byte rest ≡ true = tail_bytes d rest (tail_bytes c (d ∷ rest) cs) in
    pick_bytes (a == 92 && b == 92) (92 ∷ unescaped (c ∷ (d ∷ rest)))
    (if a == 92 && is_byte_escape b c d then (digit_value c * 16 + digit_value d) ∷ unescaped rest else a ∷ unescaped (b ∷ (c ∷ (d ∷ rest))))
    (λ same. more_bytes 92 (unescaped (c ∷ (d ∷ rest))) refl (bytes-unescaped (c ∷ (d ∷ rest)) cs))
    (pick_bytes (a == 92 && is_byte_escape b c d) ((digit_value c * 16 + digit_value d) ∷ unescaped rest) (a ∷ unescaped (b ∷ (c ∷ (d ∷ rest))))
    (λ escape. more_bytes (digit_value c * 16 + digit_value d) (unescaped rest) (escape_is_byte a b c d escape) (bytes-unescaped rest rs))
    (more_bytes a (unescaped (b ∷ (c ∷ (d ∷ rest)))) (head_byte a (b ∷ (c ∷ (d ∷ rest))) h) (bytes-unescaped (b ∷ (c ∷ (d ∷ rest))) bs)))

pick_short : (t : Bool) (text : List ℕ) → IsTrue (is_short text) → IsTrue (is_short (if t then [] else text))
pick_short true text h = refl
pick_short false text h = h

pub short-unescaped : (raw empty : List ℕ) → IsTrue (is_short raw) → IsTrue (is_short (if bytes_eq raw empty then [] else unescaped raw))
short-unescaped raw empty short =
    let long : nat_le (length raw) (2 ^ 24) ≡ true = and_left (nat_le (length raw) (2 ^ 24)) (list_all is_byte raw) short in
    let bytes : list_all is_byte raw ≡ true = and_right (nat_le (length raw) (2 ^ 24)) (list_all is_byte raw) short in
    let few : length raw ≤ 2 ^ 24 = leb-true (length raw) (2 ^ 24) long in
    pick_short (bytes_eq raw empty) (unescaped raw)
    (and_both (nat_le (length (unescaped raw)) (2 ^ 24)) (list_all is_byte (unescaped raw)) (le-leb (length (unescaped raw)) (2 ^ 24) (omega (arith, length-unescaped raw))) (bytes-unescaped raw bytes))
