-- The form of an input stands once its bytes tell it.
use Rattle.std.proofs.Common.{◌≡◌, ℕ, ◌<◌, ◌≤◌, ◌&&◌, ◌||◌, Bool, true, false, List, [], ◌∷◌, ◌++◌, zero, suc, length, take, nat_eq, nat_lt, refl, ap, sym, ◌∙◌, subst, arith, min}
use Rattle.std.proofs.lemmas.Bool.Decides.{nat_tests}
use Rattle.std.proofs.lemmas.List.{length-take, take-append-le}
use Rattle.std.specs.Cmp.Lexicographic.{other_text, same_text}
use Rattle.std.specs.List.{starts_with}
use Rattle.source_block.specs.declared.stop.Stop.{Stop}
use Rattle.source_block.specs.declared.stop.Stop.TheVariants.{AtEnd, Failed, AtBound}
use Rattle.importer.specs.Ending.{only_end}
use Rattle.importer.specs.Forms.{end_of_start, form_of, gzip, is_start, may_become, micro_big, micro_little, nano_big, nano_little, pcapng}
use Rattle.importer.specs.Steps.{input_steps}

pub either_not : (a b : Bool) → a || b ≡ false → (a ≡ false) × (b ≡ false)
either_not true b h = cc
either_not false b h = (refl, h)

true_false : (b : Bool) → b ≡ true → b ≡ false → ⊥
true_false true is other = cc
true_false false is other = cc

-- no bytes begin with more than they are
starts_longer : (bytes magic : List ℕ) → length bytes < length magic → starts_with nat_eq bytes magic ≡ false
starts_longer bytes magic few = by (starts_with nat_eq bytes magic) refl
  where
    by : (b : Bool) → starts_with nat_eq bytes magic ≡ b → starts_with nat_eq bytes magic ≡ false
    by false is = is
    by true is =
        let same = same_text magic (take (length magic) bytes) (sym is) in
        let size : length magic ≡ min (length magic) (length bytes) = ap length same ∙ length-take (length magic) bytes in
        absurd (omega (arith, few, size))

-- the first bytes of the first bytes
take_less : (m n : ℕ) (xs : List ℕ) → m ≤ n → take m (take n xs) ≡ take m xs
take_less zero n xs le = refl
take_less (suc m) zero xs le = absurd (omega (arith, le))
take_less (suc m) (suc n) [] le = refl
take_less (suc m) (suc n) (x ∷ xs) le = ap (λ (r : List ℕ). x ∷ r) (take_less m n xs (omega (arith, le)))

take_front : (xs ys : List ℕ) → take (length xs) (xs ++ ys) ≡ xs
take_front [] ys = refl
take_front (x ∷ xs) ys = ap (λ (r : List ℕ). x ∷ r) (take_front xs ys)

-- bytes that begin so can become this beginning
begins_become : (front more magic : List ℕ) → length front < length magic → starts_with nat_eq (front ++ more) magic ≡ true → starts_with nat_eq magic front ≡ true
begins_become front more magic few is = by (starts_with nat_eq magic front) refl
  where
    same : magic ≡ take (length magic) (front ++ more)
    same = same_text magic (take (length magic) (front ++ more)) (sym is)

    first : take (length front) magic ≡ front
    first =
        ap (take (length front)) same ∙ take_less (length front) (length magic) (front ++ more) (omega (arith, few)) ∙ take_front front more

    by : (b : Bool) → starts_with nat_eq magic front ≡ b → starts_with nat_eq magic front ≡ true
    by true is = is
    by false other = absurd (other_text front (take (length front) magic) (sym other) (sym first))

and_true : (b : Bool) → true && b ≡ false → b ≡ false
and_true b h = h

-- more bytes change nothing where these tell already whether they begin so
begins_more : (front more magic : List ℕ) → may_become front magic ≡ false → starts_with nat_eq (front ++ more) magic ≡ starts_with nat_eq front magic
begins_more front more magic told = by (nat_lt (length front) (length magic)) refl
  where
    short : length front < length magic → (b : Bool) → starts_with nat_eq (front ++ more) magic ≡ b → starts_with nat_eq magic front ≡ false → starts_with nat_eq (front ++ more) magic ≡ false
    short few false is other = is
    short few true is other = absurd (true_false (starts_with nat_eq magic front) (begins_become front more magic few is) other)

    by : (b : Bool) → nat_lt (length front) (length magic) ≡ b → starts_with nat_eq (front ++ more) magic ≡ starts_with nat_eq front magic
    by true few =
        let less : length front < length magic = grind (arith, nat_tests, few) in
        let other : starts_with nat_eq magic front ≡ false = and_true (starts_with nat_eq magic front) (ap (λ (b : Bool). b && starts_with nat_eq magic front) (sym few) ∙ told) in
        short less (starts_with nat_eq (front ++ more) magic) refl other ∙ sym (starts_longer front magic less)
    by false many =
        let enough : length magic ≤ length front = grind (arith, nat_tests, many) in
        rw (take-append-le (length magic) front more enough) refl

pub form_stays : (front more : List ℕ) → is_start front ≡ false → form_of (front ++ more) ≡ form_of front
form_stays front more told =
    let f = either_not _ (may_become front nano_little) told in
    let e = either_not _ (may_become front nano_big) f.0 in
    let d = either_not _ (may_become front micro_little) e.0 in
    let c = either_not _ (may_become front micro_big) d.0 in
    let b = either_not (may_become front gzip) (may_become front pcapng) c.0 in
    rw (
      begins_more front more gzip b.0,
      begins_more front more pcapng b.1,
      begins_more front more micro_big c.1,
      begins_more front more micro_little d.1,
      begins_more front more nano_big e.1,
      begins_more front more nano_little f.1,
    ) refl

-- ---- so few bytes that they tell no form

abbrev EndsSo : List ℕ → Stop → Type 0
EndsSo bytes stop = input_steps bytes stop ≡ only_end (end_of_start stop bytes)

at_each : (bytes : List ℕ) → EndsSo bytes AtEnd → EndsSo bytes Failed → EndsSo bytes AtBound → (stop : Stop) → EndsSo bytes stop
at_each bytes one two three AtEnd = one
at_each bytes one two three Failed = two
at_each bytes one two three AtBound = three

none_ends : (stop : Stop) → EndsSo [] stop
none_ends stop = at_each [] refl refl refl stop

gzip_ends : (n : ℕ) → n < 2 → (stop : Stop) → EndsSo (take n gzip) stop
gzip_ends zero few stop = none_ends stop
gzip_ends (suc zero) few stop = at_each (take 1 gzip) refl refl refl stop
gzip_ends (suc (suc n)) few stop = absurd (omega (arith, few))

-- each beginning of four bytes

pcapng_ends : (n : ℕ) → n < 4 → (stop : Stop) → EndsSo (take n pcapng) stop
pcapng_ends zero few stop = none_ends stop
pcapng_ends (suc zero) few stop = at_each (take 1 pcapng) refl refl refl stop
pcapng_ends (suc (suc zero)) few stop = at_each (take 2 pcapng) refl refl refl stop
pcapng_ends (suc (suc (suc zero))) few stop = at_each (take 3 pcapng) refl refl refl stop
pcapng_ends (suc (suc (suc (suc n)))) few stop = absurd (omega (arith, few))

micro_big_ends : (n : ℕ) → n < 4 → (stop : Stop) → EndsSo (take n micro_big) stop
micro_big_ends zero few stop = none_ends stop
micro_big_ends (suc zero) few stop = at_each (take 1 micro_big) refl refl refl stop
micro_big_ends (suc (suc zero)) few stop = at_each (take 2 micro_big) refl refl refl stop
micro_big_ends (suc (suc (suc zero))) few stop = at_each (take 3 micro_big) refl refl refl stop
micro_big_ends (suc (suc (suc (suc n)))) few stop = absurd (omega (arith, few))

micro_little_ends : (n : ℕ) → n < 4 → (stop : Stop) → EndsSo (take n micro_little) stop
micro_little_ends zero few stop = none_ends stop
micro_little_ends (suc zero) few stop = at_each (take 1 micro_little) refl refl refl stop
micro_little_ends (suc (suc zero)) few stop = at_each (take 2 micro_little) refl refl refl stop
micro_little_ends (suc (suc (suc zero))) few stop = at_each (take 3 micro_little) refl refl refl stop
micro_little_ends (suc (suc (suc (suc n)))) few stop = absurd (omega (arith, few))

nano_big_ends : (n : ℕ) → n < 4 → (stop : Stop) → EndsSo (take n nano_big) stop
nano_big_ends zero few stop = none_ends stop
nano_big_ends (suc zero) few stop = at_each (take 1 nano_big) refl refl refl stop
nano_big_ends (suc (suc zero)) few stop = at_each (take 2 nano_big) refl refl refl stop
nano_big_ends (suc (suc (suc zero))) few stop = at_each (take 3 nano_big) refl refl refl stop
nano_big_ends (suc (suc (suc (suc n)))) few stop = absurd (omega (arith, few))

nano_little_ends : (n : ℕ) → n < 4 → (stop : Stop) → EndsSo (take n nano_little) stop
nano_little_ends zero few stop = none_ends stop
nano_little_ends (suc zero) few stop = at_each (take 1 nano_little) refl refl refl stop
nano_little_ends (suc (suc zero)) few stop = at_each (take 2 nano_little) refl refl refl stop
nano_little_ends (suc (suc (suc zero))) few stop = at_each (take 3 nano_little) refl refl refl stop
nano_little_ends (suc (suc (suc (suc n)))) few stop = absurd (omega (arith, few))

-- bytes that may become a beginning are the first of it
become_ends : (bytes magic : List ℕ) (stop : Stop) → ((n : ℕ) → n < length magic → EndsSo (take n magic) stop) → may_become bytes magic ≡ true → EndsSo bytes stop
become_ends bytes magic stop each is = by (nat_lt (length bytes) (length magic)) (starts_with nat_eq magic bytes) refl refl is
  where
    by : (b c : Bool) → nat_lt (length bytes) (length magic) ≡ b → starts_with nat_eq magic bytes ≡ c → b && c ≡ true → EndsSo bytes stop
    by true true few starts both =
        let same = same_text bytes (take (length bytes) magic) (sym starts) in
        subst (λ (t : List ℕ). EndsSo t stop) (sym same) (each (length bytes) (grind (arith, nat_tests, few)))
    by true false few starts both = cc
    by false c few starts both = cc

or_else : (a b : Bool) (P : Type 0) → (a ≡ true → P) → (b ≡ true → P) → a || b ≡ true → P
or_else true b P one two h = one refl
or_else false b P one two h = two h

pub start_ends : (bytes : List ℕ) (stop : Stop) → is_start bytes ≡ true → input_steps bytes stop ≡ only_end (end_of_start stop bytes)
start_ends bytes stop start =
    let To = EndsSo bytes stop in
    or_else _ (may_become bytes nano_little) To
    (or_else _ (may_become bytes nano_big) To
    (or_else _ (may_become bytes micro_little) To
    (or_else _ (may_become bytes micro_big) To
    (or_else (may_become bytes gzip) (may_become bytes pcapng) To
    (become_ends bytes gzip stop (λ n few. gzip_ends n few stop))
    (become_ends bytes pcapng stop (λ n few. pcapng_ends n few stop)))
    (become_ends bytes micro_big stop (λ n few. micro_big_ends n few stop)))
    (become_ends bytes micro_little stop (λ n few. micro_little_ends n few stop)))
    (become_ends bytes nano_big stop (λ n few. nano_big_ends n few stop)))
    (become_ends bytes nano_little stop (λ n few. nano_little_ends n few stop))
    start
