-- A value's literal reads in its own form, and a word reads in one form alone.
use Rattle.std.proofs.Common.{◌≡◌, ℕ, suc, ℤ, pos, negsuc, ◌+◌, ◌-◌, ◌<◌, ◌≤◌, ◌^◌, Bool, true, false, cond, eqb, leb, List, [], ◌∷◌, ◌++◌, Option, None, Some, is_some, length, take, get_or, refl, ap, sym, ◌∙◌, subst, arith, IsTrue}
use Rattle.std.specs.Prelude.{slice_index, count_by}
use Rattle.std.specs.Fmt.{decimal}
use Rattle.std.specs.List.{before_first}
use Rattle.std.specs.Option.{option_map, option_and_then, option_or}
use Rattle.std.proofs.lemmas.Bool.{le-leb, ltb-true, eq-eqb}
use Rattle.std.proofs.lemmas.List.{length-append, take_at}
use Rattle.vast_value.specs.declared.value.Value.{Value}
use Rattle.vast_value.specs.declared.value.Value.TheVariants as value
use Rattle.vast_value.specs.declared.transport.Transport.{Transport}
use Rattle.vast_value.specs.declared.transport.Transport.TheVariants.{Unknown, Tcp, Udp, Icmp}
use Rattle.vast_value.specs.Fit.{is_i64, is_ranged}
use Rattle.value_reading.specs.Numbers.{number_up_to, span_of}
use Rattle.value_reading.specs.Ports.{transport_name, transport_marked, marked_port_of, from_slash}
use Rattle.value_reading.specs.Addresses.{is_slash}
use Rattle.value_writing.specs.Writing.{span_text, address_text, subnet_text}
use Rattle.value_writing.proofs.WritingNumbers.{number_again, up_to_again, span_again}
use Rattle.value_writing.proofs.WritingPorts.{parts_again}
use Rattle.value_writing.proofs.WritingAddresses.{address_again}
use Rattle.value_writing.proofs.WritingSubnets.{subnet_again}
use Rattle.query_literal.specs.Literals.{before_byte, count_literal, int_literal, span_literal, port_literal, addr_literal, subnet_literal, time_literal, literal_forms, literal_read}
use Rattle.query_literal.proofs.OneForm.{one_form}
use Rattle.value_text.specs.LiteralTexts.{signed_text, literal_text, ReadsAgain}

abbrev V : Type 0
V = Option Value

abbrev one : V → ℕ
one o = cond (is_some o) 1 0

abbrev Lone : V → V → V → V → V → V → V → Type 0
Lone a b c d e f g = 0 + one a + one b + one c + one d + one e + one f + one g ≤ 1

abbrev first : V → V → V → V → V → V → V → V
first a b c d e f g = option_or a (option_or b (option_or c (option_or d (option_or e (option_or f g)))))

second : (a : V) (v : Value) (c d e f g : V) → Lone a (Some v) c d e f g → first a (Some v) c d e f g ≡ Some v
second None v c d e f g h = refl
second (Some x) v c d e f g h = absurd (omega arith)

third : (a b : V) (v : Value) (d e f g : V) → Lone a b (Some v) d e f g → first a b (Some v) d e f g ≡ Some v
third None None v d e f g h = refl
third (Some x) b v d e f g h = absurd (omega arith)
third None (Some x) v d e f g h = absurd (omega arith)

fourth : (a b c : V) (v : Value) (e f g : V) → Lone a b c (Some v) e f g → first a b c (Some v) e f g ≡ Some v
fourth None None None v e f g h = refl
fourth (Some x) b c v e f g h = absurd (omega arith)
fourth None (Some x) c v e f g h = absurd (omega arith)
fourth None None (Some x) v e f g h = absurd (omega arith)

fifth : (a b c d : V) (v : Value) (f g : V) → Lone a b c d (Some v) f g → first a b c d (Some v) f g ≡ Some v
fifth None None None None v f g h = refl
fifth (Some x) b c d v f g h = absurd (omega arith)
fifth None (Some x) c d v f g h = absurd (omega arith)
fifth None None (Some x) d v f g h = absurd (omega arith)
fifth None None None (Some x) v f g h = absurd (omega arith)

sixth : (a b c d e : V) (v : Value) (g : V) → Lone a b c d e (Some v) g → first a b c d e (Some v) g ≡ Some v
sixth None None None None None v g h = refl
sixth (Some x) b c d e v g h = absurd (omega arith)
sixth None (Some x) c d e v g h = absurd (omega arith)
sixth None None (Some x) d e v g h = absurd (omega arith)
sixth None None None (Some x) e v g h = absurd (omega arith)
sixth None None None None (Some x) v g h = absurd (omega arith)

seventh : (a b c d e f : V) (v : Value) → Lone a b c d e f (Some v) → first a b c d e f (Some v) ≡ Some v
seventh None None None None None None v h = refl
seventh (Some x) b c d e f v h = absurd (omega arith)
seventh None (Some x) c d e f v h = absurd (omega arith)
seventh None None (Some x) d e f v h = absurd (omega arith)
seventh None None None (Some x) e f v h = absurd (omega arith)
seventh None None None None (Some x) f v h = absurd (omega arith)
seventh None None None None None (Some x) v h = absurd (omega arith)

-- a word that reads in one form reads as that

by_second : (w : List ℕ) (v : Value) → int_literal w ≡ Some v → literal_read w ≡ Some v
unfolding literal_read
by_second w v h =
    let lone = subst (λ (o : V). Lone (count_literal w) o (span_literal w) (port_literal w) (addr_literal w) (subnet_literal w) (time_literal w)) h (one_form w) in
    ap (λ (o : V). first (count_literal w) o (span_literal w) (port_literal w) (addr_literal w) (subnet_literal w) (time_literal w)) h ∙ second _ v _ _ _ _ _ lone

by_third : (w : List ℕ) (v : Value) → span_literal w ≡ Some v → literal_read w ≡ Some v
unfolding literal_read
by_third w v h =
    let lone = subst (λ (o : V). Lone (count_literal w) (int_literal w) o (port_literal w) (addr_literal w) (subnet_literal w) (time_literal w)) h (one_form w) in
    ap (λ (o : V). first (count_literal w) (int_literal w) o (port_literal w) (addr_literal w) (subnet_literal w) (time_literal w)) h ∙ third _ _ v _ _ _ _ lone

by_fourth : (w : List ℕ) (v : Value) → port_literal w ≡ Some v → literal_read w ≡ Some v
unfolding literal_read
by_fourth w v h =
    let lone = subst (λ (o : V). Lone (count_literal w) (int_literal w) (span_literal w) o (addr_literal w) (subnet_literal w) (time_literal w)) h (one_form w) in
    ap (λ (o : V). first (count_literal w) (int_literal w) (span_literal w) o (addr_literal w) (subnet_literal w) (time_literal w)) h ∙ fourth _ _ _ v _ _ _ lone

by_fifth : (w : List ℕ) (v : Value) → addr_literal w ≡ Some v → literal_read w ≡ Some v
unfolding literal_read
by_fifth w v h =
    let lone = subst (λ (o : V). Lone (count_literal w) (int_literal w) (span_literal w) (port_literal w) o (subnet_literal w) (time_literal w)) h (one_form w) in
    ap (λ (o : V). first (count_literal w) (int_literal w) (span_literal w) (port_literal w) o (subnet_literal w) (time_literal w)) h ∙ fifth _ _ _ _ v _ _ lone

by_sixth : (w : List ℕ) (v : Value) → subnet_literal w ≡ Some v → literal_read w ≡ Some v
unfolding literal_read
by_sixth w v h =
    let lone = subst (λ (o : V). Lone (count_literal w) (int_literal w) (span_literal w) (port_literal w) (addr_literal w) o (time_literal w)) h (one_form w) in
    ap (λ (o : V). first (count_literal w) (int_literal w) (span_literal w) (port_literal w) (addr_literal w) o (time_literal w)) h ∙ sixth _ _ _ _ _ v _ lone

by_seventh : (w : List ℕ) (v : Value) → time_literal w ≡ Some v → literal_read w ≡ Some v
unfolding literal_read
by_seventh w v h =
    let lone = subst (λ (o : V). Lone (count_literal w) (int_literal w) (span_literal w) (port_literal w) (addr_literal w) (subnet_literal w) o) h (one_form w) in
    ap (λ (o : V). first (count_literal w) (int_literal w) (span_literal w) (port_literal w) (addr_literal w) (subnet_literal w) o) h ∙ seventh _ _ _ _ _ _ v lone

-- Each form

count_again : (n : ℕ) → n < 2 ^ 64 → literal_read (decimal n) ≡ Some (value.Count n)
unfolding literal_read
count_again n h = rw (up_to_again (2 ^ 64 - 1) n (omega arith) h) refl

int_again : (z : ℤ) → is_i64 z ≡ true → int_literal (signed_text z) ≡ Some (value.Int z)
int_again (pos n) h =
    let lt = ltb-true n (2 ^ 63) h in
    let few : leb n (2 ^ 63 - 1) ≡ true = le-leb n (2 ^ 63 - 1) (omega arith) in
    rw (number_again n (omega arith), few) refl
int_again (negsuc n) h =
    let lt = ltb-true n (2 ^ 63) h in
    let few : leb (suc n) (2 ^ 63) ≡ true = le-leb (suc n) (2 ^ 63) (omega arith) in
    rw (number_again (suc n) (omega arith), few) refl

last_at : (c : ℕ) (xs : List ℕ) → get_or (xs ++ c ∷ []) (length xs) 0 ≡ c
last_at c [] = refl
last_at c (x ∷ xs) = last_at c xs

-- what was put before a last byte
front_again : (c : ℕ) (xs : List ℕ) → before_byte c (xs ++ c ∷ []) ≡ Some xs
front_again c xs =
    let long : length (xs ++ c ∷ []) - 1 ≡ length xs = omega (arith, length-append xs (c ∷ [])) in
    let last : slice_index (xs ++ c ∷ []) (length (xs ++ c ∷ []) - 1) ≡ c = ap (λ i. get_or (xs ++ c ∷ []) i 0) long ∙ last_at c xs in
    let front : take (length (xs ++ c ∷ []) - 1) (xs ++ c ∷ []) ≡ xs = ap (λ i. take i (xs ++ c ∷ [])) long ∙ take_at xs (c ∷ []) (length xs) refl in
    rw (eq-eqb _ c last, front) refl

seconds_again : (z : ℤ) → is_i64 z ≡ true → span_literal (span_text z ++ 115 ∷ []) ≡ Some (value.Span z)
seconds_again z h = rw (front_again 115 (span_text z), span_again z h) refl

time_again : (z : ℤ) → is_i64 z ≡ true → time_literal (64 ∷ span_text z) ≡ Some (value.Time z)
time_again z h = rw (span_again z h) refl

named_again : (over : Transport) → transport_marked (47 ∷ transport_name over) ≡ Some over
named_again Unknown = refl
named_again Tcp = refl
named_again Udp = refl
named_again Icmp = refl

port_again : (n : ℕ) (over : Transport) → n < 2 ^ 16 → port_literal (decimal n ++ 47 ∷ transport_name over) ≡ Some (value.Port n over)
port_again n over h = let a = parts_again n (transport_name over) h in rw (a.0, a.1, named_again over, up_to_again 65535 n (omega arith) (omega arith)) refl

pub literal_again : ReadsAgain
literal_again (value.Bool b) text h e = absurd cc
literal_again (value.Text t) text h e = absurd cc
literal_again (value.Name t) text h e = absurd cc
literal_again (value.Count n) text h e = let is : decimal n ≡ text = cc in subst (λ (w : List ℕ). literal_read w ≡ Some (value.Count n)) is (count_again n (ltb-true n (2 ^ 64) h))
literal_again (value.Int z) text h e = let is : signed_text z ≡ text = cc in subst (λ (w : List ℕ). literal_read w ≡ Some (value.Int z)) is (by_second (signed_text z) (value.Int z) (int_again z h))
literal_again (value.Span z) text h e = let is : span_text z ++ 115 ∷ [] ≡ text = cc in subst (λ (w : List ℕ). literal_read w ≡ Some (value.Span z)) is (by_third (span_text z ++ 115 ∷ []) (value.Span z) (seconds_again z h))
literal_again (value.Time z) text h e = let is : 64 ∷ span_text z ≡ text = cc in subst (λ (w : List ℕ). literal_read w ≡ Some (value.Time z)) is (by_seventh (64 ∷ span_text z) (value.Time z) (time_again z h))
literal_again (value.Port n over) text h e =
    let is : decimal n ++ 47 ∷ transport_name over ≡ text = cc in
    subst (λ (w : List ℕ). literal_read w ≡ Some (value.Port n over)) is (by_fourth (decimal n ++ 47 ∷ transport_name over) (value.Port n over) (port_again n over (ltb-true n (2 ^ 16) h)))
literal_again (value.Addr a) text h e =
    let is : address_text a ≡ text = cc in
    subst (λ (w : List ℕ). literal_read w ≡ Some (value.Addr a)) is (by_fifth (address_text a) (value.Addr a) (ap (λ o. option_map value.Addr o) (address_again a (ltb-true a (2 ^ 128) h))))
literal_again (value.Subnet n) text h e =
    let is : subnet_text n ≡ text = cc in
    subst (λ (w : List ℕ). literal_read w ≡ Some (value.Subnet n)) is (by_sixth (subnet_text n) (value.Subnet n) (ap (λ o. option_map value.Subnet o) (subnet_again n (ltb-true n.base (2 ^ 128) h))))
