-- No word has two literal forms: each form is told by what a word begins with, ends with and holds.
use Rattle.std.proofs.Common.{◌≡◌, ℕ, ℤ, ◌+◌, ◌-◌, ◌≤◌, ◌^◌, Bool, true, false, ◌&&◌, ◌||◌, ◌==◌, cond, eqb, nat_le, zero, suc, inl, inr, List, [], ◌∷◌, ◌++◌, Option, None, Some, is_some, length, take, drop, refl, ap, sym, ◌∙◌, arith, lit≤}
use Rattle.std.specs.Prelude.{slice_index, count_by}
use Rattle.std.specs.List.{list_all, list_any, before_first, after_first, position_or_len}
use Rattle.std.specs.Option.{option_map, option_and_then, option_or}
use Rattle.std.specs.Str.{bytes_eq}
use Rattle.std.proofs.lemmas.Bool.{cases_Bool, eqb-true, eq-eqb}
use Rattle.std.proofs.lemmas.List.{take-append-drop, drop-drop}
use Rattle.std.proofs.lemmas.List.Folds.{list_all-append}
use Rattle.std.proofs.lemmas.Slice.Eq.{bytes_eq-Decides}
use Rattle.std.proofs.lemmas.Grind.{common_steps}
use Rattle.vast_value.specs.declared.transport.Transport.{Transport}
use Rattle.vast_value.specs.declared.transport.Transport.TheVariants.{Unknown, Tcp, Udp, Icmp}
use Rattle.vast_value.specs.declared.value.Value.TheVariants as value
use Rattle.value_reading.specs.Numbers.{is_digit, number_of, number_up_to, if_at_most, begins_with, if_i64, is_point, span_of}
use Rattle.value_reading.specs.Addresses.{is_slash, short_number, dotted_of, grouped_of, mapped, address_of, subnet, subnet_from, subnet_of}
use Rattle.value_reading.specs.Ports.{transport_named, transport_marked, transport_name, port_by, from_slash, marked_port_of}
use Rattle.value_reading.proofs.CutLemmas.{from_first, from-yes, from-no, before-no}
use Rattle.query_literal.specs.Literals.{behind_byte, before_byte, moment_of, count_literal, int_literal, span_literal, port_literal, addr_literal, subnet_literal, time_literal, literal_forms}
use Rattle.query_literal.proofs.FormLemmas.{first_is_not, last_is_not, none_of, weaker, number_digits, up_to_digits, then_some, map_some, or_some, is_mark, is_address_byte, dotted_bytes, dotted_mark, grouped_bytes}

-- What tells a form: the last byte is an `s`, the first one a sign; a slash; a point or a colon before it, or anywhere
abbrev ends_seconds : List ℕ → Bool
ends_seconds w = eqb (slice_index w (length w - 1)) 115

abbrev form_by : Bool → Bool → Bool → Bool → Bool → Bool → Bool → ℕ
form_by time seconds plus minus slash front mark =
    cond time 6 (cond seconds 2 (cond plus 1 (cond minus 1 (cond slash (cond front 5 3) (cond mark 4 0)))))

abbrev form_of : List ℕ → ℕ
form_of w =
    form_by (begins_with 64 w) (ends_seconds w) (begins_with 43 w) (begins_with 45 w) (list_any is_slash w) (list_any is_mark (before_first is_slash w)) (list_any is_mark w)

by_signs : (time seconds plus minus slash front mark : Bool) → time ≡ false → seconds ≡ false → plus ≡ false → minus ≡ false → form_by time seconds plus minus slash front mark ≡ cond slash (cond front 5 3) (cond mark 4 0)
by_signs time seconds plus minus slash front mark a b c d = rw (a, b, c, d) refl

-- a word of bytes that are no mark of a time, of seconds or of a sign
unsigned_form : (p : ℕ → Bool) → p 64 ≡ false → p 115 ≡ false → p 43 ≡ false → p 45 ≡ false → (w : List ℕ) → list_all p w ≡ true
    → form_of w ≡ cond (list_any is_slash w) (cond (list_any is_mark (before_first is_slash w)) 5 3) (cond (list_any is_mark w) 4 0)
unsigned_form p a b c d w h =
    by_signs (begins_with 64 w) (ends_seconds w) (begins_with 43 w) (begins_with 45 w) (list_any is_slash w) (list_any is_mark (before_first is_slash w)) (list_any is_mark w)
    (first_is_not p 64 w h a) (last_is_not p 115 w h b refl) (first_is_not p 43 w h c) (first_is_not p 45 w h d)

digit_no_slash : (b : ℕ) → is_digit b ≡ true → is_slash b ≡ false
digit_no_slash b h = grind (arith, common_steps)

digit_no_mark : (b : ℕ) → is_digit b ≡ true → is_mark b ≡ false
digit_no_mark b h = grind (arith, common_steps)

address_no_slash : (b : ℕ) → is_address_byte b ≡ true → is_slash b ≡ false
address_no_slash b h = grind (arith, common_steps)

count_form : (w : List ℕ) → is_some (count_literal w) ≡ true → form_of w ≡ 0
count_form w h =
    let digits : list_all is_digit w ≡ true = up_to_digits (2 ^ 64 - 1) w (map_some value.Count (number_up_to (2 ^ 64 - 1) w) h) in
    unsigned_form is_digit refl refl refl refl w digits
    ∙ rw (none_of is_digit is_slash digit_no_slash w digits, none_of is_digit is_mark digit_no_mark w digits) refl

address_parts : (w : List ℕ) → is_some (address_of w) ≡ true → (list_all is_address_byte w ≡ true) × (list_any is_mark w ≡ true)
address_parts w h = (
  or_some (option_map mapped (dotted_of w)) (grouped_of w) (list_all is_address_byte w) (λ k. dotted_bytes w (map_some mapped (dotted_of w) k)) (λ k. (grouped_bytes w k).0) h,
  or_some (option_map mapped (dotted_of w)) (grouped_of w) (list_any is_mark w) (λ k. dotted_mark w (map_some mapped (dotted_of w) k)) (λ k. (grouped_bytes w k).1) h,
)

addr_form : (w : List ℕ) → is_some (addr_literal w) ≡ true → form_of w ≡ 4
addr_form w h =
    let a = address_parts w (map_some value.Addr (address_of w) h) in
    unsigned_form is_address_byte refl refl refl refl w a.0
    ∙ rw (none_of is_address_byte is_slash address_no_slash w a.0, a.1) refl

-- Signs

or_true : (b : Bool) → (b || true) ≡ true
or_true true = refl
or_true false = refl

or_two : (a b : Bool) → (a || (b || true)) ≡ true
or_two true b = refl
or_two false b = or_true b

signed_parts : (c : ℕ) (negative : Bool) (w : List ℕ) → is_some (option_and_then (if_i64 negative) (option_and_then number_of (behind_byte c w))) ≡ true
    → (begins_with c w ≡ true) × (list_all (λ b. b == c || is_digit b) w ≡ true)
signed_parts c negative [] h = absurd cc
signed_parts c negative (b ∷ bs) h =
    elim (eqb b c) as (λ t. is_some (option_and_then (if_i64 negative) (option_and_then number_of (cond t (Some bs) None))) ≡ true → (t ≡ true) × ((t || is_digit b) && list_all (λ b. b == c || is_digit b) bs ≡ true)) [
      | true ↦ λ k. (refl, weaker is_digit (λ b. b == c || is_digit b) (λ b j. rw j (or_true (b == c))) bs (number_digits bs (then_some (if_i64 negative) (number_of bs) k)))
      | false ↦ λ k. absurd cc
    ] h

plus_form : (time seconds plus minus slash front mark : Bool) → time ≡ false → seconds ≡ false → plus ≡ true → form_by time seconds plus minus slash front mark ≡ 1
plus_form time seconds plus minus slash front mark a b c = rw (a, b, c) refl

minus_form : (time seconds plus minus slash front mark : Bool) → time ≡ false → seconds ≡ false → minus ≡ true → form_by time seconds plus minus slash front mark ≡ 1
minus_form time seconds true minus slash front mark a b c = rw (a, b) refl
minus_form time seconds false minus slash front mark a b c = rw (a, b, c) refl

plus_word : (w : List ℕ) → is_some (option_and_then (if_i64 false) (option_and_then number_of (behind_byte 43 w))) ≡ true → form_of w ≡ 1
plus_word w h =
    let a = signed_parts 43 false w h in
    plus_form (begins_with 64 w) (ends_seconds w) (begins_with 43 w) (begins_with 45 w) (list_any is_slash w) (list_any is_mark (before_first is_slash w)) (list_any is_mark w)
    (first_is_not (λ b. b == 43 || is_digit b) 64 w a.1 refl) (last_is_not (λ b. b == 43 || is_digit b) 115 w a.1 refl refl) a.0

minus_word : (w : List ℕ) → is_some (option_and_then (if_i64 true) (option_and_then number_of (behind_byte 45 w))) ≡ true → form_of w ≡ 1
minus_word w h =
    let a = signed_parts 45 true w h in
    minus_form (begins_with 64 w) (ends_seconds w) (begins_with 43 w) (begins_with 45 w) (list_any is_slash w) (list_any is_mark (before_first is_slash w)) (list_any is_mark w)
    (first_is_not (λ b. b == 45 || is_digit b) 64 w a.1 refl) (last_is_not (λ b. b == 45 || is_digit b) 115 w a.1 refl refl) a.0

either_some : {X : Type 0} (a b : Option X) (P : Type 0) → (is_some a ≡ true → P) → (is_some b ≡ true → P) → is_some (option_or a b) ≡ true → P
either_some None b P f g h = g h
either_some (Some x) b P f g h = f refl

int_form : (w : List ℕ) → is_some (int_literal w) ≡ true → form_of w ≡ 1
int_form w h =
    let plus = option_and_then (if_i64 false) (option_and_then number_of (behind_byte 43 w)) in
    let minus = option_and_then (if_i64 true) (option_and_then number_of (behind_byte 45 w)) in
    either_some plus minus (form_of w ≡ 1) (plus_word w) (minus_word w) (map_some value.Int (option_or plus minus) h)

-- Seconds

then_none : {X Y : Type 0} (f : X → Option Y) (o : Option X) → o ≡ None → option_and_then f o ≡ None
then_none f None h = refl
then_none f (Some x) h = absurd cc

no_time_span : (k : ℕ) (bs : List ℕ) → is_some (span_of (take k (64 ∷ bs))) ≡ false
no_time_span zero bs = refl
no_time_span (suc k) bs =
    let number : number_of (before_first is_point (64 ∷ take k bs)) ≡ None = ap number_of (before-no is_point 64 (take k bs) refl) in
    let none : span_of (64 ∷ take k bs) ≡ None = then_none _ _ (then_none _ _ number) in
    ap is_some none

span_first : (k : ℕ) (w : List ℕ) → is_some (span_of (take k w)) ≡ true → begins_with 64 w ≡ false
span_first k [] h = refl
span_first k (b ∷ bs) h = elim (cases_Bool (eqb b 64)) [
  | inl hit ↦
      let at : b ≡ 64 = eqb-true b 64 hit in
      let none : is_some (span_of (take k (b ∷ bs))) ≡ false = ap (λ c. is_some (span_of (take k (c ∷ bs)))) at ∙ no_time_span k bs in
      absurd cc
  | inr miss ↦ miss
]

seconds_form : (time seconds plus minus slash front mark : Bool) → time ≡ false → seconds ≡ true → form_by time seconds plus minus slash front mark ≡ 2
seconds_form time seconds plus minus slash front mark a b = rw (a, b) refl

seconds_parts : (w : List ℕ) → is_some (option_and_then span_of (before_byte 115 w)) ≡ true → (ends_seconds w ≡ true) × (is_some (span_of (take (length w - 1) w)) ≡ true)
seconds_parts w h =
    elim (ends_seconds w) as (λ t. is_some (option_and_then span_of (cond t (Some (take (length w - 1) w)) None)) ≡ true → (t ≡ true) × (is_some (span_of (take (length w - 1) w)) ≡ true)) [
      | true ↦ λ k. (refl, k)
      | false ↦ λ k. absurd cc
    ] h

span_form : (w : List ℕ) → is_some (span_literal w) ≡ true → form_of w ≡ 2
span_form w h =
    let a = seconds_parts w (map_some value.Span (option_and_then span_of (before_byte 115 w)) h) in
    seconds_form (begins_with 64 w) (ends_seconds w) (begins_with 43 w) (begins_with 45 w) (list_any is_slash w) (list_any is_mark (before_first is_slash w)) (list_any is_mark w)
    (span_first (length w - 1) w a.1) a.0

-- Times

time_first : (w : List ℕ) → is_some (behind_byte 64 w) ≡ true → begins_with 64 w ≡ true
time_first [] h = absurd cc
time_first (b ∷ bs) h =
    elim (eqb b 64) as (λ t. is_some (cond t (Some bs) None) ≡ true → t ≡ true) [ true ↦ λ k. refl | false ↦ λ k. absurd cc ] h

time_is : (time seconds plus minus slash front mark : Bool) → time ≡ true → form_by time seconds plus minus slash front mark ≡ 6
time_is time seconds plus minus slash front mark a = rw a refl

abbrev seconds_or_moment : List ℕ → Option ℤ
seconds_or_moment text = option_or (span_of text) (moment_of text)

time_form : (w : List ℕ) → is_some (time_literal w) ≡ true → form_of w ≡ 6
time_form w h =
    time_is (begins_with 64 w) (ends_seconds w) (begins_with 43 w) (begins_with 45 w) (list_any is_slash w) (list_any is_mark (before_first is_slash w)) (list_any is_mark w)
    (time_first w (then_some seconds_or_moment (behind_byte 64 w) (map_some value.Time (option_and_then seconds_or_moment (behind_byte 64 w)) h)))

-- Slashes

from_hit : (p : ℕ → Bool) (w : List ℕ) (b : ℕ) (rest : List ℕ) → from_first p w ≡ b ∷ rest → (p b ≡ true) × (list_any p w ≡ true)
from_hit p [] b rest h = absurd cc
from_hit p (c ∷ cs) b rest h = elim (cases_Bool (p c)) [
  | inl hit ↦
      let same : c ∷ cs ≡ b ∷ rest = sym (from-yes p c cs hit) ∙ h in
      let first : c ≡ b = cc in
      (ap p (sym first) ∙ hit, rw hit refl)
  | inr miss ↦
      let a = from_hit p cs b rest (sym (from-no p c cs miss) ∙ h) in
      (a.0, rw a.1 (or_true (p c)))
]

whole : (w : List ℕ) → w ≡ before_first is_slash w ++ from_slash w
whole w = sym (take-append-drop (position_or_len is_slash w) w)

whole_bytes : (p : ℕ → Bool) (w : List ℕ) → list_all p (before_first is_slash w) ≡ true → list_all p (from_slash w) ≡ true → list_all p w ≡ true
whole_bytes p w h k = ap (list_all p) (whole w) ∙ (list_all-append p (before_first is_slash w) (from_slash w) ∙ rw (h, k) refl)

-- the letters of a transport's name
abbrev is_letter : ℕ → Bool
is_letter b = b == 63 || (b == 116 || (b == 99 || (b == 112 || (b == 117 || (b == 100 || (b == 105 || b == 109))))))

named_by : (a b c d p : Bool) → (a ≡ true → p ≡ true) → (b ≡ true → p ≡ true) → (c ≡ true → p ≡ true) → (d ≡ true → p ≡ true)
    → is_some (cond a (Some Unknown) (cond b (Some Tcp) (cond c (Some Udp) (cond d (Some Icmp) None)))) ≡ true → p ≡ true
named_by true b c d p f g i j h = f refl
named_by false true c d p f g i j h = g refl
named_by false false true d p f g i j h = i refl
named_by false false false true p f g i j h = j refl
named_by false false false false p f g i j h = absurd cc

spelled : (name text : List ℕ) → list_all is_letter text ≡ true → bytes_eq name text ≡ true → list_all is_letter name ≡ true
spelled name text h k = ap (list_all is_letter) ((bytes_eq-Decides name text).0 k) ∙ h

name_letters : (name : List ℕ) → is_some (transport_named name) ≡ true → list_all is_letter name ≡ true
name_letters name h =
    named_by (bytes_eq name (transport_name Unknown)) (bytes_eq name (transport_name Tcp)) (bytes_eq name (transport_name Udp)) (bytes_eq name (transport_name Icmp)) (list_all is_letter name)
    (spelled name (transport_name Unknown) refl) (spelled name (transport_name Tcp) refl) (spelled name (transport_name Udp) refl) (spelled name (transport_name Icmp) refl) h

abbrev is_port_byte : ℕ → Bool
is_port_byte b = is_slash b || (is_letter b || is_digit b)

marked_parts : (w rest : List ℕ) → from_slash w ≡ rest → is_some (transport_marked rest) ≡ true → (list_any is_slash w ≡ true) × (list_all is_port_byte rest ≡ true)
marked_parts w [] e h = absurd cc
marked_parts w (b ∷ name) e h =
    let hit = from_hit is_slash w b name e in
    let letters : list_all is_port_byte name ≡ true = weaker is_letter is_port_byte (λ c j. rw j (or_true (is_slash c))) name (name_letters name h) in
    (hit.1, rw (hit.0, letters) refl)

no_port : (number : Option ℕ) → is_some {T = ℕ × Transport} (option_and_then (λ n. option_map (λ t. (n, t)) None) number) ≡ true → ⊥
no_port None h = cc
no_port (Some n) h = cc

slashed : (slash front mark : Bool) (k : ℕ) → slash ≡ true → cond front 5 3 ≡ k → cond slash (cond front 5 3) (cond mark 4 0) ≡ k
slashed slash front mark k h e = rw h e

port_parts : (digits : List ℕ) (over : Option Transport) → is_some (port_by digits over) ≡ true → (is_some (number_up_to 65535 digits) ≡ true) × (is_some over ≡ true)
port_parts digits None h = absurd (no_port (number_up_to 65535 digits) h)
port_parts digits (Some t) h = (then_some (λ number. option_map (λ t. (number, t)) (Some t)) (number_up_to 65535 digits) h, refl)

port_form : (w : List ℕ) → is_some (port_literal w) ≡ true → form_of w ≡ 3
port_form w h =
    let a = port_parts (before_first is_slash w) (transport_marked (from_slash w)) (map_some (λ p. value.Port p.0 p.1) (marked_port_of w) h) in
    let digits : list_all is_digit (before_first is_slash w) ≡ true = up_to_digits 65535 (before_first is_slash w) a.0 in
    let mark = marked_parts w (from_slash w) refl a.1 in
    let front : list_all is_port_byte (before_first is_slash w) ≡ true = weaker is_digit is_port_byte (λ b j. rw j (or_two (is_slash b) (is_letter b))) (before_first is_slash w) digits in
    unsigned_form is_port_byte refl refl refl refl w (whole_bytes is_port_byte w front mark.1)
    ∙ slashed (list_any is_slash w) (list_any is_mark (before_first is_slash w)) (list_any is_mark w) 3 mark.0 (ap (λ t. cond t 5 3) (none_of is_digit is_mark digit_no_mark (before_first is_slash w) digits))

abbrev is_net_byte : ℕ → Bool
is_net_byte b = is_slash b || (is_digit b || is_address_byte b)

no_bits : (bits : List ℕ) → bits ≡ drop 1 [] → is_some (number_of bits) ≡ true → ⊥
no_bits [] e h = cc
no_bits (b ∷ bs) e h = cc

bits_parts : (w rest bits : List ℕ) → from_slash w ≡ rest → bits ≡ drop 1 rest → is_some (number_of bits) ≡ true → (list_any is_slash w ≡ true) × (list_all is_net_byte rest ≡ true)
bits_parts w [] bits e f h = absurd (no_bits bits f h)
bits_parts w (b ∷ name) bits e f h =
    let hit = from_hit is_slash w b name e in
    let digits : list_all is_digit name ≡ true = ap (list_all is_digit) (sym f) ∙ number_digits bits h in
    let all : list_all is_net_byte name ≡ true = weaker is_digit is_net_byte (λ c j. rw j (or_true (is_slash c))) name digits in
    (hit.1, rw (hit.0, all) refl)

short_some : (most : ℕ) (bits : List ℕ) → is_some (short_number most bits) ≡ true → is_some (number_of bits) ≡ true
short_some most bits h =
    elim (nat_le (length bits) 3) as (λ b. is_some (cond b (number_up_to most bits) None) ≡ true → is_some (number_of bits) ≡ true) [
      | true ↦ λ k. then_some (if_at_most most) (number_of bits) k
      | false ↦ λ k. absurd cc
    ] h

abbrev Address : List ℕ → Type 0
Address w = (list_all is_address_byte w ≡ true) × (list_any is_mark w ≡ true)

subnet_parts : (d g : Option ℕ) (front bits : List ℕ) → (is_some d ≡ true → Address front) → (is_some g ≡ true → Address front) → is_some (subnet_from d g bits) ≡ true → Address front × (is_some (number_of bits) ≡ true)
subnet_parts (Some a) g front bits f k h = (f refl, short_some 32 bits (then_some (λ n. subnet (mapped a) (96 + n)) (short_number 32 bits) h))
subnet_parts None (Some a) front bits f k h = (k refl, short_some 128 bits (then_some (subnet a) (short_number 128 bits) h))
subnet_parts None None front bits f k h = absurd cc

subnet_form : (w : List ℕ) → is_some (subnet_literal w) ≡ true → form_of w ≡ 5
subnet_form w h =
    let front = before_first is_slash w in
    let bits = after_first is_slash w in
    let a : Address front × (is_some (number_of bits) ≡ true) = subnet_parts (dotted_of front) (grouped_of front) front bits (λ k. (dotted_bytes front k, dotted_mark front k)) (grouped_bytes front) (map_some value.Subnet (subnet_of w) h) in
    let behind : bits ≡ drop 1 (from_slash w) = sym (drop-drop 1 (position_or_len is_slash w) w ∙ ap (λ j. drop j w) (omega arith)) in
    let mark = bits_parts w (from_slash w) bits refl behind a.1 in
    let all : list_all is_net_byte front ≡ true = weaker is_address_byte is_net_byte (λ b j. rw j (or_two (is_slash b) (is_digit b))) front a.0.0 in
    unsigned_form is_net_byte refl refl refl refl w (whole_bytes is_net_byte w all mark.1)
    ∙ slashed (list_any is_slash w) (list_any is_mark front) (list_any is_mark w) 5 mark.0 (ap (λ t. cond t 5 3) a.0.1)

-- At most one of the forms

apart : (k j : ℕ) → k ≡ j → eqb k j ≡ false → ⊥
apart k j e d = let same : eqb k j ≡ true = eq-eqb k j e in cc

off : (n k j : ℕ) (x : Bool) → n ≡ k → eqb k j ≡ false → (x ≡ true → n ≡ j) → x ≡ false
off n k j true h d f = let same : k ≡ j = sym h ∙ f refl in absurd (apart k j same d)
off n k j false h d f = refl

one_by : (n : ℕ) (a b c d e f g : Bool) → (a ≡ true → n ≡ 0) → (b ≡ true → n ≡ 1) → (c ≡ true → n ≡ 2) → (d ≡ true → n ≡ 3) → (e ≡ true → n ≡ 4) → (f ≡ true → n ≡ 5) → (g ≡ true → n ≡ 6)
    → 0 + cond a 1 0 + cond b 1 0 + cond c 1 0 + cond d 1 0 + cond e 1 0 + cond f 1 0 + cond g 1 0 ≤ 1
one_by n true b c d e f g ha hb hc hd he hf hg =
    let at = ha refl in rw (off n 0 1 b at refl hb, off n 0 2 c at refl hc, off n 0 3 d at refl hd, off n 0 4 e at refl he, off n 0 5 f at refl hf, off n 0 6 g at refl hg) (lit≤ tt)
one_by n false true c d e f g ha hb hc hd he hf hg =
    let at = hb refl in rw (off n 1 2 c at refl hc, off n 1 3 d at refl hd, off n 1 4 e at refl he, off n 1 5 f at refl hf, off n 1 6 g at refl hg) (lit≤ tt)
one_by n false false true d e f g ha hb hc hd he hf hg =
    let at = hc refl in rw (off n 2 3 d at refl hd, off n 2 4 e at refl he, off n 2 5 f at refl hf, off n 2 6 g at refl hg) (lit≤ tt)
one_by n false false false true e f g ha hb hc hd he hf hg =
    let at = hd refl in rw (off n 3 4 e at refl he, off n 3 5 f at refl hf, off n 3 6 g at refl hg) (lit≤ tt)
one_by n false false false false true f g ha hb hc hd he hf hg =
    let at = he refl in rw (off n 4 5 f at refl hf, off n 4 6 g at refl hg) (lit≤ tt)
one_by n false false false false false true g ha hb hc hd he hf hg =
    let at = hf refl in rw (off n 5 6 g at refl hg) (lit≤ tt)
one_by n false false false false false false true ha hb hc hd he hf hg = lit≤ tt
one_by n false false false false false false false ha hb hc hd he hf hg = lit≤ tt

pub one_form : (w : List ℕ) → count_by is_some (literal_forms w) ≤ 1
one_form w =
    one_by (form_of w) (is_some (count_literal w)) (is_some (int_literal w)) (is_some (span_literal w)) (is_some (port_literal w)) (is_some (addr_literal w)) (is_some (subnet_literal w)) (is_some (time_literal w))
    (count_form w) (int_form w) (span_form w) (port_form w) (addr_form w) (subnet_form w) (time_form w)
