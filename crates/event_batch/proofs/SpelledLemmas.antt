-- What is read of bytes is what they spell.
use Rattle.std.proofs.Common.{◌≡◌, ℕ, ℤ, pos, negsuc, zero, suc, ◌+◌, ◌-◌, ◌%◌, ◌<◌, ◌≤◌, ◌^◌, Bool, true, false, cond, ◌&&◌, ◌||◌, ltb, leb, eqb, List, [], ◌∷◌, ◌++◌, length, take, drop, Option, None, Some, refl, ap, sym, subst, ◌∙◌, append_assoc, mod-lt, arith}
use Rattle.std.specs.Int.{w64, cast_signed, cast_unsigned, byte_at as low_byte, bytes_low_first}
use Rattle.std.specs.Int.RustNames.{FitsSigned}
use Rattle.std.specs.List.{list_all, flat_map, slice_get}
use Rattle.std.specs.Prelude.{is_none, is_some, option_map}
use Rattle.std.proofs.lemmas.Bool.{le-leb, lt-ltb, ltb-true, ltb-false, eqb-true, and_parts, and_from, or_parts, not_from_false, cond_both}
use Rattle.std.proofs.lemmas.Int.{of_z-to_z, ints}
use Rattle.std.proofs.lemmas.List.{length-append, length-take-le, take-append-drop, append-nil, drop_at}
use Rattle.std.proofs.lemmas.List.Folds.{list_all-append}
use Rattle.std.proofs.lemmas.Option.{same_Some, cond_some}
use Rattle.std.proofs.Math.Facts.{sfits_to_z, Fits-of_lt}
use Rattle.std.proofs.Math.Nat.{pow-suc}
use Rattle.byteorder.specs.Endian.{little_number}
use Rattle.byteorder.specs.Numbers.{little_from-cons, little_number-reads_back, length-bytes_low_first}
use Rattle.vast_value.specs.declared.kind.Elem.{Elem}
use Rattle.vast_value.specs.declared.kind.Elem.TheVariants as elem
use Rattle.vast_value.specs.declared.kind.Kind.{Kind}
use Rattle.vast_value.specs.declared.kind.Kind.TheVariants as kind
use Rattle.vast_value.specs.declared.net.Net.{Net}
use Rattle.vast_value.specs.declared.transport.Transport.{Transport}
use Rattle.vast_value.specs.declared.transport.Transport.TheVariants.{Unknown}
use Rattle.vast_value.specs.declared.value.Value.{Value}
use Rattle.vast_value.specs.declared.value.Value.TheVariants as value
use Rattle.vast_value.specs.declared.cell.Cell.{Cell}
use Rattle.vast_value.specs.declared.cell.Cell.TheVariants as cell
use Rattle.vast_value.specs.Fit.{is_byte, is_i64, is_short, is_bounded, is_bounded_element, is_small}
use Rattle.vast_value.specs.Headings.{Field, Heading, heading_fault, fits_fields}
use Rattle.vast_value.specs.Kinds.{elem_of, elem_eq, is_element, are_elements, is_lone_unset, has_kind}
use Rattle.vast_value.specs.Nets.{net_of, net_by}
use Rattle.vast_value.specs.Ports.{transport_code, transport_coded}
use Rattle.vast_value.specs.ValueBytes.{number, text, value_bytes}
use Rattle.event_batch.specs.declared.format.Format.{Format}
use Rattle.event_batch.specs.declared.format.Format.TheVariants.{First, Second}
use Rattle.event_batch.specs.Contents.{Content, Spelled, has_place, element_has_place, cell_has_place, is_short_field, is_heading, is_spellable}
use Rattle.event_batch.specs.Sizes.{is_batch_size}
use Rattle.event_batch.specs.Spelling.{elem_code, kind_code, format_code, value_bytes_in, element_bytes, cell_bytes, row_bytes, field_bytes, heading_bytes, content_bytes, Spells}
use Rattle.event_batch.specs.Reading.{◌>>=◌, byte_at, number_at, signed_at, text_at, bool_at, net_at, reads_as, port_at, value_at, element_at, many_at, container_at, set_cell_at, cell_at, row_at, every_elem, elem_of_code, kind_of_code, field_at, heading_at, rows_at, format_coded, content_at}

abbrev AreBytes : List ℕ → Type 0
AreBytes bytes = list_all is_byte bytes ≡ true

-- a good value and the bytes behind it: the bytes are those of the value and the ones behind
record InFront {A : Type 0} (spell : A → List ℕ) (good : A → Bool) (bytes : List ℕ) (read : A × List ℕ) : Type 0 where
  whole : bytes ≡ spell read.0 ++ read.1
  fine : good read.0 ≡ true
  behind : AreBytes read.1

-- what this reader reads of bytes stands in front of them
abbrev Reads : {A : Type 0} → (List ℕ → Option (A × List ℕ)) → (A → List ℕ) → (A → Bool) → Type 0
Reads {A = A} one spell good = (bytes : List ℕ) (read : A × List ℕ) → AreBytes bytes → one bytes ≡ Some read → InFront spell good bytes read

bind_some : {A B : Type 0} (x : Option A) (f : A → Option B) (y : B) → (x >>= f) ≡ Some y → (a : A) × (x ≡ Some a) × (f a ≡ Some y)
bind_some (Some a) f y e = (a, refl, e)
bind_some None f y e = absurd cc

-- what holds of a value holds of the one that is read
given : {A : Type 0} (P : A → Type 0) (x y : A) → Some x ≡ Some y → P x → P y
given P x y e p = subst P (same_Some x y e) p

past_test : {A : Type 0} (b : Bool) (o : Option A) (y : A) → cond b None o ≡ Some y → (b ≡ false) × (o ≡ Some y)
past_test true o y e = absurd cc
past_test false o y e = (refl, e)

behind_of : (front rest bytes : List ℕ) → bytes ≡ front ++ rest → AreBytes bytes → AreBytes rest
behind_of front rest bytes e h = (and_parts (list_all is_byte front) (list_all is_byte rest) (sym (list_all-append is_byte front rest) ∙ ap (list_all is_byte) (sym e) ∙ h)).1

front_of : (front rest bytes : List ℕ) → bytes ≡ front ++ rest → AreBytes bytes → AreBytes front
front_of front rest bytes e h = (and_parts (list_all is_byte front) (list_all is_byte rest) (sym (list_all-append is_byte front rest) ∙ ap (list_all is_byte) (sym e) ∙ h)).0

byte_read : Reads byte_at (λ b. b ∷ []) is_byte
unfolding byte_at
byte_read [] read h e = absurd cc
byte_read (b ∷ rest) read h e =
    let parts = and_parts (is_byte b) (list_all is_byte rest) h in
    given (InFront (λ (x : ℕ). x ∷ []) is_byte (b ∷ rest)) (b, rest) read e (record { whole = refl; fine = parts.0; behind = parts.1 })

-- bytes with one number are one list as far as the number goes
one_front : (n : ℕ) (xs ys : List ℕ) → length xs ≡ n → n ≤ length ys → AreBytes xs → AreBytes ys → little_number n xs ≡ little_number n ys → ys ≡ xs ++ drop n ys
one_front zero [] ys l m p q e = refl
one_front zero (x ∷ xs) ys l m p q e = absurd (omega arith)
one_front (suc n) [] ys l m p q e = absurd (omega arith)
one_front (suc n) (x ∷ xs) [] l m p q e = absurd (omega arith)
one_front (suc n) (x ∷ xs) (y ∷ ys) l m p q e =
    let a = and_parts (is_byte x) (list_all is_byte xs) p in
    let b = and_parts (is_byte y) (list_all is_byte ys) q in
    let x_low = ltb-true x 256 a.0 in
    let y_low = ltb-true y 256 b.0 in
    let x_moved = little_from-cons 0 n x xs in
    let y_moved = little_from-cons 0 n y ys in
    let first : y ≡ x = omega arith in
    let others : little_number n xs ≡ little_number n ys = omega arith in
    let rest = one_front n xs ys (omega arith) (omega arith) a.1 b.1 others in
    ap (λ (z : ℕ). z ∷ ys) first ∙ ap (λ (zs : List ℕ). x ∷ zs) rest

low_byte_fits : (i x : ℕ) → is_byte (low_byte i x) ≡ true
low_byte_fits zero x = lt-ltb _ 256 (mod-lt x (omega arith))
low_byte_fits (suc i) x = lt-ltb _ 256 (mod-lt _ (omega arith))

low_bytes_fit : (i n x : ℕ) → AreBytes (bytes_low_first i n x)
low_bytes_fit i zero x = refl
low_bytes_fit i (suc n) x = and_from _ _ (low_byte_fits i x) (low_bytes_fit (suc i) n x)

number_below : (n : ℕ) (bytes : List ℕ) → n ≤ length bytes → AreBytes bytes → little_number n bytes < 256 ^ n
number_below zero bytes m h = omega arith
number_below (suc n) [] m h = absurd (omega arith)
number_below (suc n) (b ∷ bytes) m h =
    let parts = and_parts (is_byte b) (list_all is_byte bytes) h in
    let low = ltb-true b 256 parts.0 in
    let moved = little_from-cons 0 n b bytes in
    let rest = number_below n bytes (omega arith) parts.1 in
    let power = pow-suc 256 n in
    omega arith

abbrev is_below : ℕ → ℕ → Bool
is_below n x = ltb x (256 ^ n)

number_read : (n : ℕ) → Reads (number_at n) (number n) (is_below n)
unfolding number_at number
number_read n bytes read h e =
    let parts = past_test (ltb (length bytes) n) (Some (little_number n bytes, drop n bytes)) read e in
    let long : n ≤ length bytes = ltb-false (length bytes) n parts.0 in
    let x = little_number n bytes in
    let below = number_below n bytes long h in
    let spelled = bytes_low_first 0 n x in
    let again : little_number n spelled ≡ x = ap (little_number n) (sym (append-nil spelled)) ∙ little_number-reads_back n x [] below in
    let whole = one_front n spelled bytes (length-bytes_low_first 0 n x) long (low_bytes_fit 0 n x) h again in
    given (InFront (number n) (is_below n) bytes) (x, drop n bytes) read parts.1
    (record { whole = whole; fine = lt-ltb x (256 ^ n) below; behind = behind_of spelled (drop n bytes) bytes whole h })

is_i64_of : (z : ℤ) → FitsSigned w64 z → is_i64 z ≡ true
is_i64_of (pos n) h = lt-ltb n (2 ^ 63) (omega (arith, ints))
is_i64_of (negsuc n) h = lt-ltb n (2 ^ 63) (omega (arith, ints))

signed_read : Reads signed_at (λ z. number 8 (cast_unsigned w64 z)) is_i64
unfolding signed_at
signed_read bytes read h e =
    let n = bind_some _ _ read e in
    let r = number_read 8 bytes n.0 h n.1 in
    let low : n.0.0 < 2 ^ 64 = ltb-true n.0.0 (2 ^ 64) r.fine in
    let same : cast_unsigned w64 (cast_signed w64 n.0.0) ≡ n.0.0 = of_z-to_z w64 n.0.0 low in
    let whole : bytes ≡ number 8 (cast_unsigned w64 (cast_signed w64 n.0.0)) ++ n.0.1 = r.whole ∙ ap (λ (x : ℕ). number 8 x ++ n.0.1) (sym same) in
    given (InFront (λ (z : ℤ). number 8 (cast_unsigned w64 z)) is_i64 bytes) (cast_signed w64 n.0.0, n.0.1) read n.2
    (record { whole = whole; fine = is_i64_of (cast_signed w64 n.0.0) (sfits_to_z {w = w64} {n = n.0.0} (Fits-of_lt {w = w64} {n = n.0.0} low)); behind = r.behind })

text_read : Reads text_at text is_short
unfolding text_at
text_read bytes read h e =
    let n = bind_some _ _ read e in
    let r = number_read 4 bytes n.0 h n.1 in
    let k = n.0.0 in
    let rest = n.0.1 in
    let parts = past_test (ltb (2 ^ 24) k || ltb (length rest) k) (Some (take k rest, drop k rest)) read n.2 in
    let sizes = or_parts (ltb (2 ^ 24) k) (ltb (length rest) k) parts.0 in
    let few : k ≤ 2 ^ 24 = ltb-false (2 ^ 24) k sizes.0 in
    let long : k ≤ length rest = ltb-false (length rest) k sizes.1 in
    let count : length (take k rest) ≡ k = length-take-le k rest long in
    let split : rest ≡ take k rest ++ drop k rest = sym (take-append-drop k rest) in
    let whole : bytes ≡ text (take k rest) ++ drop k rest =
    r.whole ∙ ap (λ (x : List ℕ). number 4 k ++ x) split ∙ ap (λ (x : ℕ). number 4 x ++ (take k rest ++ drop k rest)) (sym count) ∙ sym (append_assoc (number 4 (length (take k rest))) (take k rest) (drop k rest)) in
    let fine : is_short (take k rest) ≡ true = and_from _ _ (le-leb (length (take k rest)) (2 ^ 24) (omega arith)) (front_of (take k rest) (drop k rest) rest split r.behind) in
    given (InFront text is_short bytes) (take k rest, drop k rest) read parts.1
    (record { whole = whole; fine = fine; behind = behind_of (take k rest) (drop k rest) rest split r.behind })

abbrev always : {A : Type 0} → A → Bool
always x = true

bool_read : Reads bool_at (λ b. value_bytes (value.Bool b)) always
unfolding bool_at
bool_read [] read h e = absurd cc
bool_read (zero ∷ rest) read h e = given (InFront (λ (b : Bool). value_bytes (value.Bool b)) always (zero ∷ rest)) (false, rest) read e (record { whole = refl; fine = refl; behind = (and_parts (is_byte zero) (list_all is_byte rest) h).1 })
bool_read (suc zero ∷ rest) read h e = given (InFront (λ (b : Bool). value_bytes (value.Bool b)) always (1 ∷ rest)) (true, rest) read e (record { whole = refl; fine = refl; behind = (and_parts (is_byte 1) (list_all is_byte rest) h).1 })
bool_read (suc (suc b) ∷ rest) read h e = absurd cc

net_parts : (base bits : ℕ) (a b : Bool) (p : leb bits 128 ≡ a) (q : eqb (base % 2 ^ (128 - bits)) 0 ≡ b) (n : Net) → net_by base bits a b p q ≡ Some n → (n.base ≡ base) × (n.bits ≡ bits)
net_parts base bits true true p q n e = given (λ (m : Net). (m.base ≡ base) × (m.bits ≡ bits)) _ n e (refl, refl)
net_parts base bits true false p q n e = absurd cc
net_parts base bits false b p q n e = absurd cc

net_of_parts : (base bits : ℕ) (n : Net) → net_of base bits ≡ Some n → (n.base ≡ base) × (n.bits ≡ bits)
unfolding net_of
net_of_parts base bits n e = net_parts base bits _ _ refl refl n e

abbrev net_bytes : Net → List ℕ
net_bytes n = number 16 n.base ++ n.bits ∷ []

abbrev is_low_net : Net → Bool
is_low_net n = ltb n.base (2 ^ 128)

net_read : Reads net_at net_bytes is_low_net
unfolding net_at
net_read bytes read h e =
    let base = bind_some _ _ read e in
    let r = number_read 16 bytes base.0 h base.1 in
    let bits = bind_some _ _ read base.2 in
    let s = byte_read base.0.1 bits.0 r.behind bits.1 in
    let net = bind_some _ _ read bits.2 in
    let n = net.0 in
    let same = net_of_parts base.0.0 bits.0.0 n net.1 in
    let spelled : bytes ≡ number 16 base.0.0 ++ bits.0.0 ∷ bits.0.1 = r.whole ∙ ap (λ (x : List ℕ). number 16 base.0.0 ++ x) s.whole in
    let whole : bytes ≡ net_bytes n ++ bits.0.1 = spelled ∙ rw (same.0, same.1) (sym (append_assoc (number 16 base.0.0) (bits.0.0 ∷ []) bits.0.1)) in
    let fine : is_low_net n ≡ true = ap (λ (x : ℕ). ltb x (2 ^ 128)) same.0 ∙ r.fine in
    given (InFront net_bytes is_low_net bytes) (n, bits.0.1) read net.2 (record { whole = whole; fine = fine; behind = s.behind })

coded_parts : (n : ℕ) (over : Transport) → transport_coded n ≡ Some over → transport_code over ≡ n
coded_parts zero over e = given (λ (t : Transport). transport_code t ≡ 0) _ over e refl
coded_parts (suc zero) over e = given (λ (t : Transport). transport_code t ≡ 1) _ over e refl
coded_parts (suc (suc zero)) over e = given (λ (t : Transport). transport_code t ≡ 2) _ over e refl
coded_parts (suc (suc (suc zero))) over e = given (λ (t : Transport). transport_code t ≡ 3) _ over e refl
coded_parts (suc (suc (suc (suc n)))) over e = absurd cc

-- a value of a kind that the format can spell
abbrev fits_value : Format → Elem → Value → Bool
fits_value f e v = elem_eq (elem_of v) e && (is_bounded v && has_place f v)

port_read : (f : Format) → Reads (port_at f) (value_bytes_in f) (fits_value f elem.Port)
unfolding port_at
port_read First bytes read h e =
    let n = bind_some _ _ read e in
    let r = number_read 2 bytes n.0 h n.1 in
    let low : ltb n.0.0 (2 ^ 16) ≡ true = r.fine in
    given (InFront (value_bytes_in First) (fits_value First elem.Port) bytes) (value.Port n.0.0 Unknown, n.0.1) read n.2
    (record { whole = r.whole; fine = and_from _ _ low refl; behind = r.behind })
port_read Second bytes read h e =
    let n = bind_some _ _ read e in
    let r = number_read 2 bytes n.0 h n.1 in
    let code = bind_some _ _ read n.2 in
    let s = byte_read n.0.1 code.0 r.behind code.1 in
    let over = bind_some _ _ read code.2 in
    let same = coded_parts code.0.0 over.0 over.1 in
    let low : ltb n.0.0 (2 ^ 16) ≡ true = r.fine in
    let spelled : bytes ≡ number 2 n.0.0 ++ code.0.0 ∷ code.0.1 = r.whole ∙ ap (λ (x : List ℕ). number 2 n.0.0 ++ x) s.whole in
    let whole : bytes ≡ (number 2 n.0.0 ++ transport_code over.0 ∷ []) ++ code.0.1 = spelled ∙ rw same (sym (append_assoc (number 2 n.0.0) (code.0.0 ∷ []) code.0.1)) in
    given (InFront (value_bytes_in Second) (fits_value Second elem.Port) bytes) (value.Port n.0.0 over.0, code.0.1) read over.2
    (record { whole = whole; fine = and_from _ _ low refl; behind = s.behind })

-- a value whose bytes are the same in each format
abbrev IsPlain : Value → Type 0
IsPlain v = (f : Format) → (value_bytes_in f v ≡ value_bytes v) × (has_place f v ≡ true)

-- a value of one kind is read as what it is made of
made_of : {A : Type 0} (f : Format) (e : Elem) (make : A → Value) (one : List ℕ → Option (A × List ℕ)) (spell : A → List ℕ) (good : A → Bool)
    → Reads one spell good
    → ((x : A) → IsPlain (make x)) → ((x : A) → value_bytes (make x) ≡ spell x) → ((x : A) → good x ≡ true → (elem_eq (elem_of (make x)) e && is_bounded (make x)) ≡ true)
    → Reads (λ bytes. reads_as make (one bytes)) (value_bytes_in f) (fits_value f e)
made_of {A = A} f e make one spell good reads plain same kept bytes read h found =
    let x = bind_some _ _ read found in
    let r = reads bytes x.0 h x.1 in
    let v = make x.0.0 in
    let p = plain x.0.0 f in
    let whole : bytes ≡ value_bytes_in f v ++ x.0.1 = r.whole ∙ ap (λ (bs : List ℕ). bs ++ x.0.1) (sym (p.0 ∙ same x.0.0)) in
    let k = and_parts (elem_eq (elem_of v) e) (is_bounded v) (kept x.0.0 r.fine) in
    given (InFront (value_bytes_in f) (fits_value f e) bytes) (v, x.0.1) read x.2
    (record { whole = whole; fine = and_from _ _ k.0 (and_from _ _ k.1 p.1); behind = r.behind })

plain_bool : (b : Bool) → IsPlain (value.Bool b)
plain_bool b First = (refl, refl)
plain_bool b Second = (refl, refl)

plain_count : (n : ℕ) → IsPlain (value.Count n)
plain_count n First = (refl, refl)
plain_count n Second = (refl, refl)

plain_int : (z : ℤ) → IsPlain (value.Int z)
plain_int z First = (refl, refl)
plain_int z Second = (refl, refl)

plain_time : (z : ℤ) → IsPlain (value.Time z)
plain_time z First = (refl, refl)
plain_time z Second = (refl, refl)

plain_span : (z : ℤ) → IsPlain (value.Span z)
plain_span z First = (refl, refl)
plain_span z Second = (refl, refl)

plain_text : (t : List ℕ) → IsPlain (value.Text t)
plain_text t First = (refl, refl)
plain_text t Second = (refl, refl)

plain_name : (t : List ℕ) → IsPlain (value.Name t)
plain_name t First = (refl, refl)
plain_name t Second = (refl, refl)

plain_addr : (a : ℕ) → IsPlain (value.Addr a)
plain_addr a First = (refl, refl)
plain_addr a Second = (refl, refl)

plain_subnet : (n : Net) → IsPlain (value.Subnet n)
plain_subnet n First = (refl, refl)
plain_subnet n Second = (refl, refl)

value_read : (f : Format) (e : Elem) → Reads (value_at f e) (value_bytes_in f) (fits_value f e)
unfolding value_at
value_read f elem.Bool = made_of f elem.Bool value.Bool bool_at (λ b. value_bytes (value.Bool b)) always bool_read plain_bool (λ b. refl) (λ b h. refl)
value_read f elem.Count = made_of f elem.Count value.Count (number_at 8) (number 8) (is_below 8) (number_read 8) plain_count (λ n. refl) (λ n h. h)
value_read f elem.Int = made_of f elem.Int value.Int signed_at (λ z. number 8 (cast_unsigned w64 z)) is_i64 signed_read plain_int (λ z. refl) (λ z h. h)
value_read f elem.Time = made_of f elem.Time value.Time signed_at (λ z. number 8 (cast_unsigned w64 z)) is_i64 signed_read plain_time (λ z. refl) (λ z h. h)
value_read f elem.Span = made_of f elem.Span value.Span signed_at (λ z. number 8 (cast_unsigned w64 z)) is_i64 signed_read plain_span (λ z. refl) (λ z h. h)
value_read f elem.Text = made_of f elem.Text value.Text text_at text is_short text_read plain_text (λ t. refl) (λ t h. h)
value_read f elem.Name = made_of f elem.Name value.Name text_at text is_short text_read plain_name (λ t. refl) (λ t h. h)
value_read f elem.Addr = made_of f elem.Addr value.Addr (number_at 16) (number 16) (is_below 16) (number_read 16) plain_addr (λ a. refl) (λ a h. h)
value_read f elem.Subnet = made_of f elem.Subnet value.Subnet net_at net_bytes is_low_net net_read plain_subnet (λ n. refl) (λ n h. h)
value_read f elem.Port = port_read f

-- an element of a kind that the format can spell
abbrev fits_element : Format → Elem → Option Value → Bool
fits_element f e x = is_element e x && (is_bounded_element x && element_has_place f x)

element_read : (f : Format) (e : Elem) → Reads (element_at f e) (element_bytes f) (fits_element f e)
unfolding element_at
element_read f e [] read h found = absurd cc
element_read f e (zero ∷ rest) read h found =
    given (InFront (element_bytes f) (fits_element f e) (zero ∷ rest)) (None, rest) read found (record { whole = refl; fine = refl; behind = (and_parts (is_byte zero) (list_all is_byte rest) h).1 })
element_read f e (suc zero ∷ rest) read h found =
    let v = bind_some _ _ read found in
    let r = value_read f e rest v.0 (and_parts (is_byte 1) (list_all is_byte rest) h).1 v.1 in
    given (InFront (element_bytes f) (fits_element f e) (suc zero ∷ rest)) (Some v.0.0, v.0.1) read v.2 (record { whole = ap (λ (x : List ℕ). 1 ∷ x) r.whole; fine = r.fine; behind = r.behind })
element_read f e (suc (suc b) ∷ rest) read h found = absurd cc

-- so many that a reader reads one after the other
record AllInFront {A : Type 0} (spell : A → List ℕ) (good : A → Bool) (n : ℕ) (bytes : List ℕ) (read : List A × List ℕ) : Type 0 where
  count : length read.0 ≡ n
  front : InFront (flat_map spell) (list_all good) bytes read

many_read : {A : Type 0} (one : List ℕ → Option (A × List ℕ)) (spell : A → List ℕ) (good : A → Bool) → Reads one spell good
    → (n : ℕ) (bytes : List ℕ) (read : List A × List ℕ) → AreBytes bytes → many_at one n bytes ≡ Some read → AllInFront spell good n bytes read
unfolding many_at
many_read {A = A} one spell good reads zero bytes read h e =
    given (AllInFront spell good zero bytes) ([], bytes) read e (record { count = refl; front = record { whole = refl; fine = refl; behind = h } })
many_read {A = A} one spell good reads (suc n) bytes read h e =
    let first = bind_some _ _ read e in
    let r = reads bytes first.0 h first.1 in
    let others = bind_some _ _ read first.2 in
    let s = many_read one spell good reads n first.0.1 others.0 r.behind others.1 in
    let x = first.0.0 in
    let xs = others.0.0 in
    let rest = others.0.1 in
    let whole : bytes ≡ flat_map spell (x ∷ xs) ++ rest = r.whole ∙ ap (λ (bs : List ℕ). spell x ++ bs) s.front.whole ∙ sym (append_assoc (spell x) (flat_map spell xs) rest) in
    given (AllInFront spell good (suc n) bytes) (x ∷ xs, rest) read others.2
    (record { count = omega (arith, s.count); front = record { whole = whole; fine = and_from _ _ r.fine s.front.fine; behind = s.front.behind } })

-- what passes two tests passes each
all_parts : {A : Type 0} (p q : A → Bool) (xs : List A) → list_all (λ x. p x && q x) xs ≡ true → (list_all p xs ≡ true) × (list_all q xs ≡ true)
all_parts p q [] h = (refl, refl)
all_parts p q (x ∷ xs) h =
    let a = and_parts (p x && q x) (list_all (λ y. p y && q y) xs) h in
    let b = and_parts (p x) (q x) a.0 in
    let c = all_parts p q xs a.1 in
    (and_from _ _ b.0 c.0, and_from _ _ b.1 c.1)

-- a cell of a kind that the format can spell
abbrev fits_cell : Format → Kind → Cell → Bool
fits_cell f k x = has_kind x k && (is_small x && cell_has_place f x)

-- a container and the bytes behind it
record Contains (f : Format) (e : Elem) (bytes : List ℕ) (read : Cell × List ℕ) : Type 0 where
  items : List (Option Value)
  many : read.0 ≡ cell.Many items
  spelled : bytes ≡ (number 4 (length items) ++ flat_map (element_bytes f) items) ++ read.1
  few : leb (length items) (2 ^ 24) ≡ true
  more : is_lone_unset items ≡ false
  fine : list_all (fits_element f e) items ≡ true
  behind : AreBytes read.1

container_parts : (f : Format) (e : Elem) (bytes : List ℕ) (read : Cell × List ℕ) → AreBytes bytes → container_at f e bytes ≡ Some read → Contains f e bytes read
unfolding container_at
container_parts f e bytes read h found =
    let n = bind_some _ _ read found in
    let r = number_read 4 bytes n.0 h n.1 in
    let items = bind_some _ _ read n.2 in
    let parts = past_test (ltb (2 ^ 24) n.0.0) (many_at (element_at f e) n.0.0 n.0.1) items.0 items.1 in
    let few : n.0.0 ≤ 2 ^ 24 = ltb-false (2 ^ 24) n.0.0 parts.0 in
    let s = many_read (element_at f e) (element_bytes f) (fits_element f e) (element_read f e) n.0.0 n.0.1 items.0 r.behind parts.1 in
    let xs = items.0.0 in
    let rest = items.0.1 in
    let end = past_test (is_lone_unset xs) (Some (cell.Many xs, rest)) read items.2 in
    let elements = flat_map (element_bytes f) xs in
    let spelled : bytes ≡ (number 4 (length xs) ++ elements) ++ rest =
    r.whole ∙ ap (λ (x : List ℕ). number 4 n.0.0 ++ x) s.front.whole ∙ ap (λ (x : ℕ). number 4 x ++ (elements ++ rest)) (sym s.count) ∙ sym (append_assoc (number 4 (length xs)) elements rest) in
    let count = s.count in
    given (Contains f e bytes) (cell.Many xs, rest) read end.1
    (record { items = xs; many = refl; spelled = spelled; few = le-leb (length xs) (2 ^ 24) (omega arith); more = end.0; fine = s.front.fine; behind = s.front.behind })

container_small : (f : Format) (e : Elem) (bytes : List ℕ) (read : Cell × List ℕ) (c : Contains f e bytes read) → (is_small (cell.Many c.items) && cell_has_place f (cell.Many c.items)) ≡ true
container_small f e bytes read c =
    let rest = λ (x : Option Value). is_bounded_element x && element_has_place f x in
    let a = all_parts (is_element e) rest c.items c.fine in
    let b = all_parts is_bounded_element (element_has_place f) c.items a.1 in
    and_from _ _ (and_from _ _ c.few b.0) b.1

container_kind : (f : Format) (e : Elem) (bytes : List ℕ) (read : Cell × List ℕ) (c : Contains f e bytes read) → are_elements e c.items ≡ true
container_kind f e bytes read c =
    let rest = λ (x : Option Value). is_bounded_element x && element_has_place f x in
    let a = all_parts (is_element e) rest c.items c.fine in
    and_from _ _ (not_from_false (is_lone_unset c.items) c.more) a.0

-- behind the byte that says that a cell is set
set_cell_read : (f : Format) (k : Kind) (bytes : List ℕ) (read : Cell × List ℕ) → AreBytes bytes → set_cell_at f k bytes ≡ Some read → InFront (cell_bytes f) (fits_cell f k) (1 ∷ bytes) read
unfolding set_cell_at
set_cell_read f (kind.One e) bytes read h found =
    let v = bind_some _ _ read found in
    let r = value_read f e bytes v.0 h v.1 in
    given (InFront (cell_bytes f) (fits_cell f (kind.One e)) (1 ∷ bytes)) (cell.One v.0.0, v.0.1) read v.2 (record { whole = ap (λ (x : List ℕ). 1 ∷ x) r.whole; fine = r.fine; behind = r.behind })
set_cell_read f (kind.SetOf e) bytes read h found =
    let c = container_parts f e bytes read h found in
    let whole : 1 ∷ bytes ≡ cell_bytes f read.0 ++ read.1 = ap (λ (x : List ℕ). 1 ∷ x) c.spelled ∙ ap (λ (x : Cell). cell_bytes f x ++ read.1) (sym c.many) in
    let fine : fits_cell f (kind.SetOf e) read.0 ≡ true = ap (fits_cell f (kind.SetOf e)) c.many ∙ and_from _ _ (container_kind f e bytes read c) (container_small f e bytes read c) in
    record { whole = whole; fine = fine; behind = c.behind }
set_cell_read f (kind.VecOf e) bytes read h found =
    let c = container_parts f e bytes read h found in
    let whole : 1 ∷ bytes ≡ cell_bytes f read.0 ++ read.1 = ap (λ (x : List ℕ). 1 ∷ x) c.spelled ∙ ap (λ (x : Cell). cell_bytes f x ++ read.1) (sym c.many) in
    let fine : fits_cell f (kind.VecOf e) read.0 ≡ true = ap (fits_cell f (kind.VecOf e)) c.many ∙ and_from _ _ (container_kind f e bytes read c) (container_small f e bytes read c) in
    record { whole = whole; fine = fine; behind = c.behind }

-- a cell has a byte at least
marked : (f : Format) (x : Cell) → 1 ≤ length (cell_bytes f x)
marked f cell.Unset = omega arith
marked f (cell.One v) = omega arith
marked f (cell.Many items) = omega arith

-- what is read of a set cell stands in front of the rest
pub set_cell_behind : (f : Format) (k : Kind) (bytes : List ℕ) (x : Cell) (rest : List ℕ) → list_all is_byte bytes ≡ true → set_cell_at f k bytes ≡ Some (x, rest) → (length rest ≤ length bytes) × (drop (length bytes - length rest) bytes ≡ rest)
set_cell_behind f k bytes x rest h found =
    let r = set_cell_read f k bytes (x, rest) h found in
    let some = marked f x in
    let count : suc (length bytes) ≡ length (cell_bytes f x) + length rest = ap length r.whole ∙ length-append (cell_bytes f x) rest in
    let here : drop (suc (length bytes - length rest)) (1 ∷ bytes) ≡ rest = ap (drop (suc (length bytes - length rest))) r.whole ∙ drop_at (cell_bytes f x) rest (suc (length bytes - length rest)) (omega arith) in
    (omega arith, here)

cell_read : (f : Format) (k : Kind) → Reads (cell_at f k) (cell_bytes f) (fits_cell f k)
unfolding cell_at
cell_read f k [] read h found = absurd cc
cell_read f k (zero ∷ rest) read h found =
    given (InFront (cell_bytes f) (fits_cell f k) (zero ∷ rest)) (cell.Unset, rest) read found (record { whole = refl; fine = refl; behind = (and_parts (is_byte zero) (list_all is_byte rest) h).1 })
cell_read f k (suc zero ∷ rest) read h found = set_cell_read f k rest read (and_parts (is_byte 1) (list_all is_byte rest) h).1 found
cell_read f k (suc (suc b) ∷ rest) read h found = absurd cc

-- a row of these fields that the format can spell
abbrev fits_row : Format → List Field → List Cell → Bool
fits_row f fields cells = fits_fields fields cells && list_all (cell_has_place f) cells

row_read : (f : Format) (fields : List Field) → Reads (row_at f fields) (row_bytes f) (fits_row f fields)
unfolding row_at
row_read f [] bytes read h e =
    given (InFront (row_bytes f) (fits_row f []) bytes) ([], bytes) read e (record { whole = refl; fine = refl; behind = h })
row_read f (field ∷ fields) bytes read h e =
    let first = bind_some _ _ read e in
    let r = cell_read f field.kind bytes first.0 h first.1 in
    let others = bind_some _ _ read first.2 in
    let s = row_read f fields first.0.1 others.0 r.behind others.1 in
    let x = first.0.0 in
    let xs = others.0.0 in
    let rest = others.0.1 in
    let whole : bytes ≡ row_bytes f (x ∷ xs) ++ rest = r.whole ∙ ap (λ (bs : List ℕ). cell_bytes f x ++ bs) s.whole ∙ sym (append_assoc (cell_bytes f x) (row_bytes f xs) rest) in
    let a = and_parts (has_kind x field.kind) (is_small x && cell_has_place f x) r.fine in
    let b = and_parts (is_small x) (cell_has_place f x) a.1 in
    let c = and_parts (fits_fields fields xs) (list_all (cell_has_place f) xs) s.fine in
    let fits : fits_fields (field ∷ fields) (x ∷ xs) ≡ true = and_from _ _ (and_from _ _ a.0 b.0) c.0 in
    let places : list_all (cell_has_place f) (x ∷ xs) ≡ true = and_from _ _ b.1 c.1 in
    given (InFront (row_bytes f) (fits_row f (field ∷ fields)) bytes) (x ∷ xs, rest) read others.2
    (record { whole = whole; fine = and_from _ _ fits places; behind = s.behind })

map_some : {A B : Type 0} (g : A → B) (o : Option A) (y : B) → option_map g o ≡ Some y → (a : A) × (o ≡ Some a) × (g a ≡ y)
map_some g (Some a) y e = (a, refl, same_Some (g a) y e)
map_some g None y e = absurd cc

-- the codes of these kinds count up from n
abbrev are_coded : ℕ → List Elem → Bool
are_coded n [] = true
are_coded n (e ∷ es) = eqb (elem_code e) n && are_coded (suc n) es

coded_at : (n : ℕ) (es : List Elem) (k : ℕ) (e : Elem) → are_coded n es ≡ true → slice_get es k ≡ Some e → elem_code e ≡ n + k
coded_at n [] k e h found = absurd cc
coded_at n (x ∷ xs) zero e h found =
    let first = eqb-true (elem_code x) n (and_parts (eqb (elem_code x) n) (are_coded (suc n) xs) h).0 in
    given (λ (y : Elem). elem_code y ≡ n + 0) x e found (omega arith)
coded_at n (x ∷ xs) (suc k) e h found =
    let rest = coded_at (suc n) xs k e (and_parts (eqb (elem_code x) n) (are_coded (suc n) xs) h).1 found in
    omega arith

elem_coded : (n : ℕ) (e : Elem) → elem_of_code n ≡ Some e → elem_code e ≡ n
unfolding elem_of_code
elem_coded n e found = let at = coded_at 0 every_elem n e refl found in omega arith

one_coded : (n : ℕ) (k : Kind) → option_map kind.One (elem_of_code n) ≡ Some k → kind_code k ≡ n
one_coded n k found =
    let e = map_some kind.One (elem_of_code n) k found in
    subst (λ (x : Kind). kind_code x ≡ n) e.2 (elem_coded n e.0 e.1)

set_coded : (n : ℕ) (k : Kind) → 16 ≤ n → option_map kind.SetOf (elem_of_code (n - 16)) ≡ Some k → kind_code k ≡ n
set_coded n k le found =
    let e = map_some kind.SetOf (elem_of_code (n - 16)) k found in
    let code = elem_coded (n - 16) e.0 e.1 in
    subst (λ (x : Kind). kind_code x ≡ n) e.2 (omega arith)

vector_coded : (n : ℕ) (k : Kind) → 32 ≤ n → option_map kind.VecOf (elem_of_code (n - 32)) ≡ Some k → kind_code k ≡ n
vector_coded n k le found =
    let e = map_some kind.VecOf (elem_of_code (n - 32)) k found in
    let code = elem_coded (n - 32) e.0 e.1 in
    subst (λ (x : Kind). kind_code x ≡ n) e.2 (omega arith)

kind_coded : (n : ℕ) (k : Kind) → kind_of_code n ≡ Some k → kind_code k ≡ n
unfolding kind_of_code
kind_coded n k =
    cond_both (ltb n 16) (option_map kind.One (elem_of_code n)) (cond (ltb n 32) (option_map kind.SetOf (elem_of_code (n - 16))) (option_map kind.VecOf (elem_of_code (n - 32))))
    (λ (o : Option Kind). o ≡ Some k → kind_code k ≡ n) (λ low found. one_coded n k found)
    (λ high. cond_both (ltb n 32) (option_map kind.SetOf (elem_of_code (n - 16))) (option_map kind.VecOf (elem_of_code (n - 32)))
    (λ (o : Option Kind). o ≡ Some k → kind_code k ≡ n) (λ low found. set_coded n k (ltb-false n 16 high) found) (λ higher found. vector_coded n k (ltb-false n 32 higher) found))

field_read : Reads field_at field_bytes is_short_field
unfolding field_at
field_read bytes read h e =
    let code = bind_some _ _ read e in
    let r = byte_read bytes code.0 h code.1 in
    let k = bind_some _ _ read code.2 in
    let same = kind_coded code.0.0 k.0 k.1 in
    let name = bind_some _ _ read k.2 in
    let s = text_read code.0.1 name.0 r.behind name.1 in
    let t = name.0.0 in
    let rest = name.0.1 in
    let spelled : bytes ≡ code.0.0 ∷ (text t ++ rest) = r.whole ∙ ap (λ (bs : List ℕ). code.0.0 ∷ bs) s.whole in
    let whole : bytes ≡ (kind_code k.0 ∷ text t) ++ rest = spelled ∙ ap (λ (x : ℕ). x ∷ (text t ++ rest)) (sym same) in
    let short = and_parts (leb (length t) (2 ^ 24)) (list_all is_byte t) s.fine in
    given (InFront field_bytes is_short_field bytes) (record { name = t; kind = k.0 }, rest) read name.2 (record { whole = whole; fine = short.0; behind = s.behind })

none_from : {A : Type 0} (o : Option A) → is_some o ≡ false → is_none o ≡ true
none_from None h = refl
none_from (Some x) h = absurd cc

heading_read : Reads heading_at heading_bytes is_heading
unfolding heading_at
heading_read bytes read h e =
    let path = bind_some _ _ read e in
    let r = text_read bytes path.0 h path.1 in
    let n = bind_some _ _ read path.2 in
    let s = number_read 2 path.0.1 n.0 r.behind n.1 in
    let fields = bind_some _ _ read n.2 in
    let many = many_read field_at field_bytes is_short_field field_read n.0.0 n.0.1 fields.0 s.behind fields.1 in
    let t = path.0.0 in
    let fs = fields.0.0 in
    let rest = fields.0.1 in
    let heading : Heading = record { path = t; fields = fs } in
    let end = past_test (is_some (heading_fault heading)) (Some (heading, rest)) read fields.2 in
    let columns = flat_map field_bytes fs in
    let counted : path.0.1 ≡ number 2 (length fs) ++ (columns ++ rest) = s.whole ∙ ap (λ (x : List ℕ). number 2 n.0.0 ++ x) many.front.whole ∙ ap (λ (x : ℕ). number 2 x ++ (columns ++ rest)) (sym many.count) in
    let grouped : number 2 (length fs) ++ (columns ++ rest) ≡ (number 2 (length fs) ++ columns) ++ rest = sym (append_assoc (number 2 (length fs)) columns rest) in
    let whole : bytes ≡ heading_bytes heading ++ rest =
    r.whole ∙ ap (λ (x : List ℕ). text t ++ x) (counted ∙ grouped) ∙ sym (append_assoc (text t) (number 2 (length fs) ++ columns) rest) in
    let short = and_parts (leb (length t) (2 ^ 24)) (list_all is_byte t) r.fine in
    let fine : is_heading heading ≡ true = and_from _ _ (none_from (heading_fault heading) end.0) (and_from _ _ short.0 many.front.fine) in
    given (InFront heading_bytes is_heading bytes) (heading, rest) read end.1 (record { whole = whole; fine = fine; behind = many.front.behind })

-- all the bytes are those of rows that fit
record AreRows (f : Format) (fields : List Field) (bytes : List ℕ) (rows : List (List Cell)) : Type 0 where
  whole : bytes ≡ number 4 (length rows) ++ flat_map (row_bytes f) rows
  sized : is_batch_size (length rows) ≡ true
  fitting : list_all (fits_fields fields) rows ≡ true
  places : list_all (list_all (cell_has_place f)) rows ≡ true

empty_from : (xs : List ℕ) → eqb (length xs) 0 ≡ true → xs ≡ []
empty_from [] h = refl
empty_from (x ∷ xs) h = let e = eqb-true (length (x ∷ xs)) 0 h in absurd (omega arith)

if_so : {A : Type 0} (b : Bool) (o : Option A) (y : A) → cond b o None ≡ Some y → (b ≡ true) × (o ≡ Some y)
if_so true o y e = (refl, e)
if_so false o y e = absurd cc

rows_read : (f : Format) (fields : List Field) (bytes : List ℕ) (rows : List (List Cell)) → AreBytes bytes → rows_at f fields bytes ≡ Some rows → AreRows f fields bytes rows
unfolding rows_at
rows_read f fields bytes rows h e =
    let n = bind_some _ _ rows e in
    let r = number_read 4 bytes n.0 h n.1 in
    let some = bind_some _ _ rows n.2 in
    let sized = if_so (is_batch_size n.0.0) (many_at (row_at f fields) n.0.0 n.0.1) some.0 some.1 in
    let many = many_read (row_at f fields) (row_bytes f) (fits_row f fields) (row_read f fields) n.0.0 n.0.1 some.0 r.behind sized.1 in
    let xs = some.0.0 in
    let spelled = flat_map (row_bytes f) xs in
    let end = cond_some (eqb (length some.0.1) 0) xs rows some.2 in
    let nothing = empty_from some.0.1 end.0 in
    let whole : bytes ≡ number 4 (length xs) ++ spelled =
    r.whole ∙ ap (λ (x : List ℕ). number 4 n.0.0 ++ x) (many.front.whole ∙ ap (λ (x : List ℕ). spelled ++ x) nothing ∙ append-nil spelled) ∙ ap (λ (x : ℕ). number 4 x ++ spelled) (sym many.count) in
    let parts = all_parts (fits_fields fields) (list_all (cell_has_place f)) xs many.front.fine in
    let size : is_batch_size (length xs) ≡ true = ap is_batch_size many.count ∙ sized.0 in
    subst (AreRows f fields bytes) end.1 (record { whole = whole; sized = size; fitting = parts.0; places = parts.1 })

format_parts : (b : ℕ) (f : Format) → format_coded b ≡ Some f → format_code f ≡ b
unfolding format_coded
format_parts b f =
    cond_both (eqb b 1) (Some First) (cond (eqb b 2) (Some Second) None) (λ (o : Option Format). o ≡ Some f → format_code f ≡ b)
    (λ one found. given (λ (x : Format). format_code x ≡ b) First f found (sym (eqb-true b 1 one)))
    (λ other found. let two = cond_some (eqb b 2) Second f found in subst (λ (x : Format). format_code x ≡ b) two.1 (sym (eqb-true b 2 two.0)))

-- what is read of bytes is what they spell
pub read_is_spelled : (bytes : List ℕ) (s : Spelled) → list_all is_byte bytes ≡ true → content_at bytes ≡ Some s → Spells bytes s
unfolding content_at
read_is_spelled bytes s h e =
    let code = bind_some _ _ s e in
    let r = byte_read bytes code.0 h code.1 in
    let format = bind_some _ _ s code.2 in
    let f = format.0 in
    let same = format_parts code.0.0 f format.1 in
    let source = bind_some _ _ s format.2 in
    let t = number_read 4 code.0.1 source.0 r.behind source.1 in
    let heading = bind_some _ _ s source.2 in
    let u = heading_read source.0.1 heading.0 t.behind heading.1 in
    let rows = bind_some _ _ s heading.2 in
    let v = rows_read f heading.0.0.fields heading.0.1 rows.0 u.behind rows.1 in
    let content : Content = record { source = source.0.0; heading = heading.0.0; rows = rows.0 } in
    let inner : code.0.1 ≡ content_bytes f content = t.whole ∙ ap (λ (x : List ℕ). number 4 source.0.0 ++ x) (u.whole ∙ ap (λ (x : List ℕ). heading_bytes heading.0.0 ++ x) v.whole) in
    let whole : bytes ≡ format_code f ∷ content_bytes f content = r.whole ∙ ap (λ (x : List ℕ). code.0.0 ∷ x) inner ∙ ap (λ (x : ℕ). x ∷ content_bytes f content) (sym same) in
    let fine : is_spellable (record { format = f; content = content }) ≡ true = and_from _ _ (and_from _ _ t.fine (and_from _ _ u.fine (and_from _ _ v.sized v.fitting))) v.places in
    given (Spells bytes) (record { format = f; content = content }) s rows.2 (record { spelled = whole; spellable = fine })
