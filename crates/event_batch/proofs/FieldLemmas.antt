-- Numbers, texts and values that were spelled are read again.
use Rattle.std.proofs.Common.{◌≡◌, ℕ, ℤ, pos, negsuc, suc, ◌<◌, ◌≤◌, ◌^◌, Bool, true, false, ◌&&◌, ltb, leb, List, [], ◌∷◌, ◌++◌, length, Option, None, Some, refl, ap, sym, ◌∙◌, append_assoc, arith}
use Rattle.std.specs.Int.{w64, cast_signed, cast_unsigned}
use Rattle.std.specs.List.{list_all, flat_map}
use Rattle.std.proofs.lemmas.Bool.{leb-true, le-ltb, ltb-true}
use Rattle.std.proofs.lemmas.List.{length-append, take_at, drop_at}
use Rattle.std.proofs.lemmas.Int.{to_z-of_z, ints}
use Rattle.std.proofs.Math.Facts.{Fits-of_z, Fits-lt-pow}
use Rattle.std.specs.Int.RustNames.{FitsSigned}
use Rattle.byteorder.specs.Endian.{little_number}
use Rattle.byteorder.specs.Numbers.{little_number-reads_back, length-bytes_low_first}
use Rattle.vast_value.specs.declared.kind.Elem.{Elem}
use Rattle.vast_value.specs.declared.net.Net.{Net}
use Rattle.vast_value.specs.declared.value.Value.{Value}
use Rattle.vast_value.specs.declared.value.Value.TheVariants as value
use Rattle.vast_value.specs.Fit.{is_i64, is_bounded, is_bounded_element, is_short, is_byte}
use Rattle.vast_value.specs.declared.transport.Transport.{Transport}
use Rattle.vast_value.specs.declared.transport.Transport.TheVariants.{Unknown, Tcp, Udp, Icmp}
use Rattle.vast_value.specs.Kinds.{elem_of, elem_eq, is_element}
use Rattle.vast_value.specs.Ports.{transport_code, transport_coded, transport_eq}
use Rattle.vast_value.specs.ValueBytes.{number, text, value_bytes}
use Rattle.vast_value.proofs.KindLemmas.{elem_is}
use Rattle.vast_value.proofs.NetLemmas.{net_of_itself}
use Rattle.event_batch.specs.declared.format.Format.{Format}
use Rattle.event_batch.specs.declared.format.Format.TheVariants.{First, Second}
use Rattle.event_batch.specs.Contents.{has_place, element_has_place}
use Rattle.event_batch.specs.Spelling.{value_bytes_in, element_bytes}
use Rattle.event_batch.specs.Reading.{byte_at, number_at, signed_at, text_at, bool_at, net_at, port_at, value_at, element_at, many_at}
use Rattle.event_batch.proofs.ContentLemmas.{both}

pub length_number : (n x : ℕ) → length (number n x) ≡ n
unfolding number
length_number n x = length-bytes_low_first 0 n x

reads_back : (n x : ℕ) (rest : List ℕ) → x < 256 ^ n → little_number n (number n x ++ rest) ≡ x
unfolding number
reads_back n x rest lt = little_number-reads_back n x rest lt

pub number_again : (n x : ℕ) (rest : List ℕ) → x < 256 ^ n → number_at n (number n x ++ rest) ≡ Some (x, rest)
unfolding number_at
number_again n x rest lt =
    let len = length_number n x in
    let long : ltb (length (number n x ++ rest)) n ≡ false = le-ltb _ _ (omega (arith, length-append (number n x) rest)) in
    rw (long, reads_back n x rest lt, drop_at (number n x) rest n len) refl

pub text_again : (t rest : List ℕ) → length t ≤ 2 ^ 24 → text_at (text t ++ rest) ≡ Some (t, rest)
unfolding text_at
text_again t rest le =
    let few : ltb (2 ^ 24) (length t) ≡ false = le-ltb _ _ le in
    let long : ltb (length (t ++ rest)) (length t) ≡ false = le-ltb _ _ (omega (arith, length-append t rest)) in
    let n = number_again 4 (length t) (t ++ rest) (omega arith) in
    rw (append_assoc, n, few, long, take_at t rest (length t) refl, drop_at t rest (length t) refl) refl

i64_fits : (z : ℤ) → is_i64 z ≡ true → FitsSigned w64 z
i64_fits (pos n) h = let lt = ltb-true n (2 ^ 63) h in omega (arith, ints)
i64_fits (negsuc n) h = let lt = ltb-true n (2 ^ 63) h in omega (arith, ints)

signed_fits : (z : ℤ) → is_i64 z ≡ true → cast_signed w64 (cast_unsigned w64 z) ≡ z
signed_fits z h = to_z-of_z w64 z (i64_fits z h)

unsigned_fits : (z : ℤ) → is_i64 z ≡ true → cast_unsigned w64 z < 2 ^ 64
unsigned_fits z h = Fits-lt-pow (Fits-of_z {w = w64} {z = z} (i64_fits z h))

pub signed_again : (z : ℤ) (rest : List ℕ) → is_i64 z ≡ true → signed_at (number 8 (cast_unsigned w64 z) ++ rest) ≡ Some (z, rest)
unfolding signed_at
signed_again z rest h =
    let n = number_again 8 (cast_unsigned w64 z) rest (unsigned_fits z h) in
    rw (n, signed_fits z h) refl

pub bool_again : (b : Bool) (rest : List ℕ) → bool_at (value_bytes (value.Bool b) ++ rest) ≡ Some (b, rest)
unfolding bool_at
bool_again true rest = refl
bool_again false rest = refl

pub net_again : (n : Net) (rest : List ℕ) → n.base < 2 ^ 128 → net_at ((number 16 n.base ++ n.bits ∷ []) ++ rest) ≡ Some (n, rest)
unfolding net_at byte_at
net_again n rest lt =
    let base = number_again 16 n.base (n.bits ∷ rest) (omega arith) in
    rw (append_assoc, base, net_of_itself n) refl

short_is : (t : List ℕ) → is_short t ≡ true → length t ≤ 2 ^ 24
short_is t h = leb-true (length t) (2 ^ 24) (both (leb (length t) (2 ^ 24)) (list_all is_byte t) h).0

coded_again : (over : Transport) → transport_coded (transport_code over) ≡ Some over
coded_again Unknown = refl
coded_again Tcp = refl
coded_again Udp = refl
coded_again Icmp = refl

first_port_again : (p : ℕ) (over : Transport) (rest : List ℕ) → p < 2 ^ 16 → transport_eq over Unknown ≡ true → port_at First (number 2 p ++ rest) ≡ Some (value.Port p over, rest)
unfolding port_at
first_port_again p Unknown rest lt h = rw (number_again 2 p rest (omega arith)) refl
first_port_again p Tcp rest lt h = absurd cc
first_port_again p Udp rest lt h = absurd cc
first_port_again p Icmp rest lt h = absurd cc

second_port_again : (p : ℕ) (over : Transport) (rest : List ℕ) → p < 2 ^ 16 → port_at Second ((number 2 p ++ transport_code over ∷ []) ++ rest) ≡ Some (value.Port p over, rest)
unfolding port_at byte_at
second_port_again p over rest lt = rw (append_assoc, number_again 2 p (transport_code over ∷ rest) (omega arith), coded_again over) refl

own_value_again : (f : Format) (v : Value) (rest : List ℕ) → is_bounded v ≡ true → has_place f v ≡ true → value_at f (elem_of v) (value_bytes_in f v ++ rest) ≡ Some (v, rest)
unfolding value_at
own_value_again First (value.Bool b) rest h k = rw (bool_again b rest) refl
own_value_again First (value.Count n) rest h k = let lt = ltb-true n (2 ^ 64) h in rw (number_again 8 n rest (omega arith)) refl
own_value_again First (value.Int z) rest h k = rw (signed_again z rest h) refl
own_value_again First (value.Time z) rest h k = rw (signed_again z rest h) refl
own_value_again First (value.Span z) rest h k = rw (signed_again z rest h) refl
own_value_again First (value.Text t) rest h k = rw (text_again t rest (short_is t h)) refl
own_value_again First (value.Name t) rest h k = rw (text_again t rest (short_is t h)) refl
own_value_again First (value.Addr a) rest h k = let lt = ltb-true a (2 ^ 128) h in rw (number_again 16 a rest (omega arith)) refl
own_value_again First (value.Subnet n) rest h k = rw (net_again n rest (ltb-true n.base (2 ^ 128) h)) refl
own_value_again First (value.Port p over) rest h k = first_port_again p over rest (ltb-true p (2 ^ 16) h) k
own_value_again Second (value.Bool b) rest h k = rw (bool_again b rest) refl
own_value_again Second (value.Count n) rest h k = let lt = ltb-true n (2 ^ 64) h in rw (number_again 8 n rest (omega arith)) refl
own_value_again Second (value.Int z) rest h k = rw (signed_again z rest h) refl
own_value_again Second (value.Time z) rest h k = rw (signed_again z rest h) refl
own_value_again Second (value.Span z) rest h k = rw (signed_again z rest h) refl
own_value_again Second (value.Text t) rest h k = rw (text_again t rest (short_is t h)) refl
own_value_again Second (value.Name t) rest h k = rw (text_again t rest (short_is t h)) refl
own_value_again Second (value.Addr a) rest h k = let lt = ltb-true a (2 ^ 128) h in rw (number_again 16 a rest (omega arith)) refl
own_value_again Second (value.Subnet n) rest h k = rw (net_again n rest (ltb-true n.base (2 ^ 128) h)) refl
own_value_again Second (value.Port p over) rest h k = second_port_again p over rest (ltb-true p (2 ^ 16) h)

pub value_again : (f : Format) (e : Elem) (v : Value) (rest : List ℕ) → elem_eq (elem_of v) e ≡ true → is_bounded v ≡ true → has_place f v ≡ true → value_at f e (value_bytes_in f v ++ rest) ≡ Some (v, rest)
value_again f e v rest k h p = ap (λ (x : Elem). value_at f x (value_bytes_in f v ++ rest)) (sym (elem_is (elem_of v) e k)) ∙ own_value_again f v rest h p

-- an element that a container of this kind may have
abbrev pub fits_element : Format → Elem → Option Value → Bool
fits_element f e x = is_element e x && (is_bounded_element x && element_has_place f x)

pub element_again : (f : Format) (e : Elem) (x : Option Value) (rest : List ℕ) → fits_element f e x ≡ true → element_at f e (element_bytes f x ++ rest) ≡ Some (x, rest)
unfolding element_at
element_again f e None rest h = refl
element_again f e (Some v) rest h =
    let parts = both (elem_eq (elem_of v) e) (is_bounded v && has_place f v) h in
    let places = both (is_bounded v) (has_place f v) parts.1 in
    rw (value_again f e v rest parts.0 places.0 places.1) refl

-- a list that is spelled item by item is read item by item
pub many_again : {A : Type 0} (one : List ℕ → Option (A × List ℕ)) (spell : A → List ℕ) (good : A → Bool)
    → ((x : A) (rest : List ℕ) → good x ≡ true → one (spell x ++ rest) ≡ Some (x, rest))
    → (xs : List A) (rest : List ℕ) → list_all good xs ≡ true → many_at one (length xs) (flat_map spell xs ++ rest) ≡ Some (xs, rest)
unfolding many_at
many_again one spell good again [] rest h = refl
many_again one spell good again (x ∷ xs) rest h =
    let parts = both (good x) (list_all good xs) h in
    let regrouped : flat_map spell (x ∷ xs) ++ rest ≡ spell x ++ (flat_map spell xs ++ rest) = append_assoc (spell x) (flat_map spell xs) rest in
    ap (many_at one (suc (length xs))) regrouped ∙ rw (again x (flat_map spell xs ++ rest) parts.0, many_again one spell good again xs rest parts.1) refl
