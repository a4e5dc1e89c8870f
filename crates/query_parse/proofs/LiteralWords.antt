-- The text of each literal that is no text is one word, which is that literal.
use Rattle.std.proofs.Common.{◌≡◌, ℕ, zero, suc, ℤ, pos, negsuc, ◌+◌, ◌-◌, ◌/◌, ◌%◌, ◌^◌, ◌<◌, ◌≤◌, Bool, true, false, ◌&&◌, ◌||◌, cond, eqb, leb, List, [], ◌∷◌, ◌++◌, Option, None, Some, length, take, drop, codes, refl, ap, sym, ◌∙◌, subst, arith, inl, inr, append_assoc, append-nil}
use Rattle.std.specs.Fmt.{decimal}
use Rattle.std.specs.List.{list_all, list_any, flat_map}
use Rattle.std.specs.Str.{bytes_eq}
use Rattle.std.proofs.lemmas.Bool.{cases_Bool, eqb-true, false_from_ne_true, ltb-true, le-leb}
use Rattle.std.proofs.lemmas.Fmt.{decimal_nonempty}
use Rattle.std.proofs.lemmas.Slice.Eq.{bytes_eq-Decides}
use Rattle.vast_value.specs.declared.net.Net.{Net}
use Rattle.vast_value.specs.declared.transport.Transport.{Transport}
use Rattle.vast_value.specs.declared.transport.Transport.TheVariants.{Unknown, Tcp, Udp, Icmp}
use Rattle.vast_value.specs.declared.value.Value.{Value}
use Rattle.vast_value.specs.declared.value.Value.TheVariants as value
use Rattle.vast_value.specs.Fit.{is_i64, is_ranged}
use Rattle.vast_value.specs.Kinds.{elem_named}
use Rattle.value_text.specs.Literals.{literal_read, moment_of}
use Rattle.value_text.specs.LiteralTexts.{signed_text, literal_text}
use Rattle.value_text.specs.Numbers.{is_digit}
use Rattle.value_text.specs.Ports.{transport_name}
use Rattle.value_text.specs.Writing.{last_digits, fraction_text, seconds_text, span_text, dotted_text, groups_of, group_text, joined_groups, longest_run, grouped_text, is_mapped, address_text, subnet_text}
use Rattle.value_text.proofs.LiteralLemmas.{literal_again}
use Rattle.value_writing.proofs.WritingNumbers.{all_append, decimal_all, decimal_digits}
use Rattle.value_writing.proofs.WritingAddresses.{address_passes}
use Rattle.value_writing.proofs.WritingSubnets.{subnet_passes}
use Rattle.query_meaning.specs.declared.expr.Literal.TheVariants.{Of}
use Rattle.query_parse.specs.declared.lexeme.Lexeme.TheVariants as lexeme
use Rattle.query_parse.specs.Laws.{is_run, LiteralsAreRead}
use Rattle.query_parse.specs.Lexemes.{is_letter, is_word_byte, begins_literal, kind_picked, word_lexeme}
use Rattle.query_parse.proofs.WordLemmas.{both}

-- What reads as a value is no word of the others.

abbrev IsNoValue : List ℕ → Type 0
IsNoValue w = literal_read w ≡ None

apart : (w c : List ℕ) (v : Value) → literal_read w ≡ Some v → IsNoValue c → bytes_eq w c ≡ false
apart w c v h k = false_from_ne_true (bytes_eq w c) (λ is.
    let back : Some v ≡ None = sym h ∙ (ap literal_read ((bytes_eq-Decides w c).0 is) ∙ k) in
    cc)

none_words : IsNoValue (codes "in") × IsNoValue (codes "ni") × IsNoValue (codes "nil") × IsNoValue (codes "T") × IsNoValue (codes "F") × IsNoValue (codes "&type") × IsNoValue (codes "&time")
unfolding literal_read moment_of
none_words = (refl, refl, refl, refl, refl, refl, refl)

abbrev Unread : List ℕ → Type 0
Unread name = IsNoValue (58 ∷ name)

none_kinds : Unread (codes "string") × Unread (codes "interval") × Unread (codes "subnet") × Unread (codes "bool") × Unread (codes "count") × Unread (codes "int") × Unread (codes "time") × Unread (codes "enum") × Unread (codes "addr") × Unread (codes "port")
unfolding literal_read moment_of
none_kinds = (refl, refl, refl, refl, refl, refl, refl, refl, refl, refl)

kind_apart : (bs c : List ℕ) (v : Value) → literal_read (58 ∷ bs) ≡ Some v → Unread c → bytes_eq bs c ≡ false
kind_apart bs c v h k = false_from_ne_true (bytes_eq bs c) (λ is.
    let back : Some v ≡ None = sym h ∙ (ap (λ (t : List ℕ). literal_read (58 ∷ t)) ((bytes_eq-Decides bs c).0 is) ∙ k) in
    cc)

no_name : (bs : List ℕ) (v : Value) → literal_read (58 ∷ bs) ≡ Some v → elem_named bs ≡ None
no_name bs v h =
    let k = none_kinds in
    rw (
      kind_apart bs (codes "string") v h k.0,
      kind_apart bs (codes "interval") v h k.1,
      kind_apart bs (codes "subnet") v h k.2,
      kind_apart bs (codes "bool") v h k.3,
      kind_apart bs (codes "count") v h k.4,
      kind_apart bs (codes "int") v h k.5,
      kind_apart bs (codes "time") v h k.6,
      kind_apart bs (codes "enum") v h k.7,
      kind_apart bs (codes "addr") v h k.8,
      kind_apart bs (codes "port") v h k.9,
    ) refl

no_kind : (w : List ℕ) (v : Value) → literal_read w ≡ Some v → kind_picked w ≡ None
no_kind [] v h = refl
no_kind (b ∷ bs) v h = elim (cases_Bool (eqb b 58)) [
  | inl is ↦ rw is (no_name bs v (ap (λ (c : ℕ). literal_read (c ∷ bs)) (sym (eqb-true b 58 is)) ∙ h))
  | inr other ↦ rw other refl
]

word_is : (w : List ℕ) (v : Value) → begins_literal w ≡ true → literal_read w ≡ Some v → word_lexeme w ≡ lexeme.Literal (Of v)
unfolding word_lexeme
word_is w v begins h =
    let k = none_words in
    rw (
      apart w (codes "in") v h k.0,
      apart w (codes "ni") v h k.1,
      apart w (codes "nil") v h k.2,
      apart w (codes "T") v h k.3,
      apart w (codes "F") v h k.4,
      apart w (codes "&type") v h k.5,
      apart w (codes "&time") v h k.6,
      no_kind w v h,
      begins,
      h,
    ) refl

-- Each text begins like a literal.

pub any : (a b : Bool) → b ≡ true → (a || b) ≡ true
any true b h = refl
any false b h = h

digits_begin : (w x : List ℕ) → 0 < length w → list_all is_digit w ≡ true → begins_literal (w ++ x) ≡ true
digits_begin [] x some h = absurd (omega (arith, some))
digits_begin (b ∷ bs) x some h = rw (both (is_digit b) (list_all is_digit bs) h).0 (any (eqb b 64) true refl)

decimal_begins : (n : ℕ) (x : List ℕ) → n < 2 ^ 64 → begins_literal (decimal n ++ x) ≡ true
decimal_begins n x h = digits_begin (decimal n) x (decimal_nonempty n h) (decimal_digits n h)

abbrev is_colon : ℕ → Bool
is_colon c = eqb c 58

colon_begins : (w : List ℕ) → list_any is_colon w ≡ true → begins_literal w ≡ true
colon_begins [] h = absurd cc
colon_begins (b ∷ bs) h = any (eqb b 64) _ (any (is_digit b) _ (any (eqb b 43) _ (any (eqb b 45) _ h)))

colon_in : (xs ys : List ℕ) → list_any is_colon (xs ++ 58 ∷ ys) ≡ true
colon_in [] ys = refl
colon_in (x ∷ xs) ys = any (eqb x 58) _ (colon_in xs ys)

colon_front : (xs ys : List ℕ) → list_any is_colon xs ≡ true → list_any is_colon (xs ++ ys) ≡ true
colon_front [] ys h = absurd cc
colon_front (x ∷ xs) ys h = elim (cases_Bool (eqb x 58)) [
  | inl is ↦ rw is refl
  | inr other ↦
      let rest : list_any is_colon xs ≡ true = ap (λ (t : Bool). t || list_any is_colon xs) (sym other) ∙ h in
      any (eqb x 58) _ (colon_front xs ys rest)
]

gap_colon : (gap : Bool) (start behind a b : ℕ) (gs : List ℕ)
    → list_any is_colon (cond gap (joined_groups (take start (a ∷ (b ∷ gs))) ++ 58 ∷ (58 ∷ joined_groups (drop behind (a ∷ (b ∷ gs))))) (joined_groups (a ∷ (b ∷ gs)))) ≡ true
gap_colon true start behind a b gs = colon_in (joined_groups (take start (a ∷ (b ∷ gs)))) (58 ∷ joined_groups (drop behind (a ∷ (b ∷ gs))))
gap_colon false start behind a b gs = colon_in (group_text a) (group_text b ++ flat_map (λ y. 58 ∷ group_text y) gs)

grouped_colon : (a : ℕ) → list_any is_colon (grouped_text (groups_of a)) ≡ true
unfolding grouped_text
grouped_colon a =
    let run = longest_run 0 (groups_of a) in
    gap_colon (leb 2 run.count) run.start (run.start + run.count) _ _ _

dotted_begins : (n : ℕ) (x : List ℕ) → begins_literal (dotted_text n ++ x) ≡ true
unfolding dotted_text
dotted_begins n x =
    let rest : List ℕ = flat_map (λ y. 46 ∷ decimal y) (n / 2 ^ 16 % 256 ∷ (n / 2 ^ 8 % 256 ∷ (n % 256 ∷ []))) in
    ap begins_literal (append_assoc (decimal (n / 2 ^ 24 % 256)) rest x) ∙ decimal_begins (n / 2 ^ 24 % 256) (rest ++ x) (omega arith)

address_begins : (a : ℕ) → begins_literal (address_text a) ≡ true
address_begins a = elim (is_mapped a) as (λ t. begins_literal (cond t (dotted_text (a % 2 ^ 32)) (grouped_text (groups_of a))) ≡ true) [
  | true ↦ ap begins_literal (sym (append-nil (dotted_text (a % 2 ^ 32)))) ∙ dotted_begins (a % 2 ^ 32) []
  | false ↦ colon_begins (grouped_text (groups_of a)) (grouped_colon a)
]

subnet_begins : (n : Net) → begins_literal (subnet_text n) ≡ true
subnet_begins n = elim (leb 96 n.bits && is_mapped n.base) as (λ t. begins_literal (cond t (dotted_text (n.base % 2 ^ 32) ++ 47 ∷ decimal (n.bits - 96)) (grouped_text (groups_of n.base) ++ 47 ∷ decimal n.bits)) ≡ true) [
  | true ↦ dotted_begins (n.base % 2 ^ 32) (47 ∷ decimal (n.bits - 96))
  | false ↦ colon_begins (grouped_text (groups_of n.base) ++ 47 ∷ decimal n.bits) (colon_front (grouped_text (groups_of n.base)) (47 ∷ decimal n.bits) (grouped_colon n.base))
]

span_begins : (z : ℤ) (x : List ℕ) → is_i64 z ≡ true → begins_literal (span_text z ++ x) ≡ true
unfolding span_text
span_begins (pos n) x h =
    let lt = ltb-true n (2 ^ 63) h in
    let whole : List ℕ = decimal (n / 10 ^ 9) in
    let rest : List ℕ = 46 ∷ fraction_text (n % 10 ^ 9) in
    ap begins_literal (append_assoc whole rest x) ∙ decimal_begins (n / 10 ^ 9) (rest ++ x) (omega arith)
span_begins (negsuc n) x h = refl

-- The bytes of each are those of words.

low : (b : ℕ) → 48 ≤ b → b ≤ 57 → is_word_byte b ≡ true
low b from to = rw (le-leb 48 b from, le-leb b 57 to) (any (is_letter b) true refl)

high : (b : ℕ) → 97 ≤ b → b ≤ 102 → is_word_byte b ≡ true
high b from to = rw (le-leb 97 b from, le-leb b 122 (omega (arith, to))) refl

last_passes : (k n : ℕ) → list_all is_word_byte (last_digits k n) ≡ true
last_passes zero n = refl
last_passes (suc k) n = rw (low (48 + n / 10 ^ k % 10) (omega arith) (omega arith), last_passes k n) refl

fraction_passes : (n : ℕ) → list_all is_word_byte (fraction_text n) ≡ true
fraction_passes n = elim (eqb (n % 1000) 0) as (λ t. list_all is_word_byte (cond t (last_digits 6 (n / 1000)) (last_digits 9 n)) ≡ true) [
  | true ↦ last_passes 6 (n / 1000)
  | false ↦ last_passes 9 n
]

seconds_pass : (n : ℕ) → n < 2 ^ 64 → list_all is_word_byte (seconds_text n) ≡ true
seconds_pass n h = all_append is_word_byte (decimal (n / 10 ^ 9)) (46 ∷ fraction_text (n % 10 ^ 9)) (decimal_all is_word_byte low (n / 10 ^ 9) (omega (arith, h))) (fraction_passes (n % 10 ^ 9))

span_passes : (z : ℤ) → is_i64 z ≡ true → list_all is_word_byte (span_text z) ≡ true
unfolding span_text
span_passes (pos n) h = let lt = ltb-true n (2 ^ 63) h in seconds_pass n (omega arith)
span_passes (negsuc n) h = let lt = ltb-true n (2 ^ 63) h in seconds_pass (suc n) (omega arith)

name_passes : (over : Transport) → list_all is_word_byte (transport_name over) ≡ true
name_passes Unknown = refl
name_passes Tcp = refl
name_passes Udp = refl
name_passes Icmp = refl

-- what begins like a literal is not empty
run_is : (w : List ℕ) → begins_literal w ≡ true → list_all is_word_byte w ≡ true → is_run w ≡ true
run_is [] begins h = absurd cc
run_is (b ∷ bs) begins h = h

record IsWord (w : List ℕ) : Type 0 where
  begins : begins_literal w ≡ true
  bytes : list_all is_word_byte w ≡ true

signed_word : (z : ℤ) → is_i64 z ≡ true → IsWord (signed_text z)
signed_word (pos n) h = let lt = ltb-true n (2 ^ 63) h in record { begins = refl; bytes = decimal_all is_word_byte low n (omega arith) }
signed_word (negsuc n) h = let lt = ltb-true n (2 ^ 63) h in record { begins = refl; bytes = decimal_all is_word_byte low (suc n) (omega arith) }

abbrev IsWordOf : Option (List ℕ) → Type 0
IsWordOf None = Unit {0}
IsWordOf (Some w) = IsWord w

value_word : (v : Value) → is_ranged v ≡ true → IsWordOf (literal_text v)
value_word (value.Bool b) h = tt
value_word (value.Text t) h = tt
value_word (value.Name t) h = tt
value_word (value.Count n) h =
    let lt = ltb-true n (2 ^ 64) h in
    record { begins = ap begins_literal (sym (append-nil (decimal n))) ∙ decimal_begins n [] lt; bytes = decimal_all is_word_byte low n lt }
value_word (value.Int z) h = signed_word z h
value_word (value.Time z) h = record { begins = refl; bytes = span_passes z h }
value_word (value.Span z) h = record { begins = span_begins z (115 ∷ []) h; bytes = all_append is_word_byte (span_text z) (115 ∷ []) (span_passes z h) refl }
value_word (value.Addr a) h = record { begins = address_begins a; bytes = address_passes is_word_byte low high refl refl a }
value_word (value.Subnet n) h = record { begins = subnet_begins n; bytes = subnet_passes is_word_byte low high refl refl refl n }
value_word (value.Port n over) h =
    let lt = ltb-true n (2 ^ 16) h in
    record { begins = decimal_begins n (47 ∷ transport_name over) (omega arith); bytes = all_append is_word_byte (decimal n) (47 ∷ transport_name over) (decimal_all is_word_byte low n (omega arith)) (name_passes over) }

pub literals_are_read : LiteralsAreRead
literals_are_read v word h is =
    let w : IsWord word = subst IsWordOf is (value_word v h) in
    (run_is word w.begins w.bytes, word_is word v w.begins (literal_again v word h is))
