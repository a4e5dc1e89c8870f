-- Tokens that can be written, with a blank behind each, are read as they are.
use Rattle.std.proofs.Common.{◌≡◌, ℕ, Bool, true, false, not, ◌||◌, eqb, List, [], ◌∷◌, ◌++◌, None, Some, codes, length, map, refl, ap, ◌∙◌, subst, arith}
use Rattle.std.specs.List.{list_all, list_any}
use Rattle.std.specs.Str.{bytes_eq}
use Rattle.std.proofs.lemmas.Bool.{ne_eqb, false_from_ne_true}
use Rattle.std.proofs.lemmas.Bool.Decides.{nat_tests}
use Rattle.std.proofs.lemmas.Slice.Eq.{bytes_eq-Decides}
use Rattle.vast_value.specs.declared.kind.Elem.{Elem}
use Rattle.vast_value.specs.declared.kind.Elem.TheVariants as elem
use Rattle.vast_value.specs.declared.value.Value.{Value}
use Rattle.vast_value.specs.declared.value.Value.TheVariants as value
use Rattle.vast_value.specs.Fit.{is_ranged}
use Rattle.vast_value.specs.Kinds.{elem_name}
use Rattle.value_text.specs.LiteralTexts.{literal_text}
use Rattle.value_text.specs.Numbers.{is_digit}
use Rattle.query_meaning.specs.declared.expr.Pick.{Pick}
use Rattle.query_meaning.specs.declared.expr.Pick.TheVariants.{OfKind, Named, TypeName, EventTime}
use Rattle.query_meaning.specs.declared.expr.Rel.{Rel}
use Rattle.query_meaning.specs.declared.expr.Rel.TheVariants.{Eq, Ne, Lt, Le, Gt, Ge, Within, Contains}
use Rattle.query_meaning.specs.declared.expr.Literal.TheVariants.{Nil, Of}
use Rattle.query_parse.specs.declared.lexeme.Lexeme.{Lexeme}
use Rattle.query_parse.specs.declared.lexeme.Lexeme.TheVariants as lexeme
use Rattle.query_parse.specs.Grammar.{or_spelled, stands_for}
use Rattle.query_parse.specs.Laws.{is_run, spaced, is_reserved, is_writable, token_text, value_spelled, rel_spelled, pick_spelled, query_text, TokensAreRead, QueriesAreRead, QueriesParse}
use Rattle.query_parse.specs.Lexemes.{is_letter, is_word_byte, is_name_byte, is_name, begins_literal, kind_picked, word_lexeme}
use Rattle.query_parse.specs.Tokens.{piece_of}
use Rattle.query_parse.proofs.WordLemmas.{both, IsPiece, word_is, tokens_read}
use Rattle.query_parse.proofs.QuotedTexts.{text_is}
use Rattle.query_parse.proofs.LiteralWords.{any, literals_are_read}
use Rattle.query_parse.proofs.OneFault.{parsed_reads}

-- Names

-- what passes a test differs from what does not
apart : (p : List ℕ → Bool) (w c : List ℕ) → p w ≡ true → p c ≡ false → bytes_eq w c ≡ false
apart p w c h k = false_from_ne_true (bytes_eq w c) (λ is.
    let back : p w ≡ p c = ap p ((bytes_eq-Decides w c).0 is) in
    cc)

record AllFalse (a b c d e : Bool) : Type 0 where
  first : a ≡ false
  second : b ≡ false
  third : c ≡ false
  fourth : d ≡ false
  fifth : e ≡ false

none_of : (a b c d e : Bool) → not (a || (b || (c || (d || (e || false))))) ≡ true → AllFalse a b c d e
none_of true b c d e h = absurd cc
none_of false true c d e h = absurd cc
none_of false false true d e h = absurd cc
none_of false false false true e h = absurd cc
none_of false false false false true h = absurd cc
none_of false false false false false h = record { first = refl; second = refl; third = refl; fourth = refl; fifth = refl }

wide : (letter digit under point colon slash ask at plus minus : Bool) → (letter || (digit || (under || (minus || point)))) ≡ true
    → (letter || (digit || (under || (point || (colon || (slash || (ask || (at || (plus || minus))))))))) ≡ true
wide true digit under point colon slash ask at plus minus h = refl
wide false true under point colon slash ask at plus minus h = refl
wide false false true point colon slash ask at plus minus h = refl
wide false false false true colon slash ask at plus minus h = refl
wide false false false false colon slash ask at plus true h = any colon _ (any slash _ (any ask _ (any at _ (any plus _ refl))))
wide false false false false colon slash ask at plus false h = absurd cc

abbrev is_first : ℕ → Bool
is_first b = is_letter b || eqb b 95

name_first : (letter digit under minus point : Bool) → (letter || under) ≡ true → (letter || (digit || (under || (minus || point)))) ≡ true
name_first true digit under minus point h = refl
name_first false true under minus point h = refl
name_first false false true minus point h = refl
name_first false false false minus point h = absurd cc

name_bytes : (bs : List ℕ) → list_all is_name_byte bs ≡ true → list_all is_word_byte bs ≡ true
name_bytes [] h = refl
name_bytes (b ∷ bs) h =
    let a = both (is_name_byte b) (list_all is_name_byte bs) h in
    let word : is_word_byte b ≡ true = wide (is_letter b) (is_digit b) (eqb b 95) (eqb b 46) (eqb b 58) (eqb b 47) (eqb b 63) (eqb b 64) (eqb b 43) (eqb b 45) a.0 in
    rw (word, name_bytes bs a.1) refl

name_run : (name : List ℕ) → is_name name ≡ true → is_run name ≡ true
name_run [] h = absurd cc
name_run (b ∷ bs) h =
    let a = both (is_first b) (list_all is_name_byte bs) h in
    let byte : is_name_byte b ≡ true = name_first (is_letter b) (is_digit b) (eqb b 95) (eqb b 45) (eqb b 46) a.0 in
    name_bytes (b ∷ bs) (rw (byte, a.1) refl)

-- a byte that passes is none that does not
other : (p : ℕ → Bool) (b c : ℕ) → p b ≡ true → p c ≡ false → eqb b c ≡ false
other p b c h k = ne_eqb b c (λ e. let same : p b ≡ p c = ap p e in cc)

no_colon : (bs : List ℕ) → list_all is_name_byte bs ≡ true → list_any (λ c. eqb c 58) bs ≡ false
no_colon [] h = refl
no_colon (b ∷ bs) h =
    let a = both (is_name_byte b) (list_all is_name_byte bs) h in
    rw (other is_name_byte b 58 a.0 refl, no_colon bs a.1) refl

first_no_digit : (b : ℕ) → is_first b ≡ true → is_digit b ≡ false
first_no_digit b h = grind (arith, nat_tests, h)

name_begins_none : (name : List ℕ) → is_name name ≡ true → begins_literal name ≡ false
name_begins_none [] h = absurd cc
name_begins_none (b ∷ bs) h =
    let a = both (is_first b) (list_all is_name_byte bs) h in
    rw (other is_first b 64 a.0 refl, first_no_digit b a.0, other is_first b 43 a.0 refl, other is_first b 45 a.0 refl, other is_first b 58 a.0 refl, no_colon bs a.1) refl

name_no_kind : (name : List ℕ) → is_name name ≡ true → kind_picked name ≡ None
name_no_kind [] h = absurd cc
name_no_kind (b ∷ bs) h = rw (other is_first b 58 (both (is_first b) (list_all is_name_byte bs) h).0 refl) refl

name_read : (name : List ℕ) → is_name name ≡ true → not (is_reserved name) ≡ true → word_lexeme name ≡ lexeme.Pick (Named name)
unfolding word_lexeme
name_read name h free =
    let k = none_of (bytes_eq name (codes "in")) (bytes_eq name (codes "ni")) (bytes_eq name (codes "nil")) (bytes_eq name (codes "T")) (bytes_eq name (codes "F")) free in
    rw (k.first, k.second, k.third, k.fourth, k.fifth, apart is_name name (codes "&type") h refl, apart is_name name (codes "&time") h refl, name_no_kind name h, name_begins_none name h, h) refl

-- a word that is a token
word_as : (w : List ℕ) (x : Lexeme) → is_run w ≡ true → word_lexeme w ≡ x → IsPiece w x
word_as w x h is = subst (IsPiece w) is (word_is w h)

-- Each token

rel_is : (rel : Rel) → IsPiece (rel_spelled rel) (lexeme.Rel rel)
unfolding piece_of word_lexeme
rel_is Eq = (refl, λ more. refl)
rel_is Ne = (refl, λ more. refl)
rel_is Lt = (refl, λ more. refl)
rel_is Le = (refl, λ more. refl)
rel_is Gt = (refl, λ more. refl)
rel_is Ge = (refl, λ more. refl)
rel_is Within = word_as (codes "in") (lexeme.Rel Within) refl refl
rel_is Contains = word_as (codes "ni") (lexeme.Rel Contains) refl refl

kind_is : (e : Elem) → IsPiece (58 ∷ elem_name e) (lexeme.Pick (OfKind e))
unfolding word_lexeme
kind_is elem.Bool = word_as (codes ":bool") (lexeme.Pick (OfKind elem.Bool)) refl refl
kind_is elem.Count = word_as (codes ":count") (lexeme.Pick (OfKind elem.Count)) refl refl
kind_is elem.Int = word_as (codes ":int") (lexeme.Pick (OfKind elem.Int)) refl refl
kind_is elem.Time = word_as (codes ":time") (lexeme.Pick (OfKind elem.Time)) refl refl
kind_is elem.Span = word_as (codes ":interval") (lexeme.Pick (OfKind elem.Span)) refl refl
kind_is elem.Text = word_as (codes ":string") (lexeme.Pick (OfKind elem.Text)) refl refl
kind_is elem.Name = word_as (codes ":enum") (lexeme.Pick (OfKind elem.Name)) refl refl
kind_is elem.Addr = word_as (codes ":addr") (lexeme.Pick (OfKind elem.Addr)) refl refl
kind_is elem.Subnet = word_as (codes ":subnet") (lexeme.Pick (OfKind elem.Subnet)) refl refl
kind_is elem.Port = word_as (codes ":port") (lexeme.Pick (OfKind elem.Port)) refl refl

pick_is : (pick : Pick) → is_writable (lexeme.Pick pick) ≡ true → IsPiece (pick_spelled pick) (lexeme.Pick pick)
unfolding piece_of word_lexeme
pick_is (OfKind e) h = kind_is e
pick_is (Named name) h =
    let a = both (is_name name) (not (is_reserved name)) h in
    word_as name (lexeme.Pick (Named name)) (name_run name a.0) (name_read name a.0 a.1)
pick_is TypeName h = (refl, λ more. refl)
pick_is EventTime h = (refl, λ more. refl)

marked_is : (v : Value) (word : List ℕ) → is_ranged v ≡ true → literal_text v ≡ Some word → IsPiece word (lexeme.Literal (Of v))
marked_is v word h is = let a = literals_are_read v word h is in word_as word (lexeme.Literal (Of v)) a.0 a.1

value_is : (v : Value) → is_writable (lexeme.Literal (Of v)) ≡ true → IsPiece (value_spelled v) (lexeme.Literal (Of v))
unfolding word_lexeme
value_is (value.Bool true) h = word_as (codes "T") (lexeme.Literal (Of (value.Bool true))) refl refl
value_is (value.Bool false) h = word_as (codes "F") (lexeme.Literal (Of (value.Bool false))) refl refl
value_is (value.Name t) h = absurd cc
value_is (value.Text t) h = text_is t h
value_is (value.Count n) h = marked_is (value.Count n) _ h refl
value_is (value.Int z) h = marked_is (value.Int z) _ h refl
value_is (value.Time z) h = marked_is (value.Time z) _ h refl
value_is (value.Span z) h = marked_is (value.Span z) _ h refl
value_is (value.Addr a) h = marked_is (value.Addr a) _ h refl
value_is (value.Subnet n) h = marked_is (value.Subnet n) _ h refl
value_is (value.Port n over) h = marked_is (value.Port n over) _ h refl

token_is : (x : Lexeme) → is_writable x ≡ true → IsPiece (token_text x) x
unfolding piece_of word_lexeme
token_is (lexeme.Pick pick) h = pick_is pick h
token_is (lexeme.Rel rel) h = rel_is rel
token_is (lexeme.Literal Nil) h = word_as (codes "nil") (lexeme.Literal Nil) refl refl
token_is (lexeme.Literal (Of v)) h = value_is v h
token_is lexeme.And h = (refl, λ more. refl)
token_is lexeme.Or h = (refl, λ more. refl)
token_is lexeme.Not h = (refl, λ more. refl)
token_is lexeme.Open h = (refl, λ more. refl)
token_is lexeme.Close h = (refl, λ more. refl)
token_is lexeme.Bad h = absurd cc
token_is lexeme.Unknown h = absurd cc
token_is lexeme.End h = absurd cc

as_they_are : (xs : List Lexeme) → map (λ x. x) xs ≡ xs
as_they_are [] = refl
as_they_are (x ∷ xs) = ap (λ (l : List Lexeme). x ∷ l) (as_they_are xs)

pub tokens_are_read : TokensAreRead
tokens_are_read tokens h =
    tokens_read token_text (λ x. x) is_writable token_is tokens (length (spaced token_text tokens)) 0 (omega arith) h
    ∙ ap (λ (l : List Lexeme). l ++ lexeme.End ∷ []) (as_they_are tokens)

pub queries_are_read : QueriesAreRead
queries_are_read query h = tokens_are_read (or_spelled query) h

pub queries_parse : QueriesParse
queries_parse query h short shallow agree =
    (parsed_reads (query_text query) (stands_for query)).1 (short, record { query = query; spells = queries_are_read query h; is = refl; shallow = shallow; agree = agree })
