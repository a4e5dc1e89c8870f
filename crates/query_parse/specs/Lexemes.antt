-- What the tokens of a query are.
use Rattle.std.specs.Prelude.{ℕ, Bool, true, false, ◌&&◌, ◌||◌, ◌==◌, if◌then◌else◌, List, [], ◌∷◌, Option, None, Some, codes, nat_le}
use Rattle.std.specs.List.{list_all, list_any}
use Rattle.std.specs.Str.{bytes_eq}
use Rattle.vast_value.specs.declared.kind.Elem.{Elem}
use Rattle.vast_value.specs.Kinds.{elem_named}
use Rattle.vast_value.specs.declared.value.Value.{Value}
use Rattle.vast_value.specs.declared.value.Value.TheVariants as value
use Rattle.value_text.specs.Numbers.{is_digit}
use Rattle.value_text.specs.Literals.{literal_read}
use Rattle.query_meaning.specs.declared.expr.Pick.TheVariants.{OfKind, Named, TypeName, EventTime}
use Rattle.query_meaning.specs.declared.expr.Rel.TheVariants.{Within, Contains}
use Rattle.query_meaning.specs.declared.expr.Literal.TheVariants.{Nil, Of}
use Rattle.query_parse.specs.declared.lexeme.Lexeme.{Lexeme}
use Rattle.query_parse.specs.declared.lexeme.Lexeme.TheVariants as lexeme

-- space, tab, newline and carriage return
abbrev pub is_blank : ℕ → Bool
is_blank b = b == 32 || (b == 9 || (b == 10 || b == 13))

abbrev pub is_letter : ℕ → Bool
is_letter b = (nat_le 97 b && nat_le b 122) || (nat_le 65 b && nat_le b 90)

-- letters, digits and _ . : / ? @ + -
abbrev pub is_word_byte : ℕ → Bool
is_word_byte b =
    is_letter b || (is_digit b || (b == 95 || (b == 46 || (b == 58 || (b == 47 || (b == 63 || (b == 64 || (b == 43 || b == 45))))))))

-- letters, digits and _ - .
abbrev pub is_name_byte : ℕ → Bool
is_name_byte b = is_letter b || (is_digit b || (b == 95 || (b == 45 || b == 46)))

-- a letter or `_`, and then letters, digits, `_`, `-` and `.`
abbrev pub is_name : List ℕ → Bool
is_name [] = false
is_name (b ∷ bs) = (is_letter b || b == 95) && list_all is_name_byte bs

-- `:` and the name of a type
abbrev pub kind_picked : List ℕ → Option Elem
kind_picked [] = None
kind_picked (b ∷ bs) = if b == 58 then elem_named bs else None

abbrev pub literal_if : Option Value → Lexeme
literal_if None = lexeme.Bad
literal_if (Some v) = lexeme.Literal (Of v)

-- a word that begins like a literal is one, or a bad one
abbrev pub literal_or_bad : List ℕ → Lexeme
literal_or_bad word = literal_if (literal_read word)

-- `@`, a digit, a sign, or a colon anywhere
abbrev pub begins_literal : List ℕ → Bool
begins_literal [] = false
begins_literal (b ∷ bs) = b == 64 || (is_digit b || (b == 43 || (b == 45 || list_any (λ c. c == 58) (b ∷ bs))))

abbrev pub plain_word : List ℕ → Lexeme
plain_word word =
    if begins_literal word then literal_or_bad word
    else (if is_name word then lexeme.Pick (Named word) else lexeme.Unknown)

abbrev pub kind_or_plain : Option Elem → List ℕ → Lexeme
kind_or_plain (Some e) word = lexeme.Pick (OfKind e)
kind_or_plain None word = plain_word word

-- What a word is, by the first rule that applies.
unfoldable pub word_lexeme : List ℕ → Lexeme
word_lexeme word =
    if bytes_eq word (codes "in") then lexeme.Rel Within
    else (if bytes_eq word (codes "ni") then lexeme.Rel Contains
    else (if bytes_eq word (codes "nil") then lexeme.Literal Nil
    else (if bytes_eq word (codes "T") then lexeme.Literal (Of (value.Bool true))
    else (if bytes_eq word (codes "F") then lexeme.Literal (Of (value.Bool false))
    else (if bytes_eq word (codes "&type") then lexeme.Pick TypeName
    else (if bytes_eq word (codes "&time") then lexeme.Pick EventTime
    else kind_or_plain (kind_picked word) word))))))
