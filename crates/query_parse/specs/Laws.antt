-- Laws of queries, in their own words.
use Rattle.std.specs.Prelude.{◌≡◌, ◌↔◌, ◌≤◌, ℕ, suc, Bool, true, false, not, ◌&&◌, List, [], ◌∷◌, ◌++◌, Option, None, Some, codes, length, map, IsTrue, Ok, Err}
use Rattle.std.specs.List.{flat_map, list_all, list_any}
use Rattle.std.specs.Str.{bytes_eq}
use Rattle.vast_value.specs.Fit.{is_byte, is_ranged}
use Rattle.vast_value.specs.Kinds.{elem_name}
use Rattle.vast_value.specs.declared.value.Value.{Value}
use Rattle.vast_value.specs.declared.value.Value.TheVariants as value
use Rattle.value_text.specs.LiteralTexts.{literal_text}
use Rattle.value_text.specs.Writing.{byte_escape}
use Rattle.query_meaning.specs.declared.expr.Pick.{Pick}
use Rattle.query_meaning.specs.declared.expr.Pick.TheVariants.{OfKind, Named, TypeName, EventTime}
use Rattle.query_meaning.specs.declared.expr.Rel.{Rel}
use Rattle.query_meaning.specs.declared.expr.Rel.TheVariants.{Eq, Ne, Lt, Le, Gt, Ge, Within, Contains}
use Rattle.query_meaning.specs.declared.expr.Literal.{Literal}
use Rattle.query_meaning.specs.declared.expr.Literal.TheVariants.{Nil, Of}
use Rattle.query_meaning.specs.declared.expr.Expr.{Expr}
use Rattle.query_parse.specs.declared.fault.QueryFault.{QueryFault}
use Rattle.query_parse.specs.declared.fault.QueryWhat.{QueryWhat}
use Rattle.query_parse.specs.Faults.{kinds_of, most_bytes, IsFault}
use Rattle.query_parse.specs.Grammar.{Plain, Turned, OrTree, or_spelled, unit_expr, stands_for, depth_of, most_open, all_agree, turned, Reads}
use Rattle.query_parse.specs.Lexemes.{is_blank, is_word_byte, is_name, word_lexeme}
use Rattle.query_parse.specs.declared.lexeme.Lexeme.{Lexeme}
use Rattle.query_parse.specs.declared.lexeme.Lexeme.TheVariants as lexeme
use Rattle.query_parse.specs.Parsing.{parsed}
use Rattle.query_parse.specs.Tokens.{tokens_in, lexemes_of}

-- A blank before tokens changes none of them, wherever in a text they stand. What a text is read as hangs on its tokens
-- alone, so blanks between tokens change nothing.
abbrev pub BlankSkipped : Type 0
BlankSkipped =
    (at blank : ℕ) (text : List ℕ) → IsTrue (is_blank blank)
    → kinds_of (tokens_in (suc (length text)) at (blank ∷ text)) ≡ kinds_of (tokens_in (length text) at text)

-- the reversed form stands for the test with the relation turned, and turning twice is none
abbrev pub ReversedIsTurned : Type 0
ReversedIsTurned =
    (pick : Pick) (rel : Rel) (literal : Literal)
    → (unit_expr (Turned literal rel pick) ≡ unit_expr (Plain pick (turned rel) literal)) × (unit_expr (Turned literal (turned rel) pick) ≡ unit_expr (Plain pick rel literal))

-- a text parses to an expression exactly where it is not too long and its tokens are a query that stands for it
abbrev pub ParsedReads : Type 0
ParsedReads = (text : List ℕ) (expr : Expr) → (parsed text ≡ Ok expr) ↔ ((length text ≤ most_bytes) × Reads (lexemes_of text) expr)

-- a text parses to a fault exactly where this is its leftmost fault
abbrev pub ParsedFaults : Type 0
ParsedFaults = (text : List ℕ) (fault : QueryFault) → (parsed text ≡ Err fault) ↔ IsFault text fault.at fault.what

-- no text has two faults
abbrev pub OneFault : Type 0
OneFault = (text : List ℕ) (a b : ℕ) (what other : QueryWhat) → IsFault text a what → IsFault text b other → (a ≡ b) × (what ≡ other)

-- one byte of words or more
abbrev pub is_run : List ℕ → Bool
is_run [] = false
is_run (b ∷ bs) = list_all is_word_byte (b ∷ bs)

-- texts with a blank behind each
abbrev pub spaced : {X : Type 0} → (X → List ℕ) → List X → List ℕ
spaced text [] = []
spaced text (x ∷ xs) = text x ++ 32 ∷ spaced text xs

-- words with a blank behind each
abbrev pub words_text : List (List ℕ) → List ℕ
words_text words = spaced (λ w. w) words

-- words with blanks between them are read one by one, and each as far as it goes
abbrev pub WordsAreRead : Type 0
WordsAreRead = (words : List (List ℕ)) → list_all is_run words ≡ true → lexemes_of (words_text words) ≡ map word_lexeme words ++ lexeme.End ∷ []

-- a text between quotes, each byte of it as `\xHH`
abbrev pub quoted_text : List ℕ → List ℕ
quoted_text text = 34 ∷ (flat_map byte_escape text ++ 34 ∷ [])

-- each text of bytes can be written between quotes
abbrev pub TextsAreRead : Type 0
TextsAreRead = (text : List ℕ) → IsTrue (list_all is_byte text) → lexemes_of (quoted_text text) ≡ lexeme.Literal (Of (value.Text text)) ∷ (lexeme.End ∷ [])

-- the text of each value with the mark of its kind is one word, which is that literal
abbrev pub LiteralsAreRead : Type 0
LiteralsAreRead =
    (v : Value) (word : List ℕ) → IsTrue (is_ranged v) → literal_text v ≡ Some word
    → (is_run word ≡ true) × (word_lexeme word ≡ lexeme.Literal (Of v))

-- the words that begin like a name and are none
abbrev pub reserved : List (List ℕ)
reserved = codes "in" ∷ codes "ni" ∷ codes "nil" ∷ codes "T" ∷ codes "F" ∷ []

abbrev pub is_reserved : List ℕ → Bool
is_reserved word = list_any (bytes_eq word) reserved

-- A value that has a literal: each in its type's range but one of an enum, which a text stands for.
abbrev pub has_literal : Value → Bool
has_literal (value.Name text) = false
has_literal v = is_ranged v

-- A token that can be written. A name is one of the grammar and not reserved.
abbrev pub is_writable : Lexeme → Bool
is_writable (lexeme.Pick (Named name)) = is_name name && not (is_reserved name)
is_writable (lexeme.Literal (Of v)) = has_literal v
is_writable lexeme.Bad = false
is_writable lexeme.Unknown = false
is_writable lexeme.End = false
is_writable _ = true

abbrev pub or_nothing : Option (List ℕ) → List ℕ
or_nothing None = []
or_nothing (Some text) = text

abbrev pub value_spelled : Value → List ℕ
value_spelled (value.Bool true) = codes "T"
value_spelled (value.Bool false) = codes "F"
value_spelled (value.Text text) = quoted_text text
value_spelled v = or_nothing (literal_text v)

abbrev pub pick_spelled : Pick → List ℕ
pick_spelled (OfKind e) = 58 ∷ elem_name e
pick_spelled (Named name) = name
pick_spelled TypeName = codes "&type"
pick_spelled EventTime = codes "&time"

abbrev pub rel_spelled : Rel → List ℕ
rel_spelled Eq = codes "=="
rel_spelled Ne = codes "!="
rel_spelled Lt = codes "<"
rel_spelled Le = codes "<="
rel_spelled Gt = codes ">"
rel_spelled Ge = codes ">="
rel_spelled Within = codes "in"
rel_spelled Contains = codes "ni"

-- a token as it can be written
abbrev pub token_text : Lexeme → List ℕ
token_text (lexeme.Pick pick) = pick_spelled pick
token_text (lexeme.Rel rel) = rel_spelled rel
token_text (lexeme.Literal Nil) = codes "nil"
token_text (lexeme.Literal (Of v)) = value_spelled v
token_text lexeme.And = codes "&&"
token_text lexeme.Or = codes "||"
token_text lexeme.Not = codes "!"
token_text lexeme.Open = codes "("
token_text lexeme.Close = codes ")"
token_text _ = []

-- tokens that can be written, with a blank behind each, are read as they are
abbrev pub TokensAreRead : Type 0
TokensAreRead = (tokens : List Lexeme) → IsTrue (list_all is_writable tokens) → lexemes_of (spaced token_text tokens) ≡ tokens ++ lexeme.End ∷ []

-- a query as it can be written
abbrev pub query_text : OrTree → List ℕ
query_text query = spaced token_text (or_spelled query)

-- each query of the grammar whose names and literals can be written has a text with these tokens
abbrev pub QueriesAreRead : Type 0
QueriesAreRead = (query : OrTree) → IsTrue (list_all is_writable (or_spelled query)) → lexemes_of (query_text query) ≡ or_spelled query ++ lexeme.End ∷ []

-- so each expression of the language can be asked for, where its text is not too long, it is not too deep, and no test
-- clashes
abbrev pub QueriesParse : Type 0
QueriesParse =
    (query : OrTree) → IsTrue (list_all is_writable (or_spelled query)) → length (query_text query) ≤ most_bytes → depth_of query ≤ most_open → IsTrue (all_agree query)
    → parsed (query_text query) ≡ Ok (stands_for query)
