-- The tokens of a query.
use Rattle.std.specs.Prelude.{ℕ, zero, suc, ◌+◌, ◌*◌, Bool, true, false, ◌&&◌, ◌==◌, if◌then◌else◌, List, [], ◌∷◌, Option, None, Some, length, take, drop, map}
use Rattle.std.specs.List.{prefix_len}
use Rattle.vast_value.specs.declared.value.Value.TheVariants.{Text}
use Rattle.value_text.specs.Addresses.{digit_value}
use Rattle.value_text.specs.Escapes.{is_byte_escape}
use Rattle.query_meaning.specs.declared.expr.Rel.TheVariants.{Eq, Ne, Lt, Le, Gt, Ge}
use Rattle.query_meaning.specs.declared.expr.Literal.TheVariants.{Of}
use Rattle.query_parse.specs.declared.lexeme.Lexeme.{Lexeme}
use Rattle.query_parse.specs.declared.lexeme.Lexeme.TheVariants as lexeme
use Rattle.query_parse.specs.declared.texts.Quoted.{Quoted}
use Rattle.query_parse.specs.declared.texts.Taken.{Taken}
use Rattle.query_parse.specs.declared.tokens.Piece.{Piece}
use Rattle.query_parse.specs.Lexemes.{is_blank, is_word_byte, word_lexeme}

abbrev pub put_byte : ℕ → ℕ → Option Quoted → Option Quoted
put_byte count byte None = None
put_byte count byte (Some rest) = Some (record { content = byte ∷ rest.content; length = count + rest.length })

-- A backslash takes a quote or a backslash behind it, or `xHH` for a byte; any other stays.
abbrev pub is_pair : ℕ → ℕ → Bool
is_pair a b = if a == 92 then (if b == 34 then true else b == 92) else false

abbrev pub taken : ℕ → ℕ → Taken
taken count byte = record { count = count; byte = byte }

-- the first byte of a text, with its escape undone, and how many bytes it takes
abbrev pub quote_step : List ℕ → Taken
quote_step [] = taken 1 0
quote_step (a ∷ []) = taken 1 a
quote_step (a ∷ (b ∷ [])) = if is_pair a b then taken 2 b else taken 1 a
quote_step (a ∷ (b ∷ (c ∷ []))) = if is_pair a b then taken 2 b else taken 1 a
quote_step (a ∷ (b ∷ (c ∷ (d ∷ rest)))) =
    if is_pair a b then taken 2 b
    else (if a == 92 && is_byte_escape b c d then taken 4 (digit_value c * 16 + digit_value d) else taken 1 a)

-- The text behind an opening quote, read from left to right. The first quote that no escape takes ends it.
abbrev pub quoted : List ℕ → Option Quoted
quoted [] = None
quoted (a ∷ []) = if a == 34 then Some (record { content = []; length = 1 }) else None
quoted (a ∷ (b ∷ [])) =
    if a == 34 then Some (record { content = []; length = 1 })
    else (if is_pair a b then None else put_byte 1 a (quoted (b ∷ [])))
quoted (a ∷ (b ∷ (c ∷ []))) =
    if a == 34 then Some (record { content = []; length = 1 })
    else (if is_pair a b then put_byte 2 b (quoted (c ∷ [])) else put_byte 1 a (quoted (b ∷ (c ∷ []))))
quoted (a ∷ (b ∷ (c ∷ (d ∷ rest)))) =
    if a == 34 then Some (record { content = []; length = 1 })
    else (if is_pair a b then put_byte 2 b (quoted (c ∷ (d ∷ rest)))
    else (if a == 92 && is_byte_escape b c d then put_byte 4 (digit_value c * 16 + digit_value d) (quoted rest)
    else put_byte 1 a (quoted (b ∷ (c ∷ (d ∷ rest))))))

-- A text that nothing ends goes to the end of the query, and is read as no literal.
abbrev pub text_piece : List ℕ → Option Quoted → Piece
text_piece rest None = record { length = 1 + length rest; lexeme = lexeme.Bad }
text_piece rest (Some text) = record { length = 1 + text.length; lexeme = lexeme.Literal (Of (Text text.content)) }

-- A word is an optional `&`, then a longest run of word bytes.
abbrev pub word_length : List ℕ → ℕ
word_length [] = 0
word_length (b ∷ bs) = if b == 38 then 1 + prefix_len is_word_byte bs else prefix_len is_word_byte (b ∷ bs)

abbrev pub word_piece : List ℕ → Piece
word_piece text = record { length = word_length text; lexeme = word_lexeme (take (word_length text) text) }

abbrev pub short_piece : Lexeme → Piece
short_piece lexeme = record { length = 1; lexeme = lexeme }

abbrev pub double_piece : Lexeme → Piece
double_piece lexeme = record { length = 2; lexeme = lexeme }

-- the next byte is this one
abbrev pub is_next : ℕ → List ℕ → Bool
is_next byte [] = false
is_next byte (b ∷ bs) = b == byte

-- The longest token that a text begins with, which does not begin with a blank. A byte of no token is a piece of its own.
unfoldable pub piece_of : ℕ → List ℕ → Piece
piece_of b rest =
    if b == 61 then (if is_next 61 rest then double_piece (lexeme.Rel Eq) else short_piece lexeme.Unknown)
    else (if b == 33 then (if is_next 61 rest then double_piece (lexeme.Rel Ne) else short_piece lexeme.Not)
    else (if b == 60 then (if is_next 61 rest then double_piece (lexeme.Rel Le) else short_piece (lexeme.Rel Lt))
    else (if b == 62 then (if is_next 61 rest then double_piece (lexeme.Rel Ge) else short_piece (lexeme.Rel Gt))
    else (if b == 124 then (if is_next 124 rest then double_piece lexeme.Or else short_piece lexeme.Unknown)
    else (if b == 40 then short_piece lexeme.Open
    else (if b == 41 then short_piece lexeme.Close
    else (if b == 34 then text_piece rest (quoted rest)
    else (if b == 38 then (if is_next 38 rest then double_piece lexeme.And else word_piece (b ∷ rest))
    else (if is_word_byte b then word_piece (b ∷ rest) else short_piece lexeme.Unknown)))))))))

-- a token, and the offset at which it begins
pub record Token : Type 0 where
  pub at : ℕ
  pub lexeme : Lexeme

-- The tokens of a text that begins at an offset, up to its end, which is a token at the text's length. Each takes a byte
-- at least, so as many turns as there are bytes, and one for the end, are enough.
abbrev pub tokens_in : ℕ → ℕ → List ℕ → List Token
tokens_in zero at text = record { at = at + length text; lexeme = lexeme.End } ∷ []
tokens_in (suc turns) at [] = record { at = at; lexeme = lexeme.End } ∷ []
tokens_in (suc turns) at (b ∷ rest) =
    if is_blank b then tokens_in turns (at + 1) rest
    else record { at = at; lexeme = (piece_of b rest).lexeme }
    ∷ tokens_in turns (at + (piece_of b rest).length) (drop (piece_of b rest).length (b ∷ rest))

abbrev pub tokens_of : List ℕ → List Token
tokens_of text = tokens_in (length text) 0 text

abbrev pub lexemes_of : List ℕ → List Lexeme
lexemes_of text = map (λ token. token.lexeme) (tokens_of text)
