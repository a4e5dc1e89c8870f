-- A text between quotes, each byte of it as `\xHH`, is read as it.
use Rattle.std.proofs.Common.{◌≡◌, ℕ, zero, suc, ◌+◌, ◌*◌, ◌/◌, ◌%◌, ◌<◌, true, List, [], ◌∷◌, ◌++◌, Some, length, drop, refl, ap, ◌∙◌, arith, append_assoc}
use Rattle.std.specs.List.{list_all, flat_map}
use Rattle.std.proofs.lemmas.Bool.{ltb-true}
use Rattle.std.proofs.Math.ListN.{drop_of_length-le}
use Rattle.vast_value.specs.Fit.{is_byte}
use Rattle.vast_value.specs.declared.value.Value.TheVariants as value
use Rattle.value_text.specs.Writing.{byte_escape}
use Rattle.value_writing.proofs.WritingTexts.{digit_is, digit_again}
use Rattle.query_meaning.specs.declared.expr.Literal.TheVariants.{Of}
use Rattle.query_parse.specs.declared.lexeme.Lexeme.{Lexeme}
use Rattle.query_parse.specs.declared.lexeme.Lexeme.TheVariants as lexeme
use Rattle.query_parse.specs.declared.texts.Quoted.{Quoted}
use Rattle.query_parse.specs.declared.tokens.Piece.{Piece}
use Rattle.query_parse.specs.Faults.{kinds_of}
use Rattle.query_parse.specs.Laws.{quoted_text, TextsAreRead}
use Rattle.query_parse.specs.Tokens.{piece_of, put_byte, quoted, text_piece, tokens_in}
use Rattle.query_parse.proofs.WordLemmas.{both, piece, IsPiece}

abbrev escapes : List ℕ → List ℕ
escapes t = flat_map byte_escape t

abbrev content : List ℕ → ℕ → Quoted
content t n = record { content = t; length = n }

escape_read : (b : ℕ) (rest : List ℕ) → b < 256 → quoted (byte_escape b ++ rest) ≡ put_byte 4 b (quoted rest)
escape_read b rest h =
    let high : b / 16 < 16 = omega arith in
    let low : b % 16 < 16 = omega arith in
    let whole : b / 16 * 16 + b % 16 ≡ b = omega arith in
    rw (digit_is (b / 16) high, digit_is (b % 16) low, digit_again (b / 16) high, digit_again (b % 16) low, whole) refl

quote_read : (more : List ℕ) → quoted (34 ∷ more) ≡ Some (content [] 1)
quote_read [] = refl
quote_read (a ∷ []) = refl
quote_read (a ∷ (b ∷ [])) = refl
quote_read (a ∷ (b ∷ (c ∷ rest))) = refl

pub escapes_read : (t more : List ℕ) → list_all is_byte t ≡ true → quoted (escapes t ++ 34 ∷ more) ≡ Some (content t (length (escapes t ++ 34 ∷ [])))
escapes_read [] more h = quote_read more
escapes_read (b ∷ t) more h =
    let a = both (is_byte b) (list_all is_byte t) h in
    let long : 4 + length (escapes t ++ 34 ∷ []) ≡ length (escapes (b ∷ t) ++ 34 ∷ []) = omega arith in
    escape_read b (escapes t ++ 34 ∷ more) (ltb-true b 256 a.0)
    ∙ (ap (put_byte 4 b) (escapes_read t more a.1)
    ∙ ap (λ (n : ℕ). Some (content (b ∷ t) n)) long)

-- with its quotes, whatever stands behind
abbrev token : List ℕ → Lexeme
token t = lexeme.Literal (Of (value.Text t))

quoted_is : (t more : List ℕ) → list_all is_byte t ≡ true → piece_of 34 (escapes t ++ 34 ∷ more) ≡ piece (length (quoted_text t)) (token t)
unfolding piece_of
quoted_is t more h =
    let long : 1 + length (escapes t ++ 34 ∷ []) ≡ length (quoted_text t) = omega arith in
    ap (text_piece (escapes t ++ 34 ∷ more)) (escapes_read t more h) ∙ ap (λ (n : ℕ). piece n (token t)) long

pub text_is : (t : List ℕ) → list_all is_byte t ≡ true → IsPiece (quoted_text t) (token t)
text_is t h = (refl, λ more. ap (piece_of 34) (append_assoc (escapes t) (34 ∷ []) (32 ∷ more)) ∙ quoted_is t (32 ∷ more) h)

nothing_left : (turns at : ℕ) → kinds_of (tokens_in turns at []) ≡ lexeme.End ∷ []
nothing_left zero at = refl
nothing_left (suc turns) at = refl

abbrev behind : ℕ → List ℕ → Piece → List Lexeme
behind turns text p = p.lexeme ∷ kinds_of (tokens_in turns (0 + p.length) (drop p.length text))

pub texts_are_read : TextsAreRead
texts_are_read t h =
    let text : List ℕ = quoted_text t in
    let turns : ℕ = length (escapes t ++ 34 ∷ []) in
    let all : drop (length text) text ≡ [] = drop_of_length-le text {i = length text} (omega arith) in
    ap (behind turns text) (quoted_is t [] h)
    ∙ (ap (λ (rest : List ℕ). token t ∷ kinds_of (tokens_in turns (0 + length text) rest)) all
    ∙ ap (λ (rest : List Lexeme). token t ∷ rest) (nothing_left turns (0 + length text)))
