-- Why a text is no query: the leftmost fault.
use Rattle.std.specs.Prelude.{◌≡◌, ◌≢◌, ℕ, ◌≤◌, ◌<◌, Bool, true, false, if◌then◌else◌, Option, None, Some, List, [], ◌∷◌, ◌++◌, IsTrue, IsFalse, length, map}
use Rattle.query_meaning.specs.declared.expr.Test.{Test}
use Rattle.query_meaning.specs.Agreement.{agrees}
use Rattle.query_parse.specs.declared.fault.ParseEnd.{ParseEnd}
use Rattle.query_parse.specs.declared.fault.ParseEnd.TheVariants.{Fault, Memory}
use Rattle.query_parse.specs.declared.fault.QueryWhat.{QueryWhat}
use Rattle.query_parse.specs.declared.fault.QueryWhat.TheVariants.{Unexpected, BadLiteral, KindClash, TooDeep, TooLong}
use Rattle.query_parse.specs.declared.lexeme.Lexeme.{Lexeme}
use Rattle.query_parse.specs.declared.lexeme.Lexeme.TheVariants as lexeme
use Rattle.query_parse.specs.Grammar.{OrTree, or_spelled, depth_of, test_of, turned, most_open}
use Rattle.query_parse.specs.Tokens.{Token, tokens_of}

-- The grammar can go on from these tokens: some query, whatever its tests, begins with them. At most `deep` constructs
-- of it are open at once.
pub record Begins (deep : ℕ) (lexemes : List Lexeme) : Type 0 where
  pub query : OrTree
  pub more : List Lexeme
  pub spells : or_spelled query ++ lexeme.End ∷ [] ≡ lexemes ++ more
  pub within : depth_of query ≤ deep

-- the same whatever the depth
pub record Continues (lexemes : List Lexeme) : Type 0 where
  pub query : OrTree
  pub more : List Lexeme
  pub spells : or_spelled query ++ lexeme.End ∷ [] ≡ lexemes ++ more

-- three tokens in a row that are a test, in this order or turned
abbrev pub test_in : Lexeme → Lexeme → Lexeme → Option Test
test_in (lexeme.Pick pick) (lexeme.Rel rel) (lexeme.Literal literal) = Some (test_of pick rel literal)
test_in (lexeme.Literal literal) (lexeme.Rel rel) (lexeme.Pick pick) = Some (test_of pick (turned rel) literal)
test_in _ _ _ = None

-- no whole test among these tokens clashes
abbrev pub Clean : List Lexeme → Type 0
Clean lexemes =
    (before : List Lexeme) (a b c : Lexeme) (after : List Lexeme) (test : Test)
    → lexemes ≡ before ++ (a ∷ (b ∷ (c ∷ after))) → test_in a b c ≡ Some test → IsTrue (agrees test)

abbrev pub kinds_of : List Token → List Lexeme
kinds_of tokens = map (λ token. token.lexeme) tokens

abbrev pub IsOpening : Lexeme → Type 0
IsOpening lexeme.Not = Unit {0}
IsOpening lexeme.Open = Unit {0}
IsOpening _ = ⊥

-- The tokens before go on well, and the token at the place does not continue them.
pub record Stops (tokens : List Token) (at : ℕ) (P : List Lexeme → Lexeme → Type 0) : Type 0 where
  pub before : List Token
  pub token : Token
  pub after : List Token
  pub split : tokens ≡ before ++ token ∷ after
  pub place : token.at ≡ at
  pub good : Begins most_open (kinds_of before)
  pub clean : Clean (kinds_of before)
  pub is : P (kinds_of before) token.lexeme

abbrev pub IsUnexpected : List Lexeme → Lexeme → Type 0
IsUnexpected before token = (token ≢ lexeme.Bad) × ¬ Continues (before ++ token ∷ [])

abbrev pub IsBad : List Lexeme → Lexeme → Type 0
IsBad before token = token ≡ lexeme.Bad

-- a `!` or a parenthesis that the grammar takes, but that would be the 65th open
abbrev pub IsTooDeep : List Lexeme → Lexeme → Type 0
IsTooDeep before token = IsOpening token × Continues (before ++ token ∷ []) × ¬ Begins most_open (before ++ token ∷ [])

abbrev pub is_literal : Lexeme → Bool
is_literal (lexeme.Literal literal) = true
is_literal _ = false

-- the literal of a test of three tokens, which begins the test or ends it
abbrev pub literal_at : Token → Token → ℕ
literal_at first third = if is_literal first.lexeme then first.at else third.at

-- A whole test that clashes, whose literal stands at the place. The tokens before it, and it, go on well.
pub record Clashes (tokens : List Token) (at : ℕ) : Type 0 where
  pub before : List Token
  pub first : Token
  pub second : Token
  pub third : Token
  pub after : List Token
  pub test : Test
  pub split : tokens ≡ before ++ (first ∷ (second ∷ (third ∷ after)))
  pub good : Begins most_open (kinds_of (before ++ (first ∷ (second ∷ (third ∷ [])))))
  pub clean : Clean (kinds_of (before ++ (first ∷ (second ∷ []))))
  pub whole : test_in first.lexeme second.lexeme third.lexeme ≡ Some test
  pub clash : IsFalse (agrees test)
  pub place : literal_at first third ≡ at

-- the leftmost fault among tokens; at one place a bad literal stands before what is unexpected
abbrev pub FaultIn : List Token → ℕ → QueryWhat → Type 0
FaultIn tokens at Unexpected = Stops tokens at IsUnexpected
FaultIn tokens at BadLiteral = Stops tokens at IsBad
FaultIn tokens at TooDeep = Stops tokens at IsTooDeep
FaultIn tokens at KindClash = Clashes tokens at
FaultIn tokens at TooLong = ⊥

-- the most bytes of a query
abbrev pub most_bytes : ℕ
most_bytes = 65536

-- The leftmost fault of a text, and its offset. A text of more than 65,536 bytes is too long whatever it holds.
abbrev pub IsFault : List ℕ → ℕ → QueryWhat → Type 0
IsFault text at TooLong = (most_bytes < length text) × (at ≡ most_bytes)
IsFault text at what = (length text ≤ most_bytes) × FaultIn (tokens_of text) at what

-- a refusal is the leftmost fault
abbrev pub Refuses : List ℕ → ParseEnd → Type 0
Refuses text (Fault fault) = IsFault text fault.at fault.what
Refuses text Memory = Unit {0}
