-- Reading tokens from left to right. That what is so read is in the grammar, that nothing in it is refused, and that a
-- refusal is the leftmost fault, is proved of these words. The public call names one of them, `parsed`, which is the grammar
-- by a law.
use Rattle.std.specs.Prelude.{ℕ, zero, suc, ◌+◌, ◌-◌, Bool, true, false, ◌&&◌, if◌then◌else◌, List, [], ◌∷◌, ◌++◌, Option, None, Some, Result, Ok, Err, length, drop, nat_lt, ◌≡◌, ◌<◌, ◌≤◌}
use Rattle.std.specs.Option.{option_map}
use Rattle.query_meaning.specs.declared.expr.Expr.{Expr, roll-Expr}
use Rattle.query_meaning.specs.declared.expr.Expr.TheOpen as level
use Rattle.query_meaning.specs.declared.expr.Test.{Test}
use Rattle.query_meaning.specs.declared.expr.Pick.{Pick}
use Rattle.query_meaning.specs.declared.expr.Rel.{Rel}
use Rattle.query_meaning.specs.declared.expr.Literal.{Literal}
use Rattle.query_meaning.specs.Agreement.{agrees}
use Rattle.query_parse.specs.declared.fault.QueryFault.{QueryFault}
use Rattle.query_parse.specs.declared.fault.ParseEnd.{ParseEnd}
use Rattle.query_parse.specs.declared.fault.ParseEnd.TheVariants.{Fault, Memory}
use Rattle.query_parse.specs.declared.fault.QueryWhat.{QueryWhat}
use Rattle.query_parse.specs.declared.fault.QueryWhat.TheVariants.{Unexpected, BadLiteral, KindClash, TooDeep, TooLong}
use Rattle.query_parse.specs.declared.lexeme.Lexeme.{Lexeme}
use Rattle.query_parse.specs.declared.lexeme.Lexeme.TheVariants as lexeme
use Rattle.query_parse.specs.declared.parser.Group.{Group}
use Rattle.query_parse.specs.declared.parser.Parser.{Parser}
use Rattle.query_parse.specs.declared.parser.Phase.{Phase}
use Rattle.query_parse.specs.declared.parser.Phase.TheVariants.{Start, Picked, Related, Valued, Reversed, Whole}
use Rattle.query_parse.specs.Grammar.{joined_and, joined_or, test_of, turned, most_open}
use Rattle.query_parse.specs.Faults.{most_bytes}
use Rattle.query_parse.specs.Tokens.{Token, tokens_in, tokens_of}

abbrev pub fresh : Group
fresh = record { ors = []; ands = []; nots = 0 }

abbrev pub start : Parser
start = record { outer = []; group = fresh; depth = 0; phase = Start }

-- the expression behind so many `!`
abbrev pub negated : ℕ → Expr → Expr
negated zero e = e
negated (suc n) e = roll-Expr (level.Not (negated n e))

-- what a group stands for when it ends
abbrev pub group_expr : Group → Expr
group_expr g = joined_or (g.ors ++ joined_and g.ands ∷ [])

-- a unit is whole, and so are the `!` before it
abbrev pub with_unit : Group → Expr → Group
with_unit g e = record { ors = g.ors; ands = g.ands ++ negated g.nots e ∷ []; nots = 0 }

abbrev pub behind_unit : List Group → Group → ℕ → Expr → Parser
behind_unit outer g depth e = record { outer = outer; group = with_unit g e; depth = depth - g.nots; phase = Whole }

abbrev pub in_phase : Parser → Phase → Parser
in_phase p phase = record { outer = p.outer; group = p.group; depth = p.depth; phase = phase }

abbrev pub fault : ℕ → QueryWhat → Result Parser QueryFault
fault at what = Err (record { at = at; what = what })

-- a token that can't continue
abbrev pub refused : ℕ → Lexeme → Result Parser QueryFault
refused at lexeme.Bad = fault at BadLiteral
refused at _ = fault at Unexpected

abbrev pub with_test : Parser → ℕ → Test → Result Parser QueryFault
with_test p at test =
    if agrees test then Ok (behind_unit p.outer p.group p.depth (roll-Expr (level.Test test))) else fault at KindClash

-- fewer constructs are open than may be
abbrev pub may_open : Parser → Bool
may_open p = nat_lt p.depth most_open && nat_lt p.group.nots most_open

abbrev pub not_opened : Parser → ℕ → Result Parser QueryFault
not_opened p at =
    if may_open p
    then Ok (record { outer = p.outer; group = record { ors = p.group.ors; ands = p.group.ands; nots = p.group.nots + 1 }; depth = p.depth + 1; phase = Start })
    else fault at TooDeep

abbrev pub group_opened : Parser → ℕ → Result Parser QueryFault
group_opened p at =
    if may_open p
    then Ok (record { outer = p.outer ++ p.group ∷ []; group = fresh; depth = p.depth + 1; phase = Start })
    else fault at TooDeep

abbrev pub unit_next : Parser → ℕ → Lexeme → Result Parser QueryFault
unit_next p at lexeme.Not = not_opened p at
unit_next p at lexeme.Open = group_opened p at
unit_next p at (lexeme.Pick pick) = Ok (in_phase p (Picked pick))
unit_next p at (lexeme.Literal literal) = Ok (in_phase p (Valued literal at))
unit_next p at other = refused at other

abbrev pub relation_next : Parser → Pick → ℕ → Lexeme → Result Parser QueryFault
relation_next p pick at (lexeme.Rel rel) = Ok (in_phase p (Related pick rel))
relation_next p pick at other = refused at other

abbrev pub literal_next : Parser → Pick → Rel → ℕ → Lexeme → Result Parser QueryFault
literal_next p pick rel at (lexeme.Literal literal) = with_test p at (test_of pick rel literal)
literal_next p pick rel at other = refused at other

abbrev pub turned_next : Parser → Literal → ℕ → ℕ → Lexeme → Result Parser QueryFault
turned_next p literal from at (lexeme.Rel rel) = Ok (in_phase p (Reversed literal from rel))
turned_next p literal from at other = refused at other

abbrev pub pick_next : Parser → Literal → ℕ → Rel → ℕ → Lexeme → Result Parser QueryFault
pick_next p literal from rel at (lexeme.Pick pick) = with_test p from (test_of pick (turned rel) literal)
pick_next p literal from rel at other = refused at other

-- the groups before the last, and the last
abbrev pub split_last : List Group → Option (List Group × Group)
split_last [] = None
split_last (g ∷ []) = Some ([], g)
split_last (g ∷ (h ∷ more)) = option_map (λ s. (g ∷ s.0, s.1)) (split_last (h ∷ more))

abbrev pub closed : Parser → ℕ → Option (List Group × Group) → Result Parser QueryFault
closed p at None = fault at Unexpected
closed p at (Some s) = Ok (behind_unit s.0 s.1 (p.depth - 1) (group_expr p.group))

abbrev pub whole_next : Parser → ℕ → Lexeme → Result Parser QueryFault
whole_next p at lexeme.And = Ok (in_phase p Start)
whole_next p at lexeme.Or =
    Ok (record { outer = p.outer; group = record { ors = p.group.ors ++ joined_and p.group.ands ∷ []; ands = []; nots = 0 }; depth = p.depth; phase = Start })
whole_next p at lexeme.Close = closed p at (split_last p.outer)
whole_next p at other = refused at other

-- the next token of a text, which is not the end
abbrev pub next : Parser → Phase → ℕ → Lexeme → Result Parser QueryFault
next p Start at lexeme = unit_next p at lexeme
next p (Picked pick) at lexeme = relation_next p pick at lexeme
next p (Related pick rel) at lexeme = literal_next p pick rel at lexeme
next p (Valued literal from) at lexeme = turned_next p literal from at lexeme
next p (Reversed literal from rel) at lexeme = pick_next p literal from rel at lexeme
next p Whole at lexeme = whole_next p at lexeme

abbrev pub end_fault : ℕ → Result Expr QueryFault
end_fault at = Err (record { at = at; what = Unexpected })

abbrev pub finished_in : List Group → Group → ℕ → Result Expr QueryFault
finished_in [] g at = Ok (group_expr g)
finished_in (outer ∷ more) g at = end_fault at

-- the end of a text
abbrev pub finished : Parser → Phase → ℕ → Result Expr QueryFault
finished p Whole at = finished_in p.outer p.group at
finished p _ at = end_fault at

abbrev pub is_end : Lexeme → Bool
is_end lexeme.End = true
is_end _ = false

abbrev pub and_then : Result Parser QueryFault → (Parser → Result Expr QueryFault) → Result Expr QueryFault
and_then (Ok p) go = go p
and_then (Err e) go = Err e

abbrev pub run : Parser → List Token → Result Expr QueryFault
run p [] = end_fault 0
run p (t ∷ ts) =
    if is_end t.lexeme then finished p p.phase t.at else and_then (next p p.phase t.at t.lexeme) (λ q. run q ts)

-- A call on a parser went on as the reading says, or refused with the reading's fault. Want of memory may come instead.
abbrev pub Goes : {T : Type 0} → Result Parser QueryFault → Parser → Result T ParseEnd → Type 0
Goes reading now (Ok done) = reading ≡ Ok now
Goes reading now (Err (Fault f)) = reading ≡ Err f
Goes reading now (Err Memory) = Unit {0}

-- what was read is the reading's expression or its fault, but that want of memory may come instead
abbrev pub Reached : Result Expr QueryFault → Result Expr ParseEnd → Type 0
Reached reading (Ok e) = reading ≡ Ok e
Reached reading (Err (Fault f)) = reading ≡ Err f
Reached reading (Err Memory) = Unit {0}

-- A blank or a token was read, and its bytes are behind: what the rest gives is what the whole gives.
pub record Moves (old new : Parser) (at : ℕ) (text : List ℕ) (count : ℕ) : Type 0 where
  pub some : 0 < count
  pub within : count ≤ length text
  pub is : (turns : ℕ) → run old (tokens_in (suc turns) at text) ≡ run new (tokens_in turns (at + count) (drop count text))

abbrev pub ReadsOn : Parser → Parser → ℕ → List ℕ → Result ℕ ParseEnd → Type 0
ReadsOn old new at text (Ok count) = Moves old new at text count
ReadsOn old new at text (Err (Fault f)) = (turns : ℕ) → run old (tokens_in (suc turns) at text) ≡ Err f
ReadsOn old new at text (Err Memory) = Unit {0}

-- What a text parses to: the expression that the grammar reads, or the leftmost fault.
unfoldable pub parsed : List ℕ → Result Expr QueryFault
parsed text = if nat_lt most_bytes (length text) then Err (record { at = most_bytes; what = TooLong }) else run start (tokens_of text)

abbrev pub Parses : List ℕ → Result Expr ParseEnd → Type 0
Parses text result = Reached (parsed text) result
