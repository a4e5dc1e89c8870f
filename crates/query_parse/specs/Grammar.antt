-- The grammar of queries, and the expression that each query stands for.
--
--     expr = conj { "||" conj }     conj = unit { "&&" unit }     unit = "!" unit | "(" expr ")" | test
--     test = pick rel literal | literal rel pick
use Rattle.std.specs.Prelude.{◌≡◌, ℕ, ◌+◌, ◌≤◌, max, Bool, ◌&&◌, List, [], ◌∷◌, ◌++◌, IsTrue}
use Rattle.query_meaning.specs.declared.expr.Expr.{Expr, roll-Expr}
use Rattle.query_meaning.specs.declared.expr.Expr.TheOpen as level
use Rattle.query_meaning.specs.declared.expr.Test.{Test}
use Rattle.query_meaning.specs.declared.expr.Pick.{Pick}
use Rattle.query_meaning.specs.declared.expr.Rel.{Rel}
use Rattle.query_meaning.specs.declared.expr.Rel.TheVariants.{Lt, Le, Gt, Ge, Within, Contains}
use Rattle.query_meaning.specs.declared.expr.Literal.{Literal}
use Rattle.query_meaning.specs.Agreement.{agrees}
use Rattle.query_parse.specs.declared.lexeme.Lexeme.{Lexeme}
use Rattle.query_parse.specs.declared.lexeme.Lexeme.TheVariants as lexeme

-- a query as it is written
mutual
  pub data UnitTree : Type 0 where
    Plain : Pick → Rel → Literal → UnitTree
    Turned : Literal → Rel → Pick → UnitTree
    Negated : UnitTree → UnitTree
    Group : OrTree → UnitTree

  pub data AndTree : Type 0 where
    Lone : UnitTree → AndTree
    Both : UnitTree → AndTree → AndTree

  pub data OrTree : Type 0 where
    Only : AndTree → OrTree
    Either : AndTree → OrTree → OrTree

-- its tokens
abbrev mutual
  pub unit_spelled : UnitTree → List Lexeme
  unit_spelled (Plain pick rel literal) = lexeme.Pick pick ∷ (lexeme.Rel rel ∷ (lexeme.Literal literal ∷ []))
  unit_spelled (Turned literal rel pick) = lexeme.Literal literal ∷ (lexeme.Rel rel ∷ (lexeme.Pick pick ∷ []))
  unit_spelled (Negated unit) = lexeme.Not ∷ unit_spelled unit
  unit_spelled (Group query) = lexeme.Open ∷ (or_spelled query ++ lexeme.Close ∷ [])

  pub and_spelled : AndTree → List Lexeme
  and_spelled (Lone unit) = unit_spelled unit
  and_spelled (Both unit more) = unit_spelled unit ++ lexeme.And ∷ and_spelled more

  pub or_spelled : OrTree → List Lexeme
  or_spelled (Only first) = and_spelled first
  or_spelled (Either first more) = and_spelled first ++ lexeme.Or ∷ or_spelled more

-- the reversed form is turned
abbrev pub turned : Rel → Rel
turned Lt = Gt
turned Le = Ge
turned Gt = Lt
turned Ge = Le
turned Within = Contains
turned Contains = Within
turned rel = rel

-- two or more members make one list, and one stands for itself
abbrev pub joined_and : List Expr → Expr
joined_and (e ∷ []) = e
joined_and members = roll-Expr (level.And members)

abbrev pub joined_or : List Expr → Expr
joined_or (e ∷ []) = e
joined_or members = roll-Expr (level.Or members)

abbrev pub test_of : Pick → Rel → Literal → Test
test_of pick rel literal = record { pick = pick; rel = rel; literal = literal }

-- the expression that it stands for; parentheses leave no node
abbrev mutual
  pub unit_expr : UnitTree → Expr
  unit_expr (Plain pick rel literal) = roll-Expr (level.Test (test_of pick rel literal))
  unit_expr (Turned literal rel pick) = roll-Expr (level.Test (test_of pick (turned rel) literal))
  unit_expr (Negated unit) = roll-Expr (level.Not (unit_expr unit))
  unit_expr (Group query) = joined_or (or_members query)

  pub and_members : AndTree → List Expr
  and_members (Lone unit) = unit_expr unit ∷ []
  and_members (Both unit more) = unit_expr unit ∷ and_members more

  pub or_members : OrTree → List Expr
  or_members (Only first) = joined_and (and_members first) ∷ []
  or_members (Either first more) = joined_and (and_members first) ∷ or_members more

abbrev pub stands_for : OrTree → Expr
stands_for query = joined_or (or_members query)

-- How many constructs are open at the deepest place: a parenthesis up to its end, and a `!` to the end of its unit.
abbrev mutual
  pub unit_depth : UnitTree → ℕ
  unit_depth (Plain pick rel literal) = 0
  unit_depth (Turned literal rel pick) = 0
  unit_depth (Negated unit) = unit_depth unit + 1
  unit_depth (Group query) = depth_of query + 1

  pub and_depth : AndTree → ℕ
  and_depth (Lone unit) = unit_depth unit
  and_depth (Both unit more) = max (unit_depth unit) (and_depth more)

  pub depth_of : OrTree → ℕ
  depth_of (Only first) = and_depth first
  depth_of (Either first more) = max (and_depth first) (depth_of more)

-- no test clashes
abbrev mutual
  pub unit_agrees : UnitTree → Bool
  unit_agrees (Plain pick rel literal) = agrees (test_of pick rel literal)
  unit_agrees (Turned literal rel pick) = agrees (test_of pick (turned rel) literal)
  unit_agrees (Negated unit) = unit_agrees unit
  unit_agrees (Group query) = all_agree query

  pub and_agrees : AndTree → Bool
  and_agrees (Lone unit) = unit_agrees unit
  and_agrees (Both unit more) = unit_agrees unit && and_agrees more

  pub all_agree : OrTree → Bool
  all_agree (Only first) = and_agrees first
  all_agree (Either first more) = and_agrees first && all_agree more

-- at most so many constructs are open at once
abbrev pub most_open : ℕ
most_open = 64

-- These tokens are a query that stands for the expression: the end comes behind it, at most 64 constructs are open at
-- once, and no test clashes.
pub record Reads (lexemes : List Lexeme) (expr : Expr) : Type 0 where
  pub query : OrTree
  pub spells : lexemes ≡ or_spelled query ++ lexeme.End ∷ []
  pub is : expr ≡ stands_for query
  pub shallow : depth_of query ≤ most_open
  pub agree : IsTrue (all_agree query)
