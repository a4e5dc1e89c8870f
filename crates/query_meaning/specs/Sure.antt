-- Which events an index may tell to match, or not to: sure and maybe.
use Rattle.std.specs.Prelude.{◌≡◌, Bool, true, not, List}
use Rattle.std.specs.List.{list_all, list_any}
use Rattle.vast_value.specs.declared.cell.Cell.{Cell}
use Rattle.vast_value.specs.Headings.{Heading}
use Rattle.query_meaning.specs.declared.expr.Expr.{Expr, fold-Expr}
use Rattle.query_meaning.specs.declared.expr.Expr.TheOpen.{Expr-F}
use Rattle.query_meaning.specs.declared.expr.Expr.TheOpen as level
use Rattle.query_meaning.specs.declared.expr.Literal.{Literal}
use Rattle.query_meaning.specs.declared.expr.Pick.{Pick}
use Rattle.query_meaning.specs.declared.expr.Pick.TheVariants.{TypeName}
use Rattle.query_meaning.specs.declared.expr.Rel.{Rel}
use Rattle.query_meaning.specs.declared.expr.Test.{Test}
use Rattle.query_meaning.specs.Meaning.{chosen, holds}
use Rattle.query_meaning.specs.Relations.{meets}
use Rattle.query_meaning.specs.SureCells.{sure_cell, maybe_cell}

-- how a cell that a pick chooses is asked: the path is known whole
abbrev pub sure_by : Pick → Rel → Literal → Cell → Bool
sure_by TypeName rel literal x = meets rel literal x
sure_by _ rel literal x = sure_cell rel literal x

abbrev pub maybe_by : Pick → Rel → Literal → Cell → Bool
maybe_by TypeName rel literal x = meets rel literal x
maybe_by _ rel literal x = maybe_cell rel literal x

-- some chosen cell surely meets the relation
abbrev pub sure_test : Test → Heading → List Cell → Bool
sure_test test heading cells = list_any (sure_by test.pick test.rel test.literal) (chosen test.pick heading cells)

-- some chosen cell may meet it
abbrev pub maybe_test : Test → Heading → List Cell → Bool
maybe_test test heading cells = list_any (maybe_by test.pick test.rel test.literal) (chosen test.pick heading cells)

-- what is known of an expression and an event
pub record Known : Type 0 where
  pub sure : Bool
  pub maybe : Bool

-- And and or go member by member. `!` swaps: it is surely so where its member can't be, and may be so where its member
-- isn't surely.
abbrev pub level_known : Heading → List Cell → Expr-F Known → Known
level_known heading cells (level.Test test) = record { sure = sure_test test heading cells; maybe = maybe_test test heading cells }
level_known heading cells (level.Not member) = record { sure = not member.maybe; maybe = not member.sure }
level_known heading cells (level.And members) = record { sure = list_all (λ k. k.sure) members; maybe = list_all (λ k. k.maybe) members }
level_known heading cells (level.Or members) = record { sure = list_any (λ k. k.sure) members; maybe = list_any (λ k. k.maybe) members }

abbrev pub known : Heading → List Cell → Expr → Known
known heading cells expr = fold-Expr Known (level_known heading cells) expr

-- An event with this heading and these cells surely matches.
abbrev pub sure : Heading → List Cell → Expr → Bool
sure heading cells expr = (known heading cells expr).sure

-- It may match.
abbrev pub maybe : Heading → List Cell → Expr → Bool
maybe heading cells expr = (known heading cells expr).maybe

-- what is sure is so, and what is so may be
pub record Bounds (sure held maybe : Bool) : Type 0 where
  pub sure_holds : sure ≡ true → held ≡ true
  pub holds_maybe : held ≡ true → maybe ≡ true

-- what surely matches does, and what matches may
abbrev pub SureIsMatch : Expr → Type 0
SureIsMatch expr = (heading : Heading) (cells : List Cell) → Bounds (sure heading cells expr) (holds heading cells expr) (maybe heading cells expr)

-- the same of a cell
abbrev pub CellIsBounded : Rel → Literal → Cell → Type 0
CellIsBounded rel literal x = Bounds (sure_cell rel literal x) (meets rel literal x) (maybe_cell rel literal x)
