-- Queries whose columns were chosen for one heading.
use Rattle.std.specs.Prelude.{◌≡◌, ℕ, ◌+◌, Bool, false, not, if◌then◌else◌, List, [], ◌∷◌, Option, None, Some, length, map, slice_get}
use Rattle.std.specs.List.{list_all, list_any}
use Rattle.vast_value.specs.declared.cell.Cell.{Cell}
use Rattle.vast_value.specs.declared.cell.Cell.TheVariants.{Unset}
use Rattle.vast_value.specs.Headings.{Field, Heading}
use Rattle.query_meaning.specs.declared.expr.Expr.{Expr}
use Rattle.query_meaning.specs.declared.expr.Test.{Test}
use Rattle.query_meaning.specs.declared.expr.Rel.{Rel}
use Rattle.query_meaning.specs.declared.expr.Literal.{Literal}
use Rattle.query_meaning.specs.declared.resolved.ResolvedTest.{ResolvedTest}
use Rattle.query_meaning.specs.declared.resolved.ResolvedTest.TheVariants.{Fixed, Columns}
use Rattle.query_meaning.specs.declared.resolved.Resolved.{Resolved, fold-Resolved}
use Rattle.query_meaning.specs.declared.resolved.Resolved.TheOpen.{Resolved-F}
use Rattle.query_meaning.specs.declared.resolved.Resolved.TheOpen as level
use Rattle.query_meaning.specs.Meaning.{holds, test_holds}
use Rattle.query_meaning.specs.Relations.{meets}

-- the places of the fields that pass, the first field's place being the number
abbrev pub columns_where : (Field → Bool) → ℕ → List Field → List ℕ
columns_where passes n [] = []
columns_where passes n (f ∷ fs) = if passes f then n ∷ columns_where passes (n + 1) fs else columns_where passes (n + 1) fs

-- a cell, if there is one, meets the relation
abbrev pub is_met_by : Rel → Literal → Option Cell → Bool
is_met_by rel literal None = false
is_met_by rel literal (Some x) = meets rel literal x

-- the first of some columns has a cell that meets the relation, or an unset one would, where there is no column
abbrev pub is_first_met : Rel → Literal → List Cell → List ℕ → Bool
is_first_met rel literal cells [] = meets rel literal Unset
is_first_met rel literal cells (n ∷ ns) = is_met_by rel literal (slice_get cells n)

-- A test on chosen columns holds where the cell of one of them meets the relation.
abbrev pub resolved_test : List Cell → ResolvedTest → Bool
resolved_test cells (Fixed b) = b
resolved_test cells (Columns columns rel literal) = list_any (λ n. is_met_by rel literal (slice_get cells n)) columns

abbrev pub resolved_level : List Cell → Resolved-F Bool → Bool
resolved_level cells (level.Test test) = resolved_test cells test
resolved_level cells (level.Not member) = not member
resolved_level cells (level.And members) = list_all (λ b. b) members
resolved_level cells (level.Or members) = list_any (λ b. b) members

abbrev pub resolved_holds : List Cell → Resolved → Bool
resolved_holds cells resolved = fold-Resolved Bool (resolved_level cells) resolved

-- a test with its columns chosen holds of a row of this heading exactly where the test does
abbrev pub IsTestOf : Heading → Test → ResolvedTest → Type 0
IsTestOf heading test resolved =
    (cells : List Cell) → length heading.fields ≡ length cells → resolved_test cells resolved ≡ test_holds test heading cells

-- a query with its columns chosen matches a row of this heading exactly where the query does
abbrev pub IsOf : Heading → Expr → Resolved → Type 0
IsOf heading expr resolved =
    (cells : List Cell) → length heading.fields ≡ length cells → resolved_holds cells resolved ≡ holds heading cells expr

-- the same of each member
abbrev pub AreOf : Heading → List Expr → List Resolved → Type 0
AreOf heading exprs resolved =
    (cells : List Cell) → length heading.fields ≡ length cells → map (resolved_holds cells) resolved ≡ map (holds heading cells) exprs
