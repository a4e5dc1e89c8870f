-- Picked cells are those of the picked columns.
use Rattle.std.proofs.Common.{◌≡◌, ℕ, Bool, true, false, List, [], ◌∷◌, cond, map, filter, slice_get, unwrap_or, refl, ap}
use Rattle.std.specs.List.{zip}
use Rattle.vast_value.specs.declared.kind.Elem.{Elem}
use Rattle.vast_value.specs.declared.kind.Elem.TheVariants as elem
use Rattle.vast_value.specs.declared.cell.Cell.{Cell}
use Rattle.vast_value.specs.declared.cell.Cell.TheVariants as cell
use Rattle.vast_value.specs.Headings.{Field, Heading}
use Rattle.query_meaning.specs.declared.expr.Pick.{Pick}
use Rattle.query_meaning.specs.declared.expr.Pick.TheVariants.{OfKind, Named, TypeName, EventTime}
use Rattle.query_meaning.specs.Meaning.{cells_if, cells_of_kind, named_cells, is_of, first_or_unset}
use Rattle.query_meaning.specs.Picks.{is_named}
use Rattle.query_meaning.specs.Laws.{PicksByColumn}

-- one more column and cell, where the column is picked or not
one_more : (b : Bool) (f : Field) (x : Cell) (rest : List Cell) (more : List (Field × Cell)) → rest ≡ map (λ p. p.1) more
    → cells_if b x rest ≡ map (λ p. p.1) (cond b ((f, x) ∷ more) more)
one_more true f x rest more e = ap (λ (xs : List Cell). x ∷ xs) e
one_more false f x rest more e = e

of_kind : (e : Elem) (fs : List Field) (xs : List Cell) → cells_of_kind e fs xs ≡ map (λ p. p.1) (filter (λ p. is_of e p.0.kind) (zip fs xs))
of_kind e [] xs = refl
of_kind e (f ∷ fs) [] = refl
of_kind e (f ∷ fs) (x ∷ xs) = one_more (is_of e f.kind) f x (cells_of_kind e fs xs) (filter (λ p. is_of e p.0.kind) (zip fs xs)) (of_kind e fs xs)

of_name : (path name : List ℕ) (fs : List Field) (xs : List Cell) → named_cells path fs xs name ≡ map (λ p. p.1) (filter (λ p. is_named path p.0.name name) (zip fs xs))
of_name path name [] xs = refl
of_name path name (f ∷ fs) [] = refl
of_name path name (f ∷ fs) (x ∷ xs) = one_more (is_named path f.name name) f x (named_cells path fs xs name) (filter (λ p. is_named path p.0.name name) (zip fs xs)) (of_name path name fs xs)

first_time : (cells : List Cell) → first_or_unset cells ∷ [] ≡ unwrap_or (slice_get cells 0) cell.Unset ∷ []
first_time [] = refl
first_time (x ∷ xs) = refl

pub picks_by_column : (pick : Pick) (heading : Heading) (cells : List Cell) → PicksByColumn pick heading cells
picks_by_column (OfKind e) heading cells = of_kind e heading.fields cells
picks_by_column (Named name) heading cells = of_name heading.path name heading.fields cells
picks_by_column TypeName heading cells = refl
picks_by_column EventTime heading cells = first_time (cells_of_kind elem.Time heading.fields cells)
