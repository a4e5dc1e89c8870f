-- A layout's heading says of the layout what its columns say.
use Rattle.std.proofs.Common.{◌≡◌, ℕ, ◌+◌, List, [], ◌∷◌, ◌++◌, map, refl, ap, sym, ◌∙◌, arith}
use Rattle.std.specs.List.{list_any}
use Rattle.std.specs.Str.{bytes_eq}
use Rattle.vast_value.specs.declared.cell.Cell.{Cell}
use Rattle.vast_value.specs.declared.column.Column.{Column}
use Rattle.vast_value.specs.Fit.{fits_columns}
use Rattle.vast_value.specs.Headings.{Field, field_of, fits_fields, field_fault, fields_fault, heading_fault}
use Rattle.vast_value.specs.Layouts.{column_fault, columns_fault, layout_fault, is_named, is_empty}

-- a row fits the columns where it fits their fields
pub fits_fields-map : (cs : List Column) (xs : List Cell) → fits_fields (map field_of cs) xs ≡ fits_columns cs xs
fits_fields-map [] [] = refl
fits_fields-map [] (x ∷ xs) = refl
fits_fields-map (c ∷ cs) [] = refl
fits_fields-map (c ∷ cs) (x ∷ xs) = grind (arith, fits_fields-map cs xs)

named-map : (name : List ℕ) (cs : List Column) → list_any (λ g. bytes_eq g.name name) (map field_of cs) ≡ is_named name cs
named-map name [] = refl
named-map name (c ∷ cs) = grind (arith, named-map name cs)

field_fault-map : (n : ℕ) (before : List Column) (c : Column) → field_fault n (map field_of before) (field_of c) ≡ column_fault n before c
field_fault-map n before c = rw (named-map c.name before) refl

map_push : (before : List Column) (c : Column) → map field_of (before ++ c ∷ []) ≡ map field_of before ++ field_of c ∷ []
map_push [] c = refl
map_push (b ∷ before) c = grind (arith, map_push before c)

fields_fault-map : (n : ℕ) (before cs : List Column) → fields_fault n (map field_of before) (map field_of cs) ≡ columns_fault n before cs
fields_fault-map n before [] = refl
fields_fault-map n before (c ∷ cs) =
    let here : field_fault n (map field_of before) (field_of c) ≡ column_fault n before c = field_fault-map n before c in
    let behind : fields_fault (n + 1) (map field_of before ++ field_of c ∷ []) (map field_of cs) ≡ columns_fault (n + 1) (before ++ c ∷ []) cs =
    ap (λ (b : List Field). fields_fault (n + 1) b (map field_of cs)) (sym (map_push before c)) ∙ fields_fault-map (n + 1) (before ++ c ∷ []) cs in
    cc

empty-map : (cs : List Column) → is_empty (map field_of cs) ≡ is_empty cs
empty-map [] = refl
empty-map (c ∷ cs) = refl

-- what keeps a path and columns from being a layout is what keeps their heading from it
pub heading_fault-map : (path : List ℕ) (cs : List Column) → heading_fault (record { path = path; fields = map field_of cs }) ≡ layout_fault path cs
unfolding layout_fault
heading_fault-map path cs =
    let none : is_empty (map field_of cs) ≡ is_empty cs = empty-map cs in
    let first : fields_fault 1 [] (map field_of cs) ≡ columns_fault 1 [] cs = fields_fault-map 1 [] cs in
    cc
