-- What keeps a path and columns from being a layout.
use Rattle.std.specs.Prelude.{ℕ, ◌+◌, Bool, true, false, if◌then◌else◌, List, [], ◌∷◌, ◌++◌, Option, None, Some, nat_lt}
use Rattle.std.specs.List.{list_any}
use Rattle.std.specs.Str.{bytes_eq}
use Rattle.std.specs.Option.{option_or}
use Rattle.vast_value.specs.declared.column.Column.{Column}
use Rattle.vast_value.specs.declared.layout.BadLayout.{BadLayout}
use Rattle.vast_value.specs.declared.layout.BadLayout.TheVariants.{EmptyPath, NoColumns, TooManyColumns, EmptyName, SameName}

abbrev pub is_empty : {X : Type 0} → List X → Bool
is_empty [] = true
is_empty (x ∷ xs) = false

-- a column of these has the name
abbrev pub is_named : List ℕ → List Column → Bool
is_named name columns = list_any (λ c. bytes_eq c.name name) columns

-- the most columns of a layout
abbrev pub most_columns : ℕ
most_columns = 256

-- what is wrong with the name of the n-th column, from 1, where an earlier column has it or none does
abbrev pub name_fault : ℕ → List ℕ → Bool → Option BadLayout
name_fault n name taken =
    if nat_lt most_columns n then Some TooManyColumns
    else (if is_empty name then Some (EmptyName n) else (if taken then Some (SameName n) else None))

-- what is wrong with the n-th column, from 1, which follows these
abbrev pub column_fault : ℕ → List Column → Column → Option BadLayout
column_fault n before c = name_fault n c.name (is_named c.name before)

-- what is wrong with the first bad one of these columns, the first of which is the n-th, from 1
abbrev pub columns_fault : ℕ → List Column → List Column → Option BadLayout
columns_fault n before [] = None
columns_fault n before (c ∷ cs) = option_or (column_fault n before c) (columns_fault (n + 1) (before ++ c ∷ []) cs)

-- Each layout in each crate has a proof that nothing is wrong with it: this word stays closed there.
unfoldable pub layout_fault : List ℕ → List Column → Option BadLayout
layout_fault path columns =
    if is_empty path then Some EmptyPath
    else (if is_empty columns then Some NoColumns else columns_fault 1 [] columns)
