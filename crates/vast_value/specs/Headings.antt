-- What a layout says: its path, and the name and kind of each column. A layout keeps proofs besides, which no reader of
-- its heading needs.
use Rattle.std.specs.Prelude.{ℕ, ◌+◌, Bool, ◌&&◌, if◌then◌else◌, List, [], ◌∷◌, ◌++◌, Option, None, Some, map}
use Rattle.std.specs.List.{list_any}
use Rattle.std.specs.Cmp.Lexicographic.{pointwise}
use Rattle.std.specs.Option.{option_or}
use Rattle.std.specs.Str.{bytes_eq}
use Rattle.vast_value.specs.declared.kind.Kind.{Kind}
use Rattle.vast_value.specs.declared.cell.Cell.{Cell}
use Rattle.vast_value.specs.declared.column.Column.{Column}
use Rattle.vast_value.specs.declared.layout.Layout.{Layout}
use Rattle.vast_value.specs.declared.layout.BadLayout.{BadLayout}
use Rattle.vast_value.specs.declared.layout.BadLayout.TheVariants.{EmptyPath, NoColumns}
use Rattle.vast_value.specs.Fit.{is_small}
use Rattle.vast_value.specs.Kinds.{has_kind}
use Rattle.vast_value.specs.Layouts.{is_empty, name_fault}

pub record Field : Type 0 where
  pub name : List ℕ
  pub kind : Kind

pub record Heading : Type 0 where
  pub path : List ℕ
  pub fields : List Field

abbrev pub field_of : Column → Field
field_of c = record { name = c.name; kind = c.kind }

abbrev pub heading_of : Layout → Heading
heading_of l = record { path = l.path; fields = map field_of l.columns }

abbrev pub fits_field : Field → Cell → Bool
fits_field f x = has_kind x f.kind && is_small x

-- as many cells as fields, and each cell fits its field
abbrev pub fits_fields : List Field → List Cell → Bool
fits_fields = pointwise fits_field

abbrev pub field_fault : ℕ → List Field → Field → Option BadLayout
field_fault n before f = name_fault n f.name (list_any (λ g. bytes_eq g.name f.name) before)

abbrev pub fields_fault : ℕ → List Field → List Field → Option BadLayout
fields_fault n before [] = None
fields_fault n before (f ∷ fs) = option_or (field_fault n before f) (fields_fault (n + 1) (before ++ f ∷ []) fs)

-- what keeps a heading from being a layout's
abbrev pub heading_fault : Heading → Option BadLayout
heading_fault h =
    if is_empty h.path then Some EmptyPath
    else (if is_empty h.fields then Some NoColumns else fields_fault 1 [] h.fields)
