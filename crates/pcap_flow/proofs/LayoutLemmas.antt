-- Layouts by their headings.
use Rattle.std.proofs.Common.{◌≡◌, List, [], ◌∷◌, ◌++◌, None, map, refl, sym, ap, ◌∙◌, ℕ}
use Rattle.vast_value.specs.Headings.{Field, field_of, heading_fault}
use Rattle.vast_value.specs.Layouts.{layout_fault}
use Rattle.vast_value.specs.declared.column.Column.{Column}
use Rattle.vast_value.proofs.HeadingLemmas.{heading_fault-map}

pub fields_push : (cs : List Column) (c : Column) → map field_of (cs ++ c ∷ []) ≡ map field_of cs ++ field_of c ∷ []
fields_push [] c = refl
fields_push (x ∷ cs) c = ap (λ (fs : List Field). field_of x ∷ fs) (fields_push cs c)

-- a path and columns are a layout where nothing is wrong with their heading
pub layout_good : (path : List ℕ) (cs : List Column) (fields : List Field) → map field_of cs ≡ fields → heading_fault (record { path = path; fields = fields }) ≡ None
    → layout_fault path cs ≡ None
layout_good path cs fields is good =
    sym (heading_fault-map path cs) ∙ ap (λ (fs : List Field). heading_fault (record { path = path; fields = fs })) is ∙ good
