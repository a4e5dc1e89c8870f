-- Cells put behind the cells of a row.
use Rattle.std.proofs.Common.{◌≡◌, ℕ, Bool, true, false, if◌then◌else◌, List, [], ◌∷◌, ◌++◌, refl, ap, ◌∙◌}
use Rattle.std.proofs.lemmas.List.Folds.{list_all-append}
use Rattle.std.specs.List.{list_all}
use Rattle.std.specs.Str.{bytes_eq}
use Rattle.vast_value.specs.declared.cell.Cell.{Cell}
use Rattle.vast_value.specs.Fit.{is_small, is_short}

pub one_more : (row new : List Cell) (x : Cell) → new ≡ row ++ x ∷ [] → list_all is_small row ≡ true → is_small x ≡ true → list_all is_small new ≡ true
one_more row new x put all one = ap (list_all is_small) put ∙ list_all-append is_small row (x ∷ []) ∙ rw (all, one) refl

short_by : (t : Bool) (text : List ℕ) → is_short text ≡ true → is_short (if t then [] else text) ≡ true
short_by true text h = refl
short_by false text h = h

-- the empty text or the raw bytes
pub short_picked : (raw empty text : List ℕ) → text ≡ (if bytes_eq raw empty then [] else raw) → is_short raw ≡ true → is_short text ≡ true
short_picked raw empty text is short = ap is_short is ∙ short_by (bytes_eq raw empty) raw short
