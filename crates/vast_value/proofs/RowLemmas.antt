-- A row that is built cell by cell fits.
use Rattle.std.proofs.Common.{◌≡◌, List, [], ◌∷◌, ◌++◌, true, arith}
use Rattle.vast_value.specs.declared.cell.Cell.{Cell}
use Rattle.vast_value.specs.declared.column.Column.{Column}
use Rattle.vast_value.specs.Fit.{fits_column, fits_columns}

-- one more cell, in one more column that it fits
pub fits_push : (cs : List Column) (xs : List Cell) (c : Column) (x : Cell) → fits_columns cs xs ≡ true → fits_column c x ≡ true → fits_columns (cs ++ c ∷ []) (xs ++ x ∷ []) ≡ true
fits_push [] [] c x fits fit = grind (arith, fit)
fits_push [] (y ∷ ys) c x fits fit = cc
fits_push (d ∷ ds) [] c x fits fit = cc
fits_push (d ∷ ds) (y ∷ ys) c x fits fit = grind (arith, fits_push ds ys c x, fit, fits)
