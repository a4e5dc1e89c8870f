use Rattle.std.proofs.Common.{◌≡◌, drop}
use Rattle.vast_value.specs.Fit.{fits_columns}
use Rattle.vast_value.proofs.fit.each_fits.Given as goal

abbrev pub invariant-loop-at : goal.invariant-loop-at
invariant-loop-at l = fits_columns (drop l.at l.columns) (drop l.at l.cells) ≡ fits_columns l.columns l.cells
