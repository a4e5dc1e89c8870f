-- The cells so far were written.
use Rattle.std.proofs.Common.{◌≡◌, ◌++◌, ◌∷◌, take}
use Rattle.std.specs.List.{flat_map}
use Rattle.value_text.specs.Writing.{cell_text}
use Rattle.importer.proofs.place.write_made.Given as goal

abbrev pub invariant-loop-cell : goal.invariant-loop-cell
invariant-loop-cell l = l.out ≡ l.initial.out ++ flat_map (λ x. 9 ∷ cell_text x) (take l.cell-index l.row)
