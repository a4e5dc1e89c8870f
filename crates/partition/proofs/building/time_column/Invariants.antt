use Rattle.std.proofs.Common.{◌≡◌, ◌<◌, ℕ, false, slice_index_or}
use Rattle.vast_value.specs.declared.column.Column.{Column}
use Rattle.vast_value.specs.declared.kind.Elem.TheVariants as elem
use Rattle.query_meaning.specs.Meaning.{is_of}
use Rattle.partition.proofs.building.time_column.Given as goal

abbrev pub invariant-loop-at : goal.invariant-loop-at
invariant-loop-at l = (j : ℕ) (c : Column) → j < l.at → c ≡ slice_index_or l.columns j c → is_of elem.Time c.kind ≡ false
