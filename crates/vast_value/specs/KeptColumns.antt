-- The columns that a layout keeps, whoever shares them.
use Rattle.std.specs.Prelude.{List}
use Rattle.std.specs.Arc.{arc_value}
use Rattle.vast_value.specs.declared.column.Column.{Column}
use Rattle.vast_value.specs.declared.kept_columns.Keeping.{Keeping}
use Rattle.vast_value.specs.declared.kept_columns.Keeping.TheVariants.{Own, Common}

abbrev pub columns_kept : Keeping → List Column
columns_kept (Own columns) = columns
columns_kept (Common columns) = arc_value columns
