use Rattle.partition.proofs.BuildLemmas.{column_has}
use Rattle.partition.proofs.building.placed_column.Goals as goal

pub column_of-requires : goal.column_of-requires
column_of-requires c = column_has c.args.layout.now.columns c.args.rows.now c.args.at c.args.column.now c.requires.fit c.requires.there c.requires.column
