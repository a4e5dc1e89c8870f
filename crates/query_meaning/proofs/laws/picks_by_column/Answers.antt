use Rattle.vast_value.specs.Headings.{heading_of}
use Rattle.query_meaning.proofs.PickLaws.{picks_by_column}
use Rattle.query_meaning.proofs.laws.picks_by_column.Goals as goal

pub returns : goal.returns
returns c = picks_by_column c.args.pick.now (heading_of c.args.layout.now) c.args.row.now
