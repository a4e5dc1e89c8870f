use Rattle.query_meaning.proofs.AgreementLemmas.{clash_holds_of_nothing}
use Rattle.query_meaning.proofs.laws.clash_holds_of_nothing.Goals as goal

pub returns : goal.returns
returns c = clash_holds_of_nothing c.args.test.now c.args.cell.now
