use Rattle.query_parse.proofs.OneFault.{one_fault}
use Rattle.query_parse.proofs.laws.faults_are_one.Goals as goal

pub returns : goal.returns
returns c = one_fault
