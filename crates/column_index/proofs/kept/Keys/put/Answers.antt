use Rattle.column_index.proofs.KeysLemmas.{keys_unset}
use Rattle.column_index.proofs.kept.Keys.put.Goals as goal

pub returns-in-Unset-clause-stands : goal.returns-in-Unset-clause-stands
returns-in-Unset-clause-stands c = rw c.in-Unset.is (λ cells long s. keys_unset c.args.self.now cells c.args.row s)
