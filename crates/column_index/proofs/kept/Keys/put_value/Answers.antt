use Rattle.std.proofs.Common.{ap}
use Rattle.column_index.proofs.KeysLemmas.{has_buckets, keys_value}
use Rattle.column_index.proofs.kept.Keys.put_value.Goals as goal

pub returns-in-Buckets-clause-stands : goal.returns-in-Buckets-clause-stands
returns-in-Buckets-clause-stands c = λ cells long s. keys_value c.args.self.now cells c.args.row c.args.value.now (ap has_buckets c.in-Buckets.is) s
