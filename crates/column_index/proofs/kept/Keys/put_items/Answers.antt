use Rattle.std.proofs.Common.{refl, arith}
use Rattle.column_index.proofs.KeysLemmas.{keys_items, not_buckets}
use Rattle.column_index.proofs.kept.Keys.put_items.Goals as goal

pub returns-in_default : goal.returns-in_default
returns-in_default c = record {
  made = λ kind. refl;
  stands = λ cells long s. keys_items c.args.self.now cells c.args.row c.args.items.now (not_buckets c.args.self.now c.in_default.not-Buckets) s;
  rows = omega (arith, c.requires);
}
