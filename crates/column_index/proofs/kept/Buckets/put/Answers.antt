use Rattle.std.proofs.Common.{ℕ, Some, ap, sym}
use Rattle.vast_value.specs.declared.cell.Cell.TheVariants.{Many}
use Rattle.set_index.specs.Buckets.{Holds}
use Rattle.column_index.specs.Columns.{bucket_key}
use Rattle.column_index.proofs.CoverLemmas.{covers_put}
use Rattle.column_index.proofs.kept.Buckets.put.Goals as goal

pub returns-clause-stands : goal.returns-clause-stands
returns-clause-stands c = λ cells long s.
    covers_put (Holds c.args.self.now.index.table) (Holds c.put.new.self.table) bucket_key cells c.args.row (Many c.args.items.now) c.buckets_of-key.result long
    (ap (λ (k : ℕ). Some k) (sym c.buckets_of-key.ensures)) c.in_ok-put.ensures.keys s
