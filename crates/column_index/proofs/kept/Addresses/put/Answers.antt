use Rattle.std.proofs.Common.{ℕ, Some, ap, sym}
use Rattle.vast_value.specs.declared.cell.Cell.TheVariants.{One}
use Rattle.address_index.specs.Addresses.{Holds}
use Rattle.column_index.specs.Columns.{address_key}
use Rattle.column_index.proofs.CoverLemmas.{covers_put}
use Rattle.column_index.proofs.kept.Addresses.put.Goals as goal

pub returns-clause-stands : goal.returns-clause-stands
returns-clause-stands c = λ cells long s.
    covers_put (Holds c.args.self.now.index.table) (Holds c.put.new.self.table) address_key cells c.args.row (One c.args.value.now) c.address_of-key.result long
    (ap (λ (k : ℕ). Some k) (sym c.address_of-key.ensures)) c.in_ok-put.ensures.keys s
