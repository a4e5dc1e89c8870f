use Rattle.std.proofs.Common.{Some, ap, sym}
use Rattle.std.specs.Prelude.{ℕ}
use Rattle.vast_value.specs.declared.cell.Cell.TheVariants.{One}
use Rattle.slice_index.specs.Slices.{Holds}
use Rattle.column_index.specs.Columns.{number_key}
use Rattle.column_index.proofs.CoverLemmas.{covers_put}
use Rattle.column_index.proofs.kept.Numbers.put.Goals as goal

pub returns-clause-stands : goal.returns-clause-stands
returns-clause-stands c = λ cells long s.
    covers_put (Holds c.args.self.now.index.width c.args.self.now.index.table) (Holds c.put.new.self.width c.put.new.self.table) number_key cells c.args.row (One c.args.value.now) c.number_of-key.result long
    (ap (λ (k : ℕ). Some k) (sym c.number_of-key.ensures.value)) c.in_ok-put.ensures.keys s
