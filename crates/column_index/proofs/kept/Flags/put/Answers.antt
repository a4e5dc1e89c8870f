use Rattle.std.proofs.Common.{ℕ, Some, ap, sym}
use Rattle.vast_value.specs.declared.cell.Cell.TheVariants.{One}
use Rattle.digit_index.specs.Digits.{Holds}
use Rattle.column_index.specs.Columns.{flag_key}
use Rattle.column_index.proofs.CoverLemmas.{covers_put}
use Rattle.column_index.proofs.kept.Flags.put.Goals as goal

pub returns-clause-stands : goal.returns-clause-stands
returns-clause-stands c = λ cells long s.
    covers_put (Holds c.args.self.now.index.coding c.args.self.now.index.bases c.args.self.now.index.table) (Holds c.put.new.self.coding c.put.new.self.bases c.put.new.self.table) flag_key cells c.args.row (One c.args.value.now) c.flag_of-key.result long
    (ap (λ (k : ℕ). Some k) (sym c.flag_of-key.ensures.value)) c.in_ok-put.ensures.keys s
