use Rattle.std.proofs.Common.{ℕ, List, Some, ap, sym}
use Rattle.vast_value.specs.declared.cell.Cell.TheVariants.{One}
use Rattle.string_index.specs.Texts.{Holds}
use Rattle.column_index.specs.Columns.{text_key}
use Rattle.column_index.proofs.CoverLemmas.{covers_put}
use Rattle.column_index.proofs.kept.Texts.put.Goals as goal

pub returns-clause-stands : goal.returns-clause-stands
returns-clause-stands c = λ cells long s.
    covers_put (Holds c.args.self.now.index.table) (Holds c.put.new.self.table) text_key cells c.args.row (One c.args.value.now) c.text_of-key.result.now long
    (ap (λ (k : List ℕ). Some k) (sym c.text_of-key.ensures)) c.in_ok-put.ensures.keys s
