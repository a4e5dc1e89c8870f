use Rattle.std.proofs.Common.{◌∙◌}
use Rattle.column_index.proofs.ColumnLemmas.{unset_cells, no_cells, never_nil}
use Rattle.column_index.proofs.column.ColumnIndex.nil.Goals as goal

pub returns-in_ok-unset-in-Eq : goal.returns-in_ok-unset-in-Eq
returns-in_ok-unset-in-Eq c = rw c.in-Eq.is (λ cells s. unset_cells c.in_ok-has-in-Eq.has c.in_ok-set-in-Eq.set c.in_ok-unset-in-Eq.unset cells c.in_ok-unset-in-Eq.ensures (c.in_ok-has-in-Eq.ensures ∙ s.has) (c.in_ok-set-in-Eq.ensures.cells cells s))

pub returns-in_ok-none-in_default : goal.returns-in_ok-none-in_default
returns-in_ok-none-in_default c = λ cells s.
    no_cells c.in_ok-has-in_default.has c.in_ok-none-in_default.none c.args.rel cells c.in_ok-none-in_default.ensures (c.in_ok-has-in_default.ensures ∙ s.has) (never_nil c.args.rel c.in_default.not-Eq c.in_default.not-Ne)
