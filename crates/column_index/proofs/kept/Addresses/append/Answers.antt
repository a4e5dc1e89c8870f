use Rattle.std.proofs.Common.{ℕ, ◌++◌, sym, subst}
use Rattle.bits_law.specs.Keys.{with_gap}
use Rattle.address_index.specs.Addresses.{Holds}
use Rattle.column_index.specs.Columns.{address_key}
use Rattle.column_index.proofs.CoverLemmas.{covers_append}
use Rattle.column_index.proofs.kept.Addresses.append.Goals as goal

pub returns-clause-stands : goal.returns-clause-stands
returns-clause-stands c = λ cells more long s m.
    covers_append (Holds c.args.self.index.table) (Holds c.args.other.now.index.table) (Holds c.in_ok-index-2.index.table) address_key cells more
    (λ held behind h k.
    subst (λ (n : ℕ). Holds c.in_ok-index-2.index.table (with_gap held n ++ behind)) (sym long)
    (c.in_ok-index-2.ensures.keys (with_gap held c.args.rows) behind (c.in_ok-index.ensures.keys held h) k)) s m
