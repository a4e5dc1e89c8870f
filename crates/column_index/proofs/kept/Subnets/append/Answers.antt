use Rattle.std.proofs.Common.{ℕ, ◌++◌, sym, subst}
use Rattle.bits_law.specs.Keys.{with_gap}
use Rattle.address_index.specs.Subnets.{HoldsNets}
use Rattle.column_index.specs.Columns.{subnet_key}
use Rattle.column_index.proofs.CoverLemmas.{covers_append}
use Rattle.column_index.proofs.kept.Subnets.append.Goals as goal

pub returns-clause-stands : goal.returns-clause-stands
returns-clause-stands c = λ cells more long s m.
    covers_append (HoldsNets c.args.self.index.table) (HoldsNets c.args.other.now.index.table) (HoldsNets c.in_ok-index-2.index.table) subnet_key cells more
    (λ held behind h k.
    subst (λ (n : ℕ). HoldsNets c.in_ok-index-2.index.table (with_gap held n ++ behind)) (sym long)
    (c.in_ok-index-2.ensures.keys (with_gap held c.args.rows) behind (c.in_ok-index.ensures.keys held h) k)) s m
