use Rattle.std.proofs.Common.{◌≡◌, ℕ, ◌++◌, sym, ◌∙◌, subst}
use Rattle.bits_law.specs.Keys.{with_gap}
use Rattle.slice_index.specs.Slices.{Holds}
use Rattle.column_index.specs.Columns.{number_key}
use Rattle.column_index.proofs.CoverLemmas.{covers_append}
use Rattle.column_index.proofs.kept.Numbers.append.Goals as goal

pub returns-clause-stands : goal.returns-clause-stands
returns-clause-stands c = λ cells more long s m.
    covers_append (Holds c.args.self.index.width c.args.self.index.table) (Holds c.args.other.now.index.width c.args.other.now.index.table) (Holds c.in_ok-index-2.index.width c.in_ok-index-2.index.table) number_key cells more
    (λ held behind h k.
    let front : Holds c.in_ok-index.index.width c.in_ok-index.index.table (with_gap held c.args.rows) = c.in_ok-index.ensures.keys held h in
    let width : c.args.other.now.index.width ≡ c.args.self.index.width = c.args.other.now.wide ∙ sym c.args.self.wide in
    let width_now : c.args.other.now.index.width ≡ c.in_ok-index.index.width = width ∙ sym c.in_ok-index.ensures.width in
    let back : Holds c.in_ok-index.index.width c.args.other.now.index.table behind = subst (λ (w : ℕ). Holds w c.args.other.now.index.table behind) width_now k in
    subst (λ (n : ℕ). Holds c.in_ok-index-2.index.width c.in_ok-index-2.index.table (with_gap held n ++ behind)) (sym long)
    (c.in_ok-index-2.ensures.keys (with_gap held c.args.rows) behind front back)) s m
