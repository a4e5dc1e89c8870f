use Rattle.std.proofs.Common.{◌≡◌, ℕ, List, ◌++◌, sym, ◌∙◌, subst}
use Rattle.bits_law.specs.Keys.{with_gap}
use Rattle.digit_index.specs.declared.coding.Coding.{Coding}
use Rattle.digit_index.specs.Digits.{Holds}
use Rattle.column_index.specs.Columns.{flag_key}
use Rattle.column_index.proofs.CoverLemmas.{covers_append}
use Rattle.column_index.proofs.kept.Flags.append.Goals as goal

pub returns-clause-stands : goal.returns-clause-stands
returns-clause-stands c = λ cells more long s m.
    covers_append (Holds c.args.self.index.coding c.args.self.index.bases c.args.self.index.table) (Holds c.args.other.now.index.coding c.args.other.now.index.bases c.args.other.now.index.table) (Holds c.in_ok-index-2.index.coding c.in_ok-index-2.index.bases c.in_ok-index-2.index.table) flag_key cells more
    (λ held behind h k.
    let coding : c.args.other.now.index.coding ≡ c.args.self.index.coding = c.args.other.now.coding ∙ sym c.args.self.coding in
    let bases : c.args.other.now.index.bases ≡ c.args.self.index.bases = c.args.other.now.bases ∙ sym c.args.self.bases in
    let coded : Holds c.in_ok-index.index.coding c.args.other.now.index.bases c.args.other.now.index.table behind = subst (λ (x : Coding). Holds x c.args.other.now.index.bases c.args.other.now.index.table behind) (coding ∙ sym c.in_ok-index.ensures.coding) k in
    let back : Holds c.in_ok-index.index.coding c.in_ok-index.index.bases c.args.other.now.index.table behind = subst (λ (xs : List ℕ). Holds c.in_ok-index.index.coding xs c.args.other.now.index.table behind) (bases ∙ sym c.in_ok-index.ensures.bases) coded in
    subst (λ (n : ℕ). Holds c.in_ok-index-2.index.coding c.in_ok-index-2.index.bases c.in_ok-index-2.index.table (with_gap held n ++ behind)) (sym long)
    (c.in_ok-index-2.ensures.keys (with_gap held c.args.rows) behind (c.in_ok-index.ensures.keys held h) back)) s m
