use Rattle.std.proofs.Common.{◌≡◌, ℕ, List, ◌++◌, sym, ◌∙◌, subst}
use Rattle.bits_law.specs.Keys.{with_gap}
use Rattle.digit_index.specs.declared.coding.Coding.{Coding}
use Rattle.digit_index.specs.Digits.{Holds}
use Rattle.column_index.specs.Columns.{port_key, transport_key}
use Rattle.column_index.proofs.CoverLemmas.{covers_append}
use Rattle.column_index.proofs.kept.Ports.append.Goals as goal

pub returns-clause-stands : goal.returns-clause-stands
returns-clause-stands c = λ cells more long s m. record {
  numbers = covers_append (Holds c.args.self.numbers.coding c.args.self.numbers.bases c.args.self.numbers.table) (Holds c.args.other.now.numbers.coding c.args.other.now.numbers.bases c.args.other.now.numbers.table) (Holds c.in_ok-numbers-2.numbers.coding c.in_ok-numbers-2.numbers.bases c.in_ok-numbers-2.numbers.table) port_key cells more
      (λ held behind h k.
      let coding : c.args.other.now.numbers.coding ≡ c.args.self.numbers.coding = c.args.other.now.coding ∙ sym c.args.self.coding in
      let bases : c.args.other.now.numbers.bases ≡ c.args.self.numbers.bases = c.args.other.now.bases ∙ sym c.args.self.bases in
      let coded : Holds c.in_ok-numbers.numbers.coding c.args.other.now.numbers.bases c.args.other.now.numbers.table behind = subst (λ (x : Coding). Holds x c.args.other.now.numbers.bases c.args.other.now.numbers.table behind) (coding ∙ sym c.in_ok-numbers.ensures.coding) k in
      let back : Holds c.in_ok-numbers.numbers.coding c.in_ok-numbers.numbers.bases c.args.other.now.numbers.table behind = subst (λ (xs : List ℕ). Holds c.in_ok-numbers.numbers.coding xs c.args.other.now.numbers.table behind) (bases ∙ sym c.in_ok-numbers.ensures.bases) coded in
      subst (λ (n : ℕ). Holds c.in_ok-numbers-2.numbers.coding c.in_ok-numbers-2.numbers.bases c.in_ok-numbers-2.numbers.table (with_gap held n ++ behind)) (sym long)
      (c.in_ok-numbers-2.ensures.keys (with_gap held c.args.rows) behind (c.in_ok-numbers.ensures.keys held h) back)) s.numbers m.numbers;
  transports = covers_append (Holds c.args.self.transports.coding c.args.self.transports.bases c.args.self.transports.table) (Holds c.args.other.now.transports.coding c.args.other.now.transports.bases c.args.other.now.transports.table) (Holds c.in_ok-transports-2.transports.coding c.in_ok-transports-2.transports.bases c.in_ok-transports-2.transports.table) transport_key cells more
      (λ held behind h k.
      let coding : c.args.other.now.transports.coding ≡ c.args.self.transports.coding = c.args.other.now.transport_coding ∙ sym c.args.self.transport_coding in
      let bases : c.args.other.now.transports.bases ≡ c.args.self.transports.bases = c.args.other.now.transport_bases ∙ sym c.args.self.transport_bases in
      let coded : Holds c.in_ok-transports.transports.coding c.args.other.now.transports.bases c.args.other.now.transports.table behind = subst (λ (x : Coding). Holds x c.args.other.now.transports.bases c.args.other.now.transports.table behind) (coding ∙ sym c.in_ok-transports.ensures.coding) k in
      let back : Holds c.in_ok-transports.transports.coding c.in_ok-transports.transports.bases c.args.other.now.transports.table behind = subst (λ (xs : List ℕ). Holds c.in_ok-transports.transports.coding xs c.args.other.now.transports.table behind) (bases ∙ sym c.in_ok-transports.ensures.bases) coded in
      subst (λ (n : ℕ). Holds c.in_ok-transports-2.transports.coding c.in_ok-transports-2.transports.bases c.in_ok-transports-2.transports.table (with_gap held n ++ behind)) (sym long)
      (c.in_ok-transports-2.ensures.keys (with_gap held c.args.rows) behind (c.in_ok-transports.ensures.keys held h) back)) s.transports m.transports;
}
