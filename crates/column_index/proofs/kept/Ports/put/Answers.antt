use Rattle.std.proofs.Common.{ℕ, Some, ap, sym}
use Rattle.vast_value.specs.declared.cell.Cell.TheVariants.{One}
use Rattle.digit_index.specs.Digits.{Holds}
use Rattle.column_index.specs.Columns.{port_key, transport_key}
use Rattle.column_index.proofs.CoverLemmas.{covers_put}
use Rattle.column_index.proofs.kept.Ports.put.Goals as goal

pub returns-clause-stands : goal.returns-clause-stands
returns-clause-stands c = λ cells long s. record {
  numbers = covers_put (Holds c.args.self.now.numbers.coding c.args.self.now.numbers.bases c.args.self.now.numbers.table) (Holds c.put.new.self.coding c.put.new.self.bases c.put.new.self.table) port_key cells c.args.row (One c.args.value.now) c.port_of-number.result long
      (ap (λ (k : ℕ). Some k) (sym c.port_of-number.ensures.value)) c.in_ok-put.ensures.keys s.numbers;
  transports = covers_put (Holds c.args.self.now.transports.coding c.args.self.now.transports.bases c.args.self.now.transports.table) (Holds c.put-2.new.self.coding c.put-2.new.self.bases c.put-2.new.self.table) transport_key cells c.args.row (One c.args.value.now) c.transport_of-transport.result long
      (ap (λ (k : ℕ). Some k) (sym c.transport_of-transport.ensures.value)) c.in_ok-put-2.ensures.keys s.transports;
}
