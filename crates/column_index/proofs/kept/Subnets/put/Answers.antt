use Rattle.std.proofs.Common.{Some, ap, sym}
use Rattle.vast_value.specs.declared.cell.Cell.TheVariants.{One}
use Rattle.address_index.specs.Subnets.{HoldsNets, Subnet, subnet}
use Rattle.column_index.specs.Columns.{subnet_key}
use Rattle.column_index.proofs.CoverLemmas.{covers_put}
use Rattle.column_index.proofs.kept.Subnets.put.Goals as goal

pub returns-clause-stands : goal.returns-clause-stands
returns-clause-stands c = λ cells long s.
    covers_put (HoldsNets c.args.self.now.index.table) (HoldsNets c.put.new.self.table) subnet_key cells c.args.row (One c.args.value.now) (subnet c.subnet_of-net.result.base c.subnet_of-net.result.bits) long
    (ap (λ (k : Subnet). Some k) (sym c.subnet_of-net.ensures)) c.in_ok-put.ensures.keys s
