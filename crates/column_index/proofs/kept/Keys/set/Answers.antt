use Rattle.column_index.proofs.KeysLemmas.{set_flags, set_numbers, set_ports, set_addresses, set_subnets, set_texts, set_buckets}
use Rattle.column_index.proofs.kept.Keys.set.Goals as goal

pub returns-in_ok-present-in-Flags-clause-cells : goal.returns-in_ok-present-in-Flags-clause-cells
returns-in_ok-present-in-Flags-clause-cells c = rw c.in-Flags.is (set_flags c.in-Flags.flags c.in_ok-present-in-Flags.field-0 c.in_ok-present-in-Flags.ensures.keys)

pub returns-in_ok-present-in-Numbers-clause-cells : goal.returns-in_ok-present-in-Numbers-clause-cells
returns-in_ok-present-in-Numbers-clause-cells c = rw c.in-Numbers.is (set_numbers c.in-Numbers.numbers c.in_ok-present-in-Numbers.field-0 c.in_ok-present-in-Numbers.ensures.keys)

pub returns-in_ok-present-in-Ports-clause-cells : goal.returns-in_ok-present-in-Ports-clause-cells
returns-in_ok-present-in-Ports-clause-cells c = rw c.in-Ports.is (set_ports c.in-Ports.ports c.in_ok-present-in-Ports.field-0 c.in_ok-present-in-Ports.ensures.keys)

pub returns-in_ok-present-in-Addresses-clause-cells : goal.returns-in_ok-present-in-Addresses-clause-cells
returns-in_ok-present-in-Addresses-clause-cells c = rw c.in-Addresses.is (set_addresses c.in-Addresses.addresses c.in_ok-present-in-Addresses.field-0 c.in_ok-present-in-Addresses.ensures.keys)

pub returns-in_ok-present-in-Subnets-clause-cells : goal.returns-in_ok-present-in-Subnets-clause-cells
returns-in_ok-present-in-Subnets-clause-cells c = rw c.in-Subnets.is (set_subnets c.in-Subnets.subnets c.in_ok-present-in-Subnets.field-0 c.in_ok-present-in-Subnets.ensures.keys)

pub returns-in_ok-present-in-Texts-clause-cells : goal.returns-in_ok-present-in-Texts-clause-cells
returns-in_ok-present-in-Texts-clause-cells c = rw c.in-Texts.is (set_texts c.in-Texts.texts c.in_ok-present-in-Texts.field-0 c.in_ok-present-in-Texts.ensures.keys)

pub returns-in_ok-present-in-Buckets-clause-cells : goal.returns-in_ok-present-in-Buckets-clause-cells
returns-in_ok-present-in-Buckets-clause-cells c = rw c.in-Buckets.is (set_buckets c.in-Buckets.buckets c.in_ok-present-in-Buckets.field-0 c.in_ok-present-in-Buckets.ensures.keys)
