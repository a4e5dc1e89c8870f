use Rattle.column_index.proofs.kept.Keys.append.Goals as goal

pub returns-in_ok-append-in-Ports-Ports-clause-stands : goal.returns-in_ok-append-in-Ports-Ports-clause-stands
returns-in_ok-append-in-Ports-Ports-clause-stands c = rw (c.in-Ports-Ports.is-0, c.in-Ports-Ports.is-1) c.in_ok-append-in-Ports-Ports.ensures.stands

pub returns-in_ok-append-in-Subnets-Subnets-clause-stands : goal.returns-in_ok-append-in-Subnets-Subnets-clause-stands
returns-in_ok-append-in-Subnets-Subnets-clause-stands c = rw (c.in-Subnets-Subnets.is-0, c.in-Subnets-Subnets.is-1) c.in_ok-append-in-Subnets-Subnets.ensures.stands
