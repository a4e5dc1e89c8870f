use Rattle.shared_store.proofs.tests.seal_next.Goals as goal

pub publish_group-requires-clause-known : goal.publish_group-requires-clause-known
publish_group-requires-clause-known g c limits framed = let given = rw c.in-Some.is at c.in_ok-group.ensures.given in (given limits framed).0
