use Rattle.event_batch.proofs.packed.Packed.share.Goals as goal

pub invariant_of-result : goal.invariant_of-result
invariant_of-result c = rw c.in_ok-block.ensures c.self.invariant
