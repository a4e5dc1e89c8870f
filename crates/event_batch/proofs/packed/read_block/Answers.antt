use Rattle.event_batch.proofs.packed.read_block.Goals as goal

pub returns-clause-spelled : goal.returns-clause-spelled
returns-clause-spelled c = rw (c.in_ok-new.ensures.ok, c.in_ok-extend_from_slice.ensures.items, c.in_ok-block.ensures.items) c.in_ok-check_spelled.ensures.spelled
