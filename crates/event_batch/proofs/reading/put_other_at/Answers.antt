use Rattle.std.proofs.Common.{refl}
use Rattle.event_batch.proofs.SpelledLemmas.{set_cell_behind}
use Rattle.event_batch.proofs.reading.put_other_at.Goals as goal

pub overflow_sub-result : goal.overflow_sub-result
overflow_sub-result c = (set_cell_behind c.args.format c.args.kind c.args.bytes.now c.in_ok-cell.cell c.in_ok-cell.rest.now c.ranged_bytes.ensures c.in_ok-cell.ensures).0

pub returns-clause-read : goal.returns-clause-read
returns-clause-read c =
    let behind = set_cell_behind c.args.format c.args.kind c.args.bytes.now c.in_ok-cell.cell c.in_ok-cell.rest.now c.ranged_bytes.ensures c.in_ok-cell.ensures in
    rw (c.in_ok-cell.ensures, c.in_ok-push.ensures.ok, behind.1) refl
