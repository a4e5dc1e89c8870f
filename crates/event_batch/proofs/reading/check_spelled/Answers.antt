use Rattle.std.proofs.lemmas.Result.{err_from_is_err_and}
use Rattle.event_batch.specs.Answers.{said_by}
use Rattle.event_batch.proofs.PackingLemmas.{refused, read_spelled}
use Rattle.event_batch.proofs.reading.check_spelled.Goals as goal

pub returns-in_err-parts_at-clause-refused : goal.returns-in_err-parts_at-clause-refused
returns-in_err-parts_at-clause-refused c =
    let p = err_from_is_err_and c.from_residual.result c.from_residual.ensures.1 in
    rw (p.1, p.2) (refused c.in_err-parts_at.field-0.0 c.args.bytes.now c.in_err-parts_at.ensures)

pub returns-clause-spelled : goal.returns-clause-spelled
returns-clause-spelled c = read_spelled c.args.bytes.now (said_by c.in_ok-parts_at.field-0) c.ranged_bytes.ensures c.in_ok-parts_at.ensures
