use Rattle.std.proofs.Common.{take, arith}
use Rattle.zeek_log.specs.Answers.{told_of}
use Rattle.zeek_log.specs.Plain.{cells_or_none, line_end, row_in}
use Rattle.zeek_log.proofs.StandingLemmas.{plain_count}
use Rattle.zeek_log.proofs.StretchLemmas.{cell_more}
use Rattle.zeek_log.proofs.plain_row.write_own.Goals as goal

pub loop-column-preserved : goal.loop-column-preserved
loop-column-preserved c =
    let told = told_of c.args.known.now in
    let row = cells_or_none (row_in told (take (line_end c.args.places.now c.args.count) c.args.held.now)) in
    let long = plain_count told c.args.held.now c.args.places.now c.args.count c.requires.plain in
    cell_more row c.args.out.now c.loop-column.out c.write_one.new.out c.args.from c.loop-column.column (omega arith) (omega (arith, long)) c.loop-column.invariant c.in_ok-write_one.ensures
