use Rattle.std.proofs.Common.{take, ◌∙◌, arith}
use Rattle.std.proofs.lemmas.List.{take_all}
use Rattle.zeek_log.specs.Answers.{told_of}
use Rattle.zeek_log.specs.Plain.{cells_or_none, line_end, row_in}
use Rattle.zeek_log.proofs.StandingLemmas.{cells_more, plain_count}
use Rattle.zeek_log.proofs.plain_row.plain_row.Goals as goal

pub loop-column-preserved : goal.loop-column-preserved
loop-column-preserved c =
    let told = told_of c.args.known.now in
    let row = cells_or_none (row_in told (take (line_end c.args.places.now c.args.count) c.args.held.now)) in
    let long = plain_count told c.args.held.now c.args.places.now c.args.count c.requires in
    c.in_ok-push.ensures.ok ∙ cells_more row c.loop-column.row c.in_ok-cell.cell c.loop-column.column
    (omega (arith, long)) c.loop-column.invariant c.in_ok-cell.ensures

pub returns : goal.returns
returns c =
    let told = told_of c.args.known.now in
    let row = cells_or_none (row_in told (take (line_end c.args.places.now c.args.count) c.args.held.now)) in
    let long = plain_count told c.args.held.now c.args.places.now c.args.count c.requires in
    c.loop-column.invariant ∙ take_all c.loop-column.column row (omega (arith, long))
