use Rattle.std.proofs.Common.{map, take, ap, refl, sym, ◌∙◌, arith}
use Rattle.std.proofs.lemmas.List.Edits.{between_none}
use Rattle.value_text.specs.Writing.{cell_text}
use Rattle.zeek_log.specs.Answers.{told_of}
use Rattle.zeek_log.specs.Lines.{pieces_of}
use Rattle.zeek_log.specs.Plain.{cells_or_none, line_end, row_in}
use Rattle.zeek_log.proofs.PlainLemmas.{plain_pieces}
use Rattle.zeek_log.proofs.StandingLemmas.{plain_count}
use Rattle.zeek_log.proofs.StretchLemmas.{own_more}
use Rattle.zeek_log.proofs.plain_row.are_own.Goals as goal

pub loop-column-init : goal.loop-column-init
loop-column-init c =
    let line = take (line_end c.args.places.now c.args.count) c.args.held.now in
    ap (map cell_text) (between_none (cells_or_none (row_in (told_of c.args.known.now) line)) c.args.from)
    ∙ sym (between_none (pieces_of c.args.known.now.separator line) c.args.from)

pub loop-column-preserved : goal.loop-column-preserved
loop-column-preserved c =
    let told = told_of c.args.known.now in
    let line = take (line_end c.args.places.now c.args.count) c.args.held.now in
    let long = plain_count told c.args.held.now c.args.places.now c.args.count c.requires.plain in
    let many = plain_pieces told c.args.held.now c.args.places.now c.args.count c.requires.plain in
    own_more (cells_or_none (row_in told line)) (pieces_of c.args.known.now.separator line) c.args.from c.loop-column.column (omega arith) (omega (arith, long)) (omega (arith, many))
    c.loop-column.invariant (c.if-not-is_own_at.ensures refl)
