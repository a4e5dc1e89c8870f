use Rattle.std.proofs.Common.{◌≡◌, map, take}
use Rattle.std.specs.List.{between}
use Rattle.value_text.specs.Writing.{cell_text}
use Rattle.zeek_log.specs.Answers.{told_of}
use Rattle.zeek_log.specs.Lines.{pieces_of}
use Rattle.zeek_log.specs.Plain.{cells_or_none, line_end, row_in}
use Rattle.zeek_log.proofs.plain_row.are_own.Given as goal

abbrev pub invariant-loop-column : goal.invariant-loop-column
invariant-loop-column l =
    map cell_text (between l.from l.column (cells_or_none (row_in (told_of l.known) (take (line_end l.places l.count) l.held))))
    ≡ between l.from l.column (pieces_of l.known.separator (take (line_end l.places l.count) l.held))
