use Rattle.std.proofs.Common.{◌≡◌, take}
use Rattle.zeek_log.specs.Answers.{told_of}
use Rattle.zeek_log.specs.Plain.{cells_or_none, line_end, row_in}
use Rattle.zeek_log.proofs.plain_row.plain_row.Given as goal

abbrev pub invariant-loop-column : goal.invariant-loop-column
invariant-loop-column l =
    l.row ≡ take l.column (cells_or_none (row_in (told_of l.known) (take (line_end l.places l.count) l.held)))
