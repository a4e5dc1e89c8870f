use Rattle.std.proofs.Common.{◌≡◌, ◌++◌, ◌∷◌, take}
use Rattle.std.specs.List.{between, flat_map}
use Rattle.value_text.specs.Writing.{cell_text}
use Rattle.zeek_log.specs.Answers.{told_of}
use Rattle.zeek_log.specs.Plain.{cells_or_none, line_end, row_in}
use Rattle.zeek_log.proofs.plain_row.write_plain.Given as goal

abbrev pub invariant-loop-column : goal.invariant-loop-column
invariant-loop-column l =
    l.out ≡ l.initial.out ++ flat_map (λ x. 9 ∷ cell_text x) (between l.from l.column (cells_or_none (row_in (told_of l.known) (take (line_end l.places l.count) l.held))))
