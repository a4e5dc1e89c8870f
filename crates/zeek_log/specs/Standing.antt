-- Where a reader stands that goes on by itself.
use Rattle.std.specs.Prelude.{ℕ, ◌+◌, List, [], take, drop}
use Rattle.vast_value.specs.declared.cell.Cell.{Cell}
use Rattle.zeek_log.specs.declared.reader.Current.{Current}
use Rattle.zeek_log.specs.declared.reader.Current.TheVariants.{Nowhere, Made, Plain}
use Rattle.zeek_log.specs.Plain.{IsPlain, cells_or_none, line_end, row_in}
use Rattle.zeek_log.specs.Reader.{Reading, Standing, State, Reads, Last, Ended}

abbrev pub next_state : State → State
next_state (Reads told n) = Reads told (n + 1)
next_state (Last told) = Last told
next_state (Ended e) = Ended e

-- a reader behind a line of so many bytes and its newline
abbrev pub behind_line : Reading → ℕ → Reading
behind_line r count = record { state = next_state r.state; held = drop (count + 1) r.held; taken = r.taken; kept = r.kept }

-- the cells of a line, as it is read in this state
abbrev pub line_cells : State → List ℕ → List Cell
line_cells (Reads told n) line = cells_or_none (row_in told line)
line_cells (Last told) line = []
line_cells (Ended e) line = []

-- a plain line is at the front of the bytes held
abbrev pub IsPlainAt : State → List ℕ → List ℕ → ℕ → Type 0
IsPlainAt (Reads told n) held places count = IsPlain told held places count
IsPlainAt (Last told) held places count = ⊥
IsPlainAt (Ended e) held places count = ⊥

-- A reader at the line at the front of the bytes held is seen behind it already.
abbrev pub standing : Reading → Current → List ℕ → Standing
standing r Nowhere places = record { at = r; row = [] }
standing r (Made row) places = record { at = r; row = row }
standing r (Plain count) places =
    record { at = behind_line r (line_end places count); row = line_cells r.state (take (line_end places count) r.held) }

abbrev pub StandsWell : Reading → Current → List ℕ → Type 0
StandsWell r Nowhere places = Unit {0}
StandsWell r (Made row) places = Unit {0}
StandsWell r (Plain count) places = IsPlainAt r.state r.held places count
