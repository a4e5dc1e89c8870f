-- What a report of an input has still to write.
use Rattle.std.specs.Prelude.{◌≡◌, ℕ, ◌+◌, if◌then◌else◌, List, [], ◌∷◌, ◌++◌, Option, None, Some, length}
use Rattle.std.specs.Io.KnownBytes.{append_known}
use Rattle.vast_value.specs.declared.cell.Cell.{Cell}
use Rattle.query_meaning.specs.Meaning.{holds}
use Rattle.vast_value.specs.Headings.{Heading}
use Rattle.query_meaning.specs.declared.expr.Expr.{Expr}
use Rattle.zeek_log.specs.Reader.{heading_or_none}
use Rattle.zeek_log.specs.Table.{LogStep, Head, Line}
use Rattle.importer.specs.Ending.{Answers, ahead}
use Rattle.input_report.specs.declared.report.WriteEnd.{WriteEnd}
use Rattle.input_report.specs.declared.report.WriteEnd.TheVariants as write
use Rattle.input_report.specs.declared.status.Status.{Status}
use Rattle.input_report.specs.declared.status.Status.TheVariants as status
use Rattle.input_report.specs.Texts.{events_behind, row_text, matches_text, scan_end, line, part_text, rows_first, check_text}

-- a row has a cell for each column of the last heading
abbrev pub HasCells : Option Heading → LogStep → Type 0
HasCells heading (Head next) = Unit {0}
HasCells None (Line row) = ⊥
HasCells (Some heading) (Line row) = length heading.fields ≡ length row

abbrev pub heading_after : Option Heading → LogStep → Option Heading
heading_after heading (Head next) = Some next
heading_after heading (Line cells) = heading

-- A step was told: what was held and was to be told is what is held and is to be told, whatever steps follow.
abbrev pub Carries : (Answers LogStep → List ℕ) → (Answers LogStep → List ℕ) → LogStep → List ℕ → List ℕ → Type 0
Carries behind behind_now step held held_now = (rest : Answers LogStep) → held ++ behind (ahead (step ∷ []) rest) ≡ held_now ++ behind_now rest

-- the same, where a part was written
pub record Moves (behind behind_now : Answers LogStep → List ℕ) (step : LogStep) (held held_now : List ℕ) (before now : Option (List ℕ)) : Type 0 where
  pub sent : List ℕ
  pub text : (rest : Answers LogStep) → held ++ behind (ahead (step ∷ []) rest) ≡ sent ++ (held_now ++ behind_now rest)
  pub is : now ≡ append_known before sent

-- what a scan writes of these steps, behind this heading
abbrev pub scan_behind : Option Heading → Expr → Answers LogStep → List ℕ
scan_behind heading expr steps = matches_text expr (events_behind (heading_or_none heading) steps.given) ++ scan_end steps.end

-- what a scan writes of a row, behind this heading
abbrev pub row_match : Heading → List Cell → Expr → List ℕ
row_match heading cells expr = if holds heading cells expr then line (row_text (record { heading = heading; cells = cells })) else []

abbrev pub match_text : Option Heading → List Cell → Expr → List ℕ
match_text heading cells expr = row_match (heading_or_none heading) cells expr

-- what a check writes of these steps, behind this heading and so many rows of it
abbrev pub check_behind : Option Heading → ℕ → Answers LogStep → List ℕ
check_behind None rows steps = check_text steps
check_behind (Some heading) rows steps =
    line (part_text (record { heading = heading; rows = rows + rows_first steps.given })) ++ check_text steps

abbrev pub counted_text : Option Heading → ℕ → List ℕ
counted_text None rows = []
counted_text (Some heading) rows = line (part_text (record { heading = heading; rows = rows }))

abbrev pub status_of : WriteEnd → Status
status_of write.Failed = status.WriteFault
status_of write.Memory = status.Memory
