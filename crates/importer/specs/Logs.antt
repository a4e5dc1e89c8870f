-- How the reader of a log goes on, each row carried.
use Rattle.std.specs.Prelude.{◌≡◌, ℕ, List, [], ◌∷◌, Option, Result, Ok, Err, IfSome}
use Rattle.vast_value.specs.Headings.{Heading}
use Rattle.zeek_log.specs.Reader as reader
use Rattle.zeek_log.specs.Reader.{Reading, heading_told, step_at}
use Rattle.zeek_log.specs.Steps.{step_of}
use Rattle.zeek_log.specs.Table.{LogStep}
use Rattle.zeek_log.specs.declared.step.Moved.{Moved}
use Rattle.zeek_log.specs.declared.step.Step.{Step}
use Rattle.zeek_log.specs.declared.step.ZeekEnd.{ZeekEnd}
use Rattle.importer.specs.Carrying.{carried, protocol_place}
use Rattle.importer.specs.Coming.{Standing, Log, Ended, StepsOn, fields_told}
use Rattle.importer.specs.Ending.{end_of_log}

-- rows of the last head's layout are carried by the protocol at this place
abbrev pub CarriesBy : Option Heading → Option ℕ → Type 0
CarriesBy heading place = IfSome heading (λ h. place ≡ protocol_place h.fields)

-- how far a reader is, and the cells of the row at which it stands, carried
abbrev pub carried_point : reader.Standing → reader.Standing
carried_point r = record { at = r.at; row = carried (fields_told (heading_told r.at.state)) r.row }

-- where a log stands after an answer
abbrev pub log_after : {X : Type 0} → Reading → Result X ZeekEnd → Standing
log_after new (Ok x) = Log new
log_after new (Err end) = Ended (end_of_log end)

abbrev pub log_given : Result Step ZeekEnd → List LogStep
log_given (Ok step) = step_of step ∷ []
log_given (Err end) = []

abbrev pub LogGoes : Reading → Reading → Option (List ℕ) → Option (List ℕ) → Result Step ZeekEnd → Type 0
LogGoes old new before now result = StepsOn (Log old) (log_after new result) before now (log_given result)

abbrev pub log_moved : reader.Standing → Result Moved ZeekEnd → List LogStep
log_moved new (Ok moved) = step_at new moved ∷ []
log_moved new (Err end) = []

-- the same of a reader that goes on by itself
abbrev pub LogMoves : reader.Standing → reader.Standing → Option (List ℕ) → Option (List ℕ) → Result Moved ZeekEnd → Type 0
LogMoves old new before now result = StepsOn (Log old.at) (log_after new.at result) before now (log_moved new result)
