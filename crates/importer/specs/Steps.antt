-- The steps of an input, each row carried.
use Rattle.std.specs.Prelude.{ℕ, ◌-◌, Bool, if◌then◌else◌, List, [], ◌∷◌, Some, length, nat_le, take}
use Rattle.vast_value.specs.Headings.{Field}
use Rattle.source_block.specs.Holding.{most_bytes}
use Rattle.source_block.specs.declared.stop.Stop.{Stop}
use Rattle.source_block.specs.declared.stop.Stop.TheVariants.{AtEnd, Failed, AtBound}
use Rattle.zeek_log.specs.Steps.{Steps, steps_of}
use Rattle.zeek_log.specs.Table.{LogStep, Head, Line}
use Rattle.pcap_file.specs.Heads.{has_head}
use Rattle.pcap_file.specs.Records as capture
use Rattle.pcap_file.specs.Records.{records}
use Rattle.importer.specs.declared.ends.ImportEnd.TheVariants.{Fault}
use Rattle.importer.specs.declared.ends.InputFault.TheVariants as input
use Rattle.importer.specs.declared.form.Form.{Form}
use Rattle.importer.specs.declared.form.Form.TheVariants.{Log, Capture, Refused}
use Rattle.importer.specs.Captures.{packets_of, plain_steps}
use Rattle.importer.specs.Carrying.{carried}
use Rattle.importer.specs.Ending.{Answers, end_of_capture, end_of_log, only_end}
use Rattle.importer.specs.Forms.{form_of}

-- each row carried by the columns of the last head before it, which are these before the first
abbrev pub carried_steps : List Field → List LogStep → List LogStep
carried_steps fields [] = []
carried_steps fields (Head heading ∷ steps) = Head heading ∷ carried_steps heading.fields steps
carried_steps fields (Line row ∷ steps) = Line (carried fields row) ∷ carried_steps fields steps

abbrev pub carried_answers : List Field → Steps → Answers LogStep
carried_answers fields steps = record { given = carried_steps fields steps.given; end = end_of_log steps.end }

-- the steps of a capture, where its file head was read; else there are none
abbrev pub capture_steps : Bool → capture.Answers → Answers LogStep
capture_steps headed all =
    if headed then record { given = carried_steps [] (plain_steps (packets_of all)); end = end_of_capture all.last }
    else only_end (end_of_capture all.last)

abbrev pub steps_as : Form → List ℕ → Stop → Answers LogStep
steps_as Log bytes stop = carried_answers [] (steps_of bytes stop)
steps_as Capture bytes stop = capture_steps (has_head bytes) (records bytes stop)
steps_as (Refused fault) bytes stop = only_end (Some (Fault (input.Form fault)))

-- the steps of bytes, after which no more come for the reason
abbrev pub input_steps : List ℕ → Stop → Answers LogStep
input_steps bytes stop = steps_as (form_of bytes) bytes stop

abbrev pub taken_steps : List ℕ → List ℕ → Bool → Answers LogStep
taken_steps bytes taken failed =
    if failed then input_steps taken Failed
    else (if nat_le most_bytes (length taken) then input_steps taken AtBound else input_steps bytes AtEnd)

-- The steps of a source that had these bytes and has so many left: after a failed read or the bound those of the bytes
-- that were taken.
abbrev pub input_steps_of_source : List ℕ → List ℕ → Bool → Answers LogStep
input_steps_of_source bytes left failed = taken_steps bytes (take (length bytes - length left) bytes) failed
