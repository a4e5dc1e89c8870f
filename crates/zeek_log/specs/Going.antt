-- How a reader goes on by one line.
use Rattle.std.specs.Prelude.{◌≡◌, ℕ, ◌+◌, ◌-◌, Bool, true, false, List, ◌++◌, Option, None, Some, Result, Ok, Err, length}
use Rattle.std.specs.Io.KnownBytes.{prepend_known}
use Rattle.vast_io.specs.Causes.{Rose}
use Rattle.zeek_log.specs.declared.fault.LineEnd.{LineEnd}
use Rattle.zeek_log.specs.declared.fault.LineEnd.TheVariants.{Bad}
use Rattle.zeek_log.specs.declared.fault.LineEnd.TheVariants as lines
use Rattle.zeek_log.specs.declared.step.ZeekEnd.TheVariants.{Fault}
use Rattle.zeek_log.specs.declared.step.ZeekEnd.TheVariants as ends
use Rattle.source_block.specs.Holding.{Hold, most_bytes}
use Rattle.source_block.specs.declared.stop.Stop.{Stop}
use Rattle.zeek_log.specs.declared.line_reader.Phase.{Phase}
use Rattle.zeek_log.specs.declared.line_reader.Phase.TheVariants as phase
use Rattle.zeek_log.specs.declared.step.Step.{Step}
use Rattle.zeek_log.specs.declared.step.ZeekEnd.{ZeekEnd}
use Rattle.zeek_log.specs.Answers.{Keeps}
use Rattle.zeek_log.specs.Heads.{Told}
use Rattle.zeek_log.specs.Reader.{Reading, State, Reads, Last, Ended, to_come, StepsOn, EndsAs, heading_told, StepFits}
use Rattle.zeek_log.specs.Steps.{step_of}

-- a reader's state by how far it is, what is known, and the number of the next line
abbrev pub state_of : Phase → Told → ℕ → State
state_of phase.Reads told n = Reads told n
state_of phase.Last told n = Last told
state_of (phase.Ended e) told n = Ended e

abbrev pub is_reading : State → Bool
is_reading (Reads told n) = true
is_reading _ = false

-- lines without a step went by: what was to come is to come
pub record GoesOn (old new : Reading) (before now : Option (List ℕ)) : Type 0 where
  pub took : List ℕ
  pub left : before ≡ prepend_known took now
  pub count : new.taken ≡ old.taken + length took
  pub is : (more : List ℕ) (stop : Stop) → to_come old (took ++ more) stop ≡ to_come new more stop
  pub reads : is_reading new.state ≡ true
  pub keeps : Keeps (heading_told old.state) (heading_told new.state)

-- all that is to come is an end
pub record Meets (old new : Reading) (before now : Option (List ℕ)) (e : ZeekEnd) : Type 0 where
  pub took : List ℕ
  pub left : before ≡ prepend_known took now
  pub count : new.taken ≡ old.taken + length took
  pub is : EndsAs old took now new.taken e

-- a step, which fits
pub record GivesStep (old new : Reading) (before now : Option (List ℕ)) (step : Step) : Type 0 where
  pub steps : StepsOn old new before now (step_of step)
  pub fits : StepFits (heading_told old.state) (heading_told new.state) (step_of step)

abbrev pub LineAnswer : Reading → Reading → Option (List ℕ) → Option (List ℕ) → Result (Option Step) ZeekEnd → Type 0
LineAnswer old new before now (Ok None) = GoesOn old new before now
LineAnswer old new before now (Ok (Some step)) = GivesStep old new before now step
LineAnswer old new before now (Err e) = Meets old new before now e

-- a reader by its parts
abbrev pub reading : Phase → Told → ℕ → Hold → Reading
reading phase told n hold = record { state = state_of phase told n; held = hold.bytes; taken = hold.taken; kept = hold.kept }

-- each line has a byte, so there are no more than this
abbrev pub lines_left : State → ℕ
lines_left (Reads told n) = most_bytes + 2 - n
lines_left _ = 0

-- a line's outcome as an answer, where the line has this number
abbrev pub end_of_line : ℕ → LineEnd → ZeekEnd
end_of_line n (Bad at) = Fault n at.column at.what
end_of_line n lines.Memory = ends.Memory

abbrev pub answer_of : ℕ → Result (Option Step) LineEnd → Result (Option Step) ZeekEnd
answer_of n (Ok step) = Ok step
answer_of n (Err e) = Err (end_of_line n e)

-- a failed read is the end exactly where the count of faults rose in this call
abbrev pub LineCounts : Result (Option Step) ZeekEnd → ℕ → ℕ → Type 0
LineCounts (Err ends.ReadFault) before now = Rose before now
LineCounts _ before now = now ≡ before
