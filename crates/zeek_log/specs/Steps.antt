-- The steps of a log: heads, rows, and how it ends.
use Rattle.std.specs.Prelude.{ℕ, ◌+◌, ◌-◌, Bool, if◌then◌else◌, List, [], ◌∷◌, length, take, nat_le}
use Rattle.vast_value.specs.Headings.{heading_of}
use Rattle.zeek_log.specs.declared.step.Step.{Step}
use Rattle.zeek_log.specs.declared.step.Step.TheVariants as step
use Rattle.zeek_log.specs.declared.step.ZeekEnd.{ZeekEnd}
use Rattle.zeek_log.specs.declared.step.ZeekEnd.TheVariants.{Done, Fault, ReadFault, TooLong}
use Rattle.zeek_log.specs.Heads.{Told, opening}
use Rattle.source_block.specs.Holding.{most_bytes}
use Rattle.source_block.specs.declared.stop.Stop.{Stop}
use Rattle.source_block.specs.declared.stop.Stop.TheVariants.{AtEnd, Failed, AtBound}
use Rattle.zeek_log.specs.Lines.{lines_of}
use Rattle.zeek_log.specs.Table.{LogStep, Head, Line, Outcome, Goes, Gives, Breaks, line_outcome}

pub record Steps : Type 0 where
  pub given : List LogStep
  pub end : ZeekEnd

abbrev pub ended : ZeekEnd → Steps
ended end = record { given = []; end = end }

abbrev pub first : LogStep → Steps → Steps
first step steps = record { given = step ∷ steps.given; end = steps.end }

abbrev pub step_of : Step → LogStep
step_of (step.Head layout) = Head (heading_of layout)
step_of (step.Line row) = Line row

-- what comes of the n-th line, and then of the others in the state that it leaves
abbrev pub follow : ℕ → Outcome → (Told → Steps) → Steps
follow n (Goes told) others = others told
follow n (Gives told step) others = first step (others told)
follow n (Breaks column what) others = ended (Fault n column what)

-- the steps of lines, the first of which is the n-th, up to the first fault, or all of them and then the end
abbrev pub steps_from : ℕ → ZeekEnd → Told → List (List ℕ) → Steps
steps_from n end told [] = ended end
steps_from n end told (line ∷ lines) = follow n (line_outcome told line) (λ next. steps_from (n + 1) end next lines)

abbrev pub end_of : Stop → ZeekEnd
end_of AtEnd = Done
end_of Failed = ReadFault
end_of AtBound = TooLong

-- the steps of bytes, after which no more come for the reason
abbrev pub steps_of : List ℕ → Stop → Steps
steps_of bytes stop = steps_from 1 (end_of stop) opening (lines_of stop bytes)

abbrev pub taken_steps : List ℕ → List ℕ → Bool → Steps
taken_steps bytes taken failed =
    if failed then steps_of taken Failed
    else (if nat_le most_bytes (length taken) then steps_of taken AtBound else steps_of bytes AtEnd)

-- The steps of a source that had these bytes and has so many left: after a failed read or the bound those of the bytes
-- that were taken.
abbrev pub steps_of_source : List ℕ → List ℕ → Bool → Steps
steps_of_source bytes left failed = taken_steps bytes (take (length bytes - length left) bytes) failed
