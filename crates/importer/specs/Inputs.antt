-- How an input reads on.
use Rattle.std.specs.Prelude.{◌≡◌, ℕ, List, [], ◌∷◌, ◌++◌, Option, None, Some, Result, Ok, Err, length, ⊤}
use Rattle.source_block.specs.declared.stop.Stop.{Stop}
use Rattle.zeek_log.specs.Steps.{step_of}
use Rattle.zeek_log.specs.Table.{LogStep}
use Rattle.vast_value.specs.declared.cell.Cell.{Cell}
use Rattle.zeek_log.specs.declared.step.Moved.{Moved}
use Rattle.zeek_log.specs.declared.step.Step.{Step}
use Rattle.importer.specs.declared.ends.ImportEnd.{ImportEnd}
use Rattle.importer.specs.declared.ends.ImportEnd.TheVariants.{Fault, Memory}
use Rattle.importer.specs.declared.input.Phase.{Phase}
use Rattle.importer.specs.declared.input.Phase.TheVariants as phase
use Rattle.importer.specs.Captures.{FlowsAt, Rowed}
use Rattle.importer.specs.Coming.{Standing, Standpoint, Log, Packets, Flows, Ended, Anything, Fresh, IsAfter, IsCounted, IsLost, fresh, step_at, steps_to_come}
use Rattle.importer.specs.Ending.{only_end}
use Rattle.importer.specs.Steps.{input_steps}

abbrev pub standing_of : Phase → Standing
standing_of phase.Fresh = fresh
standing_of (phase.Log log) = Log log.at
standing_of (phase.Packets packets) = Packets packets.at
standing_of (phase.Flows flows) = Flows flows.at
standing_of (phase.Ended end) = Ended end

-- the row at which an input stands
abbrev pub row_of : Phase → List Cell
row_of (phase.Log log) = log.row
row_of (phase.Packets packets) = packets.row
row_of (phase.Flows flows) = flows.row
row_of _ = []

-- where an input stands after an answer, once its end is kept
abbrev pub stands_after : {X : Type 0} → Standing → Result X (Option ImportEnd) → Standing
stands_after new (Ok x) = new
stands_after new (Err end) = Ended end

abbrev pub read_given : Result Step (Option ImportEnd) → List LogStep
read_given (Ok step) = step_of step ∷ []
read_given (Err end) = []

abbrev pub moved_given : Standing → List Cell → Result Moved (Option ImportEnd) → List LogStep
moved_given at row (Ok moved) = step_at at row moved ∷ []
moved_given at row (Err end) = []

-- an end is answered again, and the input stays as it is, at no row
abbrev pub ReadStays : {S X : Type 0} → Standpoint S → Standpoint S → Result X (Option ImportEnd) → Type 0
ReadStays old new result = (end : Option ImportEnd) → old.at ≡ Ended end → (result ≡ Err end) × (new ≡ old) × (old.row ≡ [])

-- a form's reader was made
abbrev pub IsBegun : Standing → Type 0
IsBegun (Log r) = ⊤
IsBegun (Packets p) = ⊤
IsBegun (Flows f) = ⊤
IsBegun (Ended end) = ⊤
IsBegun Fresh = ⊥

-- The reader of the form that these bytes tell was made, all of which were taken: what is to come of it is what is to come
-- of an input that begins so.
pub record OpensTo (bytes : List ℕ) (new : Standing) : Type 0 where
  pub comes : (more : List ℕ) (stop : Stop) → input_steps (bytes ++ more) stop ≡ steps_to_come new more stop
  pub after : IsAfter new Anything
  pub count : IsCounted new (length bytes)
  pub there : ¬ IsLost new

abbrev pub Opens : List ℕ → Result Phase (Option ImportEnd) → Type 0
Opens bytes (Ok phase) = OpensTo bytes (standing_of phase) × (row_of phase ≡ []) × IsBegun (standing_of phase)
Opens bytes (Err (Some Memory)) = ⊤
Opens bytes (Err (Some (Fault fault))) = (more : List ℕ) (stop : Stop) → input_steps (bytes ++ more) stop ≡ only_end (Some (Fault fault))
Opens bytes (Err end) = ⊥

-- the steps of a capture are given
abbrev pub IsOfCapture : Standing → Type 0
IsOfCapture (Packets p) = ⊤
IsOfCapture (Flows f) = ⊤
IsOfCapture _ = ⊥

-- on to the flows of a capture, if they come
abbrev pub went_to : {S : Type 0} → Standpoint S → Option (Rowed FlowsAt) → Standpoint S
went_to old None = old
went_to old (Some flows) = record { at = Flows flows.at; row = flows.row; source = old.source }

-- a step, or what is kept where none comes
abbrev pub step_or_end : Result (Option Step) ImportEnd → Result Step (Option ImportEnd)
step_or_end (Ok (Some step)) = Ok step
step_or_end (Ok None) = Err None
step_or_end (Err end) = Err (Some end)
