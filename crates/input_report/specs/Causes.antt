-- What the status of a report means, and how its source went.
use Rattle.std.specs.Prelude.{◌≡◌, ◌≢◌, ℕ, ◌-◌, ◌^◌, ◌<◌, nat_lt, List, Option, None, Some, ◌⊎◌, IfSome, IsSomeAnd, is_some}
use Rattle.std.specs.Io.KnownBytes.{append_known}
use Rattle.vast_io.specs.Causes.{Rose}
use Rattle.vast_io.specs.Told.{WritesPart, IsAtEnd}
use Rattle.zeek_log.specs.Table.{LogStep}
use Rattle.importer.specs.declared.ends.How.{How}
use Rattle.importer.specs.declared.ends.How.TheVariants as how
use Rattle.importer.specs.declared.ends.ImportEnd.{ImportEnd}
use Rattle.importer.specs.declared.ends.ImportEnd.TheVariants as end
use Rattle.importer.specs.Ending.{Answers, how_ended}
use Rattle.importer.specs.Steps.{input_steps_of_source}
use Rattle.input_report.specs.declared.status.Status.{Status}
use Rattle.input_report.specs.declared.status.Status.TheVariants.{Done, WriteFault, ReadFault, InputFault, TooLong, Memory}

abbrev pub IsFault : Option ImportEnd → Type 0
IsFault (Some (end.Fault what)) = Unit {0}
IsFault _ = ⊥

-- what was written of a text that ends so, and with which status
abbrev pub TellsText : Status → Option ImportEnd → List ℕ → Option (List ℕ) → Option (List ℕ) → Type 0
TellsText Done e text before now = (e ≡ None) × (now ≡ append_known before text)
TellsText ReadFault e text before now = (e ≡ Some end.ReadFault) × (now ≡ append_known before text)
TellsText InputFault e text before now = IsFault e × (now ≡ append_known before text)
TellsText TooLong e text before now = (e ≡ Some end.TooLong) × (now ≡ append_known before text)
TellsText WriteFault e text before now = WritesPart before now text
TellsText Memory e text before now = WritesPart before now text
TellsText _ e text before now = ⊥

-- what was written of an input with these steps, of which this text is told, and how the input ended
abbrev pub Tells : Status → Answers LogStep → (Answers LogStep → List ℕ) → Option (List ℕ) → Option (List ℕ) → Type 0
Tells status steps text before now = TellsText status steps.end (text steps) before now

-- the same of a source that had these bytes, where it tells them and its count of faults can rise
abbrev pub TellsOf : Status → Option (List ℕ) → Option (List ℕ) → ℕ → ℕ → (Answers LogStep → List ℕ) → Option (List ℕ) → Option (List ℕ) → Type 0
TellsOf status left left_now faults faults_now text before now =
    IfSome left (λ bytes. IsSomeAnd left_now (λ rest. faults < 2 ^ 64 - 1 → Tells status (input_steps_of_source bytes rest (nat_lt faults faults_now)) text before now))

-- The same of a source that tells nothing: what was written is told of some steps, and these end so.
abbrev pub TellsSome : Status → (Answers LogStep → List ℕ) → Option (List ℕ) → Option (List ℕ) → Type 0
TellsSome status text before now = (steps : Answers LogStep) × Tells status steps text before now

-- no read failed where an input ended by itself
abbrev pub ReadsWell : Status → ℕ → ℕ → Type 0
ReadsWell Done faults faults_now = faults_now ≡ faults
ReadsWell InputFault faults faults_now = faults_now ≡ faults
ReadsWell TooLong faults faults_now = faults_now ≡ faults
ReadsWell _ faults faults_now = Unit {0}

-- where all went well, nothing is left of the source
abbrev pub LeavesNothing : Status → Option (List ℕ) → Type 0
LeavesNothing Done left = IsAtEnd left
LeavesNothing _ left = Unit {0}

-- the sink's count of faults stands, but where the sink failed
abbrev pub SinkStands : Status → ℕ → ℕ → Type 0
SinkStands WriteFault faults faults_now = Unit {0}
SinkStands _ faults faults_now = faults_now ≡ faults

-- the statuses that a report ends with
abbrev pub IsOfReport : Status → Type 0
IsOfReport Done = Unit {0}
IsOfReport WriteFault = Unit {0}
IsOfReport ReadFault = Unit {0}
IsOfReport InputFault = Unit {0}
IsOfReport TooLong = Unit {0}
IsOfReport Memory = Unit {0}
IsOfReport _ = ⊥

-- ---- how the source went

-- The source of steps that end so went by this end, or its end was not met. That is told only where the sink failed or
-- memory was wanting.
abbrev pub GoesBy : Status → How → Option ImportEnd → Type 0
GoesBy WriteFault went e = (went ≡ how.Unread) ⊎ (went ≡ how_ended e)
GoesBy Memory went e = Unit {0}
GoesBy _ went e = went ≡ how_ended e

-- the same of a source that had these bytes, where it tells them
abbrev pub GoesOf : Status → How → Option (List ℕ) → Option (List ℕ) → ℕ → ℕ → Type 0
GoesOf status went left left_now faults faults_now =
    IfSome left (λ bytes. IsSomeAnd left_now (λ rest. faults < 2 ^ 64 - 1 → GoesBy status went (input_steps_of_source bytes rest (nat_lt faults faults_now)).end))

abbrev pub IsFaulty : How → Type 0
IsFaulty (how.Fault what) = Unit {0}
IsFaulty _ = ⊥

-- how a source goes at each status, also where it tells nothing
abbrev pub GoesWith : Status → How → Type 0
GoesWith Done went = went ≡ how.Done
GoesWith ReadFault went = went ≡ how.ReadFault
GoesWith InputFault went = IsFaulty went
GoesWith TooLong went = went ≡ how.TooLong
GoesWith WriteFault went = went ≢ how.Memory
GoesWith _ went = Unit {0}

-- ---- a source and its report

-- a source at a moment: its bytes, where it tells them, and its count of faults
pub record Rest : Type 0 where
  pub left : Option (List ℕ)
  pub faults : ℕ

abbrev pub rest_of : {S : Type 0} → (S → Option (List ℕ)) → (S → ℕ) → S → Rest
rest_of left_of faults_of source = record { left = left_of source; faults = faults_of source }

-- What was written of a source of which this text is told, and how the source went: by its bytes, where it tells them, and
-- else by some steps.
pub record TellsSource (text : Answers LogStep → List ℕ) (source source_now : Rest) (before now : Option (List ℕ)) (status : Status) (went : How) : Type 0 where
  pub told : TellsOf status source.left source_now.left source.faults source_now.faults text before now
  pub untold : TellsSome status text before now
  pub goes : GoesOf status went source.left source_now.left source.faults source_now.faults
  pub reads : ReadsWell status source.faults source_now.faults
  pub ends : LeavesNothing status source_now.left
  pub read : status ≡ ReadFault → Rose source.faults source_now.faults
  pub tells : is_some source_now.left ≡ is_some source.left
