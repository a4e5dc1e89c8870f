-- What became of a command, and of a script.
use Rattle.std.specs.Prelude.{◌≡◌, ℕ, ◌≤◌, ◌^◌, List, [], ◌∷◌, Option, None, Some, IfSome, IsSomeAnd, length}
use Rattle.vast_io.specs.Causes.{Rose}
use Rattle.history_core.specs.Shown.{Shown}
use Rattle.input_report.specs.declared.status.Status.{Status}
use Rattle.input_report.specs.declared.status.Status.TheVariants.{OpenFault}
use Rattle.input_report.specs.Causes.{Rest}
use Rattle.step_script.specs.Scripts.{script_of}
use Rattle.step_script.specs.Told.{AreGood, Outside as Moment, SeenEnd}
use Rattle.step_script.specs.Wholes.{PlaysSource}
use Rattle.vast.specs.Causes.{Completes, Does, IsDone, Outcome, Outside, SaysUnopened, StandsBy}
use Rattle.vast.specs.Words.{Scan, Check, Steps, Wanted}

-- what a command leaves: its status, the store if it has one, its sources, and the source of a script
pub record Left : Type 0 where
  pub status : Status
  pub store : Option Shown
  pub ends : List SeenEnd
  pub script : Option Rest

abbrev pub moment : Outside → Moment
moment out = record { opens = out.opens; written = out.written; writes = out.writes }

-- the source that a command on one file opened
abbrev pub first_rest : List SeenEnd → Option Rest
first_rest [] = None
first_rest (e ∷ ends) = e.rest

abbrev pub outcome_of : Left → Outcome
outcome_of left = record { status = left.status; source = first_rest left.ends }

-- a command on one file has no store and no script
pub record DoesFile (command : Option Wanted) (before now : Outside) (left : Left) : Type 0 where
  pub does : Does command before now (outcome_of left)
  pub store : left.store ≡ None
  pub script : left.script ≡ None

-- a script that was not opened
pub record IsUnopened (script : List ℕ) (before now : Outside) (left : Left) : Type 0 where
  pub says : SaysUnopened script left.status before now
  pub opening : left.status ≡ OpenFault → Rose before.opens now.opens
  pub stands : StandsBy left.status before now
  pub store : left.store ≡ None
  pub ends : left.ends ≡ []

-- a script that a source gave was played, its decodings being counted from some number on
abbrev pub PlaysHere : (List ℕ → Option (List ℕ)) → Option (List ℕ) → ℕ → Rest → Moment → Moment → Status → Option Shown → List SeenEnd → Type 0
PlaysHere bytes_of left faults rest before now ended store ends =
    (steps : ℕ) × ((steps_now : ℕ) × PlaysSource bytes_of left faults rest before now steps steps_now ended store ends)

-- the script was played, or was not opened
abbrev pub PlaysOpened : Option Rest → List ℕ → Outside → Outside → Left → Type 0
PlaysOpened None script before now left = IsUnopened script before now left
PlaysOpened (Some rest) script before now left = PlaysHere before.bytes_of (before.bytes_of script) 0 rest (moment before) (moment now) left.status left.store left.ends

abbrev pub PlaysFile : List ℕ → Outside → Outside → Left → Type 0
PlaysFile script before now left = PlaysOpened left.script script before now left

-- What the command that words are did.
abbrev pub DoesWords : Option Wanted → Outside → Outside → Left → Type 0
DoesWords (Some (Steps script)) before now left = PlaysFile script before now left
DoesWords (Some (Scan file query)) before now left = DoesFile (Some (Scan file query)) before now left
DoesWords (Some (Check file)) before now left = DoesFile (Some (Check file)) before now left
DoesWords None before now left = DoesFile None before now left

-- ---- a sound command

-- the bytes of a script, each of whose lines is one
abbrev pub IsSoundScript : List ℕ → Type 0
IsSoundScript bytes = (length bytes ≤ 2 ^ 20) × ((script_of bytes).bad ≡ None)

-- A sound script is done where no count of faults rose, its sources are good and no batch was refused, but that want of
-- memory may come in its place.
abbrev pub CompletesFile : List ℕ → Outside → Outside → Left → Type 0
CompletesFile script before now left =
    IsSomeAnd (before.bytes_of script) IsSoundScript → ¬ Rose before.opens now.opens → ¬ Rose before.writes now.writes → IfSome left.script (λ rest. ¬ Rose 0 rest.faults)
    → AreGood before.bytes_of left.ends → IsDone left.status

abbrev pub CompletesWords : Option Wanted → Outside → Outside → Left → Type 0
CompletesWords (Some (Steps script)) before now left = CompletesFile script before now left
CompletesWords (Some (Scan file query)) before now left = Completes (Some (Scan file query)) before now (outcome_of left)
CompletesWords (Some (Check file)) before now left = Completes (Some (Check file)) before now (outcome_of left)
CompletesWords None before now left = Completes None before now (outcome_of left)
