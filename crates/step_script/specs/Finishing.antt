-- How a script is ended.
use Rattle.std.specs.Prelude.{◌≡◌, ℕ, Bool, if◌then◌else◌, List, ◌++◌, Option, None, Some, Result, Ok, Err, map, ◌⊎◌}
use Rattle.std.specs.Io.KnownBytes.{append_known}
use Rattle.std.specs.List.{list_any}
use Rattle.vast_io.specs.Causes.{Rose}
use Rattle.vast_io.specs.Told.{WritesPart}
use Rattle.importer.specs.declared.ends.How.{How}
use Rattle.importer.specs.declared.ends.SourceEnd.{SourceEnd}
use Rattle.step_script.specs.declared.player.Stop.{Stop}
use Rattle.step_script.specs.declared.player.Stop.TheVariants.{Unopened, Unwritten, Memory}
use Rattle.input_report.specs.declared.status.Status.{Status}
use Rattle.input_report.specs.declared.status.Status.TheVariants as status
use Rattle.step_script.specs.Feeds.{AreFed, Fed, Outward}
use Rattle.step_script.specs.Playing.{Source}
use Rattle.step_script.specs.Told.{AreEnds, bad_text, end_of, is_fault, is_full, is_read_fault, is_too_long, open_text}

-- some source ended so
abbrev pub some_ended : {S : Type 0} → (How → Bool) → List (SourceEnd S) → Bool
some_ended test ends = list_any (λ e. test e.how) ends

abbrev pub status_of_rest : {S : Type 0} → List (SourceEnd S) → Status
status_of_rest ends =
    if some_ended is_fault ends then status.InputFault
    else (if some_ended is_too_long ends then status.TooLong
    else (if some_ended is_full ends then status.Full else status.Done))

abbrev pub status_of_others : {S : Type 0} → Option ℕ → List (SourceEnd S) → Status
status_of_others None ends = status_of_rest ends
status_of_others (Some n) ends = status.ScriptFault

-- the status of sources that went so
abbrev pub status_of_ways : {S : Type 0} → Option ℕ → List (SourceEnd S) → Status
status_of_ways bad ends = if some_ended is_read_fault ends then status.ReadFault else status_of_others bad ends

-- what was written, and how the sink's count of faults went
pub record Sent : Type 0 where
  pub written : Option (List ℕ)
  pub writes : ℕ

-- all of the text was written
abbrev pub AllSent : Sent → Sent → List ℕ → Type 0
AllSent before now text = (now.written ≡ append_known before.written text) × (now.writes ≡ before.writes)

-- the sink failed, and took the first part of the text
abbrev pub PartSent : Sent → Sent → List ℕ → Type 0
PartSent before now text = Rose before.writes now.writes × WritesPart before.written now.written text

-- nothing more was written
abbrev pub NoneSent : Sent → Sent → Type 0
NoneSent before now = (now.written ≡ before.written) × (now.writes ≡ before.writes)

-- All lines were played: the rest of the text was written, or the sink failed, or memory was wanting.
abbrev pub FinishesWhole : {S : Type 0} → Status → Option ℕ → List (SourceEnd S) → List ℕ → Sent → Sent → Type 0
FinishesWhole status.Memory bad ends text before now = NoneSent before now
FinishesWhole status.WriteFault bad ends text before now = PartSent before now (text ++ bad_text bad)
FinishesWhole ended bad ends text before now = (ended ≡ status_of_ways bad ends) × AllSent before now (text ++ bad_text bad)

-- a name was not opened
abbrev pub FinishesUnopened : Status → List ℕ → List ℕ → Sent → Sent → Type 0
FinishesUnopened status.Memory name text before now = NoneSent before now
FinishesUnopened status.OpenFault name text before now = AllSent before now (text ++ open_text name) ⊎ PartSent before now (text ++ open_text name)
FinishesUnopened ended name text before now = ⊥

-- how a script that stopped so is ended
abbrev pub Finishes : {U S : Type 0} → Result U Stop → Status → Option ℕ → List (SourceEnd S) → List ℕ → Sent → Sent → Type 0
Finishes (Ok done) ended bad ends text before now = FinishesWhole ended bad ends text before now
Finishes (Err (Unopened name)) ended bad ends text before now = FinishesUnopened ended name.now text before now
Finishes (Err Unwritten) ended bad ends text before now = (ended ≡ status.WriteFault) × NoneSent before now
Finishes (Err Memory) ended bad ends text before now = (ended ≡ status.Memory) × NoneSent before now

-- The script ended so and the ends of its sources are these, or memory was wanting for them.
abbrev pub Closes : {U S : Type 0} → Outward S → List (Fed S) → Result U Stop → Status → Option ℕ → List (SourceEnd S) → List ℕ → Sent → Sent → Type 0
Closes out feeds stop ended bad ends text before now =
    ((ended ≡ status.Memory) × NoneSent before now)
    ⊎ (Finishes stop ended bad ends text before now
    × ((told : List ℕ → Option (List ℕ)) (batch : ℕ) (sources : List Source) → AreFed out told batch sources feeds → AreEnds told batch sources (map (end_of out) ends)))
