-- What is told of a script that was played.
use Rattle.std.specs.Prelude.{◌≡◌, ℕ, ◌+◌, ◌<◌, ◌≤◌, ◌^◌, Bool, true, false, if◌then◌else◌, List, [], ◌∷◌, ◌++◌, Option, None, Some, IfSome, IsSomeAnd, codes, nat_lt, ◌⊎◌, length}
use Rattle.std.specs.Io.KnownBytes.{append_known}
use Rattle.std.specs.List.{list_any}
use Rattle.std.specs.Option.{option_map}
use Rattle.vast_io.specs.Causes.{Rose}
use Rattle.vast_io.specs.Told.{WritesPart}
use Rattle.value_text.specs.Writing.{escaped_text}
use Rattle.source_block.specs.declared.stop.Stop.TheVariants.{AtEnd}
use Rattle.event_batch.specs.Contents.{Content}
use Rattle.history_core.specs.Shown.{Shown}
use Rattle.importer.specs.declared.ends.How.{How}
use Rattle.importer.specs.declared.ends.How.TheVariants as how
use Rattle.importer.specs.declared.ends.ImportEnd.{ImportEnd}
use Rattle.importer.specs.declared.ends.ImportEnd.TheVariants as end
use Rattle.importer.specs.declared.ends.SourceEnd.{SourceEnd}
use Rattle.importer.specs.Cutting.{cut_answers}
use Rattle.importer.specs.Ending.{Answers}
use Rattle.importer.specs.Laws.{ComesFirst}
use Rattle.importer.specs.Steps.{input_steps, input_steps_of_source}
use Rattle.script_desk.specs.Texts.{told}
use Rattle.script_lines.specs.Lines.{Asked, Source as SourceLine}
use Rattle.input_report.specs.declared.status.Status.{Status}
use Rattle.input_report.specs.declared.status.Status.TheVariants as status
use Rattle.input_report.specs.Causes.{Rest, rest_of}
use Rattle.input_report.specs.Texts.{line}
use Rattle.step_script.specs.Feeds.{Outward}
use Rattle.step_script.specs.Playing.{Playing, Source, WayIs, starting}
use Rattle.step_script.specs.Runs.{Runs, reads_next}
use Rattle.step_script.specs.Scripts.{Script}

-- ---- the last line

-- what is told of a line that isn't one
abbrev pub bad_text : Option ℕ → List ℕ
bad_text None = []
bad_text (Some n) = line (told (codes "script line ") n)

abbrev pub open_text : List ℕ → List ℕ
open_text name = line (codes "open " ++ escaped_text name)

-- what is told behind the replies of the lines that were played: the line that isn't one, if no line is left before it
abbrev pub last_text : List Asked → Option ℕ → List ℕ
last_text [] bad = bad_text bad
last_text (next ∷ rest) bad = []

-- ---- the status

abbrev pub is_read_fault : How → Bool
is_read_fault how.ReadFault = true
is_read_fault other = false

abbrev pub is_fault : How → Bool
is_fault (how.Fault fault) = true
is_fault other = false

abbrev pub is_too_long : How → Bool
is_too_long how.TooLong = true
is_too_long other = false

abbrev pub is_full : How → Bool
is_full (how.Full have limit) = true
is_full other = false

-- a source went so
abbrev pub went : (How → Bool) → List Source → Bool
went test sources = list_any (λ x. test x.tally.how) sources

abbrev pub status_of_sources : List Source → Status
status_of_sources sources =
    if went is_fault sources then status.InputFault
    else (if went is_too_long sources then status.TooLong
    else (if went is_full sources then status.Full else status.Done))

abbrev pub status_by : Option ℕ → List Source → Status
status_by None sources = status_of_sources sources
status_by (Some n) sources = status.ScriptFault

-- The status of a script that was played to its end, or to its first line that isn't one: a source that failed comes first.
abbrev pub status_at : Option ℕ → List Source → Status
status_at bad sources = if went is_read_fault sources then status.ReadFault else status_by bad sources

-- ---- the sources

-- how a source ended
pub record SeenEnd : Type 0 where
  pub source : ℕ
  pub name : List ℕ
  pub rows : ℕ
  pub how : How
  pub rest : Option Rest

abbrev pub end_of : {S : Type 0} → Outward S → SourceEnd S → SeenEnd
end_of out e = record { source = e.source; name = e.name; rows = e.rows; how = e.how; rest = option_map (rest_of out.left out.faults) e.rest }

-- A source gave the first of these batches, and all of them with this end where its end was met.
abbrev pub GaveOf : Option (Option ImportEnd) → List Content → Answers Content → Type 0
GaveOf None given all = ComesFirst given all
GaveOf (Some end) given all = all ≡ record { given = given; end = end }

-- the batches of a source that had these bytes and was left so: the cut of its steps
abbrev pub batches_of : ℕ → ℕ → List ℕ → List ℕ → ℕ → Answers Content
batches_of number batch bytes left faults = cut_answers number batch (input_steps_of_source bytes left (nat_lt 0 faults))

abbrev pub GaveKnown : ℕ → Source → Option (List ℕ) → Rest → Type 0
GaveKnown batch x bytes rest =
    IfSome bytes (λ all. IsSomeAnd rest.left (λ left. GaveOf x.end x.given (batches_of x.number batch all left rest.faults)))

-- a read failed where that is the end, and none did where there is another
abbrev pub Fails : Option (Option ImportEnd) → ℕ → Type 0
Fails None faults = Unit {0}
Fails (Some (Some end.ReadFault)) faults = Rose 0 faults
Fails (Some other) faults = faults ≡ 0

-- the end is that of a source of the script, whose name had these bytes
pub record IsEnd (told : List ℕ → Option (List ℕ)) (batch : ℕ) (x : Source) (e : SeenEnd) : Type 0 where
  pub number : e.source ≡ x.number
  pub name : e.name ≡ x.name
  pub rows : e.rows ≡ x.tally.rows
  pub how : e.how ≡ x.tally.how
  pub way : WayIs x.end x.tally
  pub gave : IsSomeAnd e.rest (λ rest. GaveKnown batch x (told x.name) rest)
  pub fails : IsSomeAnd e.rest (λ rest. Fails x.end rest.faults)

abbrev pub AreEnds : (List ℕ → Option (List ℕ)) → ℕ → List Source → List SeenEnd → Type 0
AreEnds told batch [] [] = Unit {0}
AreEnds told batch (x ∷ xs) [] = ⊥
AreEnds told batch [] (e ∷ es) = ⊥
AreEnds told batch (x ∷ xs) (e ∷ es) = IsEnd told batch x e × AreEnds told batch xs es

-- ---- the whole

-- the outside at a moment: the opener's count of faults, what was written, and the sink's count
pub record Outside : Type 0 where
  pub opens : ℕ
  pub written : Option (List ℕ)
  pub writes : ℕ

-- both counts stand
abbrev pub Stand : Outside → Outside → Type 0
Stand before now = (now.opens ≡ before.opens) × (now.writes ≡ before.writes)

-- all of a text was written, or the sink failed and took its first part
abbrev pub Says : Outside → Outside → List ℕ → Type 0
Says before now text = (now.written ≡ append_known before.written text) ⊎ (Rose before.writes now.writes × WritesPart before.written now.written text)

-- All of the script was played, and all of its text written.
pub record IsWhole (script : Script) (rest : List Asked) (at : Playing) (before now : Outside) (ended : Status) : Type 0 where
  pub all : rest ≡ []
  pub text : now.written ≡ append_known before.written (at.text ++ bad_text script.bad)
  pub status : ended ≡ status_at script.bad at.sources
  pub stand : Stand before now

abbrev pub IsSourceNext : List Asked → Type 0
IsSourceNext (SourceLine name ∷ rest) = Unit {0}
IsSourceNext rest = ⊥

-- the opener's count stands, or it rose at the line that comes next
abbrev pub MayOpen : List Asked → ℕ → ℕ → Type 0
MayOpen rest opens opens_now = (opens_now ≡ opens) ⊎ (Rose opens opens_now × IsSourceNext rest)

-- Why a script ended, its lines up to the rest having been played, and what was written.
abbrev pub EndsFor : Status → Script → List Asked → Playing → Outside → Outside → Type 0
EndsFor status.Memory script rest at before now = WritesPart before.written now.written at.text × MayOpen rest before.opens now.opens
EndsFor status.WriteFault script rest at before now =
    Rose before.writes now.writes × (WritesPart before.written now.written (at.text ++ last_text rest script.bad) × (now.opens ≡ before.opens))
EndsFor status.OpenFault script rest at before now =
    Rose before.opens now.opens × ((name : List ℕ) × ((more : List Asked) × ((rest ≡ SourceLine name ∷ more) × Says before now (at.text ++ open_text name))))
EndsFor status.Usage script rest at before now = ⊥
EndsFor status.QueryRefused script rest at before now = ⊥
EndsFor ended script rest at before now = IsWhole script rest at before now ended

-- the store's limits and history, and its sources, are those that the lines made
abbrev pub LeavesStore : Status → Playing → Option Shown → Type 0
LeavesStore status.Memory at store = Unit {0}
LeavesStore other at store = store ≡ Some (record { limits = at.desk.limits; history = at.desk.history })

abbrev pub LeavesEnds : Status → (List ℕ → Option (List ℕ)) → Playing → List SeenEnd → Type 0
LeavesEnds status.Memory told at ends = Unit {0}
LeavesEnds other told at ends = AreEnds told at.batch at.sources ends

-- What became of a script: which of its lines were played, what was written, how it ended, what stands, and how many
-- batches were decoded.
pub record PlaysScript (told : List ℕ → Option (List ℕ)) (script : Script) (before now : Outside) (steps steps_now : ℕ) (ended : Status) (store : Option Shown) (ends : List SeenEnd) : Type 0 where
  pub played : List Asked
  pub rest : List Asked
  pub lines : script.lines ≡ played ++ rest
  pub at : Playing
  pub runs : Runs played (starting script.settings) at
  pub why : EndsFor ended script rest at before now
  pub history : LeavesStore ended at store
  pub sources : LeavesEnds ended told at ends
  pub reads : steps_now ≤ steps + (at.reads + reads_next rest at.desk)

-- ---- a script on whole sources

-- a source's bytes are fewer than are taken of one, and without a fault
abbrev pub IsWholeSource : List ℕ → Type 0
IsWholeSource bytes = (length bytes < 2 ^ 36) × ((input_steps bytes AtEnd).end ≡ None)

-- a source whose bytes are told and whole, of which no read failed, and which the store never refused
pub record IsGood (told : List ℕ → Option (List ℕ)) (e : SeenEnd) : Type 0 where
  pub whole : IsSomeAnd (told e.name) IsWholeSource
  pub reads : IfSome e.rest (λ rest. ¬ Rose 0 rest.faults)
  pub taken : is_full e.how ≡ false

abbrev pub AreGood : (List ℕ → Option (List ℕ)) → List SeenEnd → Type 0
AreGood told [] = Unit {0}
AreGood told (e ∷ es) = IsGood told e × AreGood told es

abbrev pub IsDone : Status → Type 0
IsDone status.Done = Unit {0}
IsDone status.Memory = Unit {0}
IsDone other = ⊥

-- A script whose lines are all lines is done where no count of faults rose, its sources are good and no batch was refused,
-- but that want of memory may come in its place.
abbrev pub CompletesScript : (List ℕ → Option (List ℕ)) → Script → Outside → Outside → Status → List SeenEnd → Type 0
CompletesScript told script before now ended ends =
    script.bad ≡ None → ¬ Rose before.opens now.opens → ¬ Rose before.writes now.writes → AreGood told ends → IsDone ended
