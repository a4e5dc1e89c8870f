-- What each status of the program means.
use Rattle.std.specs.Prelude.{◌≡◌, ◌≢◌, ℕ, ◌^◌, ◌<◌, List, Option, None, Some, Result, Ok, Err, ◌⊎◌, IfSome, IfNone, IsSomeAnd, IsSome, length}
use Rattle.std.specs.Option.{option_map}
use Rattle.std.specs.Io.KnownBytes.{append_known}
use Rattle.query_meaning.specs.declared.expr.Expr.{Expr}
use Rattle.query_parse.specs.declared.fault.QueryFault.{QueryFault}
use Rattle.query_parse.specs.Parsing.{parsed}
use Rattle.source_block.specs.declared.stop.Stop.TheVariants.{AtEnd}
use Rattle.vast_io.specs.Causes.{Rose}
use Rattle.vast_io.specs.Told.{WritesPart}
use Rattle.zeek_log.specs.Table.{LogStep}
use Rattle.importer.specs.declared.ends.SourceEnd.{SourceEnd}
use Rattle.importer.specs.Ending.{Answers}
use Rattle.importer.specs.Steps.{input_steps}
use Rattle.input_report.specs.declared.status.Status.{Status}
use Rattle.input_report.specs.declared.status.Status.TheVariants.{Done, Usage, QueryRefused, OpenFault, WriteFault, ReadFault, InputFault, Full, ScriptFault, TooLong, Memory}
use Rattle.input_report.specs.Causes.{LeavesNothing, ReadsWell, Rest, TellsOf, TellsSome, rest_of}
use Rattle.input_report.specs.Texts.{check_text, scan_text}
use Rattle.vast.specs.Texts.{usage_line, refused_line, open_line}
use Rattle.vast.specs.Words.{Wanted, Scan, Check, Steps, file_of}

-- The status comes exactly where P holds, but that want of memory may come in its place.
pub record Exactly (status wanted : Status) (P : Type 0) : Type 0 where
  pub only : status ≡ wanted → P
  pub always : P → status ≢ Memory → status ≡ wanted

-- All of the text was written, or the sink failed and took its first bytes.
abbrev pub Says : ℕ → ℕ → Option (List ℕ) → Option (List ℕ) → List ℕ → Type 0
Says faults faults_now before now text = (now ≡ append_known before text) ⊎ (Rose faults faults_now × WritesPart before now text)

abbrev pub IsRefusal : Result Expr QueryFault → Type 0
IsRefusal (Ok expr) = ⊥
IsRefusal (Err fault) = Unit {0}

-- the command is a scan whose query is refused
abbrev pub IsRefused : Option Wanted → Type 0
IsRefused (Some (Scan file query)) = IsRefusal (parsed query)
IsRefused _ = ⊥

-- ---- the outside, and how a command ended

-- The outside at a moment: the bytes of each name, where the opener tells them, what was written, where the sink tells it,
-- and their counts of faults.
pub record Outside : Type 0 where
  pub bytes_of : List ℕ → Option (List ℕ)
  pub opens : ℕ
  pub written : Option (List ℕ)
  pub writes : ℕ

-- how a command ended, and the source that it opened, if it did
pub record Outcome : Type 0 where
  pub status : Status
  pub source : Option Rest

abbrev pub outside : (List ℕ → Option (List ℕ)) → ℕ → Option (List ℕ) → ℕ → Outside
outside bytes_of opens written writes = record { bytes_of = bytes_of; opens = opens; written = written; writes = writes }

-- the source of an end, if there is one
abbrev pub rest_in : {S : Type 0} → Option (SourceEnd S) → Option S
rest_in None = None
rest_in (Some e) = e.rest

abbrev pub outcome : {S : Type 0} → (S → Option (List ℕ)) → (S → ℕ) → Status → Option S → Outcome
outcome left_of faults_of status source = record { status = status; source = option_map (rest_of left_of faults_of) source }

-- this line was written, or the sink failed and took its first bytes
abbrev pub Writes : Outside → Outside → List ℕ → Type 0
Writes before now text = Says before.writes now.writes before.written now.written text

-- both counts stand
abbrev pub Stands : Outside → Outside → Type 0
Stands before now = (now.opens ≡ before.opens) × (now.writes ≡ before.writes)

-- Which counts stand: both where the command read a source to its end, and where memory was wanting; the opener's where
-- nothing was opened that failed.
abbrev pub StandsBy : Status → Outside → Outside → Type 0
StandsBy Done before now = Stands before now
StandsBy ReadFault before now = Stands before now
StandsBy InputFault before now = Stands before now
StandsBy TooLong before now = Stands before now
StandsBy Memory before now = Stands before now
StandsBy OpenFault before now = Unit {0}
StandsBy _ before now = now.opens ≡ before.opens

-- ---- where no source was opened

abbrev pub SaysRefused : Result Expr QueryFault → Outside → Outside → Type 0
SaysRefused (Ok expr) before now = ⊥
SaysRefused (Err fault) before now = Writes before now (refused_line fault)

-- what was written of a refused query
abbrev pub SaysQuery : Option Wanted → Outside → Outside → Type 0
SaysQuery (Some (Scan file query)) before now = SaysRefused (parsed query) before now
SaysQuery _ before now = ⊥

-- what was written where no source was opened
abbrev pub SaysEarly : Option Wanted → Status → Outside → Outside → Type 0
SaysEarly command Usage before now = Writes before now usage_line
SaysEarly command QueryRefused before now = SaysQuery command before now
SaysEarly command OpenFault before now = IsSomeAnd command (λ wanted. Writes before now (open_line (file_of wanted)))
SaysEarly command Memory before now = now.written ≡ before.written
SaysEarly command _ before now = ⊥

-- ---- where a source was opened

-- the bytes of the command's file, where the opener tells them
abbrev pub bytes_for : Option Wanted → Outside → Option (List ℕ)
bytes_for None out = None
bytes_for (Some wanted) out = out.bytes_of (file_of wanted)

-- What was written where a source was opened: the text of the bytes of its name, where the opener tells them, and else of
-- some steps that end so.
pub record TellsFile (file : List ℕ) (text : Answers LogStep → List ℕ) (before now : Outside) (status : Status) (rest : Rest) : Type 0 where
  pub told : TellsOf status (before.bytes_of file) rest.left 0 rest.faults text before.written now.written
  pub untold : TellsSome status text before.written now.written
  pub reads : ReadsWell status 0 rest.faults
  pub ends : LeavesNothing status rest.left

abbrev pub TellsScan : Result Expr QueryFault → List ℕ → Outside → Outside → Status → Rest → Type 0
TellsScan (Ok expr) file before now status rest = TellsFile file (λ steps. scan_text steps expr) before now status rest
TellsScan (Err fault) file before now status rest = ⊥

-- the same of a command
abbrev pub TellsCommand : Option Wanted → Outside → Outside → Status → Rest → Type 0
TellsCommand (Some (Scan file query)) before now status rest = TellsScan (parsed query) file before now status rest
TellsCommand (Some (Check file)) before now status rest = TellsFile file check_text before now status rest
TellsCommand (Some (Steps script)) before now status rest = ⊥
TellsCommand None before now status rest = ⊥

-- a source was opened exactly at these statuses, but for want of memory
abbrev pub WasOpened : Status → Type 0 → Type 0
WasOpened Usage P = ¬ P
WasOpened QueryRefused P = ¬ P
WasOpened OpenFault P = ¬ P
WasOpened Memory P = Unit {0}
WasOpened _ P = P

-- the statuses that the commands have
abbrev pub IsOfCommand : Status → Type 0
IsOfCommand Full = ⊥
IsOfCommand ScriptFault = ⊥
IsOfCommand _ = Unit {0}

-- What a command did: each status and its cause, what was written, and which counts stand.
pub record Does (command : Option Wanted) (before now : Outside) (ended : Outcome) : Type 0 where
  pub known : IsOfCommand ended.status
  pub usage : Exactly ended.status Usage (command ≡ None)
  pub refused : Exactly ended.status QueryRefused (IsRefused command)
  pub opening : ended.status ≡ OpenFault → Rose before.opens now.opens
  pub write : ended.status ≡ WriteFault → Rose before.writes now.writes
  pub read : ended.status ≡ ReadFault → IsSomeAnd ended.source (λ rest. Rose 0 rest.faults)
  pub stands : StandsBy ended.status before now
  pub opened : WasOpened ended.status (IsSome ended.source)
  pub scanned : IfSome ended.source (λ rest. TellsCommand command before now ended.status rest)
  pub early : IfNone ended.source (SaysEarly command ended.status before now)

-- ---- a sound command on a whole input

abbrev pub IsExpr : Result Expr QueryFault → Type 0
IsExpr (Ok expr) = Unit {0}
IsExpr (Err fault) = ⊥

-- the words are a command whose query, if it has one, is one
abbrev pub IsSound : Option Wanted → Type 0
IsSound (Some (Scan file query)) = IsExpr (parsed query)
IsSound (Some (Check file)) = Unit {0}
IsSound (Some (Steps script)) = ⊥
IsSound None = ⊥

-- the bytes are fewer than are taken of a source, and an input without a fault
abbrev pub IsWhole : List ℕ → Type 0
IsWhole bytes = (length bytes < 2 ^ 36) × ((input_steps bytes AtEnd).end ≡ None)

abbrev pub IsDone : Status → Type 0
IsDone Done = Unit {0}
IsDone Memory = Unit {0}
IsDone _ = ⊥

-- A sound command on a whole input is done where no count of faults rose, but that want of memory may come in its place.
abbrev pub Completes : Option Wanted → Outside → Outside → Outcome → Type 0
Completes command before now ended =
    IsSound command → IsSomeAnd (bytes_for command before) IsWhole → ¬ Rose before.opens now.opens → ¬ Rose before.writes now.writes
    → IfSome ended.source (λ rest. ¬ Rose 0 rest.faults) → IsDone ended.status

-- ---- parts of a command

-- what was written where a file was not opened
abbrev pub SaysUnopened : List ℕ → Status → Outside → Outside → Type 0
SaysUnopened file OpenFault before now = Writes before now (open_line file)
SaysUnopened file Memory before now = now.written ≡ before.written
SaysUnopened file _ before now = ⊥

abbrev pub IsOfFile : Status → Type 0
IsOfFile Usage = ⊥
IsOfFile QueryRefused = ⊥
IsOfFile Full = ⊥
IsOfFile ScriptFault = ⊥
IsOfFile _ = Unit {0}

-- a refused query was told, or memory was wanting and nothing was written
abbrev pub Refuses : Status → QueryFault → ℕ → ℕ → Option (List ℕ) → Option (List ℕ) → Type 0
Refuses QueryRefused fault faults faults_now before now = Says faults faults_now before now (refused_line fault)
Refuses Memory fault faults faults_now before now = (now ≡ before) × (faults_now ≡ faults)
Refuses _ fault faults faults_now before now = ⊥

-- what became of a file of which this is told
pub record ReportsFile (file : List ℕ) (text : Answers LogStep → List ℕ) (before now : Outside) (ended : Outcome) : Type 0 where
  pub known : IsOfFile ended.status
  pub opening : ended.status ≡ OpenFault → Rose before.opens now.opens
  pub write : ended.status ≡ WriteFault → Rose before.writes now.writes
  pub read : ended.status ≡ ReadFault → IsSomeAnd ended.source (λ rest. Rose 0 rest.faults)
  pub stands : StandsBy ended.status before now
  pub opened : WasOpened ended.status (IsSome ended.source)
  pub scanned : IfSome ended.source (λ rest. TellsFile file text before now ended.status rest)
  pub early : IfNone ended.source (SaysUnopened file ended.status before now)
