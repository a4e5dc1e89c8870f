-- A script that a source gives.
use Rattle.std.specs.Prelude.{◌≡◌, ℕ, ◌≤◌, ◌<◌, ◌^◌, List, [], ◌++◌, Option, None, Result, Ok, Err, codes, length, ◌⊎◌}
use Rattle.std.specs.Io.KnownBytes.{prepend_known}
use Rattle.vast_io.specs.Causes.{Rose}
use Rattle.vast_io.specs.Told.{IsAtEnd}
use Rattle.history_core.specs.Shown.{Shown}
use Rattle.input_report.specs.declared.status.Status.{Status}
use Rattle.input_report.specs.declared.status.Status.TheVariants as status
use Rattle.step_script.specs.declared.whole.Unread.{Unread}
use Rattle.step_script.specs.declared.whole.Unread.TheVariants as unread
use Rattle.step_script.specs.Finishing.{AllSent, NoneSent, PartSent, Sent}
use Rattle.step_script.specs.Scripts.{script_of}
use Rattle.input_report.specs.Causes.{Rest}
use Rattle.input_report.specs.Texts.{line}
use Rattle.step_script.specs.Told.{Outside, PlaysScript, SeenEnd}

-- a piece was taken of a source
abbrev pub TookSo : Result ℕ Unread → List ℕ → List ℕ → Option (List ℕ) → Option (List ℕ) → ℕ → ℕ → Type 0
TookSo (Ok count) bytes bytes_now before now faults faults_now =
    (took : List ℕ) × ((bytes_now ≡ bytes ++ took) × ((length took ≡ count) × ((before ≡ prepend_known took now) × ((count ≡ 0 → IsAtEnd now) × (faults_now ≡ faults)))))
TookSo (Err unread.Failed) bytes bytes_now before now faults faults_now = Rose faults faults_now
TookSo (Err unread.TooLong) bytes bytes_now before now faults faults_now = ⊥
TookSo (Err unread.Memory) bytes bytes_now before now faults faults_now = faults_now ≡ faults

-- All of a source was read, or why it was not.
abbrev pub IsReadSo : Result (List ℕ) Unread → Option (List ℕ) → Option (List ℕ) → ℕ → ℕ → Type 0
IsReadSo (Ok bytes) before now faults faults_now = (before ≡ prepend_known bytes now) × (IsAtEnd now × ((length bytes ≤ 2 ^ 20) × (faults_now ≡ faults)))
IsReadSo (Err unread.Failed) before now faults faults_now = Rose faults faults_now
IsReadSo (Err unread.TooLong) before now faults faults_now =
    (took : List ℕ) × ((before ≡ prepend_known took now) × ((2 ^ 20 < length took) × (faults_now ≡ faults)))
IsReadSo (Err unread.Memory) before now faults faults_now = faults_now ≡ faults

-- a line was written, or the sink failed
abbrev pub SaysLine : Status → List ℕ → Status → Sent → Sent → Type 0
SaysLine wanted text ended before now = ((ended ≡ wanted) × AllSent before now text) ⊎ ((ended ≡ status.WriteFault) × PartSent before now text)

abbrev pub sent_of : Outside → Sent
sent_of out = record { written = out.written; writes = out.writes }

-- what became of a script by how it was read
abbrev pub PlaysRead : Result (List ℕ) Unread → (List ℕ → Option (List ℕ)) → Outside → Outside → ℕ → ℕ → Status → Option Shown → List SeenEnd → Type 0
PlaysRead (Ok bytes) told before now steps steps_now ended store ends = PlaysScript told (script_of bytes) before now steps steps_now ended store ends
PlaysRead (Err unread.Failed) told before now steps steps_now ended store ends =
    SaysLine status.ReadFault (line (codes "read fault")) ended (sent_of before) (sent_of now) × ((now.opens ≡ before.opens) × ((steps_now ≡ steps) × ((store ≡ None) × (ends ≡ []))))
PlaysRead (Err unread.TooLong) told before now steps steps_now ended store ends =
    SaysLine status.TooLong (line (codes "too long")) ended (sent_of before) (sent_of now) × ((now.opens ≡ before.opens) × ((steps_now ≡ steps) × ((store ≡ None) × (ends ≡ []))))
PlaysRead (Err unread.Memory) told before now steps steps_now ended store ends =
    (ended ≡ status.Memory) × (NoneSent (sent_of before) (sent_of now) × ((now.opens ≡ before.opens) × (steps_now ≡ steps)))

-- A script was read of a source, and became what its bytes say, or was not read whole.
pub record PlaysSource (told : List ℕ → Option (List ℕ)) (left : Option (List ℕ)) (faults : ℕ) (rest : Rest) (before now : Outside) (steps steps_now : ℕ) (ended : Status) (store : Option Shown) (ends : List SeenEnd) : Type 0 where
  pub read : Result (List ℕ) Unread
  pub reads : IsReadSo read left rest.left faults rest.faults
  pub plays : PlaysRead read told before now steps steps_now ended store ends

-- what was read is a script's size
abbrev pub IsSmall : Result (List ℕ) Unread → Type 0
IsSmall (Ok bytes) = length bytes ≤ 2 ^ 20
IsSmall (Err why) = Unit {0}
