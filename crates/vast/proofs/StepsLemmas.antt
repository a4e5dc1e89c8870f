-- What became of a script.
use Rattle.std.proofs.Common.{◌≡◌, ℕ, ◌+◌, ◌<◌, ◌≤◌, ◌^◌, ◌++◌, List, [], ◌∷◌, Option, None, Some, Result, Ok, Err, MatchOption, IfSome, IsSome, IsSomeAnd, map, length, refl, ap, sym, ◌∙◌, subst, arith, length-append}
use Rattle.std.proofs.lemmas.List.{append-nil}
use Rattle.std.specs.Io.KnownBytes.{prepend_known}
use Rattle.std.specs.Option.{option_map}
use Rattle.vast_io.specs.Causes.{Rose}
use Rattle.vast_io.specs.Told.{IsAtEnd}
use Rattle.history_core.specs.Shown.{Shown}
use Rattle.zeek_log.specs.Table.{LogStep}
use Rattle.importer.specs.declared.ends.SourceEnd.{SourceEnd}
use Rattle.importer.specs.Ending.{Answers}
use Rattle.input_report.specs.Causes.{Rest, rest_of}
use Rattle.input_report.specs.declared.status.Status.{Status}
use Rattle.input_report.specs.declared.status.Status.TheVariants as status
use Rattle.step_script.specs.declared.whole.Unread.{Unread}
use Rattle.step_script.specs.declared.whole.Unread.TheVariants as unread
use Rattle.step_script.specs.Scripts.{script_of}
use Rattle.step_script.specs.Told.{AreGood, IsDone as IsScriptDone, Outside as Moment, SeenEnd, end_of}
use Rattle.step_script.specs.Wholes.{IsReadSo, PlaysRead, PlaysSource}
use Rattle.step_script.proofs.CompleteLemmas.{completes as script_completes}
use Rattle.vast.specs.Causes.{IsDone, Outside, ReportsFile, SaysUnopened, StandsBy, rest_in}
use Rattle.vast.specs.Steps.{CompletesFile, CompletesWords, DoesWords, IsSoundScript, IsUnopened, Left, PlaysFile, PlaysHere, PlaysOpened, first_rest, moment, outcome_of}
use Rattle.vast.specs.Words.{Check, Scan, Steps, Wanted}
use Rattle.vast.proofs.CauseLemmas.{completes}

-- ---- what was left

-- a script that was played is the same by its source as it was left
pub plays_here : {S : Type 0} (left_of : S → Option (List ℕ)) (faults_of : S → ℕ) (names : List ℕ → Option (List ℕ)) (left : Option (List ℕ)) (faults : ℕ) (before now : Moment) (steps steps_now : ℕ) (ended : Status) (store : Option Shown) (ends : List SeenEnd) (script : Option S)
    → IfSome script (λ rest. PlaysSource names left faults (record { left = left_of rest; faults = faults_of rest }) before now steps steps_now ended store ends)
    → IfSome script (λ rest. PlaysHere names left faults (rest_of left_of faults_of rest) before now ended store ends)
plays_here left_of faults_of names left faults before now steps steps_now ended store ends None plays = tt
plays_here left_of faults_of names left faults before now steps steps_now ended store ends (Some rest) plays = (steps, (steps_now, plays))

pub plays_opened : {S : Type 0} (left_of : S → Option (List ℕ)) (faults_of : S → ℕ) (file : List ℕ) (before now : Outside) (ended : Status) (store : Option Shown) (ends : List SeenEnd) (left : Option (List ℕ)) (faults : ℕ) (then : Moment) (script : Option S)
    → left ≡ before.bytes_of file → faults ≡ 0 → then ≡ moment before → IsSome script → IfSome script (λ rest. PlaysHere before.bytes_of left faults (rest_of left_of faults_of rest) then (moment now) ended store ends)
    → PlaysFile file before now (record { status = ended; store = store; ends = ends; script = option_map (rest_of left_of faults_of) script })
plays_opened left_of faults_of file before now ended store ends left faults then None is none same some plays = absurd cc
plays_opened left_of faults_of file before now ended store ends left faults then (Some rest) is none same some plays =
    subst (λ (m : Moment). PlaysHere before.bytes_of (before.bytes_of file) 0 (rest_of left_of faults_of rest) m (moment now) ended store ends) same
    (subst (λ (n : ℕ). PlaysHere before.bytes_of (before.bytes_of file) n (rest_of left_of faults_of rest) then (moment now) ended store ends) none
    (subst (λ (b : Option (List ℕ)). PlaysHere before.bytes_of b faults (rest_of left_of faults_of rest) then (moment now) ended store ends) is plays))

pub same_moment : (before : Outside) (opens : ℕ) (written : Option (List ℕ)) (writes : ℕ) → opens ≡ before.opens → written ≡ before.written → writes ≡ before.writes → record { opens = opens; written = written; writes = writes } ≡ moment before
same_moment before opens written writes first second third =
    ap (λ (n : ℕ). record { opens = n; written = written; writes = writes }) first
    ∙ ap (λ (k : Option (List ℕ)). record { opens = before.opens; written = k; writes = writes }) second
    ∙ ap (λ (n : ℕ). record { opens = before.opens; written = before.written; writes = n }) third

pub unopened_so : {S : Type 0} (left_of : S → Option (List ℕ)) (faults_of : S → ℕ) (file : List ℕ) (before now : Outside) (ended why : Status) (store : Option Shown) (ends : List (SourceEnd S)) (script : Option S)
    → ended ≡ why → store ≡ None → ends ≡ [] → script ≡ None → ((text : Answers LogStep → List ℕ) → ReportsFile file text before now (record { status = why; source = None }))
    → PlaysFile file before now (record { status = ended; store = store; ends = map (end_of (record { left = left_of; faults = faults_of })) ends; script = option_map (rest_of left_of faults_of) script })
unopened_so {S = S} left_of faults_of file before now ended why store ends script is no_store no_ends no_script reports =
    let so = reports (λ _. []) in
    subst (λ (x : Option S). PlaysFile file before now (record { status = ended; store = store; ends = map (end_of (record { left = left_of; faults = faults_of })) ends; script = option_map (rest_of left_of faults_of) x })) (sym no_script)
    (record {
      says = subst (λ (s : Status). SaysUnopened file s before now) (sym is) so.early;
      opening = λ h. so.opening (sym is ∙ h);
      stands = subst (λ (s : Status). StandsBy s before now) (sym is) so.stands;
      store = no_store;
      ends = ap (map (end_of (record { left = left_of; faults = faults_of }))) no_ends;
    })

-- the end that is left
pub first_is : {S : Type 0} (left_of : S → Option (List ℕ)) (faults_of : S → ℕ) (end : Option (SourceEnd S)) (ends : List (SourceEnd S)) → MatchOption end (ends ≡ []) (λ e. ends ≡ e ∷ [])
    → first_rest (map (end_of (record { left = left_of; faults = faults_of })) ends) ≡ option_map (rest_of left_of faults_of) (rest_in end)
first_is {S = S} left_of faults_of None ends is = ap (λ (es : List (SourceEnd S)). first_rest (map (end_of (record { left = left_of; faults = faults_of })) es)) is
first_is {S = S} left_of faults_of (Some e) ends is = ap (λ (es : List (SourceEnd S)). first_rest (map (end_of (record { left = left_of; faults = faults_of })) es)) is

-- ---- a sound script

-- a script that was not opened, by its status
unopened_done : (s : Status) (script : List ℕ) (before now : Outside) → SaysUnopened script s before now → (s ≡ status.OpenFault → Rose before.opens now.opens) → ¬ Rose before.opens now.opens → IsDone s
unopened_done status.Memory script before now says opening opens = tt
unopened_done status.OpenFault script before now says opening opens = absurd (opens (opening refl))
unopened_done _ script before now says opening opens = absurd says

all_read : (known left : Option (List ℕ)) (bytes all : List ℕ) → known ≡ prepend_known bytes left → IsAtEnd left → known ≡ Some all → bytes ≡ all
all_read known None bytes all is at_end here = cc
all_read known (Some rest) bytes all is at_end here =
    let joined : Some all ≡ Some (bytes ++ rest) = sym here ∙ is in
    let same : all ≡ bytes ++ rest = cc in
    sym (same ∙ ap (λ (r : List ℕ). bytes ++ r) at_end ∙ append-nil bytes)

too_many : (known left : Option (List ℕ)) (took all : List ℕ) → known ≡ prepend_known took left → known ≡ Some all → 2 ^ 20 < length took → length all ≤ 2 ^ 20 → ⊥
too_many known None took all is here many few = cc
too_many known (Some rest) took all is here many few =
    let joined : Some all ≡ Some (took ++ rest) = sym here ∙ is in
    let same : all ≡ took ++ rest = cc in
    omega (arith, many, few, ap length same, length-append took rest)

done_same : (s : Status) → IsScriptDone s → IsDone s
done_same status.Done done = tt
done_same status.Memory done = tt
done_same _ done = absurd done

read_done : (read : Result (List ℕ) Unread) (known : Option (List ℕ)) (all : List ℕ) (rest : Rest) (before now : Outside) (steps steps_now : ℕ) (left : Left) → known ≡ Some all → IsSoundScript all
    → IsReadSo read known rest.left 0 rest.faults → PlaysRead read before.bytes_of (moment before) (moment now) steps steps_now left.status left.store left.ends
    → ¬ Rose before.opens now.opens → ¬ Rose before.writes now.writes → ¬ Rose 0 rest.faults → AreGood before.bytes_of left.ends → IsDone left.status
read_done (Ok bytes) known all rest before now steps steps_now left here sound reads plays opens writes calm good =
    let same : bytes ≡ all = all_read known rest.left bytes all reads.0 reads.1.0 here in
    done_same left.status
    (script_completes before.bytes_of (script_of bytes) (moment before) (moment now) steps steps_now left.status left.store left.ends plays (ap (λ (b : List ℕ). (script_of b).bad) same ∙ sound.1) opens writes good)
read_done (Err unread.Failed) known all rest before now steps steps_now left here sound reads plays opens writes calm good = absurd (calm reads)
read_done (Err unread.TooLong) known all rest before now steps steps_now left here sound reads plays opens writes calm good =
    absurd (too_many known rest.left reads.0 all reads.1.0 here reads.1.1.0 sound.0)
read_done (Err unread.Memory) known all rest before now steps steps_now left here sound reads plays opens writes calm good = subst IsDone (sym plays.0) tt

source_done : (known : Option (List ℕ)) (rest : Rest) (before now : Outside) (steps steps_now : ℕ) (left : Left) → IsSomeAnd known IsSoundScript
    → PlaysSource before.bytes_of known 0 rest (moment before) (moment now) steps steps_now left.status left.store left.ends
    → ¬ Rose before.opens now.opens → ¬ Rose before.writes now.writes → ¬ Rose 0 rest.faults → AreGood before.bytes_of left.ends → IsDone left.status
source_done None rest before now steps steps_now left sound plays opens writes calm good = absurd sound
source_done (Some all) rest before now steps steps_now left sound plays opens writes calm good =
    read_done plays.read (Some all) all rest before now steps steps_now left refl sound plays.reads plays.plays opens writes calm good

opened_done : (rest : Option Rest) (script : List ℕ) (before now : Outside) (left : Left) → PlaysOpened rest script before now left → IsSomeAnd (before.bytes_of script) IsSoundScript
    → ¬ Rose before.opens now.opens → ¬ Rose before.writes now.writes → IfSome rest (λ r. ¬ Rose 0 r.faults) → AreGood before.bytes_of left.ends → IsDone left.status
opened_done None script before now left so sound opens writes calm good = unopened_done left.status script before now so.says so.opening opens
opened_done (Some rest) script before now left so sound opens writes calm good = source_done (before.bytes_of script) rest before now so.0 so.1.0 left sound so.1.1 opens writes calm good

pub completes_file : (script : List ℕ) (before now : Outside) (left : Left) → PlaysFile script before now left → CompletesFile script before now left
completes_file script before now left so sound opens writes calm good = opened_done left.script script before now left so sound opens writes calm good

pub completes_words : (command : Option Wanted) (before now : Outside) (left : Left) → DoesWords command before now left → CompletesWords command before now left
completes_words (Some (Steps script)) before now left does = completes_file script before now left does
completes_words (Some (Scan file query)) before now left does = completes before now (Some (Scan file query)) (outcome_of left) does.does
completes_words (Some (Check file)) before now left does = completes before now (Some (Check file)) (outcome_of left) does.does
completes_words None before now left does = completes before now None (outcome_of left) does.does
