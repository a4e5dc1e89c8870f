-- The causes of the statuses.
use Rattle.std.proofs.Common.{◌≡◌, ◌≢◌, ℕ, zero, suc, ◌-◌, Bool, false, List, Option, None, Some, Result, Ok, Err, IfSome, IfNone, IsSome, IsSomeAnd, length, take, refl, ap, sym, ◌∙◌, subst, nat_lt, nat_le, arith}
use Rattle.std.proofs.lemmas.List.{length-take}
use Rattle.query_meaning.specs.declared.expr.Expr.{Expr}
use Rattle.query_parse.specs.declared.fault.QueryFault.{QueryFault}
use Rattle.query_parse.specs.Parsing.{parsed}
use Rattle.vast_io.specs.Causes.{Rose}
use Rattle.source_block.specs.Holding.{most_bytes}
use Rattle.zeek_log.specs.Table.{LogStep}
use Rattle.zeek_log.specs.Steps.{steps_of, taken_steps}
use Rattle.source_block.specs.declared.stop.Stop.TheVariants.{AtEnd}
use Rattle.importer.specs.declared.ends.How.{How}
use Rattle.importer.specs.declared.ends.ImportEnd.{ImportEnd}
use Rattle.importer.specs.Ending.{Answers}
use Rattle.importer.specs.Steps.{input_steps, input_steps_of_source}
use Rattle.importer.proofs.LawLemmas.{below_bound, below_most}
use Rattle.input_report.specs.declared.status.Status.{Status}
use Rattle.input_report.specs.declared.status.Status.TheVariants as status
use Rattle.input_report.specs.Causes.{IsOfReport, LeavesNothing, ReadsWell, Rest, SinkStands, TellsOf, TellsSome, TellsSource, TellsText, rest_of}
use Rattle.input_report.specs.Texts.{check_text, scan_text}
use Rattle.vast.specs.Causes.{IsRefusal, IsRefused, Refuses, Outside, Outcome, Writes, Stands, StandsBy, SaysUnopened, SaysRefused, SaysEarly, WasOpened, IsOfCommand, IsOfFile, TellsFile, TellsScan, TellsCommand, ReportsFile, bytes_for, IsExpr, IsSound, IsWhole, IsDone, Completes, Does, outcome}
use Rattle.vast.specs.Texts.{usage_line}
use Rattle.vast.specs.Words.{Wanted, Scan, Check, Steps, file_of}

module _ (before now : Outside) where
  abbrev Unopened : Status → Outcome
  Unopened s = record { status = s; source = None }

  -- ---- where nothing was opened

  pub does_usage : now.opens ≡ before.opens → Writes before now usage_line → Does None before now (record { status = status.Usage; source = None })
  does_usage same says = record {
    known = tt;
    usage = record { only = λ _. refl; always = λ _ _. refl };
    refused = record { only = λ h. cc; always = λ h. absurd h };
    opening = λ h. cc;
    write = λ h. cc;
    read = λ h. cc;
    stands = same;
    opened = λ h. cc;
    scanned = tt;
    early = says;
  }

  pub does_memory : (command : Option Wanted) → now.written ≡ before.written → Stands before now → Does command before now (record { status = status.Memory; source = None })
  does_memory command same stands = record {
    known = tt;
    usage = record { only = λ h. cc; always = λ _ h. absurd (h refl) };
    refused = record { only = λ h. cc; always = λ _ h. absurd (h refl) };
    opening = λ h. cc;
    write = λ h. cc;
    read = λ h. cc;
    stands = stands;
    opened = tt;
    scanned = tt;
    early = same;
  }

  refused_so : (file query : List ℕ) (fault : QueryFault) → parsed query ≡ Err fault → now.opens ≡ before.opens → SaysRefused (Err fault) before now
      → Does (Some (Scan file query)) before now (Unopened status.QueryRefused)
  refused_so file query fault is same says = record {
    known = tt;
    usage = record { only = λ h. cc; always = λ h _. cc };
    refused = record { only = λ _. subst IsRefusal (sym is) tt; always = λ _ _. refl };
    opening = λ h. cc;
    write = λ h. cc;
    read = λ h. cc;
    stands = same;
    opened = λ h. cc;
    scanned = tt;
    early = subst (λ (r : Result Expr QueryFault). SaysRefused r before now) (sym is) says;
  }

  pub does_refuse : (s : Status) (file query : List ℕ) (fault : QueryFault) → parsed query ≡ Err fault → now.opens ≡ before.opens
      → Refuses s fault before.writes now.writes before.written now.written → Does (Some (Scan file query)) before now (record { status = s; source = None })
  does_refuse status.QueryRefused file query fault is same refuses = refused_so file query fault is same refuses
  does_refuse status.Memory file query fault is same refuses = does_memory (Some (Scan file query)) refuses.0 (same, refuses.1)
  does_refuse _ file query fault is same refuses = absurd refuses

  -- ---- where a file was to be opened

  not_usage : (s : Status) → IsOfFile s → s ≢ status.Usage
  not_usage s known = λ is. subst IsOfFile is known

  not_refused : (s : Status) → IsOfFile s → s ≢ status.QueryRefused
  not_refused s known = λ is. subst IsOfFile is known

  of_command : (s : Status) → IsOfFile s → IsOfCommand s
  of_command status.Full known = known
  of_command status.ScriptFault known = known
  of_command _ known = tt

  early_so : (s : Status) (wanted : Wanted) → SaysUnopened (file_of wanted) s before now → SaysEarly (Some wanted) s before now
  early_so status.OpenFault wanted says = says
  early_so status.Memory wanted says = says
  early_so _ wanted says = absurd says

  early_of : (source : Option Rest) (s : Status) (wanted : Wanted) → IfNone source (SaysUnopened (file_of wanted) s before now) → IfNone source (SaysEarly (Some wanted) s before now)
  early_of None s wanted says = early_so s wanted says
  early_of (Some rest) s wanted says = tt

  scanned_by : (wanted : Wanted) (text : Answers LogStep → List ℕ) (s : Status) (source : Option Rest)
      → ((rest : Rest) → TellsFile (file_of wanted) text before now s rest → TellsCommand (Some wanted) before now s rest)
      → IfSome source (λ rest. TellsFile (file_of wanted) text before now s rest) → IfSome source (λ rest. TellsCommand (Some wanted) before now s rest)
  scanned_by wanted text s None tells told = tt
  scanned_by wanted text s (Some rest) tells told = tells rest told

  does_file : (wanted : Wanted) (text : Answers LogStep → List ℕ) (ended : Outcome) → ¬ IsRefused (Some wanted) → ReportsFile (file_of wanted) text before now ended
      → ((rest : Rest) → TellsFile (file_of wanted) text before now ended.status rest → TellsCommand (Some wanted) before now ended.status rest) → Does (Some wanted) before now ended
  does_file wanted text ended sound reports tells = record {
    known = of_command ended.status reports.known;
    usage = record { only = λ is. absurd (not_usage ended.status reports.known is); always = λ h _. cc };
    refused = record { only = λ is. absurd (not_refused ended.status reports.known is); always = λ h _. absurd (sound h) };
    opening = reports.opening;
    write = reports.write;
    read = reports.read;
    stands = reports.stands;
    opened = reports.opened;
    scanned = scanned_by wanted text ended.status ended.source tells reports.scanned;
    early = early_of ended.source ended.status wanted reports.early;
  }

  pub does_check : (file : List ℕ) (ended : Outcome) → ReportsFile file check_text before now ended → Does (Some (Check file)) before now ended
  does_check file ended reports = does_file (Check file) check_text ended (λ h. h) reports (λ rest tells. tells)

  scan_sound : (file query : List ℕ) (expr : Expr) → parsed query ≡ Ok expr → ¬ IsRefused (Some (Scan file query))
  scan_sound file query expr is = λ refused. subst IsRefusal is refused

  pub does_scan : (file query : List ℕ) (expr : Expr) (ended : Outcome) → parsed query ≡ Ok expr → ReportsFile file (λ steps. scan_text steps expr) before now ended
      → Does (Some (Scan file query)) before now ended
  does_scan file query expr ended is reports =
      does_file (Scan file query) (λ steps. scan_text steps expr) ended (scan_sound file query expr is) reports
      (λ rest tells. subst (λ (r : Result Expr QueryFault). TellsScan r file before now ended.status rest) (sym is) tells)

  -- ---- a file

  report_known : (s : Status) → IsOfReport s → IsOfFile s
  report_known status.Usage known = absurd known
  report_known status.QueryRefused known = absurd known
  report_known status.Full known = absurd known
  report_known status.ScriptFault known = absurd known
  report_known _ known = tt

  not_opening : (s : Status) → IsOfReport s → s ≢ status.OpenFault
  not_opening s known = λ is. subst IsOfReport is known

  report_stands : (s : Status) → IsOfReport s → now.opens ≡ before.opens → SinkStands s before.writes now.writes → StandsBy s before now
  report_stands status.Usage known same sink = absurd known
  report_stands status.QueryRefused known same sink = absurd known
  report_stands status.OpenFault known same sink = absurd known
  report_stands status.WriteFault known same sink = same
  report_stands status.Full known same sink = absurd known
  report_stands status.ScriptFault known same sink = absurd known
  report_stands _ known same sink = (same, sink)

  report_opened : (s : Status) (rest : Rest) → IsOfReport s → WasOpened s (IsSome (Some rest))
  report_opened status.Usage rest known = absurd known
  report_opened status.QueryRefused rest known = absurd known
  report_opened status.OpenFault rest known = absurd known
  report_opened status.Full rest known = absurd known
  report_opened status.ScriptFault rest known = absurd known
  report_opened status.Memory rest known = tt
  report_opened _ rest known = refl

  pub reports_opened : (file : List ℕ) (text : Answers LogStep → List ℕ) (s : Status) (went : How) (rest : Rest) (left : Option (List ℕ)) (faults : ℕ)
      → left ≡ before.bytes_of file → faults ≡ 0 → now.opens ≡ before.opens
      → TellsSource text (record { left = left; faults = faults }) rest before.written now.written s went → IsOfReport s → SinkStands s before.writes now.writes
      → (s ≡ status.WriteFault → Rose before.writes now.writes)
      → ReportsFile file text before now (record { status = s; source = Some rest })
  reports_opened file text s went rest left faults is none same tells known sink write = record {
    known = report_known s known;
    opening = λ h. absurd (not_opening s known h);
    write = write;
    read = λ h. subst (λ (n : ℕ). Rose n rest.faults) none (tells.read h);
    stands = report_stands s known same sink;
    opened = report_opened s rest known;
    scanned = record {
      told = subst (λ (n : ℕ). TellsOf s (before.bytes_of file) rest.left n rest.faults text before.written now.written) none
          (subst (λ (k : Option (List ℕ)). TellsOf s k rest.left faults rest.faults text before.written now.written) is tells.told);
      untold = tells.untold;
      reads = subst (λ (n : ℕ). ReadsWell s n rest.faults) none tells.reads;
      ends = tells.ends;
    };
    early = tt;
  }

  pub reports_told : {S : Type 0} (left_of : S → Option (List ℕ)) (faults_of : S → ℕ) (file : List ℕ) (text : Answers LogStep → List ℕ) (s : Status) (went : How) (source : S) (rest : Option S)
      → left_of source ≡ before.bytes_of file → faults_of source ≡ 0 → now.opens ≡ before.opens
      → IsSomeAnd rest (λ r. TellsSource text (rest_of left_of faults_of source) (rest_of left_of faults_of r) before.written now.written s went) → IsOfReport s
      → SinkStands s before.writes now.writes → (s ≡ status.WriteFault → Rose before.writes now.writes) → ReportsFile file text before now (outcome left_of faults_of s rest)
  reports_told left_of faults_of file text s went source None is none same tells known sink write = absurd tells
  reports_told left_of faults_of file text s went source (Some r) is none same tells known sink write =
      reports_opened file text s went (rest_of left_of faults_of r) (left_of source) (faults_of source) is none same tells known sink write

  pub reports_failed : (file : List ℕ) (text : Answers LogStep → List ℕ) → Rose before.opens now.opens → SaysUnopened file status.OpenFault before now
      → ReportsFile file text before now (record { status = status.OpenFault; source = None })
  reports_failed file text rose says = record {
    known = tt;
    opening = λ h. rose;
    write = λ h. cc;
    read = λ h. cc;
    stands = tt;
    opened = λ h. cc;
    scanned = tt;
    early = says;
  }

  pub reports_memory : (file : List ℕ) (text : Answers LogStep → List ℕ) → now.written ≡ before.written → Stands before now
      → ReportsFile file text before now (record { status = status.Memory; source = None })
  reports_memory file text same stands = record {
    known = tt;
    opening = λ h. cc;
    write = λ h. cc;
    read = λ h. cc;
    stands = stands;
    opened = tt;
    scanned = tt;
    early = same;
  }

  pub reports_unopened : {S : Type 0} (left_of : S → Option (List ℕ)) (faults_of : S → ℕ) (file : List ℕ) (text : Answers LogStep → List ℕ) (s why : Status) (rest : Option S)
      → s ≡ why → rest ≡ None → ReportsFile file text before now (record { status = why; source = None }) → ReportsFile file text before now (outcome left_of faults_of s rest)
  reports_unopened {S = S} left_of faults_of file text s why rest is none reports =
      subst (λ (r : Option S). ReportsFile file text before now (outcome left_of faults_of s r)) (sym none)
      (subst (λ (x : Status). ReportsFile file text before now (record { status = x; source = None })) (sym is) reports)

  -- ---- a sound command on a whole input

  no_refusal : (r : Result Expr QueryFault) → IsExpr r → IsRefusal r → ⊥
  no_refusal (Ok expr) sound refused = refused
  no_refusal (Err fault) sound refused = sound

  sound_not_refused : (command : Option Wanted) → IsSound command → IsRefused command → ⊥
  sound_not_refused None sound refused = sound
  sound_not_refused (Some (Check file)) sound refused = refused
  sound_not_refused (Some (Scan file query)) sound refused = no_refusal (parsed query) sound refused
  sound_not_refused (Some (Steps script)) sound refused = refused

  none_lt : (n : ℕ) → ¬ Rose 0 n → nat_lt 0 n ≡ false
  none_lt zero calm = refl
  none_lt (suc n) calm = absurd (calm (omega arith))

  whole_ends : (bytes rest : List ℕ) (n : ℕ) → IsWhole bytes → ¬ Rose 0 n → (input_steps_of_source bytes rest (nat_lt 0 n)).end ≡ None
  whole_ends bytes rest n whole calm =
      let few : nat_le most_bytes (length (take (length bytes - length rest) bytes)) ≡ false =
      below_most (length (take (length bytes - length rest) bytes)) (omega (arith, whole.0, length-take (length bytes - length rest) bytes)) in
      ap (λ (b : Bool). (input_steps_of_source bytes rest b).end) (none_lt n calm)
      ∙ ap (λ (s : Answers LogStep). s.end) (below_bound bytes (take (length bytes - length rest) bytes) false few refl) ∙ whole.1

  abbrev EndsDone : Status → Type 0
  EndsDone s = (t : List ℕ) × TellsText s None t before.written now.written

  tells_whole : (s : Status) (known left : Option (List ℕ)) (n : ℕ) (text : Answers LogStep → List ℕ) → TellsOf s known left 0 n text before.written now.written → IsSomeAnd known IsWhole → ¬ Rose 0 n → EndsDone s
  tells_whole s None left n text tells whole calm = absurd whole
  tells_whole s (Some bytes) None n text tells whole calm = absurd tells
  tells_whole s (Some bytes) (Some rest) n text tells whole calm =
      let steps = input_steps_of_source bytes rest (nat_lt 0 n) in
      (text steps, subst (λ (e : Option ImportEnd). TellsText s e (text steps) before.written now.written) (whole_ends bytes rest n whole calm) (tells (omega arith)))

  scan_whole : (r : Result Expr QueryFault) (file : List ℕ) (s : Status) (rest : Rest) → TellsScan r file before now s rest → IsSomeAnd (before.bytes_of file) IsWhole → ¬ Rose 0 rest.faults → EndsDone s
  scan_whole (Ok expr) file s rest tells whole calm = tells_whole s (before.bytes_of file) rest.left rest.faults (λ steps. scan_text steps expr) tells.told whole calm
  scan_whole (Err fault) file s rest tells whole calm = absurd tells

  command_whole : (command : Option Wanted) (s : Status) (rest : Rest) → TellsCommand command before now s rest → IsSomeAnd (bytes_for command before) IsWhole → ¬ Rose 0 rest.faults → EndsDone s
  command_whole None s rest tells whole calm = absurd tells
  command_whole (Some (Scan file query)) s rest tells whole calm = scan_whole (parsed query) file s rest tells whole calm
  command_whole (Some (Check file)) s rest tells whole calm = tells_whole s (before.bytes_of file) rest.left rest.faults check_text tells.told whole calm
  command_whole (Some (Steps script)) s rest tells whole calm = absurd tells

  source_whole : (command : Option Wanted) (s : Status) (source : Option Rest) → IsSome source → IfSome source (λ rest. TellsCommand command before now s rest)
      → IsSomeAnd (bytes_for command before) IsWhole → IfSome source (λ rest. ¬ Rose 0 rest.faults) → EndsDone s
  source_whole command s None some tells whole calm = cc
  source_whole command s (Some rest) some tells whole calm = command_whole command s rest tells whole calm

  no_read_fault : (source : Option Rest) → IsSomeAnd source (λ rest. Rose 0 rest.faults) → IfSome source (λ rest. ¬ Rose 0 rest.faults) → ⊥
  no_read_fault None rose calm = rose
  no_read_fault (Some rest) rose calm = calm rose

  done_by : (s : Status) (command : Option Wanted) (source : Option Rest) → Does command before now (record { status = s; source = source })
      → IsSound command → IsSomeAnd (bytes_for command before) IsWhole → ¬ Rose before.opens now.opens → ¬ Rose before.writes now.writes
      → IfSome source (λ rest. ¬ Rose 0 rest.faults) → IsDone s
  done_by status.Done command source does sound whole opens writes calm = tt
  done_by status.Memory command source does sound whole opens writes calm = tt
  done_by status.Usage command source does sound whole opens writes calm = subst IsSound (does.usage.only refl) sound
  done_by status.QueryRefused command source does sound whole opens writes calm = sound_not_refused command sound (does.refused.only refl)
  done_by status.OpenFault command source does sound whole opens writes calm = opens (does.opening refl)
  done_by status.WriteFault command source does sound whole opens writes calm = writes (does.write refl)
  done_by status.ReadFault command source does sound whole opens writes calm = no_read_fault source (does.read refl) calm
  done_by status.InputFault command source does sound whole opens writes calm =
      (source_whole command status.InputFault source does.opened does.scanned whole calm).1.0
  done_by status.TooLong command source does sound whole opens writes calm =
      let told = source_whole command status.TooLong source does.opened does.scanned whole calm in
      let no = told.1.0 in cc
  done_by status.Full command source does sound whole opens writes calm = does.known
  done_by status.ScriptFault command source does sound whole opens writes calm = does.known

  pub completes : (command : Option Wanted) (ended : Outcome) → Does command before now ended → Completes command before now ended
  completes command ended does sound whole opens writes calm = done_by ended.status command ended.source does sound whole opens writes calm
