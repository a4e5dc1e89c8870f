-- Values that the definitions have, computed by the prover. Each is false where its definition is wrong.
use Rattle.std.proofs.Common.{◌≡◌, ◌≢◌, ℕ, ◌+◌, ◌-◌, ◌^◌, ◌<◌, false, List, [], ◌∷◌, Option, None, Some, Result, Ok, Err, ◌⊎◌, ◌↔◌, IfSome, IsSomeAnd, length, codes, map, replicate, take, fold, if◌then◌else◌, ◌==◌, refl, ap, sym, subst, inl, inr, arith, lit≤}
use Rattle.std.specs.Fmt.{digits}
use Rattle.std.specs.Io.KnownBytes.{append_known}
use Rattle.std.specs.Str.{chars, is_utf8}
use Rattle.std.specs.Char.{encode_utf8}
use Rattle.value_text.specs.Literals.{literal_read, moment_of}
use Rattle.vast_value.specs.ValueBytes.{number as number_bytes, text as text_bytes}
use Rattle.source_block.specs.declared.stop.Stop.TheVariants.{AtEnd}
use Rattle.query_meaning.specs.declared.expr.Expr.{Expr}
use Rattle.query_parse.specs.declared.fault.QueryFault.{QueryFault}
use Rattle.query_parse.specs.declared.fault.QueryWhat.TheVariants as query
use Rattle.query_parse.specs.Lexemes.{word_lexeme}
use Rattle.query_parse.specs.Parsing.{parsed}
use Rattle.query_parse.specs.Tokens.{piece_of}
use Rattle.vast_io.specs.Causes.{Rose}
use Rattle.vast_io.specs.Told.{WritesPart, IsAtEnd}
use Rattle.vast_io.proofs.Writing.{part_all}
use Rattle.zeek_log.specs.Table.{LogStep}
use Rattle.history_core.specs.Shown.{Shown}
use Rattle.importer.specs.declared.ends.How.TheVariants as how
use Rattle.importer.specs.declared.ends.ImportEnd.TheVariants.{ReadFault}
use Rattle.importer.specs.Ending.{Answers}
use Rattle.importer.specs.Steps.{input_steps, input_steps_of_source}
use Rattle.input_report.specs.declared.status.Status.{Status}
use Rattle.input_report.specs.declared.status.Status.TheVariants as status
use Rattle.input_report.specs.Causes.{IsFault, Rest, Tells, TellsOf, TellsSome}
use Rattle.input_report.specs.Numbers.{number_of}
use Rattle.input_report.specs.Texts.{check_text, line, scan_text}
use Rattle.step_script.specs.Playing.{Playing, play, starting}
use Rattle.step_script.specs.Scripts.{script_of, usual}
use Rattle.step_script.specs.Told.{SeenEnd}
use Rattle.step_script.specs.Wholes.{PlaysSource}
use Rattle.vast.specs.Causes.{Exactly, Says, IsRefusal, IsRefused, Outside, Outcome, outside, outcome, Writes, Stands, StandsBy, SaysRefused, SaysQuery, SaysEarly, SaysUnopened, bytes_for, TellsFile, TellsScan, TellsCommand, WasOpened, IsOfCommand, Does, IsExpr, IsSound, IsWhole, IsDone, Completes}
use Rattle.vast.specs.Steps.{CompletesFile, CompletesWords, DoesFile, DoesWords, IsSoundScript, IsUnopened, Left, PlaysFile, PlaysHere, PlaysOpened, first_rest, moment, outcome_of}
use Rattle.vast.specs.Texts.{usage_line, open_line, query_fault_name, refused_line}
use Rattle.vast.specs.Words.{Wanted, Scan, Check, Steps, scan_words, file_words, command_of, file_of}

-- Words

words : map command_of ((codes "check" ∷ codes "d1" ∷ []) ∷ (codes "scan" ∷ codes "d1" ∷ codes "n == 1" ∷ []) ∷ (codes "scan" ∷ codes "d1" ∷ []) ∷ (codes "check" ∷ codes "d1" ∷ codes "x" ∷ []) ∷ (codes "scan" ∷ codes "d1" ∷ codes "n == 1" ∷ codes "x" ∷ []) ∷ (codes "scna" ∷ codes "d1" ∷ codes "n == 1" ∷ []) ∷ (codes "check" ∷ []) ∷ [] ∷ (codes "steps" ∷ codes "d1" ∷ []) ∷ []) ≡ (Some (Check (codes "d1")) ∷ Some (Scan (codes "d1") (codes "n == 1")) ∷ None ∷ None ∷ None ∷ None ∷ None ∷ None ∷ Some (Steps (codes "d1")) ∷ [])
words = refl

each_command_has_its_word : (file_words (codes "check") (codes "a") ∷ file_words (codes "steps") (codes "a") ∷ file_words (codes "scan") (codes "a") ∷ scan_words (codes "scan") (codes "a") (codes "b") ∷ scan_words (codes "check") (codes "a") (codes "b") ∷ []) ≡ (Some (Check (codes "a")) ∷ Some (Steps (codes "a")) ∷ None ∷ Some (Scan (codes "a") (codes "b")) ∷ None ∷ [])
each_command_has_its_word = refl

files : (file_of (Check (codes "a")) ∷ file_of (Scan (codes "b") (codes "c")) ∷ file_of (Steps (codes "d")) ∷ []) ≡ (codes "a" ∷ codes "b" ∷ codes "d" ∷ [])
files = refl

query_fault_names : map query_fault_name (query.Unexpected ∷ query.BadLiteral ∷ query.KindClash ∷ query.TooDeep ∷ query.TooLong ∷ []) ≡ (codes "Unexpected" ∷ codes "BadLiteral" ∷ codes "KindClash" ∷ codes "TooDeep" ∷ codes "TooLong" ∷ [])
query_fault_names = refl

lines : (line (codes "x") ∷ usage_line ∷ []) ≡ ((120 ∷ 10 ∷ []) ∷ line (codes "usage: vast scan FILE QUERY, steps SCRIPT, check FILE, load SEED ROWS, run FILE..") ∷ [])
lines = refl

other_lines : (open_line (codes "a\\b") ∷ refused_line (record { at = 4; what = query.Unexpected }) ∷ []) ≡ (line (codes "open a\\\\b") ∷ line (codes "query p1 at 4 Unexpected") ∷ [])
unfolding digits
other_lines = refl

-- ---- What the words of a promise mean

-- no two statuses of different numbers are one
differ : (a b : Status) → (number_of a ≡ number_of b → ⊥) → a ≢ b
differ a b apart same = apart (ap number_of same)

-- a status has its cause and a cause its status, but that want of memory may come in its place
each_status_has_its_cause : Exactly status.Usage status.Usage (Unit {0}) × Exactly status.Done status.Usage ⊥ × Exactly status.Memory status.Usage (Unit {0})
each_status_has_its_cause = (
  record { only = λ same. tt; always = λ cause other. refl },
  record { only = λ same. differ status.Done status.Usage (λ n. omega (arith, n)) same; always = λ cause other. absurd cause },
  record { only = λ same. tt; always = λ cause other. absurd (other refl) },
)

no_status_without_its_cause : (¬ Exactly status.Usage status.Usage ⊥) × (¬ Exactly status.Done status.Usage (Unit {0}))
no_status_without_its_cause = (
  (λ so. so.only refl),
  (λ so. differ status.Done status.Usage (λ n. omega (arith, n)) (so.always tt (differ status.Done status.Memory (λ n. omega (arith, n))))),
)

-- What was written

a_sink_takes_all_or_fails : Says 4 4 (Some (codes "a")) (Some (codes "abc")) (codes "bc") × Says 4 5 (Some (codes "a")) (Some (codes "ab")) (codes "bc")
a_sink_takes_all_or_fails = (inl refl, inr (omega arith, record { count = 1; within = lit≤ tt; is = refl }))

a_sink_that_stood_took_all : (count : ℕ) (before now : Option (List ℕ)) (text : List ℕ) → count < 2 ^ 64 - 1 → Says count count before now text → now ≡ append_known before text
a_sink_that_stood_took_all count before now text few (inl all) = all
a_sink_that_stood_took_all count before now text few (inr part) = absurd (omega (arith, few, part.0))

a_sink_takes_the_first_bytes : (count count_now : ℕ) (before now : Option (List ℕ)) (text : List ℕ) → Says count count_now before now text → WritesPart before now text
a_sink_takes_the_first_bytes count count_now before now text (inl all) = part_all before now text all
a_sink_takes_the_first_bytes count count_now before now text (inr part) = part.1

-- the sink's bytes and its count are looked at, and not the opener's count
the_sink_is_looked_at : (bytes_of : List ℕ → Option (List ℕ)) → Writes (outside bytes_of 4 (Some (codes "a")) 2) (outside bytes_of 5 (Some (codes "ab")) 2) (codes "b")
the_sink_is_looked_at bytes_of = inl refl

only_the_sink_is_looked_at : (bytes_of : List ℕ → Option (List ℕ)) (before now : Option (List ℕ)) (text : List ℕ) → Writes (outside bytes_of 4 before 2) (outside bytes_of 5 now 2) text → now ≡ append_known before text
only_the_sink_is_looked_at bytes_of before now text writes = a_sink_that_stood_took_all 2 before now text (omega arith) writes

what_is_told_is_of_some_steps : (text : Answers LogStep → List ℕ) (before now : Option (List ℕ)) → TellsSome status.Done text before now → (steps : Answers LogStep) × (steps.end ≡ None) × (now ≡ append_known before (text steps))
what_is_told_is_of_some_steps text before now some = (some.0, some.1.0, some.1.1)

abbrev counts : ℕ → ℕ → Outside
counts opens writes = outside (λ name. None) opens None writes

both_counts_stand : Stands (counts 1 2) (counts 1 2) × (¬ Stands (counts 1 2) (counts 3 2)) × (¬ Stands (counts 1 2) (counts 1 3))
both_counts_stand = ((refl, refl), (λ stand. omega (arith, stand.0)), (λ stand. omega (arith, stand.1)))

-- both may rise where an opening failed, and the sink's where a write failed or no command was read
counts_that_rise : StandsBy status.OpenFault (counts 1 2) (counts 3 4) × StandsBy status.WriteFault (counts 1 2) (counts 1 3) × StandsBy status.Usage (counts 1 2) (counts 1 3) × StandsBy status.QueryRefused (counts 1 2) (counts 1 3)
counts_that_rise = (tt, refl, refl, refl)

both_counts_stand_elsewhere : (before now : Outside) → (StandsBy status.Done before now → Stands before now) × (StandsBy status.ReadFault before now → Stands before now) × (StandsBy status.InputFault before now → Stands before now) × (StandsBy status.TooLong before now → Stands before now) × (StandsBy status.Memory before now → Stands before now)
both_counts_stand_elsewhere before now = ((λ stand. stand), (λ stand. stand), (λ stand. stand), (λ stand. stand), (λ stand. stand))

only_an_opening_that_failed_counts : (s : Status) (before now : Outside) → s ≢ status.OpenFault → StandsBy s before now → now.opens ≡ before.opens
only_an_opening_that_failed_counts status.Done before now other stand = stand.0
only_an_opening_that_failed_counts status.ReadFault before now other stand = stand.0
only_an_opening_that_failed_counts status.InputFault before now other stand = stand.0
only_an_opening_that_failed_counts status.TooLong before now other stand = stand.0
only_an_opening_that_failed_counts status.Memory before now other stand = stand.0
only_an_opening_that_failed_counts status.OpenFault before now other stand = absurd (other refl)
only_an_opening_that_failed_counts _ before now other stand = stand

-- Commands that are sound, refused or neither

a_sound_command_is_not_refused : (file query : List ℕ) (expr : Expr) → parsed query ≡ Ok expr → IsSound (Some (Scan file query)) × IsSound (Some (Check file)) × (¬ IsRefused (Some (Scan file query))) × (¬ IsRefused (Some (Check file)))
a_sound_command_is_not_refused file query expr is = (subst IsExpr (sym is) tt, tt, (λ refused. subst IsRefusal is refused), (λ refused. refused))

a_refused_query_is_not_sound : (file query : List ℕ) (fault : QueryFault) → parsed query ≡ Err fault → IsRefused (Some (Scan file query)) × (¬ IsSound (Some (Scan file query)))
a_refused_query_is_not_sound file query fault is = (subst IsRefusal (sym is) tt, (λ sound. subst IsExpr is sound))

no_command_is_neither_sound_nor_refused : (¬ IsSound None) × (¬ IsRefused None)
no_command_is_neither_sound_nor_refused = ((λ sound. sound), (λ refused. refused))

commands_need_no_store : (s : Status) → (s ≡ status.Full) ⊎ ((s ≡ status.ScriptFault) ⊎ IsOfCommand s)
commands_need_no_store status.Full = inl refl
commands_need_no_store status.ScriptFault = inr (inl refl)
commands_need_no_store _ = inr (inr tt)

no_command_fills_a_store_or_reads_a_script : (¬ IsOfCommand status.Full) × (¬ IsOfCommand status.ScriptFault)
no_command_fills_a_store_or_reads_a_script = ((λ known. known), (λ known. known))

-- Where no source was opened

a_refused_query_is_told : (before now : Outside) (file query : List ℕ) (fault : QueryFault) → parsed query ≡ Err fault → (SaysQuery (Some (Scan file query)) before now ↔ Writes before now (refused_line fault))
a_refused_query_is_told before now file query fault is = (subst (λ (r : Result Expr QueryFault). SaysRefused r before now) is, subst (λ (r : Result Expr QueryFault). SaysRefused r before now) (sym is))

no_other_query_is_told : (before now : Outside) (file query : List ℕ) (expr : Expr) → parsed query ≡ Ok expr → (¬ SaysQuery (Some (Scan file query)) before now) × (¬ SaysQuery (Some (Check file)) before now) × (¬ SaysQuery None before now)
no_other_query_is_told before now file query expr is = ((λ says. subst (λ (r : Result Expr QueryFault). SaysRefused r before now) is says), (λ says. says), (λ says. says))

abbrev wrote : List ℕ → Outside
wrote text = outside (λ name. None) 0 (Some text) 0

early_lines : SaysEarly None status.Usage (wrote []) (wrote usage_line) × SaysEarly (Some (Check (codes "f"))) status.OpenFault (wrote []) (wrote (open_line (codes "f"))) × SaysEarly (Some (Scan (codes "f") (codes "q"))) status.OpenFault (wrote []) (wrote (open_line (codes "f"))) × SaysEarly None status.Memory (wrote []) (wrote [])
early_lines = (inl refl, inl refl, inl refl, refl)

no_other_early_lines : (command : Option Wanted) (before now : Outside) → (SaysEarly command status.Usage before now → Writes before now usage_line) × (SaysEarly command status.QueryRefused before now → SaysQuery command before now) × (SaysEarly command status.Memory before now → now.written ≡ before.written) × (¬ SaysEarly None status.OpenFault before now)
no_other_early_lines command before now = ((λ says. says), (λ says. says), (λ says. says), (λ says. says))

the_file_that_was_not_opened_is_told : (file : List ℕ) (before now : Outside) → SaysEarly (Some (Check file)) status.OpenFault before now → Writes before now (open_line file)
the_file_that_was_not_opened_is_told file before now says = says

-- a command that has told what it tells without a source has opened none
early_is_unopened : (command : Option Wanted) (s : Status) (before now : Outside) → SaysEarly command s before now → WasOpened s ⊥
early_is_unopened command status.Usage before now says = λ opened. opened
early_is_unopened command status.QueryRefused before now says = λ opened. opened
early_is_unopened command status.OpenFault before now says = λ opened. opened
early_is_unopened command status.Memory before now says = tt
early_is_unopened command _ before now says = absurd says

-- Where a source was opened

no_source_at_these_statuses : (¬ WasOpened status.Usage (Unit {0})) × (¬ WasOpened status.QueryRefused (Unit {0})) × (¬ WasOpened status.OpenFault (Unit {0}))
no_source_at_these_statuses = ((λ none. none tt), (λ none. none tt), (λ none. none tt))

a_source_at_these_statuses : (P : Type 0) → (WasOpened status.Done P ↔ P) × (WasOpened status.WriteFault P ↔ P) × (WasOpened status.ReadFault P ↔ P) × (WasOpened status.InputFault P ↔ P) × (WasOpened status.TooLong P ↔ P)
a_source_at_these_statuses P = (((λ p. p), (λ p. p)), ((λ p. p), (λ p. p)), ((λ p. p), (λ p. p)), ((λ p. p), (λ p. p)), ((λ p. p), (λ p. p)))

a_source_or_none_where_memory_was_wanting : (P : Type 0) → WasOpened status.Memory P
a_source_or_none_where_memory_was_wanting P = tt

an_empty_log_is_done : (file : List ℕ) → TellsFile file check_text (outside (λ name. Some []) 0 (Some []) 0) (outside (λ name. Some []) 0 (Some (line (codes "end done"))) 0) status.Done (record { left = Some []; faults = 0 })
an_empty_log_is_done file = record { told = λ few. (refl, refl); untold = (record { given = []; end = None }, (refl, refl)); reads = refl; ends = refl }

a_file_that_is_done_is_whole : (file : List ℕ) (text : Answers LogStep → List ℕ) (before now : Outside) (rest : Rest) → TellsFile file text before now status.Done rest
    → (rest.faults ≡ 0) × IsAtEnd rest.left × ((steps : Answers LogStep) × (steps.end ≡ None) × (now.written ≡ append_known before.written (text steps)))
a_file_that_is_done_is_whole file text before now rest tells = (tells.reads, tells.ends, what_is_told_is_of_some_steps text before.written now.written tells.untold)

-- where the opener tells the bytes and nothing is left of them, the text is that of these bytes
the_bytes_of_the_file_are_told : (file bytes : List ℕ) (text : Answers LogStep → List ℕ) (before now : Outside) (s : Status) → before.bytes_of file ≡ Some bytes → TellsFile file text before now s (record { left = Some []; faults = 0 })
    → Tells s (input_steps_of_source bytes [] false) text before.written now.written
the_bytes_of_the_file_are_told file bytes text before now s is tells =
    let told : TellsOf s (Some bytes) (Some []) 0 0 text before.written now.written =
    subst (λ (known : Option (List ℕ)). TellsOf s known (Some []) 0 0 text before.written now.written) is tells.told in
    told (omega arith)

a_scan_tells_the_matches : (file query : List ℕ) (expr : Expr) (before now : Outside) (s : Status) (rest : Rest) → parsed query ≡ Ok expr
    → (TellsCommand (Some (Scan file query)) before now s rest ↔ TellsFile file (λ steps. scan_text steps expr) before now s rest)
a_scan_tells_the_matches file query expr before now s rest is = (subst (λ (r : Result Expr QueryFault). TellsScan r file before now s rest) is, subst (λ (r : Result Expr QueryFault). TellsScan r file before now s rest) (sym is))

a_check_tells_the_layouts : (file : List ℕ) (before now : Outside) (s : Status) (rest : Rest) → (TellsCommand (Some (Check file)) before now s rest ↔ TellsFile file check_text before now s rest) × (¬ TellsCommand None before now s rest)
a_check_tells_the_layouts file before now s rest = (((λ tells. tells), (λ tells. tells)), (λ tells. tells))

-- ---- What the promise of a command says, in other words

abbrev ended_so : Status → Option Rest → Outcome
ended_so s source = record { status = s; source = source }

-- words that are no command end so, unless memory was wanting
usage_is_told : (before now : Outside) (ended : Outcome) → Does None before now ended → ended.status ≢ status.Memory → ended.status ≡ status.Usage
usage_is_told before now ended does other = does.usage.always refl other

usage_line_is_written : (before now : Outside) → Does None before now (ended_so status.Usage None) → (now.written ≡ append_known before.written usage_line) ⊎ (Rose before.writes now.writes × WritesPart before.written now.written usage_line)
usage_line_is_written before now does = does.early

-- and so does a query that is refused
refusal_is_told : (before now : Outside) (ended : Outcome) (file query : List ℕ) (fault : QueryFault) → parsed query ≡ Err fault → Does (Some (Scan file query)) before now ended
    → ended.status ≢ status.Memory → ended.status ≡ status.QueryRefused
refusal_is_told before now ended file query fault is does other = does.refused.always (subst IsRefusal (sym is) tt) other

refused_line_is_written : (before now : Outside) (file query : List ℕ) (fault : QueryFault) → parsed query ≡ Err fault → Does (Some (Scan file query)) before now (ended_so status.QueryRefused None)
    → (now.written ≡ append_known before.written (refused_line fault)) ⊎ (Rose before.writes now.writes × WritesPart before.written now.written (refused_line fault))
refused_line_is_written before now file query fault is does = subst (λ (r : Result Expr QueryFault). SaysRefused r before now) is does.early

-- a query that is read is not refused
no_refusal : (before now : Outside) (source : Option Rest) (file query : List ℕ) (expr : Expr) → parsed query ≡ Ok expr → Does (Some (Scan file query)) before now (ended_so status.QueryRefused source) → ⊥
no_refusal before now source file query expr is does = subst IsRefusal is (does.refused.only refl)

open_line_is_written : (before now : Outside) (file : List ℕ) → Does (Some (Check file)) before now (ended_so status.OpenFault None)
    → Rose before.opens now.opens × ((now.written ≡ append_known before.written (open_line file)) ⊎ (Rose before.writes now.writes × WritesPart before.written now.written (open_line file)))
open_line_is_written before now file does = (does.opening refl, does.early)

-- a command that is done has used its source up, no count rose, and it has written the whole text of some steps that end so
done_is_whole : (before now : Outside) (file : List ℕ) (rest : Rest) → Does (Some (Check file)) before now (ended_so status.Done (Some rest))
    → (rest.faults ≡ 0) × IsAtEnd rest.left × (now.opens ≡ before.opens) × (now.writes ≡ before.writes)
    × ((steps : Answers LogStep) × (steps.end ≡ None) × (now.written ≡ append_known before.written (check_text steps)))
done_is_whole before now file rest does =
    let whole = a_file_that_is_done_is_whole file check_text before now rest does.scanned in
    (whole.0, whole.1, does.stands.0, does.stands.1, whole.2)

-- a scan that failed to read has told of steps that end so, and the source's count rose
failed_read_is_told : (before now : Outside) (file query : List ℕ) (expr : Expr) (rest : Rest) → parsed query ≡ Ok expr → Does (Some (Scan file query)) before now (ended_so status.ReadFault (Some rest))
    → Rose 0 rest.faults × ((steps : Answers LogStep) × (steps.end ≡ (Some ReadFault)) × (now.written ≡ append_known before.written (scan_text steps expr)))
failed_read_is_told before now file query expr rest is does =
    let told : TellsScan (Ok expr) file before now status.ReadFault rest = subst (λ (r : Result Expr QueryFault). TellsScan r file before now status.ReadFault rest) is does.scanned in
    (does.read refl, (told.untold.0, told.untold.1.0, told.untold.1.1))

-- the bytes that the opener tells are told
bytes_are_told : (before now : Outside) (file bytes : List ℕ) (s : Status) → before.bytes_of file ≡ Some bytes → Does (Some (Check file)) before now (ended_so s (Some (record { left = Some []; faults = 0 })))
    → Tells s (input_steps_of_source bytes [] false) check_text before.written now.written
bytes_are_told before now file bytes s is does = the_bytes_of_the_file_are_told file bytes check_text before now s is does.scanned

-- a fault of the log is told as such, and want of memory hides no failed write
fault_is_told : (before now : Outside) (file : List ℕ) (rest : Rest) → Does (Some (Check file)) before now (ended_so status.InputFault (Some rest)) → (steps : Answers LogStep) × IsFault steps.end
fault_is_told before now file rest does = let some = does.scanned.untold in (some.0, some.1.0)

memory_hides_nothing : (command : Option Wanted) (before now : Outside) (source : Option Rest) → Does command before now (ended_so status.Memory source) → (now.opens ≡ before.opens) × (now.writes ≡ before.writes)
memory_hides_nothing command before now source does = does.stands

-- nothing is opened where words or query are refused, and something is where a command is done
nothing_opened : (before now : Outside) (rest : Rest) → Does None before now (ended_so status.Usage (Some rest)) → ⊥
nothing_opened before now rest does = does.opened refl

no_store_yet : (command : Option Wanted) (before now : Outside) (source : Option Rest) → Does command before now (ended_so status.Full source) → ⊥
no_store_yet command before now source does = does.known

write_fault_has_its_cause : (command : Option Wanted) (before now : Outside) (source : Option Rest) → Does command before now (ended_so status.WriteFault source) → Rose before.writes now.writes
write_fault_has_its_cause command before now source does = does.write refl

-- the outside before and after, and how a command ended, as the clauses name them
outsides : (bytes_of : List ℕ → Option (List ℕ)) → ((outside bytes_of 1 (Some []) 2).opens ≡ 1) × ((outside bytes_of 1 (Some []) 2).writes ≡ 2) × (bytes_for (Some (Check (codes "f"))) (outside bytes_of 1 (Some []) 2) ≡ bytes_of (codes "f"))
outsides bytes_of = (refl, refl, refl)

outcomes : outcome {S = ℕ} (λ n. Some (n ∷ [])) (λ n. n + 1) status.Done (Some 4) ≡ ended_so status.Done (Some (record { left = Some (4 ∷ []); faults = 5 }))
outcomes = refl

-- a sound command on a whole log is done, but that want of memory may come in its place
is_done : (s : Status) → IsDone s → (s ≡ status.Done) ⊎ (s ≡ status.Memory)
is_done status.Done h = inl refl
is_done status.Memory h = inr refl
is_done _ h = absurd h

whole_log_is_done : (before now : Outside) (file query bytes : List ℕ) (expr : Expr) (ended : Outcome) → parsed query ≡ Ok expr → before.bytes_of file ≡ Some bytes → length bytes < 2 ^ 36
    → (input_steps bytes AtEnd).end ≡ None → ¬ Rose before.opens now.opens → ¬ Rose before.writes now.writes → IfSome ended.source (λ rest. ¬ Rose 0 rest.faults)
    → Completes (Some (Scan file query)) before now ended → (ended.status ≡ status.Done) ⊎ (ended.status ≡ status.Memory)
whole_log_is_done before now file query bytes expr ended read is few whole opens writes calm complete =
    is_done ended.status (complete (subst IsExpr (sym read) tt) (subst (λ (known : Option (List ℕ)). IsSomeAnd known IsWhole) (sym is) (few, whole)) opens writes calm)

-- ---- What a command leaves

text_bytes_behind_their_number : (map text_bytes (codes "ab" ∷ [] ∷ []) ≡ (2 ∷ 0 ∷ 0 ∷ 0 ∷ 97 ∷ 98 ∷ []) ∷ (0 ∷ 0 ∷ 0 ∷ 0 ∷ []) ∷ []) × (take 5 (text_bytes (replicate 258 97)) ≡ 2 ∷ 1 ∷ 0 ∷ 0 ∷ 97 ∷ [])
unfolding number_bytes
text_bytes_behind_their_number = (refl, refl)

abbrev left : Status → Option Shown → List SeenEnd → Option Rest → Left
left s store ends script = record { status = s; store = store; ends = ends; script = script }

abbrev used_up : Rest
used_up = record { left = Some []; faults = 0 }

abbrev seen : Option Rest → SeenEnd
seen rest = record { source = 1; name = codes "f"; rows = 0; how = how.Done; rest = rest }

the_first_source : map first_rest ([] ∷ (seen (Some used_up) ∷ seen None ∷ []) ∷ (seen None ∷ seen (Some used_up) ∷ []) ∷ []) ≡ None ∷ Some used_up ∷ None ∷ []
the_first_source = refl

outcomes_of_what_is_left : (outcome_of (left status.Done None (seen (Some used_up) ∷ []) None) ≡ ended_so status.Done (Some used_up)) × (outcome_of (left status.Usage None [] (Some used_up)) ≡ ended_so status.Usage None)
outcomes_of_what_is_left = (refl, refl)

a_moment : moment (outside (λ name. None) 1 (Some (codes "a")) 2) ≡ record { opens = 1; written = Some (codes "a"); writes = 2 }
a_moment = refl

-- Commands on one file

unopened_is_said : SaysUnopened (codes "f") status.OpenFault (wrote []) (wrote (open_line (codes "f"))) × SaysUnopened (codes "f") status.Memory (wrote (codes "a")) (wrote (codes "a"))
unopened_is_said = (inl refl, refl)

nothing_else_is_said : (¬ SaysUnopened (codes "f") status.Done (wrote []) (wrote [])) × (¬ SaysUnopened (codes "f") status.Memory (wrote []) (wrote (codes "a")))
nothing_else_is_said = ((λ says. says), (λ says. cc))

abbrev bytes_in : Option (List ℕ) → ℕ
bytes_in None = 0
bytes_in (Some bytes) = length bytes

no_other_name_is_said : SaysUnopened (codes "f") status.OpenFault (wrote []) (wrote (open_line (codes "fg"))) → ⊥
no_other_name_is_said (inl all) = let same = ap bytes_in all in omega (arith, same)
no_other_name_is_said (inr part) = omega (arith, part.0)

words_are_no_command : Does None (wrote []) (wrote usage_line) (ended_so status.Usage None)
words_are_no_command = record {
  known = tt;
  usage = record { only = λ same. refl; always = λ cause other. refl };
  refused = record { only = λ same. differ status.Usage status.QueryRefused (λ n. omega (arith, n)) same; always = λ cause other. absurd cause };
  opening = λ same. absurd (differ status.Usage status.OpenFault (λ n. omega (arith, n)) same);
  write = λ same. absurd (differ status.Usage status.WriteFault (λ n. omega (arith, n)) same);
  read = λ same. absurd (differ status.Usage status.ReadFault (λ n. omega (arith, n)) same);
  stands = refl;
  opened = λ some. cc;
  scanned = tt;
  early = inl refl;
}

no_file : DoesFile None (wrote []) (wrote usage_line) (left status.Usage None [] None)
no_file = record { does = words_are_no_command; store = refl; script = refl }

-- there is no store and no script, and words that are no command are told
no_other_file : (store : Shown) → (¬ DoesFile None (wrote []) (wrote usage_line) (left status.Usage (Some store) [] None)) × (¬ DoesFile None (wrote []) (wrote usage_line) (left status.Usage None [] (Some used_up))) × (¬ DoesFile None (wrote []) (wrote usage_line) (left status.Done None [] None))
no_other_file store = (
  (λ does. let same = does.store in cc),
  (λ does. let same = does.script in cc),
  (λ does. differ status.Done status.Usage (λ n. omega (arith, n)) (does.does.usage.always refl (differ status.Done status.Memory (λ n. omega (arith, n))))),
)

-- Scripts that were not opened

abbrev unopened : Outside
unopened = outside (λ name. None) 1 (Some (open_line (codes "s"))) 0

is_unopened : IsUnopened (codes "s") (wrote []) unopened (left status.OpenFault None [] None)
is_unopened = record { says = inl refl; opening = λ same. omega arith; stands = tt; store = refl; ends = refl }

is_not_unopened : (store : Shown) → (¬ IsUnopened (codes "s") (wrote []) (wrote (open_line (codes "s"))) (left status.OpenFault None [] None))
    × (¬ IsUnopened (codes "s") (wrote []) unopened (left status.OpenFault None (seen None ∷ []) None))
    × (¬ IsUnopened (codes "s") (wrote []) unopened (left status.OpenFault (Some store) [] None))
    × (¬ IsUnopened (codes "s") (wrote []) unopened (left status.Done None [] None))
    × (¬ IsUnopened (codes "s") (wrote []) (outside (λ name. None) 0 (Some []) 1) (left status.Memory None [] None))
is_not_unopened store = ((λ is. omega (arith, is.opening refl)), (λ is. let same = is.ends in cc), (λ is. let same = is.store in cc), (λ is. is.says), (λ is. omega (arith, is.stands.1)))

-- Scripts that were: here one of no bytes

abbrev no_bytes : Outside
no_bytes = outside (λ name. Some []) 0 (Some []) 0

abbrev no_entries : Shown
no_entries = record { limits = usual.limits; history = [] }

abbrev played : Left
played = left status.Done (Some no_entries) [] (Some used_up)

no_bytes_are_played : PlaysSource no_bytes.bytes_of (no_bytes.bytes_of (codes "s")) 0 used_up (moment no_bytes) (moment no_bytes) 7 7 status.Done (Some no_entries) []
no_bytes_are_played = record {
  read = Ok [];
  reads = (refl, (refl, (lit≤ tt, refl)));
  plays = record {
    played = [];
    rest = [];
    lines = refl;
    at = starting usual;
    runs = refl;
    why = record { all = refl; text = refl; status = refl; stand = (refl, refl) };
    history = refl;
    sources = tt;
    reads = lit≤ tt;
  };
}

played_here : PlaysHere no_bytes.bytes_of (Some []) 0 used_up (moment no_bytes) (moment no_bytes) status.Done (Some no_entries) []
played_here = (7, (7, no_bytes_are_played))

opened_or_not : PlaysOpened (Some used_up) (codes "s") no_bytes no_bytes played × PlaysOpened None (codes "s") (wrote []) unopened (left status.OpenFault None [] None) × (¬ PlaysOpened None (codes "s") no_bytes no_bytes played)
opened_or_not = (played_here, is_unopened, (λ plays. plays.says))

-- a script that was opened is left
plays_what_is_left : PlaysFile (codes "s") no_bytes no_bytes played × PlaysFile (codes "s") (wrote []) unopened (left status.OpenFault None [] None) × (¬ PlaysFile (codes "s") no_bytes no_bytes (left status.Done (Some no_entries) [] None))
plays_what_is_left = (played_here, is_unopened, (λ plays. plays.says))

does_what_the_words_are : DoesWords None (wrote []) (wrote usage_line) (left status.Usage None [] None) × DoesWords (Some (Steps (codes "s"))) no_bytes no_bytes played
does_what_the_words_are = (no_file, (7, (7, no_bytes_are_played)))

does_nothing_else : (before now : Outside) → (¬ DoesWords None before now played) × (¬ DoesWords (Some (Check (codes "s"))) before now played) × (¬ DoesWords (Some (Scan (codes "s") (codes "q"))) before now played) × (¬ DoesWords (Some (Steps (codes "s"))) before now (left status.Usage None [] None))
does_nothing_else before now = ((λ does. let same = does.store in cc), (λ does. let same = does.store in cc), (λ does. let same = does.store in cc), (λ does. does.says))

-- Sound scripts

sound_scripts : IsSoundScript [] × (¬ IsSoundScript (codes "x"))
unfolding is_utf8 chars encode_utf8
sound_scripts = ((omega arith, refl), (λ sound. let same = sound.1 in cc))

most_of_a_script : (bytes : List ℕ) → length bytes ≡ 1048577 → ¬ IsSoundScript bytes
most_of_a_script bytes size sound = omega (arith, size, sound.0)

-- a full store leaves a sound script incomplete, and of one that isn't sound nothing is said
completes_a_script : CompletesFile (codes "s") no_bytes no_bytes played × CompletesFile (codes "s") (wrote []) (wrote []) (left status.ScriptFault None [] None) × (¬ CompletesFile (codes "s") no_bytes no_bytes (left status.Full None [] None))
completes_a_script = (
  (λ sound opens writes reads good. tt),
  (λ sound opens writes reads good. absurd sound),
  (λ completes. completes (omega arith, refl) (λ rose. omega (arith, rose)) (λ rose. omega (arith, rose)) tt tt),
)

-- nothing is said where a count of faults rose or a source is not good
promises_no_more : CompletesFile (codes "s") no_bytes (outside (λ name. None) 1 (Some []) 0) (left status.OpenFault None [] None)
    × CompletesFile (codes "s") no_bytes (outside (λ name. None) 0 (Some []) 1) (left status.WriteFault None [] None)
    × CompletesFile (codes "s") no_bytes no_bytes (left status.ReadFault None [] (Some (record { left = None; faults = 1 })))
    × CompletesFile (codes "s") no_bytes no_bytes (left status.Full None (record { source = 1; name = codes "f"; rows = 0; how = how.Full 1 2; rest = None } ∷ []) None)
promises_no_more = (
  (λ sound opens writes reads good. absurd (opens (omega arith))),
  (λ sound opens writes reads good. absurd (writes (omega arith))),
  (λ sound opens writes reads good. absurd (reads (omega arith))),
  (λ sound opens writes reads good. let same = good.0.taken in absurd cc),
)

completes_what_the_words_are : CompletesWords (Some (Steps (codes "s"))) no_bytes no_bytes played × CompletesWords None no_bytes no_bytes (left status.Usage None [] None)
    × (¬ CompletesWords (Some (Steps (codes "s"))) no_bytes no_bytes (left status.Full None [] None)) × (¬ CompletesWords (Some (Check (codes "s"))) no_bytes no_bytes (left status.InputFault None [] None))
completes_what_the_words_are = (
  (λ sound opens writes reads good. tt),
  (λ sound whole opens writes reads. absurd sound),
  (λ completes. completes (omega arith, refl) (λ rose. omega (arith, rose)) (λ rose. omega (arith, rose)) tt tt),
  (λ completes. completes tt (omega arith, refl) (λ rose. omega (arith, rose)) (λ rose. omega (arith, rose)) tt),
)

-- A script of queries from its bytes on, with `$` for the end of a line. None is told of an event, and each line has its reply.

abbrev plays : List ℕ → Playing
plays script = fold (λ p line. play line None p) (starting (script_of script).settings) (script_of script).lines

abbrev lines_of : List ℕ → List ℕ
lines_of text = map (λ b. if b == 36 then 10 else b) text

queries_of_a_script : (plays (lines_of (codes "limit queries 2$query past n == 1$query both n = 1$query since 1 n == 1$query coming n == 1$query both n == 1$drain 1$leave 2$drain 2"))).text
    ≡ lines_of (codes "query 1 from 0$query refused 2 Unexpected$ahead 1 0$query 2 from 0$too many 2$page 1 past 0 live 0 found 0 checked 0 touched 0 again none$left 2$already left 2$")
unfolding parsed piece_of word_lexeme literal_read moment_of digits is_utf8 chars encode_utf8
queries_of_a_script = refl
