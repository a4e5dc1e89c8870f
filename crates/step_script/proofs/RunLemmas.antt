-- What became of a script, by how its lines were played and how it was ended.
use Rattle.std.proofs.Common.{◌≡◌, ℕ, ◌+◌, ◌≤◌, Bool, true, false, if◌then◌else◌, List, [], ◌∷◌, ◌++◌, Option, None, Some, Result, Ok, Err, ◌⊎◌, inl, inr, map, refl, ap, sym, ◌∙◌, subst, arith, append_assoc}
use Rattle.std.proofs.lemmas.List.{append-nil}
use Rattle.std.specs.Io.KnownBytes.{append_known}
use Rattle.vast_io.specs.Causes.{Rose}
use Rattle.vast_io.specs.Told.{WritesPart}
use Rattle.vast_io.proofs.Writing.{append_known-append, append_known-nil, part_all, part_behind, part_longer}
use Rattle.history_core.specs.Shown.{Shown}
use Rattle.importer.specs.declared.ends.SourceEnd.{SourceEnd}
use Rattle.input_report.specs.declared.status.Status.{Status}
use Rattle.input_report.specs.declared.status.Status.TheVariants as status
use Rattle.script_lines.specs.Lines.{Asked, Source as SourceLine}
use Rattle.step_script.specs.declared.player.Stop.{Stop}
use Rattle.step_script.specs.declared.player.Stop.TheVariants.{Unopened, Unwritten, Memory}
use Rattle.step_script.specs.Feeds.{Outward}
use Rattle.step_script.specs.Finishing.{AllSent, Closes, FinishesUnopened, FinishesWhole, NoneSent, PartSent, Sent, some_ended, status_of_rest, status_of_ways}
use Rattle.step_script.specs.Playing.{Playing, starting}
use Rattle.step_script.specs.Runs.{Cuts, Goes, Held, Opens, RunEnds, Runs, Writes, reads_next}
use Rattle.step_script.specs.Scripts.{Script}
use Rattle.step_script.specs.Told.{AreEnds, EndsFor, IsWhole, LeavesEnds, LeavesStore, MayOpen, Outside, PlaysScript, Says, SeenEnd, bad_text, end_of, is_fault, is_full, is_read_fault, is_too_long, last_text, open_text}
use Rattle.step_script.specs.Wholes.{sent_of}
use Rattle.step_script.proofs.EndLemmas.{status_is}

-- ---- the status at the end of all lines

abbrev IsLast : Status → Type 0
IsLast status.Done = Unit {0}
IsLast status.ReadFault = Unit {0}
IsLast status.InputFault = Unit {0}
IsLast status.TooLong = Unit {0}
IsLast status.Full = Unit {0}
IsLast status.ScriptFault = Unit {0}
IsLast other = ⊥

choose : (b : Bool) (x y : Status) → IsLast x → IsLast y → IsLast (if b then x else y)
choose true x y first second = first
choose false x y first second = second

status_last : {S : Type 0} (bad : Option ℕ) (ends : List (SourceEnd S)) → IsLast (status_of_ways bad ends)
status_last None ends =
    choose (some_ended is_read_fault ends) status.ReadFault (status_of_rest ends) tt
    (choose (some_ended is_fault ends) status.InputFault (if some_ended is_too_long ends then status.TooLong else (if some_ended is_full ends then status.Full else status.Done)) tt
    (choose (some_ended is_too_long ends) status.TooLong (if some_ended is_full ends then status.Full else status.Done) tt (choose (some_ended is_full ends) status.Full status.Done tt tt)))
status_last (Some n) ends = choose (some_ended is_read_fault ends) status.ReadFault status.ScriptFault tt tt

ends_for : (ended : Status) (script : Script) (rest : List Asked) (at : Playing) (before now : Outside) → IsLast ended → IsWhole script rest at before now ended → EndsFor ended script rest at before now
ends_for status.Done script rest at before now last whole = whole
ends_for status.ReadFault script rest at before now last whole = whole
ends_for status.InputFault script rest at before now last whole = whole
ends_for status.TooLong script rest at before now last whole = whole
ends_for status.Full script rest at before now last whole = whole
ends_for status.ScriptFault script rest at before now last whole = whole
ends_for status.Usage script rest at before now last whole = absurd last
ends_for status.QueryRefused script rest at before now last whole = absurd last
ends_for status.OpenFault script rest at before now last whole = absurd last
ends_for status.WriteFault script rest at before now last whole = absurd last
ends_for status.Memory script rest at before now last whole = absurd last

leaves_store : (ended : Status) (at : Playing) (store : Option Shown) → IsLast ended → store ≡ Some (record { limits = at.desk.limits; history = at.desk.history }) → LeavesStore ended at store
leaves_store status.Done at store last is = is
leaves_store status.ReadFault at store last is = is
leaves_store status.InputFault at store last is = is
leaves_store status.TooLong at store last is = is
leaves_store status.Full at store last is = is
leaves_store status.ScriptFault at store last is = is
leaves_store status.Usage at store last is = absurd last
leaves_store status.QueryRefused at store last is = absurd last
leaves_store status.OpenFault at store last is = absurd last
leaves_store status.WriteFault at store last is = absurd last
leaves_store status.Memory at store last is = absurd last

leaves_ends : (ended : Status) (names : List ℕ → Option (List ℕ)) (at : Playing) (ends : List SeenEnd) → IsLast ended → AreEnds names at.batch at.sources ends → LeavesEnds ended names at ends
leaves_ends status.Done names at ends last are = are
leaves_ends status.ReadFault names at ends last are = are
leaves_ends status.InputFault names at ends last are = are
leaves_ends status.TooLong names at ends last are = are
leaves_ends status.Full names at ends last are = are
leaves_ends status.ScriptFault names at ends last are = are
leaves_ends status.Usage names at ends last are = absurd last
leaves_ends status.QueryRefused names at ends last are = absurd last
leaves_ends status.OpenFault names at ends last are = absurd last
leaves_ends status.WriteFault names at ends last are = absurd last
leaves_ends status.Memory names at ends last are = absurd last

-- ---- what was written

-- what is held and what is told behind it were written behind what was sent
all_text : (before mid now : Option (List ℕ)) (sent held text more : List ℕ) → mid ≡ append_known before sent → text ≡ sent ++ held → now ≡ append_known mid (held ++ more) → now ≡ append_known before (text ++ more)
all_text before mid now sent held text more first split is =
    is ∙ ap (λ (k : Option (List ℕ)). append_known k (held ++ more)) first ∙ append_known-append before sent (held ++ more)
    ∙ ap (append_known before) (sym (ap (λ (t : List ℕ). t ++ more) split ∙ append_assoc sent held more))

part_text : (before mid now : Option (List ℕ)) (sent held text more : List ℕ) → mid ≡ append_known before sent → text ≡ sent ++ held → WritesPart mid now (held ++ more) → WritesPart before now (text ++ more)
part_text before mid now sent held text more first split part =
    subst (λ (t : List ℕ). WritesPart before now t) (sym (ap (λ (t : List ℕ). t ++ more) split ∙ append_assoc sent held more)) (part_behind before mid now sent (held ++ more) first part)

sent_part : (before mid : Option (List ℕ)) (sent held text : List ℕ) → mid ≡ append_known before sent → text ≡ sent ++ held → WritesPart before mid text
sent_part before mid sent held text first split =
    subst (λ (t : List ℕ). WritesPart before mid t) (sym split) (part_longer before mid sent held (part_all before mid sent first))

still_part : (before mid now : Option (List ℕ)) (text : List ℕ) → WritesPart before mid text → now ≡ mid → WritesPart before now text
still_part before mid now text part same = subst (λ (k : Option (List ℕ)). WritesPart before k text) (sym same) part

-- ---- memory was wanting

memory_so : (names : List ℕ → Option (List ℕ)) (script : Script) (played rest : List Asked) (at : Playing) (before now : Outside) (steps steps_now : ℕ) (ended : Status) (store : Option Shown) (ends : List SeenEnd)
    → ended ≡ status.Memory → script.lines ≡ played ++ rest → Runs played (starting script.settings) at → WritesPart before.written now.written at.text → MayOpen rest before.opens now.opens → steps_now ≤ steps + (at.reads + reads_next rest at.desk)
    → PlaysScript names script before now steps steps_now ended store ends
memory_so names script played rest at before now steps steps_now ended store ends is lines runs part opens few =
    subst (λ (s : Status). PlaysScript names script before now steps steps_now s store ends) (sym is)
    (record { played = played; rest = rest; lines = lines; at = at; runs = runs; why = (part, opens); history = tt; sources = tt; reads = few })

-- before any line was played
pub nothing_played : (names : List ℕ → Option (List ℕ)) (script : Script) (before now : Outside) (steps : ℕ) (ended : Status) (store : Option Shown) (ends : List SeenEnd) → ended ≡ status.Memory → now.written ≡ before.written → now.opens ≡ before.opens
    → PlaysScript names script before now steps steps ended store ends
nothing_played names script before now steps ended store ends is same opens =
    memory_so names script [] script.lines (starting script.settings) before now steps steps ended store ends is refl refl (record { count = 0; within = omega arith; is = same ∙ sym (append_known-nil before.written) }) (inl opens) (omega arith)

-- ---- all lines were played

shown_is : {S : Type 0} (out : Outward S) (names : List ℕ → Option (List ℕ)) (played : List Asked) (p : Playing) (held : Held S) (start before : Option (List ℕ)) (steps steps_now : ℕ) (goes : Goes out names played p held start before steps steps_now) (store : Option Shown)
    → store ≡ Some (record { limits = held.desk.limits; history = held.desk.history }) → store ≡ Some (record { limits = goes.at.desk.limits; history = goes.at.desk.history })
shown_is out names played p held start before steps steps_now goes store is = is ∙ ap (λ d. Some (record { limits = d.limits; history = d.history })) goes.stands.desk

-- all of the text was written
all_so : {S : Type 0} (out : Outward S) (names : List ℕ → Option (List ℕ)) (script : Script) (held : Held S) (before : Outside) (mid : Sent) (now : Outside) (steps steps_now : ℕ) (ended : Status) (store : Option Shown) (ends : List (SourceEnd S))
    → (goes : Goes out names script.lines (starting script.settings) held before.written mid.written steps steps_now) → now.opens ≡ before.opens → mid.writes ≡ before.writes → store ≡ Some (record { limits = held.desk.limits; history = held.desk.history })
    → AreEnds names goes.at.batch goes.at.sources (map (end_of out) ends) → (ended ≡ status_of_ways script.bad ends) × AllSent mid (sent_of now) (held.text ++ bad_text script.bad)
    → PlaysScript names script before now steps steps_now ended store (map (end_of out) ends)
all_so out names script held before mid now steps steps_now ended store ends goes opens writes shown are so =
    let last : IsLast ended = subst IsLast (sym so.0) (status_last script.bad ends) in
    record {
      played = script.lines;
      rest = [];
      lines = sym (append-nil script.lines);
      at = goes.at;
      runs = goes.runs;
      why = ends_for ended script [] goes.at before now last
          (record {
            all = refl;
            text = all_text before.written mid.written now.written goes.sent held.text goes.at.text (bad_text script.bad) goes.written goes.stands.text so.1.0;
            status = so.0 ∙ status_is out names goes.at.batch script.bad goes.at.sources ends are;
            stand = (opens, so.1.1 ∙ writes);
          });
      history = leaves_store ended goes.at store last (shown_is out names script.lines (starting script.settings) held before.written mid.written steps steps_now goes store shown);
      sources = leaves_ends ended names goes.at (map (end_of out) ends) last are;
      reads = omega (arith, goes.reads);
    }

goes_memory : {S : Type 0} (out : Outward S) (names : List ℕ → Option (List ℕ)) (script : Script) (played rest : List Asked) (held : Held S) (before : Outside) (mid : Sent) (now : Outside) (steps steps_now : ℕ) (ended : Status) (store : Option Shown) (ends : List SeenEnd)
    → Goes out names played (starting script.settings) held before.written mid.written steps steps_now → script.lines ≡ played ++ rest → MayOpen rest before.opens now.opens → NoneSent mid (sent_of now) → ended ≡ status.Memory
    → PlaysScript names script before now steps steps_now ended store ends
goes_memory out names script played rest held before mid now steps steps_now ended store ends goes lines opens none is =
    memory_so names script played rest goes.at before now steps steps_now ended store ends is lines goes.runs
    (still_part before.written mid.written now.written goes.at.text (sent_part before.written mid.written goes.sent held.text goes.at.text goes.written goes.stands.text) none.0) opens (omega (arith, goes.reads))

-- the sink failed at the end
part_so : {S : Type 0} (out : Outward S) (names : List ℕ → Option (List ℕ)) (script : Script) (held : Held S) (before : Outside) (mid : Sent) (now : Outside) (steps steps_now : ℕ) (store : Option Shown) (ends : List SeenEnd)
    → (goes : Goes out names script.lines (starting script.settings) held before.written mid.written steps steps_now) → now.opens ≡ before.opens → mid.writes ≡ before.writes → store ≡ Some (record { limits = held.desk.limits; history = held.desk.history })
    → AreEnds names goes.at.batch goes.at.sources ends → PartSent mid (sent_of now) (held.text ++ bad_text script.bad)
    → PlaysScript names script before now steps steps_now status.WriteFault store ends
part_so out names script held before mid now steps steps_now store ends goes opens writes shown are so = record {
  played = script.lines;
  rest = [];
  lines = sym (append-nil script.lines);
  at = goes.at;
  runs = goes.runs;
  why = (
    subst (λ (n : ℕ). Rose n now.writes) writes so.0,
    (part_text before.written mid.written now.written goes.sent held.text goes.at.text (bad_text script.bad) goes.written goes.stands.text so.1, opens),
  );
  history = shown_is out names script.lines (starting script.settings) held before.written mid.written steps steps_now goes store shown;
  sources = are;
  reads = omega (arith, goes.reads);
}

whole_so : {S : Type 0} (out : Outward S) (names : List ℕ → Option (List ℕ)) (script : Script) (held : Held S) (before : Outside) (mid : Sent) (now : Outside) (steps steps_now : ℕ) (ended : Status) (store : Option Shown) (ends : List (SourceEnd S))
    → (goes : Goes out names script.lines (starting script.settings) held before.written mid.written steps steps_now) → now.opens ≡ before.opens → mid.writes ≡ before.writes → store ≡ Some (record { limits = held.desk.limits; history = held.desk.history })
    → AreEnds names goes.at.batch goes.at.sources (map (end_of out) ends) → FinishesWhole ended script.bad ends held.text mid (sent_of now)
    → PlaysScript names script before now steps steps_now ended store (map (end_of out) ends)
whole_so out names script held before mid now steps steps_now status.Memory store ends goes opens writes shown are so =
    goes_memory out names script script.lines [] held before mid now steps steps_now status.Memory store (map (end_of out) ends) goes (sym (append-nil script.lines)) (inl opens) so refl
whole_so out names script held before mid now steps steps_now status.WriteFault store ends goes opens writes shown are so =
    part_so out names script held before mid now steps steps_now store (map (end_of out) ends) goes opens writes shown are so
whole_so out names script held before mid now steps steps_now status.Done store ends goes opens writes shown are so = all_so out names script held before mid now steps steps_now status.Done store ends goes opens writes shown are so
whole_so out names script held before mid now steps steps_now status.Usage store ends goes opens writes shown are so = all_so out names script held before mid now steps steps_now status.Usage store ends goes opens writes shown are so
whole_so out names script held before mid now steps steps_now status.QueryRefused store ends goes opens writes shown are so = all_so out names script held before mid now steps steps_now status.QueryRefused store ends goes opens writes shown are so
whole_so out names script held before mid now steps steps_now status.OpenFault store ends goes opens writes shown are so = all_so out names script held before mid now steps steps_now status.OpenFault store ends goes opens writes shown are so
whole_so out names script held before mid now steps steps_now status.ReadFault store ends goes opens writes shown are so = all_so out names script held before mid now steps steps_now status.ReadFault store ends goes opens writes shown are so
whole_so out names script held before mid now steps steps_now status.InputFault store ends goes opens writes shown are so = all_so out names script held before mid now steps steps_now status.InputFault store ends goes opens writes shown are so
whole_so out names script held before mid now steps steps_now status.Full store ends goes opens writes shown are so = all_so out names script held before mid now steps steps_now status.Full store ends goes opens writes shown are so
whole_so out names script held before mid now steps steps_now status.ScriptFault store ends goes opens writes shown are so = all_so out names script held before mid now steps steps_now status.ScriptFault store ends goes opens writes shown are so
whole_so out names script held before mid now steps steps_now status.TooLong store ends goes opens writes shown are so = all_so out names script held before mid now steps steps_now status.TooLong store ends goes opens writes shown are so

-- ---- a name was not opened

says_so : (before : Outside) (mid : Sent) (now : Outside) (sent held text more : List ℕ) → mid.written ≡ append_known before.written sent → text ≡ sent ++ held → mid.writes ≡ before.writes
    → AllSent mid (sent_of now) (held ++ more) ⊎ PartSent mid (sent_of now) (held ++ more) → Says before now (text ++ more)
says_so before mid now sent held text more first split writes (inl all) = inl (all_text before.written mid.written now.written sent held text more first split all.0)
says_so before mid now sent held text more first split writes (inr part) =
    inr (subst (λ (n : ℕ). Rose n now.writes) writes part.0, part_text before.written mid.written now.written sent held text more first split part.1)

unopened_so : {S : Type 0} (out : Outward S) (names : List ℕ → Option (List ℕ)) (script : Script) (name : List ℕ) (played rest : List Asked) (held : Held S) (before : Outside) (mid : Sent) (now : Outside) (steps steps_now : ℕ) (ended : Status) (store : Option Shown) (ends : List SeenEnd)
    → (goes : Goes out names played (starting script.settings) held before.written mid.written steps steps_now) → script.lines ≡ played ++ SourceLine name ∷ rest → Rose before.opens now.opens → mid.writes ≡ before.writes
    → store ≡ Some (record { limits = held.desk.limits; history = held.desk.history }) → AreEnds names goes.at.batch goes.at.sources ends → FinishesUnopened ended name held.text mid (sent_of now)
    → PlaysScript names script before now steps steps_now ended store ends
unopened_so out names script name played rest held before mid now steps steps_now status.Memory store ends goes lines opens writes shown are so =
    goes_memory out names script played (SourceLine name ∷ rest) held before mid now steps steps_now status.Memory store ends goes lines (inr (opens, tt)) so refl
unopened_so out names script name played rest held before mid now steps steps_now status.OpenFault store ends goes lines opens writes shown are so = record {
  played = played;
  rest = SourceLine name ∷ rest;
  lines = lines;
  at = goes.at;
  runs = goes.runs;
  why = (opens, (name, (rest, (refl, says_so before mid now goes.sent held.text goes.at.text (open_text name) goes.written goes.stands.text writes so))));
  history = shown_is out names played (starting script.settings) held before.written mid.written steps steps_now goes store shown;
  sources = are;
  reads = omega (arith, goes.reads);
}
unopened_so out names script name played rest held before mid now steps steps_now status.Done store ends goes lines opens writes shown are so = absurd so
unopened_so out names script name played rest held before mid now steps steps_now status.Usage store ends goes lines opens writes shown are so = absurd so
unopened_so out names script name played rest held before mid now steps steps_now status.QueryRefused store ends goes lines opens writes shown are so = absurd so
unopened_so out names script name played rest held before mid now steps steps_now status.WriteFault store ends goes lines opens writes shown are so = absurd so
unopened_so out names script name played rest held before mid now steps steps_now status.ReadFault store ends goes lines opens writes shown are so = absurd so
unopened_so out names script name played rest held before mid now steps steps_now status.InputFault store ends goes lines opens writes shown are so = absurd so
unopened_so out names script name played rest held before mid now steps steps_now status.Full store ends goes lines opens writes shown are so = absurd so
unopened_so out names script name played rest held before mid now steps steps_now status.ScriptFault store ends goes lines opens writes shown are so = absurd so
unopened_so out names script name played rest held before mid now steps steps_now status.TooLong store ends goes lines opens writes shown are so = absurd so

-- ---- the sink failed behind a line

unwritten_so : {S : Type 0} (out : Outward S) (names : List ℕ → Option (List ℕ)) (script : Script) (played rest : List Asked) (held : Held S) (before : Outside) (mid : Sent) (now : Outside) (steps steps_now : ℕ) (ended : Status) (store : Option Shown) (ends : List SeenEnd)
    → (cuts : Cuts out names played rest (starting script.settings) held before.written mid.written steps steps_now) → script.lines ≡ played ++ rest → now.opens ≡ before.opens → Rose before.writes mid.writes
    → store ≡ Some (record { limits = held.desk.limits; history = held.desk.history }) → AreEnds names cuts.at.batch cuts.at.sources ends → (ended ≡ status.WriteFault) × NoneSent mid (sent_of now)
    → PlaysScript names script before now steps steps_now ended store ends
unwritten_so out names script played rest held before mid now steps steps_now ended store ends cuts lines opens writes shown are so =
    let part : WritesPart before.written now.written cuts.at.text = still_part before.written mid.written now.written cuts.at.text cuts.written so.1.0 in
    subst (λ (s : Status). PlaysScript names script before now steps steps_now s store ends) (sym so.0)
    (record {
      played = played;
      rest = rest;
      lines = lines;
      at = cuts.at;
      runs = cuts.runs;
      why = (subst (λ (n : ℕ). Rose before.writes n) (sym so.1.1) writes, (part_longer before.written now.written cuts.at.text (last_text rest script.bad) part, opens));
      history = shown ∙ ap (λ d. Some (record { limits = d.limits; history = d.history })) cuts.desk;
      sources = are;
      reads = omega (arith, cuts.reads);
    })

-- ---- a script that was played

pub plays_script : {U S : Type 0} (stop : Result U Stop) (out : Outward S) (names : List ℕ → Option (List ℕ)) (script : Script) (held : Held S) (before : Outside) (mid : Sent) (now : Outside) (steps steps_now : ℕ) (ended : Status) (store : Option Shown) (ends : List (SourceEnd S))
    → RunEnds out stop names script.lines (starting script.settings) held before.written mid.written steps steps_now → Opens stop before.opens now.opens → Writes stop before.writes mid.writes
    → store ≡ Some (record { limits = held.desk.limits; history = held.desk.history })
    → Closes out held.feeds stop ended script.bad ends held.text mid (sent_of now) → PlaysScript names script before now steps steps_now ended store (map (end_of out) ends)
plays_script (Ok done) out names script held before mid now steps steps_now ended store ends goes opens writes shown (inl memory) =
    goes_memory out names script script.lines [] held before mid now steps steps_now ended store (map (end_of out) ends) goes (sym (append-nil script.lines)) (inl opens) memory.1 memory.0
plays_script (Ok done) out names script held before mid now steps steps_now ended store ends goes opens writes shown (inr so) =
    whole_so out names script held before mid now steps steps_now ended store ends goes opens writes shown (so.1 names goes.at.batch goes.at.sources goes.stands.feeds) so.0
plays_script (Err (Unopened name)) out names script held before mid now steps steps_now ended store ends (played, (rest, (lines, goes))) opens writes shown (inl memory) =
    goes_memory out names script played (SourceLine name.now ∷ rest) held before mid now steps steps_now ended store (map (end_of out) ends) goes lines (inr (opens, tt)) memory.1 memory.0
plays_script (Err (Unopened name)) out names script held before mid now steps steps_now ended store ends (played, (rest, (lines, goes))) opens writes shown (inr so) =
    unopened_so out names script name.now played rest held before mid now steps steps_now ended store (map (end_of out) ends) goes lines opens writes shown (so.1 names goes.at.batch goes.at.sources goes.stands.feeds) so.0
plays_script (Err Unwritten) out names script held before mid now steps steps_now ended store ends (played, (rest, (lines, cuts))) opens writes shown (inl memory) =
    memory_so names script played rest cuts.at before now steps steps_now ended store (map (end_of out) ends) memory.0 lines cuts.runs
    (still_part before.written mid.written now.written cuts.at.text cuts.written memory.1.0) (inl opens) (omega (arith, cuts.reads))
plays_script (Err Unwritten) out names script held before mid now steps steps_now ended store ends (played, (rest, (lines, cuts))) opens writes shown (inr so) =
    unwritten_so out names script played rest held before mid now steps steps_now ended store (map (end_of out) ends) cuts lines opens writes shown (so.1 names cuts.at.batch cuts.at.sources cuts.feeds) so.0
plays_script (Err Memory) out names script held before mid now steps steps_now ended store ends (played, (rest, (lines, breaks))) opens writes shown (inl memory) =
    memory_so names script played rest breaks.at before now steps steps_now ended store (map (end_of out) ends) memory.0 lines breaks.runs
    (still_part before.written mid.written now.written breaks.at.text breaks.written memory.1.0) (inl opens) (omega (arith, breaks.reads))
plays_script (Err Memory) out names script held before mid now steps steps_now ended store ends (played, (rest, (lines, breaks))) opens writes shown (inr so) =
    memory_so names script played rest breaks.at before now steps steps_now ended store (map (end_of out) ends) so.0.0 lines breaks.runs
    (still_part before.written mid.written now.written breaks.at.text breaks.written so.0.1.0) (inl opens) (omega (arith, breaks.reads))
