-- How an input begins: its first bytes are taken, and the reader of their form is made.
use Rattle.std.proofs.Common.{◌≡◌, ℕ, ◌+◌, ◌||◌, Bool, true, false, List, [], ◌∷◌, ◌++◌, Option, None, Some, Ok, Err, is_some, if◌then◌else◌, length, refl, ap, sym, ◌∙◌, subst, arith, inl, inr}
use Rattle.std.proofs.lemmas.List.{append-nil}
use Rattle.std.specs.Io.KnownBytes.{prepend_known}
use Rattle.std.specs.Str.{bytes_eq}
use Rattle.vast_value.specs.Layouts.{is_empty}
use Rattle.source_block.specs.declared.stop.Stop.{Stop}
use Rattle.source_block.specs.declared.stop.Stop.TheVariants.{AtEnd, Failed, AtBound}
use Rattle.source_block.specs.declared.stop.Took.TheVariants.{Stopped}
use Rattle.source_block.specs.Holding.{Hold}
use Rattle.source_block.specs.Taking.{Counts, Stops, Takes}
use Rattle.zeek_log.specs.declared.fault.ZeekFault.TheVariants.{NoHead}
use Rattle.zeek_log.specs.Heads.{opening}
use Rattle.zeek_log.specs.Reader as reader
use Rattle.zeek_log.specs.Reader.{State, Reads, Last, Ended as StateEnded}
use Rattle.pcap_file.specs.declared.reader.Phase.{Phase}
use Rattle.pcap_file.specs.declared.reader.Phase.TheVariants.{Start, Records, Ended as PhaseEnded}
use Rattle.pcap_file.specs.Reading.{is_open}
use Rattle.importer.specs.declared.ends.ImportEnd.{ImportEnd}
use Rattle.importer.specs.declared.ends.ImportEnd.TheVariants.{Fault, Memory, ReadFault, TooLong}
use Rattle.importer.specs.declared.ends.InputFault.{InputFault}
use Rattle.importer.specs.declared.ends.InputFault.TheVariants as input
use Rattle.importer.specs.declared.form.Form.TheVariants as form
use Rattle.importer.specs.Coming.{Anything, Ended, Flows, Follow, Fresh, HasFaults, IsAfter, IsAfterEnd, IsAfterState, IsCounted, IsReadFault, IsReadFaultEnd, IsReadFaultPhase, IsReadFaultState, Log, Lost, MayFollow, Nothing, Packets, Standing, StepsOn}
use Rattle.importer.specs.Ending.{end_of_log, only_end}
use Rattle.importer.specs.Forms.{begins_with, end_of_start, form_of, is_start}
use Rattle.importer.specs.Inputs.{Opens, OpensTo}
use Rattle.importer.specs.Steps.{input_steps}
use Rattle.importer.proofs.FormLemmas.{form_stays, start_ends}

-- the reader of a log, whose form these bytes tell
pub opens_log : (bytes : List ℕ) (taken kept : ℕ) (log : reader.Standing) → is_start bytes ≡ false → form.Log ≡ form_of bytes → taken ≡ length bytes
    → log ≡ record { at = record { state = Reads opening 1; held = bytes; taken = taken; kept = kept }; row = [] } → OpensTo bytes (Log log.at) × (log.row ≡ [])
opens_log bytes taken kept log told is count same =
    subst (λ (l : reader.Standing). OpensTo bytes (Log l.at) × (l.row ≡ [])) (sym same) (
      record {
        comes = λ more stop. rw (form_stays bytes more told, sym is) refl;
        after = refl;
        count = count;
        there = λ lost. lost;
      },
      refl,
    )

-- the bytes that were taken of a source that gave none before
took_all : (block new : Hold) (before now : Option (List ℕ)) (t : Takes block new before now) → block.bytes ≡ [] → new.bytes ≡ t.took
took_all block new before now t none = t.held ∙ ap (λ (xs : List ℕ). xs ++ t.took) none

any_follows : (may : Follow) (bytes : List ℕ) (stop : Stop) → may ≡ Anything → MayFollow may bytes stop
any_follows may bytes stop is = subst (λ (f : Follow). MayFollow f bytes stop) (sym is) tt

fresh_begins : (block new : Hold) (before now : Option (List ℕ)) (at : Standing) → Takes block new before now → block.bytes ≡ [] → OpensTo new.bytes at → StepsOn Fresh at before now []
fresh_begins block new before now at t none opens may taken is_at =
    let all = took_all block new before now t none in
    let none_taken : taken ≡ 0 = is_at.count in
    let count : length new.bytes ≡ taken + length t.took = omega (arith, none_taken, ap length all) in
    record {
      took = t.took;
      left = t.left;
      follow = Anything;
      at = record { after = opens.after; known = tt; count = subst (IsCounted at) count opens.count };
      follows = λ more stop ok. any_follows may (t.took ++ more) stop is_at.after;
      is = λ more stop ok. ap (λ (xs : List ℕ). input_steps (xs ++ more) stop) (sym all) ∙ opens.comes more stop;
    }

at_fresh : {at : Standing} (old : Standing) (before now : Option (List ℕ)) → old ≡ Fresh → StepsOn Fresh at before now [] → StepsOn old at before now []
at_fresh {at = at} old before now is goes = subst (λ (s : Standing). StepsOn s at before now []) (sym is) goes

pub begins_reader : (old at : Standing) (block new : Hold) (before now : Option (List ℕ)) → old ≡ Fresh → Takes block new before now → block.bytes ≡ [] → OpensTo new.bytes at → StepsOn old at before now []
begins_reader old at block new before now is t none opens = at_fresh old before now is (fresh_begins block new before now at t none opens)

-- a form that isn't read
fresh_refused : (block new : Hold) (before now : Option (List ℕ)) (fault : InputFault) → Takes block new before now → block.bytes ≡ []
    → ((more : List ℕ) (stop : Stop) → input_steps (new.bytes ++ more) stop ≡ only_end (Some (Fault fault))) → StepsOn Fresh (Ended (Some (Fault fault))) before now []
fresh_refused block new before now fault t none same may taken is_at =
    let all = took_all block new before now t none in
    record {
      took = t.took;
      left = t.left;
      follow = Anything;
      at = record { after = inl refl; known = tt; count = tt };
      follows = λ more stop ok. any_follows may (t.took ++ more) stop is_at.after;
      is = λ more stop ok. ap (λ (xs : List ℕ). input_steps (xs ++ more) stop) (sym all) ∙ same more stop;
    }

fresh_lost : (block new : Hold) (before now : Option (List ℕ)) → Takes block new before now → StepsOn Fresh (Ended (Some Memory)) before now []
fresh_lost block new before now t may taken is_at = record {
  took = t.took;
  left = t.left;
  follow = Lost;
  at = record { after = refl; known = tt; count = tt };
  follows = λ more stop never. absurd never;
  is = λ more stop never. absurd never;
}

pub begins_lost : (old : Standing) (block new : Hold) (before now : Option (List ℕ)) → old ≡ Fresh → Takes block new before now → StepsOn old (Ended (Some Memory)) before now []
begins_lost old block new before now is t = at_fresh old before now is (fresh_lost block new before now t)

pub begins_refused : (old : Standing) (block new : Hold) (before now : Option (List ℕ)) (end : Option ImportEnd) → old ≡ Fresh → Takes block new before now → block.bytes ≡ [] → Opens new.bytes (Err end)
    → StepsOn old (Ended end) before now []
begins_refused old block new before now None is t none opens = absurd opens
begins_refused old block new before now (Some Memory) is t none opens = begins_lost old block new before now is t
begins_refused old block new before now (Some ReadFault) is t none opens = absurd opens
begins_refused old block new before now (Some TooLong) is t none opens = absurd opens
begins_refused old block new before now (Some (Fault fault)) is t none opens = at_fresh old before now is (fresh_refused block new before now fault t none opens)

-- few bytes, and no more come
few_after : (b c : Bool) → IsAfterEnd (if b then None else Some (Fault (input.Line (if c then 2 else 1) 0 NoHead))) (Nothing AtEnd)
few_after true c = refl
few_after false c = inr refl

start_after : (stop : Stop) (bytes : List ℕ) → IsAfterEnd (end_of_start stop bytes) (Nothing stop)
start_after AtEnd bytes = few_after (is_empty bytes || bytes_eq bytes (10 ∷ [])) (begins_with bytes (10 ∷ []))
start_after Failed bytes = refl
start_after AtBound bytes = refl

fresh_stops : (block new : Hold) (before now : Option (List ℕ)) (stop : Stop) → Takes block new before now → block.bytes ≡ [] → block.taken ≡ 0 → is_start new.bytes ≡ true → Stops stop now new.taken
    → StepsOn Fresh (Ended (end_of_start stop new.bytes)) before now []
fresh_stops block new before now stop t none first start stops may taken is_at =
    let all = took_all block new before now t none in
    let none_taken : taken ≡ 0 = is_at.count in
    let count : new.taken ≡ taken + length t.took = omega (arith, none_taken, first, t.count) in
    record {
      took = t.took;
      left = t.left;
      follow = Nothing stop;
      at = record { after = start_after stop new.bytes; known = subst (Stops stop now) count stops; count = tt };
      follows = λ more why ok. any_follows may (t.took ++ more) why is_at.after;
      is = λ more why ok.
          ap (λ (xs : List ℕ). input_steps (t.took ++ xs) why) ok.0 ∙ ap (λ (xs : List ℕ). input_steps xs why) (append-nil t.took ∙ sym all)
          ∙ ap (input_steps new.bytes) ok.1 ∙ start_ends new.bytes stop start;
    }

pub begins_stops : (old : Standing) (block new : Hold) (before now : Option (List ℕ)) (stop : Stop) (seen : List ℕ) (end : Option ImportEnd) → old ≡ Fresh → Takes block new before now → block.bytes ≡ [] → block.taken ≡ 0
    → is_start new.bytes ≡ true → Stops stop now new.taken → seen ≡ new.bytes → end ≡ end_of_start stop seen → StepsOn old (Ended end) before now []
begins_stops old block new before now stop seen end is t none first start stops same made =
    at_fresh old before now is
    (subst (λ (e : Option ImportEnd). StepsOn Fresh (Ended e) before now []) (sym (made ∙ ap (end_of_start stop) same)) (fresh_stops block new before now stop t none first start stops))

-- ---- faults

any_nothing : (stop : Stop) → Anything ≡ Nothing stop → ⊥
any_nothing stop same = cc

no_end : (end : Option ImportEnd) → IsAfterEnd end Anything → IsReadFaultEnd end → ⊥
no_end None after fault = fault
no_end (Some ReadFault) after fault = any_nothing Failed after
no_end (Some TooLong) after fault = fault
no_end (Some Memory) after fault = fault
no_end (Some (Fault f)) after fault = fault

no_state : (st : State) → IsAfterState st Anything → IsReadFaultState st → ⊥
no_state (Reads told n) after fault = fault
no_state (Last told) after fault = fault
no_state (StateEnded e) after fault = no_end (end_of_log e) after fault

false_true : false ≡ true → ⊥
false_true same = cc

no_phase : (phase : Phase) → is_open phase ≡ true → IsReadFaultPhase phase → ⊥
no_phase Start opens fault = fault
no_phase (Records head offset) opens fault = fault
no_phase (PhaseEnded e headed) opens fault = false_true opens

-- a failed read is no end that anything may follow
no_fault : (at : Standing) → IsAfter at Anything → IsReadFault at → ⊥
no_fault Fresh after fault = fault
no_fault (Log r) after fault = no_state r.state after fault
no_fault (Packets p) after fault = no_phase p.reader.phase after.1 fault
no_fault (Flows f) after fault = no_end f.end after fault
no_fault (Ended end) after fault = no_end end after fault

fresh_fault : (old : Standing) → old ≡ Fresh → IsReadFault old → ⊥
fresh_fault old is fault = subst IsReadFault is fault

pub begins_faults : (old at : Standing) (bytes : List ℕ) (x y : ℕ) → old ≡ Fresh → OpensTo bytes at → y ≡ x → HasFaults old at x y
begins_faults old at bytes x y is opens same = record {
  failed = λ fault other. absurd (no_fault at opens.after fault);
  kept = λ other there. same;
  again = λ fault. same;
  lasts = λ fault there. absurd (fresh_fault old is fault);
}

pub refused_faults : (old : Standing) (bytes : List ℕ) (end : Option ImportEnd) (x y : ℕ) → old ≡ Fresh → Opens bytes (Err end) → y ≡ x → HasFaults old (Ended end) x y
refused_faults old bytes None x y is opens same = absurd opens
refused_faults old bytes (Some ReadFault) x y is opens same = absurd opens
refused_faults old bytes (Some TooLong) x y is opens same = absurd opens
refused_faults old bytes (Some Memory) x y is opens same = record { failed = λ fault other. absurd fault; kept = λ other there. same; again = λ fault. same; lasts = λ fault there. absurd (fresh_fault old is fault) }
refused_faults old bytes (Some (Fault f)) x y is opens same = record { failed = λ fault other. absurd fault; kept = λ other there. same; again = λ fault. same; lasts = λ fault there. absurd (fresh_fault old is fault) }

pub lost_faults : (old : Standing) (x y : ℕ) → old ≡ Fresh → y ≡ x → HasFaults old (Ended (Some Memory)) x y
lost_faults old x y is same = record { failed = λ fault other. absurd fault; kept = λ other there. same; again = λ fault. same; lasts = λ fault there. absurd (fresh_fault old is fault) }

few_fault : (b c : Bool) → IsReadFaultEnd (if b then None else Some (Fault (input.Line (if c then 2 else 1) 0 NoHead))) → ⊥
few_fault true c fault = fault
few_fault false c fault = fault

pub stops_faults : (old : Standing) (stop : Stop) (seen : List ℕ) (end : Option ImportEnd) (x y : ℕ) → old ≡ Fresh → end ≡ end_of_start stop seen → Counts (Ok (Stopped stop)) x y → HasFaults old (Ended end) x y
stops_faults old stop seen end x y is made counts = subst (λ (e : Option ImportEnd). HasFaults old (Ended e) x y) (sym made) (by stop counts)
  where
    by : (stop : Stop) → Counts (Ok (Stopped stop)) x y → HasFaults old (Ended (end_of_start stop seen)) x y
    by AtEnd same = record {
      failed = λ fault other. absurd (few_fault (is_empty seen || bytes_eq seen (10 ∷ [])) (begins_with seen (10 ∷ [])) fault);
      kept = λ other there. same;
      again = λ fault. same;
      lasts = λ fault there. absurd (fresh_fault old is fault);
    }
    by Failed rose = record { failed = λ fault other. rose; kept = λ other there. absurd (other tt); again = λ fault. absurd (fresh_fault old is fault); lasts = λ fault there. tt }
    by AtBound same = record { failed = λ fault other. absurd fault; kept = λ other there. same; again = λ fault. same; lasts = λ fault there. absurd (fresh_fault old is fault) }

pub begins_tells : (block new : Hold) (before now : Option (List ℕ)) → Takes block new before now → is_some now ≡ is_some before
begins_tells block new before now t = by before now t.took t.left
  where
    by : (before now : Option (List ℕ)) (took : List ℕ) → before ≡ prepend_known took now → is_some now ≡ is_some before
    by before None took is = ap is_some (sym is)
    by before (Some xs) took is = ap is_some (sym is)
