-- How an input goes on.
use Rattle.std.proofs.Common.{◌≡◌, ℕ, ◌+◌, ◌&&◌, Bool, true, false, List, [], ◌∷◌, ◌++◌, Option, None, Some, Result, Ok, Err, IsSomeAnd, IsTrue, length, refl, ap, sym, ◌∙◌, subst, arith, append_assoc, length-append, inl, inr, ◌⊎◌}
use Rattle.std.proofs.lemmas.List.{append-nil}
use Rattle.std.specs.Io.KnownBytes.{prepend_known}
use Rattle.std.specs.Cmp.Lexicographic.{pointwise}
use Rattle.vast_io.specs.Causes.{Rose}
use Rattle.vast_value.specs.declared.cell.Cell.{Cell}
use Rattle.vast_value.specs.declared.layout.Layout.{Layout}
use Rattle.vast_value.specs.Headings.{Field, Heading, fits_field, fits_fields, heading_of}
use Rattle.source_block.specs.declared.stop.Stop.{Stop}
use Rattle.source_block.specs.declared.stop.Stop.TheVariants.{AtEnd, Failed, AtBound}
use Rattle.source_block.proofs.TakeLemmas.{prepend_nothing, prepend_twice}
use Rattle.zeek_log.specs.declared.step.ZeekEnd.{ZeekEnd}
use Rattle.zeek_log.specs.declared.step.ZeekEnd.TheVariants as end
use Rattle.zeek_log.specs.Reader as reader
use Rattle.zeek_log.specs.Reader.{State, Reads, Last, Ended as EndedState, Reading, to_come, Follows, CountsOf, StepFits, StepHas, heading_or_none, heading_told, step_at}
use Rattle.zeek_log.specs.declared.step.Moved.{Moved}
use Rattle.zeek_log.specs.declared.step.Moved.TheVariants as moved
use Rattle.zeek_log.specs.declared.step.Step.{Step}
use Rattle.zeek_log.specs.declared.step.Step.TheVariants as step
use Rattle.zeek_log.specs.Steps.{Steps, ended, first, step_of}
use Rattle.zeek_log.specs.Table.{LogStep, Head, Line}
use Rattle.pcap_file.specs.declared.reader.Phase.{Phase}
use Rattle.pcap_file.specs.declared.reader.Phase.TheVariants.{Start, Records, Ended as PhaseEnded}
use Rattle.importer.specs.declared.ends.ImportEnd.{ImportEnd}
use Rattle.importer.specs.declared.ends.ImportEnd.TheVariants as import
use Rattle.importer.specs.Carrying.{carried, protocol_place, row_transport}
use Rattle.importer.proofs.CarryLemmas.{still_fits}
use Rattle.importer.proofs.CurrentLemmas.{carried_count, carried_none}
use Rattle.importer.specs.Coming.{Standing, Fresh, Log, Packets, Flows, Ended, Follow, Anything, Nothing, Lost, MayFollow, IsAfterEnd, IsAfterState, IsKnownBy, IsAt, IsQuiet, Leads, Goes, Standpoint, Stays, StepsOn, HasFaults, IsReadFault, IsLost, IsLostState, IsReadFaultEnd, IsReadFaultPhase, IsReadFaultState, end_answer, fields_told, moves_given, steps_given, steps_to_come}
use Rattle.importer.specs.declared.input.Phase.{Phase as InputPhase}
use Rattle.importer.specs.Inputs.{ReadStays, row_of, standing_of}
use Rattle.importer.specs.Logs.{CarriesBy, carried_point}
use Rattle.importer.specs.Ending.{ahead, end_of_capture, end_of_log}
use Rattle.importer.specs.Steps.{carried_answers}

-- ---- any two calls

abbrev Come : Type 0 → Type 0
Come X = List ℕ → Stop → X

pub goes_stay : {X : Type 0} (at : Standing) (come : Come X) (left : Option (List ℕ)) → Goes at at come come (λ x. x) left left
goes_stay at come left may taken is_at =
    let nothing : List ℕ = [] in
    let count : taken ≡ taken + length nothing = omega arith in
    record {
      took = [];
      left = sym (prepend_nothing left);
      follow = may;
      at = subst (λ (n : ℕ). IsAt at may left n) count is_at;
      follows = λ more stop ok. ok;
      is = λ more stop ok. refl;
    }

pub goes_join : {X Y Z : Type 0} (a b c : Standing) (come_a : Come X) (come_b : Come Y) (come_c : Come Z) (one : Y → X) (two : Z → Y) (la lb lc : Option (List ℕ))
    → Goes a b come_a come_b one la lb → Goes b c come_b come_c two lb lc → Goes a c come_a come_c (λ z. one (two z)) la lc
goes_join a b c come_a come_b come_c one two la lb lc before behind may taken is_at =
    let p = before may taken is_at in
    let q = behind p.follow (taken + length p.took) p.at in
    let count : (taken + length p.took) + length q.took ≡ taken + length (p.took ++ q.took) = omega (arith, length-append p.took q.took) in
    record {
      took = p.took ++ q.took;
      left = p.left ∙ ap (prepend_known p.took) q.left ∙ prepend_twice p.took q.took lc;
      follow = q.follow;
      at = subst (λ (n : ℕ). IsAt c q.follow lc n) count q.at;
      follows = λ more stop ok. subst (λ (xs : List ℕ). MayFollow may xs stop) (sym (append_assoc p.took q.took more)) (p.follows (q.took ++ more) stop (q.follows more stop ok));
      is = λ more stop ok.
          ap (λ (xs : List ℕ). come_a xs stop) (append_assoc p.took q.took more)
          ∙ p.is (q.took ++ more) stop (q.follows more stop ok) ∙ ap one (q.is more stop ok);
    }

-- the same seen otherwise
pub goes_seen : {X Y U V : Type 0} (a b : Standing) (come_a : Come X) (come_b : Come Y) (add : Y → X) (la lb : Option (List ℕ)) (see : X → U) (see_now : Y → V) (plus : V → U)
    → ((more : List ℕ) (stop : Stop) → see (add (come_b more stop)) ≡ plus (see_now (come_b more stop))) → Goes a b come_a come_b add la lb
    → Goes a b (λ more stop. see (come_a more stop)) (λ more stop. see_now (come_b more stop)) plus la lb
goes_seen a b come_a come_b add la lb see see_now plus same goes may taken is_at =
    let p = goes may taken is_at in
    record {
      took = p.took;
      left = p.left;
      follow = p.follow;
      at = p.at;
      follows = p.follows;
      is = λ more stop ok. ap see (p.is more stop ok) ∙ same more stop;
    }

-- memory was wanting: nothing is said of what was to come
pub goes_lost : {X Y U V : Type 0} (a b : Standing) (come_a : Come X) (come_b : Come Y) (add : Y → X) (come : Come U) (come_now : Come V) (plus : V → U) (la lb : Option (List ℕ))
    → Goes a b come_a come_b add la lb → Goes a (Ended (Some import.Memory)) come come_now plus la lb
goes_lost a b come_a come_b add come come_now plus la lb goes may taken is_at =
    let p = goes may taken is_at in
    record {
      took = p.took;
      left = p.left;
      follow = Lost;
      at = record { after = refl; known = tt; count = tt };
      follows = λ more stop no. absurd no;
      is = λ more stop no. absurd no;
    }

-- ---- the reader of a log

abbrev is_open : State → Bool
is_open (EndedState e) = false
is_open _ = true

abbrev follow_of : State → Follow
follow_of (Reads told n) = Anything
follow_of (Last told) = Nothing AtEnd
follow_of (EndedState e) = Lost

after_of : (st : State) → is_open st ≡ true → IsAfterState st (follow_of st)
after_of (Reads told n) runs = refl
after_of (Last told) runs = refl
after_of (EndedState e) runs = cc

known_of : (st : State) (now : Option (List ℕ)) (taken : ℕ) → reader.IsMetAtLast st now taken → IsKnownBy (follow_of st) now taken
known_of (Reads told n) now taken met = tt
known_of (Last told) now taken met = met
known_of (EndedState e) now taken met = tt

may_of : (st : State) (more : List ℕ) (stop : Stop) → MayFollow (follow_of st) more stop → reader.MayFollow st more stop
may_of (Reads told n) more stop may = tt
may_of (Last told) more stop may = may
may_of (EndedState e) more stop may = tt

abbrev reading : State → List ℕ → ℕ → ℕ → Reading
reading st held taken kept = record { state = st; held = held; taken = taken; kept = kept }

-- a step was given, so the reader is runs
step_open : (before : Option Heading) (st : State) (x : LogStep) → StepFits before (heading_told st) x → is_open st ≡ true
step_open before (Reads told n) x fits = refl
step_open before (Last told) x fits = refl
step_open before (EndedState e) (Head heading) fits = cc
step_open None (EndedState e) (Line row) fits = absurd fits.0
step_open (Some h) (EndedState e) (Line row) fits = let no = fits.1 in cc

reader_step : (st : State) (held : List ℕ) (count kept : ℕ) (new : Reading) (before now : Option (List ℕ)) (x : LogStep) → is_open new.state ≡ true
    → Follows st (reading st held count kept) new before now (Ok x)
    → Goes (Log (reading st held count kept)) (Log new) (to_come (reading st held count kept)) (to_come new) (first x) before now
reader_step (Last told) held count kept new before now x runs follows may taken is_at = let no = follows.0 in cc
reader_step (EndedState e) held count kept new before now x runs follows may taken is_at = let no = follows.0 in cc
reader_step (Reads told n) held count kept new before now x runs follows may taken is_at =
    let total : new.taken ≡ taken + length follows.took = omega (arith, follows.count, is_at.count) in
    record {
      took = follows.took;
      left = follows.left;
      follow = follow_of new.state;
      at = record {
        after = after_of new.state runs;
        known = subst (λ (n : ℕ). IsKnownBy (follow_of new.state) now n) total (known_of new.state now new.taken follows.met);
        count = total;
      };
      follows = λ more stop ok. subst (λ (f : Follow). MayFollow f (follows.took ++ more) stop) (sym is_at.after) tt;
      is = λ more stop ok. follows.is more stop (may_of new.state more stop ok);
    }

there : (old : Reading) (took more : List ℕ) (stop why : Stop) (e : ZeekEnd) → (more ≡ []) × (stop ≡ why) → to_come old took why ≡ ended e → to_come old (took ++ more) stop ≡ ended e
there old took more stop why e may is =
    ap (λ (xs : List ℕ). to_come old (took ++ xs) stop) may.0 ∙ ap (λ (xs : List ℕ). to_come old xs stop) (append-nil took)
    ∙ ap (λ (s : Stop). to_come old took s) may.1 ∙ is

abbrev GoesToEnd : Reading → ZeekEnd → Option (List ℕ) → Option (List ℕ) → Type 0
GoesToEnd old e before now = Goes (Log old) (Ended (end_of_log e)) (to_come old) (λ more stop. ended e) (λ (s : Steps). s) before now

-- a follow that was met leads to an end
leads_end : (old : Reading) (e : ZeekEnd) (before now : Option (List ℕ)) (may : Follow) (taken : ℕ) (took : List ℕ) (follow : Follow)
    → before ≡ prepend_known took now → IsAfterEnd (end_of_log e) follow → IsKnownBy follow now (taken + length took) → may ≡ Anything
    → ((more : List ℕ) (stop : Stop) → MayFollow follow more stop → to_come old (took ++ more) stop ≡ ended e)
    → Leads (Ended (end_of_log e)) (to_come old) (λ more stop. ended e) (λ (s : Steps). s) before now may taken
leads_end old e before now may taken took follow left after known any is = record {
  took = took;
  left = left;
  follow = follow;
  at = record { after = after; known = known; count = tt };
  follows = λ more stop ok. subst (λ (f : Follow). MayFollow f (took ++ more) stop) (sym any) tt;
  is = is;
}

closes_end : (old : Reading) (e : ZeekEnd) (before now : Option (List ℕ)) (may : Follow) (taken : ℕ) (took : List ℕ)
    → before ≡ prepend_known took now → may ≡ Anything → reader.EndsAs old took now (taken + length took) e
    → Leads (Ended (end_of_log e)) (to_come old) (λ more stop. ended e) (λ (s : Steps). s) before now may taken
closes_end old end.Done before now may taken took left any ends =
    leads_end old end.Done before now may taken took (Nothing AtEnd) left refl ends.1 any (λ more stop ok. there old took more stop AtEnd end.Done ok ends.0)
closes_end old end.ReadFault before now may taken took left any ends =
    leads_end old end.ReadFault before now may taken took (Nothing Failed) left refl tt any (λ more stop ok. there old took more stop Failed end.ReadFault ok ends)
closes_end old end.TooLong before now may taken took left any ends =
    leads_end old end.TooLong before now may taken took (Nothing AtBound) left refl ends.1 any (λ more stop ok. there old took more stop AtBound end.TooLong ok ends.0)
closes_end old (end.Fault n column what) before now may taken took left any (inl always) =
    leads_end old (end.Fault n column what) before now may taken took Anything left (inl refl) tt any (λ more stop ok. always more stop)
closes_end old (end.Fault n column what) before now may taken took left any (inr last) =
    leads_end old (end.Fault n column what) before now may taken took (Nothing AtEnd) left (inr refl) last.1 any (λ more stop ok. there old took more stop AtEnd (end.Fault n column what) ok last.0)
closes_end old end.Memory before now may taken took left any ends =
    leads_end old end.Memory before now may taken took Lost left refl tt any (λ more stop no. absurd no)

abbrev as_end : ZeekEnd → Result LogStep ZeekEnd
as_end e = Err e

same_end : (a b : ZeekEnd) → as_end a ≡ as_end b → a ≡ b
same_end a b same = cc

-- nothing but this end was to come
ended_end : (old : Reading) (e f : ZeekEnd) (before now : Option (List ℕ)) → ((more : List ℕ) (stop : Stop) → to_come old more stop ≡ ended f) → e ≡ f → now ≡ before
    → ((may : Follow) → IsAfterState old.state may → IsAfterEnd (end_of_log f) may) → GoesToEnd old e before now
ended_end old e f before now come same still after may taken is_at =
    let nothing : List ℕ = [] in
    let count : taken ≡ taken + length nothing = omega arith in
    record {
      took = [];
      left = sym still ∙ sym (prepend_nothing now);
      follow = may;
      at = record {
        after = subst (λ (x : ZeekEnd). IsAfterEnd (end_of_log x) may) (sym same) (after may is_at.after);
        known = subst (λ (l : Option (List ℕ)). IsKnownBy may l (taken + length nothing)) (sym still) (subst (λ (n : ℕ). IsKnownBy may before n) count is_at.known);
        count = tt;
      };
      follows = λ more stop ok. ok;
      is = λ more stop ok. come more stop ∙ ap ended (sym same);
    }

reader_end : (st : State) (held : List ℕ) (count kept : ℕ) (new : Reading) (before now : Option (List ℕ)) (e : ZeekEnd)
    → Follows st (reading st held count kept) new before now (Err e) → GoesToEnd (reading st held count kept) e before now
reader_end (Last told) held count kept new before now e follows =
    ended_end (reading (Last told) held count kept) e end.Done before now (λ more stop. refl) (same_end e end.Done follows.0) follows.2 (λ may after. after)
reader_end (EndedState f) held count kept new before now e follows =
    ended_end (reading (EndedState f) held count kept) e f before now (λ more stop. refl) (same_end e f follows.0) follows.2 (λ may after. after)
reader_end (Reads told n) held count kept new before now e follows = λ may taken is_at.
    let total : new.taken ≡ taken + length follows.took = omega (arith, follows.count, is_at.count) in
    closes_end (reading (Reads told n) held count kept) e before now may taken follows.took follows.left is_at.after
    (subst (λ (m : ℕ). reader.EndsAs (reading (Reads told n) held count kept) follows.took now m e) total follows.is)

-- ---- each row carried

head_seen : (fields : List Field) (heading : Heading) (told : Option Heading) (y : Steps) → told ≡ Some heading
    → carried_answers fields (first (Head heading) y) ≡ ahead (Head heading ∷ []) (carried_answers (fields_told told) y)
head_seen fields heading told y is = rw is refl

line_seen : (told now : Option Heading) (row : List Cell) (y : Steps) → now ≡ told
    → carried_answers (fields_told told) (first (Line row) y) ≡ ahead (Line (carried (fields_told told) row) ∷ []) (carried_answers (fields_told now) y)
line_seen told now row y is = rw is refl

pub log_head : (old new : Reading) (before now : Option (List ℕ)) (heading : Heading) → Follows old.state old new before now (Ok (Head heading))
    → StepFits (heading_told old.state) (heading_told new.state) (Head heading) → StepsOn (Log old) (Log new) before now (Head heading ∷ [])
log_head old new before now heading follows fits =
    goes_seen (Log old) (Log new) (to_come old) (to_come new) (first (Head heading)) before now
    (carried_answers (fields_told (heading_told old.state))) (carried_answers (fields_told (heading_told new.state))) (ahead (Head heading ∷ []))
    (λ more stop. head_seen (fields_told (heading_told old.state)) heading (heading_told new.state) (to_come new more stop) fits)
    (reader_step old.state old.held old.taken old.kept new before now (Head heading) (step_open (heading_told old.state) new.state (Head heading) fits) follows)

pub log_line : (old new : Reading) (before now : Option (List ℕ)) (row : List Cell) → Follows old.state old new before now (Ok (Line row))
    → StepFits (heading_told old.state) (heading_told new.state) (Line row)
    → StepsOn (Log old) (Log new) before now (Line (carried (fields_told (heading_told old.state)) row) ∷ [])
log_line old new before now row follows fits =
    goes_seen (Log old) (Log new) (to_come old) (to_come new) (first (Line row)) before now
    (carried_answers (fields_told (heading_told old.state))) (carried_answers (fields_told (heading_told new.state)))
    (ahead (Line (carried (fields_told (heading_told old.state)) row) ∷ []))
    (λ more stop. line_seen (heading_told old.state) (heading_told new.state) row (to_come new more stop) fits.1)
    (reader_step old.state old.held old.taken old.kept new before now (Line row) (step_open (heading_told old.state) new.state (Line row) fits) follows)

pub log_end : (old new : Reading) (before now : Option (List ℕ)) (e : ZeekEnd) → Follows old.state old new before now (Err e)
    → StepsOn (Log old) (Ended (end_of_log e)) before now []
log_end old new before now e follows =
    goes_seen (Log old) (Ended (end_of_log e)) (to_come old) (λ more stop. ended e) (λ (s : Steps). s) before now
    (carried_answers (fields_told (heading_told old.state))) (carried_answers (fields_told (heading_told old.state))) (ahead [])
    (λ more stop. refl) (reader_end old.state old.held old.taken old.kept new before now e follows)

-- ---- a reader that goes on by itself

has_open : (before : Option Heading) (st : State) (x : LogStep) → StepHas before (heading_told st) x → is_open st ≡ true
has_open before (Reads told n) x has = refl
has_open before (Last told) x has = refl
has_open before (EndedState e) (Head heading) has = cc
has_open None (EndedState e) (Line row) has = absurd has.0
has_open (Some h) (EndedState e) (Line row) has = let no = has.1 in cc

log_row : (old new : Reading) (before now : Option (List ℕ)) (row : List Cell) → Follows old.state old new before now (Ok (Line row))
    → StepHas (heading_told old.state) (heading_told new.state) (Line row)
    → StepsOn (Log old) (Log new) before now (Line (carried (fields_told (heading_told old.state)) row) ∷ [])
log_row old new before now row follows has =
    goes_seen (Log old) (Log new) (to_come old) (to_come new) (first (Line row)) before now
    (carried_answers (fields_told (heading_told old.state))) (carried_answers (fields_told (heading_told new.state)))
    (ahead (Line (carried (fields_told (heading_told old.state)) row) ∷ []))
    (λ more stop. line_seen (heading_told old.state) (heading_told new.state) row (to_come new more stop) has.1)
    (reader_step old.state old.held old.taken old.kept new before now (Line row) (has_open (heading_told old.state) new.state (Line row) has) follows)

pub moved_on : (old new : reader.Standing) (before now : Option (List ℕ)) (m : Moved) → Follows old.at.state old.at new.at before now (Ok (step_at new m))
    → StepHas (heading_told old.at.state) (heading_told new.at.state) (step_at new m) → StepsOn (Log old.at) (Log new.at) before now (step_at (carried_point new) m ∷ [])
moved_on old new before now moved.Head follows has = log_head old.at new.at before now (heading_or_none (heading_told new.at.state)) follows has
moved_on old new before now moved.Line follows has =
    subst (λ (h : Option Heading). StepsOn (Log old.at) (Log new.at) before now (Line (carried (fields_told h) new.row) ∷ [])) (sym has.1)
    (log_row old.at new.at before now new.row follows has)

has_cells : (before : Option Heading) (row row_now : List Cell) → length row_now ≡ length row → IsSomeAnd before (λ heading. length heading.fields ≡ length row)
    → IsSomeAnd before (λ heading. length heading.fields ≡ length row_now)
has_cells None row row_now same has = has
has_cells (Some h) row row_now same has = has ∙ sym same

pub has_carried : (before : Option Heading) (new : reader.Standing) (m : Moved) → StepHas before (heading_told new.at.state) (step_at new m)
    → StepHas before (heading_told new.at.state) (step_at (carried_point new) m)
has_carried before new moved.Head has = has
has_carried before new moved.Line has =
    let fields = fields_told (heading_told new.at.state) in
    (has_cells before new.row (carried fields new.row) (carried_count (row_transport fields new.row) fields new.row) has.0, has.1)

pub carries_on : (place : Option ℕ) (before : Option Heading) (new : reader.Standing) → CarriesBy before place → StepHas before (heading_told new.at.state) (step_at new moved.Line)
    → CarriesBy (heading_told new.at.state) place
carries_on place before new by has = subst (λ (h : Option Heading). CarriesBy h place) (sym has.1) by

-- the same of a reader seen from outside
pub moved_at : (old i new : reader.Standing) (s m : Moved) (before now : Option (List ℕ)) → carried_point i ≡ old → s ≡ m → Follows i.at.state i.at new.at before now (Ok (step_at new s))
    → StepHas (heading_told i.at.state) (heading_told new.at.state) (step_at new s) → StepsOn (Log old.at) (Log new.at) before now (step_at (carried_point new) m ∷ [])
moved_at old i new s m before now seen is follows has =
    subst (λ (x : Moved). StepsOn (Log old.at) (Log new.at) before now (step_at (carried_point new) x ∷ [])) is
    (subst (λ (r : reader.Standing). StepsOn (Log r.at) (Log new.at) before now (step_at (carried_point new) s ∷ [])) seen (moved_on i new before now s follows has))

pub has_at : (old i new : reader.Standing) (s m : Moved) → carried_point i ≡ old → s ≡ m → StepHas (heading_told i.at.state) (heading_told new.at.state) (step_at new s)
    → StepHas (heading_told old.at.state) (heading_told new.at.state) (step_at (carried_point new) m)
has_at old i new s m seen is has =
    subst (λ (x : Moved). StepHas (heading_told old.at.state) (heading_told new.at.state) (step_at (carried_point new) x)) is
    (subst (λ (r : reader.Standing). StepHas (heading_told r.at.state) (heading_told new.at.state) (step_at (carried_point new) s)) seen (has_carried (heading_told i.at.state) new s has))

pub point_stays : (old i new : reader.Standing) → carried_point i ≡ old → new ≡ record { at = i.at; row = [] } → carried_point new ≡ record { at = old.at; row = [] }
point_stays old i new seen stays =
    let none : carried (fields_told (heading_told i.at.state)) [] ≡ [] = carried_none (fields_told (heading_told i.at.state)) in
    let at_row : List Cell → reader.Standing = λ (xs : List Cell). record { at = i.at; row = xs } in
    let at_place : Reading → reader.Standing = λ (r : Reading). record { at = r; row = [] } in
    ap carried_point stays ∙ ap at_row none ∙ ap (λ (s : reader.Standing). at_place s.at) seen

-- ---- faults

counts_step : (st : State) (x : LogStep) (before now : ℕ) → CountsOf st (Ok x) before now → now ≡ before
counts_step (Reads told n) x before now counts = counts
counts_step (Last told) x before now counts = counts
counts_step (EndedState e) x before now counts = counts

no_fault_open : (st : State) → is_open st ≡ true → IsReadFaultState st → ⊥
no_fault_open (Reads told n) runs fault = fault
no_fault_open (Last told) runs fault = fault
no_fault_open (EndedState e) runs fault = cc

-- a step was given behind no failed read
step_before : (st : State) (held : List ℕ) (count kept : ℕ) (new : Reading) (left left_now : Option (List ℕ)) (x : LogStep) → Follows st (reading st held count kept) new left left_now (Ok x)
    → IsReadFaultState st → ⊥
step_before (Reads told n) held count kept new left left_now x follows is = is
step_before (Last told) held count kept new left left_now x follows is = is
step_before (EndedState e) held count kept new left left_now x follows is = let no = follows.0 in cc

faults_given : (old new : Reading) (left left_now : Option (List ℕ)) (x : LogStep) (before now : ℕ) → is_open new.state ≡ true → Follows old.state old new left left_now (Ok x)
    → CountsOf old.state (Ok x) before now → HasFaults (Log old) (Log new) before now
faults_given old new left left_now x before now runs follows counts =
    let same = counts_step old.state x before now counts in
    record {
      failed = λ is other. absurd (no_fault_open new.state runs is);
      kept = λ other there. same;
      again = λ is. same;
      lasts = λ is there. absurd (step_before old.state old.held old.taken old.kept new left left_now x follows is);
    }

pub faults_step : (old new : Reading) (left left_now : Option (List ℕ)) (x : LogStep) (before now : ℕ) → Follows old.state old new left left_now (Ok x)
    → StepFits (heading_told old.state) (heading_told new.state) x → CountsOf old.state (Ok x) before now → HasFaults (Log old) (Log new) before now
faults_step old new left left_now x before now follows fits counts =
    faults_given old new left left_now x before now (step_open (heading_told old.state) new.state x fits) follows counts

pub faults_moved : (old new : reader.Standing) (left left_now : Option (List ℕ)) (m : Moved) (before now : ℕ) → Follows old.at.state old.at new.at left left_now (Ok (step_at new m))
    → StepHas (heading_told old.at.state) (heading_told new.at.state) (step_at new m) → CountsOf old.at.state (Ok (step_at new m)) before now → HasFaults (Log old.at) (Log new.at) before now
faults_moved old new left left_now m before now follows has counts =
    faults_given old.at new.at left left_now (step_at new m) before now (has_open (heading_told old.at.state) new.at.state (step_at new m) has) follows counts

pub faults_lost : (old new : Reading) (x : LogStep) (before now : ℕ) → CountsOf old.state (Ok x) before now → HasFaults (Log old) (Ended (Some import.Memory)) before now
faults_lost old new x before now counts =
    let same = counts_step old.state x before now counts in
    record { failed = λ is other. absurd is; kept = λ other there. same; again = λ is. same; lasts = λ is there. absurd (there tt) }

faults_by : (old : Reading) (e : ZeekEnd) (before now : ℕ) → (IsReadFaultState old.state → ⊥) → reader.CountsBy (Err e) before now → HasFaults (Log old) (Ended (end_of_log e)) before now
faults_by old end.Done before now never counts = record { failed = λ is other. absurd is; kept = λ other there. counts; again = λ is. absurd (never is); lasts = λ is there. absurd (never is) }
faults_by old end.TooLong before now never counts = record { failed = λ is other. absurd is; kept = λ other there. counts; again = λ is. absurd (never is); lasts = λ is there. absurd (never is) }
faults_by old end.Memory before now never counts = record { failed = λ is other. absurd is; kept = λ other there. counts; again = λ is. absurd (never is); lasts = λ is there. absurd (never is) }
faults_by old (end.Fault n column what) before now never counts = record { failed = λ is other. absurd is; kept = λ other there. counts; again = λ is. absurd (never is); lasts = λ is there. absurd (never is) }
faults_by old end.ReadFault before now never counts = record { failed = λ is other. counts; kept = λ other there. absurd (other tt); again = λ is. absurd (never is); lasts = λ is there. tt }

faults_in : (st : State) (held : List ℕ) (count kept : ℕ) (new : Reading) (left left_now : Option (List ℕ)) (e : ZeekEnd) (before now : ℕ)
    → Follows st (reading st held count kept) new left left_now (Err e) → CountsOf st (Err e) before now → HasFaults (Log (reading st held count kept)) (Ended (end_of_log e)) before now
faults_in (Reads told n) held count kept new left left_now e before now follows counts = faults_by (reading (Reads told n) held count kept) e before now (λ is. is) counts
faults_in (Last told) held count kept new left left_now e before now follows counts = record {
  failed = λ is other. absurd (subst (λ (x : ZeekEnd). IsReadFaultEnd (end_of_log x)) (same_end e end.Done follows.0) is);
  kept = λ other there. counts;
  again = λ is. counts;
  lasts = λ is there. absurd is;
}
faults_in (EndedState f) held count kept new left left_now e before now follows counts =
    let same = same_end e f follows.0 in
    record {
      failed = λ is other. absurd (other (subst (λ (x : ZeekEnd). IsReadFaultEnd (end_of_log x)) same is));
      kept = λ other there. counts;
      again = λ is. counts;
      lasts = λ is there. subst (λ (x : ZeekEnd). IsReadFaultEnd (end_of_log x)) (sym same) is;
    }

pub faults_end : (old new : Reading) (left left_now : Option (List ℕ)) (e : ZeekEnd) (before now : ℕ) → Follows old.state old new left left_now (Err e)
    → CountsOf old.state (Err e) before now → HasFaults (Log old) (Ended (end_of_log e)) before now
faults_end old new left left_now e before now follows counts = faults_in old.state old.held old.taken old.kept new left left_now e before now follows counts

-- ---- faults of any two calls

of_end : (end : Option ImportEnd) → IsReadFaultEnd end ⊎ (IsReadFaultEnd end → ⊥)
of_end None = inr (λ is. is)
of_end (Some import.ReadFault) = inl tt
of_end (Some import.TooLong) = inr (λ is. is)
of_end (Some import.Memory) = inr (λ is. is)
of_end (Some (import.Fault f)) = inr (λ is. is)

of_state : (st : State) → IsReadFaultState st ⊎ (IsReadFaultState st → ⊥)
of_state (Reads told n) = inr (λ is. is)
of_state (Last told) = inr (λ is. is)
of_state (EndedState e) = of_end (end_of_log e)

of_phase : (phase : Phase) → IsReadFaultPhase phase ⊎ (IsReadFaultPhase phase → ⊥)
of_phase Start = inr (λ is. is)
of_phase (Records head offset) = inr (λ is. is)
of_phase (PhaseEnded e headed) = of_end (end_of_capture e)

-- a failed read is the end, or it is not
pub read_fault_or : (at : Standing) → IsReadFault at ⊎ (IsReadFault at → ⊥)
read_fault_or Fresh = inr (λ is. is)
read_fault_or (Log r) = of_state r.state
read_fault_or (Packets p) = of_phase p.reader.phase
read_fault_or (Flows f) = of_end f.end
read_fault_or (Ended end) = of_end end

pub faults_join : (a b c : Standing) (x y z : ℕ) → (IsLost b → ⊥) → HasFaults a b x y → HasFaults b c y z → HasFaults a c x z
faults_join a b c x y z there one two = by (read_fault_or b)
  where
    by : IsReadFault b ⊎ (IsReadFault b → ⊥) → HasFaults a c x z
    by (inl failed) =
        let same = two.again failed in
        record {
          failed = λ is other. subst (Rose x) (sym same) (one.failed failed other);
          kept = λ other left. absurd (other (two.lasts failed left));
          again = λ is. same ∙ one.again is;
          lasts = λ is left. two.lasts failed left;
        }
    by (inr well) =
        let same = one.kept well there in
        record {
          failed = λ is other. subst (λ (n : ℕ). Rose n z) same (two.failed is well);
          kept = λ other left. two.kept other left ∙ same;
          again = λ is. absurd (well (one.lasts is there));
          lasts = λ is left. absurd (well (one.lasts is there));
        }

-- memory was wanting behind a call
pub faults_memory : (a b : Standing) (x y : ℕ) → HasFaults a b x y → HasFaults a (Ended (Some import.Memory)) x y
faults_memory a b x y one = record { failed = λ is other. absurd is; kept = λ other there. absurd (there tt); again = one.again; lasts = λ is there. absurd (there tt) }

-- nothing was read
pub faults_stay : (at new : Standing) (x y : ℕ) → y ≡ x → (IsReadFault at → (IsLost new → ⊥) → IsReadFault new) → (IsReadFault new → IsReadFault at) → HasFaults at new x y
faults_stay at new x y same lasts back = record {
  failed = λ is other. absurd (other (back is));
  kept = λ other there. same;
  again = λ is. same;
  lasts = lasts;
}

-- ---- a source that is read no more

quiet_in : (st : State) (held : List ℕ) (count kept : ℕ) (new : Reading) (left left_now : Option (List ℕ)) (r : Result LogStep ZeekEnd) (before now : ℕ)
    → Follows st (reading st held count kept) new left left_now r → CountsOf st r before now → IsQuiet (Log (reading st held count kept)) left left_now before now
quiet_in (Reads told n) held count kept new left left_now r before now follows counts = λ no. cc
quiet_in (Last told) held count kept new left left_now (Ok x) before now follows counts = let no = follows.0 in cc
quiet_in (Last told) held count kept new left left_now (Err e) before now follows counts = λ quiet. (follows.2, counts)
quiet_in (EndedState f) held count kept new left left_now (Ok x) before now follows counts = let no = follows.0 in cc
quiet_in (EndedState f) held count kept new left left_now (Err e) before now follows counts = λ quiet. (follows.2, counts)

pub log_quiet : (old i new : Reading) (left left_now : Option (List ℕ)) (r : Result LogStep ZeekEnd) (before now : ℕ) → i ≡ old
    → Follows i.state i new left left_now r → CountsOf i.state r before now → IsQuiet (Log old) left left_now before now
log_quiet old i new left left_now r before now seen follows counts =
    subst (λ (x : Reading). IsQuiet (Log x) left left_now before now) seen (quiet_in i.state i.held i.taken i.kept new left left_now r before now follows counts)

-- no layout stands behind an end
no_heading_in : (st : State) (held : List ℕ) (count kept : ℕ) (new : Reading) (left left_now : Option (List ℕ)) (e : ZeekEnd)
    → Follows st (reading st held count kept) new left left_now (Err e) → heading_told new.state ≡ None
no_heading_in (Reads told n) held count kept new left left_now e follows = ap heading_told follows.stays
no_heading_in (Last told) held count kept new left left_now e follows = ap (λ (r : Reading). heading_told r.state) follows.1
no_heading_in (EndedState f) held count kept new left left_now e follows = ap (λ (r : Reading). heading_told r.state) follows.1

pub carries_none : (old new : Reading) (place : Option ℕ) (left left_now : Option (List ℕ)) (e : ZeekEnd) → Follows old.state old new left left_now (Err e)
    → CarriesBy (heading_told new.state) place
carries_none old new place left left_now e follows =
    subst (λ (h : Option Heading). CarriesBy h place) (sym (no_heading_in old.state old.held old.taken old.kept new left left_now e follows)) tt

-- ---- the reader of a log and its parts

pub head_at : (old i new : Reading) (before now : Option (List ℕ)) (s : Step) (layout : Layout) → i ≡ old → Follows i.state i new before now (Ok (step_of s))
    → StepFits (heading_told i.state) (heading_told new.state) (step_of s) → s ≡ step.Head layout → StepsOn (Log old) (Log new) before now (step_of (step.Head layout) ∷ [])
head_at old i new before now s layout seen follows fits is =
    subst (λ (r : Reading). StepsOn (Log r) (Log new) before now (step_of (step.Head layout) ∷ [])) seen
    (log_head i new before now (heading_of layout) (subst (λ (x : Step). Follows i.state i new before now (Ok (step_of x))) is follows)
    (subst (λ (x : Step). StepFits (heading_told i.state) (heading_told new.state) (step_of x)) is fits))

pub end_at : (old i new : Reading) (before now : Option (List ℕ)) (e : ZeekEnd) → i ≡ old → Follows i.state i new before now (Err e) → StepsOn (Log old) (Ended (end_of_log e)) before now []
end_at old i new before now e seen follows =
    subst (λ (r : Reading). StepsOn (Log r) (Ended (end_of_log e)) before now []) seen (log_end i new before now e follows)

abbrev Carries : Option ℕ → List Cell → List Cell → Type 0
Carries place row new = (fields : List Field) → place ≡ protocol_place fields → fits_fields fields row ≡ true → new ≡ carried fields row

row_is : (told : Option Heading) (place : Option ℕ) (row new : List Cell) → CarriesBy told place → IsSomeAnd told (λ heading. IsTrue (fits_fields heading.fields row)) → Carries place row new
    → new ≡ carried (fields_told told) row
row_is None place row new by fits carries = absurd fits
row_is (Some h) place row new by fits carries = carries h.fields by fits

row_fits : (told : Option Heading) (place : Option ℕ) (row new : List Cell) → CarriesBy told place → IsSomeAnd told (λ heading. IsTrue (fits_fields heading.fields row)) → Carries place row new
    → IsSomeAnd told (λ heading. IsTrue (fits_fields heading.fields new))
row_fits None place row new by fits carries = absurd fits
row_fits (Some h) place row new by fits carries =
    subst (λ (r : List Cell). fits_fields h.fields r ≡ true) (sym (carries h.fields by fits)) (still_fits h.fields row fits)

pub line_at : (old i new : Reading) (before now : Option (List ℕ)) (s : Step) (row after : List Cell) (place : Option ℕ) → i ≡ old → CarriesBy (heading_told i.state) place
    → Follows i.state i new before now (Ok (step_of s)) → StepFits (heading_told i.state) (heading_told new.state) (step_of s) → s ≡ step.Line row → Carries place row after
    → StepsOn (Log old) (Log new) before now (Line after ∷ [])
line_at old i new before now s row after place seen by follows fits is carries =
    let fit : StepFits (heading_told i.state) (heading_told new.state) (Line row) = subst (λ (x : Step). StepFits (heading_told i.state) (heading_told new.state) (step_of x)) is fits in
    subst (λ (r : Reading). StepsOn (Log r) (Log new) before now (Line after ∷ [])) seen
    (subst (λ (x : List Cell). StepsOn (Log i) (Log new) before now (Line x ∷ [])) (sym (row_is (heading_told i.state) place row after by fit.0 carries))
    (log_line i new before now row (subst (λ (x : Step). Follows i.state i new before now (Ok (step_of x))) is follows) fit))

pub line_fits_at : (old i new : Reading) (s : Step) (row after : List Cell) (place : Option ℕ) → i ≡ old → CarriesBy (heading_told i.state) place
    → StepFits (heading_told i.state) (heading_told new.state) (step_of s) → s ≡ step.Line row → Carries place row after
    → StepFits (heading_told old.state) (heading_told new.state) (Line after)
line_fits_at old i new s row after place seen by fits is carries =
    let fit : StepFits (heading_told i.state) (heading_told new.state) (Line row) = subst (λ (x : Step). StepFits (heading_told i.state) (heading_told new.state) (step_of x)) is fits in
    subst (λ (r : Reading). StepFits (heading_told r.state) (heading_told new.state) (Line after)) seen
    (row_fits (heading_told i.state) place row after by fit.0 carries, fit.1)

pub lost_at : (old i new : Reading) (before now : Option (List ℕ)) (s : Step) → i ≡ old → Follows i.state i new before now (Ok (step_of s))
    → StepFits (heading_told i.state) (heading_told new.state) (step_of s) → StepsOn (Log old) (Ended (Some import.Memory)) before now []
lost_at old i new before now s seen follows fits =
    subst (λ (r : Reading). StepsOn (Log r) (Ended (Some import.Memory)) before now []) seen
    (goes_lost (Log i) (Log new) (to_come i) (to_come new) (first (step_of s)) (steps_to_come (Log i)) (steps_to_come (Ended (Some import.Memory))) (ahead []) before now
    (reader_step i.state i.held i.taken i.kept new before now (step_of s) (step_open (heading_told i.state) new.state (step_of s) fits) follows))

abbrev point : {S : Type 0} → Standing → List Cell → S → Standpoint S
point at row source = record { at = at; row = row; source = source }

reads_same : {X : Type 0} (a b : Option ImportEnd) → ◌≡◌ {A = Result X (Option ImportEnd)} (Err a) (Err b) → a ≡ b
reads_same a b same = cc

-- an end that was met stays
pub end_stays : {S X : Type 0} (old new : Standpoint S) (p : InputPhase) (from : S) (why : Option ImportEnd) (answer : Result (Option X) ImportEnd) → point (standing_of p) (row_of p) from ≡ new
    → ReadStays {X = X} old new (Err why) → answer ≡ end_answer why → Stays old.at old (point (Ended why) [] from) answer
end_stays {S = S} {X = X} old new p from why answer seen stays is = λ end at.
    let again = stays end at in
    let same : why ≡ end = reads_same {X = X} why end again.0 in
    let source : from ≡ old.source = ap (λ (o : Standpoint S). o.source) (seen ∙ again.1) in (
      is ∙ ap (end_answer {X = X}) same,
      ap (λ (e : Option ImportEnd). point (Ended e) [] from) same ∙ ap (λ (s : Standing). point s [] from) (sym at)
          ∙ ap (λ (xs : List Cell). point old.at xs from) (sym again.2) ∙ ap (λ (x : S). point old.at old.row x) source,
    )

-- where an end is answered nothing was given
pub end_steps : (why : Option ImportEnd) (answer : Result (Option Step) ImportEnd) → answer ≡ end_answer why → [] ≡ steps_given answer
end_steps None answer is = ap steps_given (sym is)
end_steps (Some end) answer is = ap steps_given (sym is)

pub end_moves : (at : Standing) (row : List Cell) (why : Option ImportEnd) (answer : Result (Option Moved) ImportEnd) → answer ≡ end_answer why → [] ≡ moves_given at row answer
end_moves at row None answer is = ap (moves_given at row) (sym is)
end_moves at row (Some end) answer is = ap (moves_given at row) (sym is)

pub stay_at : (at : Standing) (end : Option ImportEnd) (left left_now : Option (List ℕ)) → at ≡ Ended end → left_now ≡ left → StepsOn at (Ended end) left left_now []
stay_at at end left left_now is same =
    subst (λ (l : Option (List ℕ)). StepsOn at (Ended end) left l []) (sym same)
    (subst (λ (s : Standing). StepsOn s (Ended end) left left []) (sym is) (goes_stay (Ended end) (steps_to_come (Ended end)) left))

both_true : (a b : Bool) → a && b ≡ true → b ≡ true
both_true true b h = h
both_true false b h = cc

same_count : {X Y : Type 0} (test : X → Y → Bool) (xs : List X) (ys : List Y) → pointwise test xs ys ≡ true → length xs ≡ length ys
same_count test [] [] all = refl
same_count test [] (y ∷ ys) all = cc
same_count test (x ∷ xs) [] all = cc
same_count test (x ∷ xs) (y ∷ ys) all = let rest = same_count test xs ys (both_true (test x y) (pointwise test xs ys) all) in omega (arith, rest)

row_count : (before : Option Heading) (row : List Cell) → IsSomeAnd before (λ heading. IsTrue (fits_fields heading.fields row)) → IsSomeAnd before (λ heading. length heading.fields ≡ length row)
row_count None row fits = fits
row_count (Some h) row fits = same_count fits_field h.fields row fits

-- a row that fits has a cell for each column
pub has_fit : (before now : Option Heading) (x : LogStep) → StepFits before now x → StepHas before now x
has_fit before now (Head heading) fits = fits
has_fit before now (Line row) fits = (row_count before row fits.0, fits.1)

pub begun_steps : (a b c : Standing) (left mid now : Option (List ℕ)) (xs : List LogStep) → StepsOn a b left mid [] → StepsOn b c mid now xs → StepsOn a c left now xs
begun_steps a b c left mid now xs one two =
    goes_join a b c (steps_to_come a) (steps_to_come b) (steps_to_come c) (ahead []) (ahead xs) left mid now one two

row_before : (st : State) (now : Option Heading) (row : List Cell) → StepHas (heading_told st) now (Line row) → IsReadFaultState st → ⊥
row_before (Reads told n) now row has fault = fault
row_before (Last told) now row has fault = fault
row_before (EndedState e) now row has fault = absurd has.0

-- a row was seen in place
pub faults_in_place : (old new : Reading) (row : List Cell) (count : ℕ) → StepHas (heading_told old.state) (heading_told new.state) (Line row) → HasFaults (Log old) (Log new) count count
faults_in_place old new row count has = record {
  failed = λ is other. absurd (no_fault_open new.state (has_open (heading_told old.state) new.state (Line row) has) is);
  kept = λ other there. refl;
  again = λ is. refl;
  lasts = λ is there. absurd (row_before old.state (heading_told new.state) row has is);
}

open_there : (st : State) → is_open st ≡ true → IsLostState st → ⊥
open_there (Reads told n) runs lost = lost
open_there (Last told) runs lost = lost
open_there (EndedState e) runs lost = cc

pub there_in_place : (old new : Reading) (row : List Cell) → StepHas (heading_told old.state) (heading_told new.state) (Line row) → IsLost (Log new) → ⊥
there_in_place old new row has lost = open_there new.state (has_open (heading_told old.state) new.state (Line row) has) lost
