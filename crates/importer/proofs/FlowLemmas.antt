-- How the flows of a capture are given.
use Rattle.std.proofs.Common.{◌≡◌, ℕ, ◌+◌, ◌≤◌, Bool, true, false, ◌&&◌, List, [], ◌∷◌, Option, None, Some, Result, Ok, Err, zero, suc, drop, map, length, refl, ap, sym, ◌∙◌, subst, arith, inl, inr}
use Rattle.std.specs.Prelude.{slice_get}
use Rattle.std.specs.List.{list_all}
use Rattle.std.proofs.Math.ListN.{drop_of_length-le}
use Rattle.vast_value.specs.declared.cell.Cell.{Cell}
use Rattle.vast_value.specs.Headings.{Field, Heading, fits_fields}
use Rattle.zeek_log.specs.declared.step.Step.{Step}
use Rattle.zeek_log.specs.Reader.{StepFits}
use Rattle.zeek_log.specs.Table.{LogStep, Head, Line}
use Rattle.pcap_flow.specs.Rows.{flow_heading}
use Rattle.importer.specs.declared.ends.ImportEnd.{ImportEnd}
use Rattle.importer.specs.declared.ends.ImportEnd.TheVariants as import
use Rattle.importer.specs.Captures.{FlowsAt, Rowed, flows_heading, flows_to_come, heading_by}
use Rattle.importer.specs.Carrying.{carried, protocol_place}
use Rattle.importer.specs.Coming.{Ended, Flows, HasFaults, IsAfterEnd, IsReadFaultEnd, Standing, StepsOn, end_answer, steps_given, steps_to_come}
use Rattle.importer.specs.Ending.{Answers, ahead, only_end}
use Rattle.importer.specs.Reads.{FlowsAnswer, flows_after}
use Rattle.importer.specs.Inputs.{read_given, stands_after, step_or_end}
use Rattle.importer.proofs.CaptureLemmas.{flows_told}
use Rattle.importer.proofs.CarryLemmas.{still_fits}
use Rattle.importer.proofs.GoingLemmas.{faults_stay, goes_lost, goes_stay}

-- a reader whose rows were made and are given from this place on
abbrev flows_seen : Bool → List (List Cell) → ℕ → Option ImportEnd → FlowsAt
flows_seen told rows at end = record { told = told; rows = map (carried flow_heading.fields) (drop at rows); end = end }

abbrev rowed : FlowsAt → List Cell → Rowed FlowsAt
rowed f row = record { at = f; row = row }

-- the head
pub head_given : (old new : Rowed FlowsAt) (told : Bool) (rows : List (List Cell)) (at : ℕ) (end : Option ImportEnd) (row row_now : List Cell) (heading : Heading) (left : Option (List ℕ))
    → rowed (flows_seen told rows at end) row ≡ old → told ≡ false → new ≡ rowed (record { told = true; rows = map (carried flow_heading.fields) (drop at rows); end = end }) row_now → heading ≡ flow_heading
    → StepsOn (Flows old.at) (Flows new.at) left left (Head heading ∷ [])
head_given old new told rows at end row row_now heading left seen first same is =
    subst (λ (o : Rowed FlowsAt). StepsOn (Flows o.at) (Flows new.at) left left (Head heading ∷ [])) seen
    (subst (λ (n : Rowed FlowsAt). StepsOn (Flows (flows_seen told rows at end)) (Flows n.at) left left (Head heading ∷ [])) (sym same)
    (subst (λ (h : Heading). StepsOn (Flows (flows_seen told rows at end)) (Flows (record { told = true; rows = map (carried flow_heading.fields) (drop at rows); end = end })) left left (Head h ∷ [])) (sym is)
    (flows_told (flows_seen told rows at end) left first)))

-- a row
drop_get : (rows : List (List Cell)) (at : ℕ) (row : List Cell) → slice_get rows at ≡ Some row → drop at rows ≡ row ∷ drop (suc at) rows
drop_get [] at row is = cc
drop_get (x ∷ rows) zero row is = cc
drop_get (x ∷ rows) (suc n) row is = drop_get rows n row is

row_stands : (f new : FlowsAt) (row : List Cell) (left : Option (List ℕ)) → f.end ≡ new.end → flows_to_come f ≡ ahead (Line row ∷ []) (flows_to_come new) → StepsOn (Flows f) (Flows new) left left (Line row ∷ [])
row_stands f new row left same comes may taken is_at =
    let stay = goes_stay (Flows new) (steps_to_come (Flows new)) left may taken (record { after = subst (λ (e : Option ImportEnd). IsAfterEnd e may) same is_at.after; known = is_at.known; count = tt }) in
    record { took = stay.took; left = stay.left; follow = stay.follow; at = stay.at; follows = stay.follows; is = λ more stop ok. comes }

row_comes : (told : Bool) (rows : List (List Cell)) (at : ℕ) (end : Option ImportEnd) (cells given : List Cell) → told ≡ true → slice_get rows at ≡ Some cells → given ≡ carried flow_heading.fields cells
    → flows_to_come (flows_seen told rows at end) ≡ ahead (Line given ∷ []) (flows_to_come (flows_seen told rows (at + 1) end))
row_comes told rows at end cells given behind found is =
    let next : suc at ≡ at + 1 = omega arith in
    rw (behind, is) (ap (λ (r : List (List Cell)). flows_to_come (record { told = true; rows = map (carried flow_heading.fields) r; end = end })) (drop_get rows at cells found ∙ ap (λ (n : ℕ). cells ∷ drop n rows) next))

pub row_given : (old : Rowed FlowsAt) (told : Bool) (rows : List (List Cell)) (at : ℕ) (end : Option ImportEnd) (row cells given : List Cell) (left : Option (List ℕ))
    → rowed (flows_seen told rows at end) row ≡ old → told ≡ true → slice_get rows at ≡ Some cells → given ≡ carried flow_heading.fields cells
    → StepsOn (Flows old.at) (Flows (flows_seen told rows (at + 1) end)) left left (Line given ∷ [])
row_given old told rows at end row cells given left seen behind found is =
    subst (λ (o : Rowed FlowsAt). StepsOn (Flows o.at) (Flows (flows_seen told rows (at + 1) end)) left left (Line given ∷ [])) seen
    (row_stands (flows_seen told rows at end) (flows_seen told rows (at + 1) end) given left refl (row_comes told rows at end cells given behind found is))

-- the end
ended_stands : (f : FlowsAt) (left : Option (List ℕ)) → flows_to_come f ≡ only_end f.end → StepsOn (Flows f) (Ended f.end) left left []
ended_stands f left comes may taken is_at =
    let stay = goes_stay (Ended f.end) (steps_to_come (Ended f.end)) left may taken (record { after = is_at.after; known = is_at.known; count = tt }) in
    record { took = stay.took; left = stay.left; follow = stay.follow; at = stay.at; follows = stay.follows; is = λ more stop ok. comes }

answered : (f new : FlowsAt) (end : Option ImportEnd) (left : Option (List ℕ)) → StepsOn (Flows f) (Ended end) left left [] → StepsOn (Flows f) (flows_after new (end_answer end)) left left (steps_given (end_answer {X = Step} end))
answered f new None left goes = goes
answered f new (Some e) left goes = goes

pub end_given : (old : Rowed FlowsAt) (told : Bool) (rows : List (List Cell)) (at : ℕ) (end : Option ImportEnd) (row : List Cell) (answer : Result (Option Step) ImportEnd) (left : Option (List ℕ))
    → rowed (flows_seen told rows at end) row ≡ old → told ≡ true → length rows ≤ at → answer ≡ end_answer end
    → StepsOn (Flows old.at) (flows_after (flows_seen told rows at end) answer) left left (steps_given answer)
end_given old told rows at end row answer left seen behind past is =
    let f = flows_seen told rows at end in
    subst (λ (o : Rowed FlowsAt). StepsOn (Flows o.at) (flows_after f answer) left left (steps_given answer)) seen
    (subst (λ (a : Result (Option Step) ImportEnd). StepsOn (Flows f) (flows_after f a) left left (steps_given a)) (sym is)
    (answered f f end left (ended_stands f left (rw (behind, drop_of_length-le rows past) refl))))

-- memory was wanting
pub memory_given : (f new : FlowsAt) (answer : Result (Option Step) ImportEnd) (left : Option (List ℕ)) → answer ≡ Err import.Memory → StepsOn (Flows f) (flows_after new answer) left left (steps_given answer)
memory_given f new answer left is =
    subst (λ (a : Result (Option Step) ImportEnd). StepsOn (Flows f) (flows_after new a) left left (steps_given a)) (sym is)
    (goes_lost (Flows f) (Flows f) (steps_to_come (Flows f)) (steps_to_come (Flows f)) (λ (s : Answers LogStep). s) (steps_to_come (Flows f)) (steps_to_come (Ended (Some import.Memory))) (ahead []) left left
    (goes_stay (Flows f) (steps_to_come (Flows f)) left))

-- a row fits the layout of flows
and_both : (a b : Bool) → a && b ≡ true → (a ≡ true) × (b ≡ true)
and_both true b h = (refl, h)
and_both false b h = cc

some_row : (x row : List Cell) → Some x ≡ Some row → x ≡ row
some_row x row same = cc

get_fits : (fields : List Field) (rows : List (List Cell)) (at : ℕ) (row : List Cell) → list_all (fits_fields fields) rows ≡ true → slice_get rows at ≡ Some row → fits_fields fields row ≡ true
get_fits fields [] at row all found = cc
get_fits fields (x ∷ rows) zero row all found =
    subst (λ (r : List Cell). fits_fields fields r ≡ true) (some_row x row found) (and_both (fits_fields fields x) (list_all (fits_fields fields) rows) all).0
get_fits fields (x ∷ rows) (suc n) row all found = get_fits fields rows n row (and_both (fits_fields fields x) (list_all (fits_fields fields) rows) all).1 found

pub given_fits : (old : Rowed FlowsAt) (told : Bool) (rows : List (List Cell)) (at : ℕ) (end : Option ImportEnd) (row cells given : List Cell)
    → rowed (flows_seen told rows at end) row ≡ old → told ≡ true → list_all (fits_fields flow_heading.fields) rows ≡ true → slice_get rows at ≡ Some cells
    → ((fields : List Field) → Some 5 ≡ protocol_place fields → fits_fields fields cells ≡ true → given ≡ carried fields cells)
    → StepFits (Some (flows_heading old.at)) (Some (flows_heading (flows_seen told rows (at + 1) end))) (Line given)
given_fits old told rows at end row cells given seen behind all found carries =
    let fit = get_fits flow_heading.fields rows at cells all found in
    let is = carries flow_heading.fields refl fit in
    subst (λ (o : Rowed FlowsAt). StepFits (Some (flows_heading o.at)) (Some (flows_heading (flows_seen told rows (at + 1) end))) (Line given)) seen
    (subst (λ (b : Bool). StepFits (Some (heading_by b)) (Some (heading_by b)) (Line given)) (sym behind)
    (subst (λ (r : List Cell). fits_fields flow_heading.fields r ≡ true) (sym is) (still_fits flow_heading.fields cells fit), refl))

pub carried_is : (rows : List (List Cell)) (at : ℕ) (cells given : List Cell) → list_all (fits_fields flow_heading.fields) rows ≡ true → slice_get rows at ≡ Some cells
    → ((fields : List Field) → Some 5 ≡ protocol_place fields → fits_fields fields cells ≡ true → given ≡ carried fields cells) → given ≡ carried flow_heading.fields cells
carried_is rows at cells given all found carries = carries flow_heading.fields refl (get_fits flow_heading.fields rows at cells all found)

pub end_answers : (old : Rowed FlowsAt) (told : Bool) (rows : List (List Cell)) (at : ℕ) (end : Option ImportEnd) (row : List Cell) (answer : Result (Option Step) ImportEnd) → rowed (flows_seen told rows at end) row ≡ old
    → answer ≡ end_answer end → FlowsAnswer old.at.end answer
end_answers old told rows at end row answer seen is =
    subst (λ (o : Rowed FlowsAt). FlowsAnswer o.at.end answer) seen (subst (FlowsAnswer end) (sym is) (by end))
  where
    by : (end : Option ImportEnd) → FlowsAnswer end (end_answer end)
    by None = refl
    by (Some e) = inl refl

-- an input reads on in flows
pub flows_read : (old : Standing) (f new : FlowsAt) (answer : Result (Option Step) ImportEnd) (result : Result Step (Option ImportEnd)) (left left_now : Option (List ℕ)) → old ≡ Flows f → left_now ≡ left
    → result ≡ step_or_end answer → StepsOn (Flows f) (flows_after new answer) left left (steps_given answer) → StepsOn old (stands_after (Flows new) result) left left_now (read_given result)
flows_read old f new answer result left left_now is same made goes =
    subst (λ (s : Standing). StepsOn s (stands_after (Flows new) result) left left_now (read_given result)) (sym is)
    (subst (λ (l : Option (List ℕ)). StepsOn (Flows f) (stands_after (Flows new) result) left l (read_given result)) (sym same)
    (subst (λ (r : Result Step (Option ImportEnd)). StepsOn (Flows f) (stands_after (Flows new) r) left left (read_given r)) (sym made) (by answer goes)))
  where
    by : (answer : Result (Option Step) ImportEnd) → StepsOn (Flows f) (flows_after new answer) left left (steps_given answer)
        → StepsOn (Flows f) (stands_after (Flows new) (step_or_end answer)) left left (read_given (step_or_end answer))
    by (Ok (Some step)) goes = goes
    by (Ok None) goes = goes
    by (Err e) goes = goes

pub flows_faults_read : (old : Standing) (f new : FlowsAt) (answer : Result (Option Step) ImportEnd) (result : Result Step (Option ImportEnd)) (x y : ℕ) → old ≡ Flows f → y ≡ x → result ≡ step_or_end answer
    → FlowsAnswer f.end answer → new.end ≡ f.end → HasFaults old (stands_after (Flows new) result) x y
flows_faults_read old f new answer result x y is same made answers kept =
    subst (λ (s : Standing). HasFaults s (stands_after (Flows new) result) x y) (sym is)
    (subst (λ (r : Result Step (Option ImportEnd)). HasFaults (Flows f) (stands_after (Flows new) r) x y) (sym made) (by answer answers))
  where
    to_end : (end : Option ImportEnd) → f.end ≡ end → HasFaults (Flows f) (Ended end) x y
    to_end end was = faults_stay (Flows f) (Ended end) x y same (λ fault there. subst IsReadFaultEnd was fault) (λ fault. subst IsReadFaultEnd (sym was) fault)

    by : (answer : Result (Option Step) ImportEnd) → FlowsAnswer f.end answer → HasFaults (Flows f) (stands_after (Flows new) (step_or_end answer)) x y
    by (Ok (Some step)) answers = faults_stay (Flows f) (Flows new) x y same (λ fault there. subst IsReadFaultEnd (sym kept) fault) (λ fault. subst IsReadFaultEnd kept fault)
    by (Ok None) answers = to_end None answers
    by (Err e) (inl was) = to_end (Some e) was
    by (Err e) (inr memory) = subst (λ (z : ImportEnd). HasFaults (Flows f) (Ended (Some z)) x y) (sym memory)
        (faults_stay (Flows f) (Ended (Some import.Memory)) x y same (λ fault there. absurd (there tt)) (λ fault. absurd fault))
