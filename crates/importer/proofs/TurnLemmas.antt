-- How an import takes one step.
use Rattle.std.proofs.Common.{◌≡◌, ℕ, ◌≤◌, Bool, true, false, ◌&&◌, ◌||◌, List, [], ◌∷◌, ◌++◌, Option, None, Some, Result, Ok, Err, IfOk, IfSome, IsSomeAnd, IsTrue, length, refl, ap, sym, ◌∙◌, subst, arith, length-append, nat_le, inl, inr, ◌⊎◌}
use Rattle.std.proofs.lemmas.Bool.Decides.{nat_tests}
use Rattle.std.specs.List.{list_all}
use Rattle.vast_value.specs.declared.cell.Cell.{Cell}
use Rattle.vast_value.specs.declared.layout.Layout.{Layout}
use Rattle.vast_value.specs.Headings.{Field, Heading, fits_fields, heading_of}
use Rattle.std.specs.Option.{option_map}
use Rattle.vast_value.proofs.HeadingLemmas.{fits_fields-map}
use Rattle.vast_value.specs.Fit.{fits_columns}
use Rattle.event_batch.specs.declared.batch.Batch.{Batch}
use Rattle.event_batch.specs.Contents.{Content, content_of}
use Rattle.event_batch.specs.Sizes.{rows_fit}
use Rattle.event_batch.proofs.ContentLemmas.{rows_fit_fields}
use Rattle.zeek_log.specs.declared.step.Step.{Step}
use Rattle.zeek_log.specs.Reader.{StepFits}
use Rattle.zeek_log.specs.Steps.{step_of}
use Rattle.zeek_log.specs.Table.{LogStep, Head, Line}
use Rattle.importer.specs.declared.ends.ImportEnd.{ImportEnd}
use Rattle.importer.specs.declared.ends.ImportEnd.TheVariants.{Fault, ReadFault, TooLong, Memory}
use Rattle.importer.specs.declared.import.Turn.{Turn}
use Rattle.importer.specs.declared.import.Turn.TheVariants as turn
use Rattle.importer.specs.Coming.{BatchesOn, EndsAt, Ended, Goes, HasFaults, Importing, IsLastLayout, IsLost, Sourced, Standing, Standpoint, StepsOn, Stays, batches_behind, batches_to_come, end_answer, heading_at, steps_given, steps_to_come}
use Rattle.importer.specs.Cutting.{batch_of, bounds_of, cell_bytes_of, cut_answers, is_full, most_cell_bytes, steps_behind}
use Rattle.importer.specs.Ending.{Answers, ahead}
use Rattle.importer.specs.Turns.{AreHeld, AreSince, EndTurn, HeadTurn, HeldFit, IsMemory, LineTurn, RowFits, TurnGoes, TurnGoing, TurnHolds}
use Rattle.importer.proofs.CutLemmas.{end_closes, head_closes, head_comes, line_closes, line_comes, none_since, nothing_comes, row_since}
use Rattle.importer.proofs.GoingLemmas.{faults_join, goes_join, goes_lost, goes_seen, goes_stay}

abbrev pub import_at : ℕ → ℕ → Option Heading → Standing → Importing
import_at n rows heading at = record { number = n; rows = rows; heading = heading; standing = at }

abbrev Seen : ℕ → ℕ → Option Heading → List (List Cell) → Answers LogStep → Answers Content
Seen n rows heading held steps = cut_answers n rows (steps_behind heading held steps)

abbrev Rows : Type 0
Rows = List (List Cell)

some_same : (a b : Heading) → Some a ≡ Some b → a ≡ b
some_same a b same = cc

both_hold : (a b : Bool) → a && b ≡ true → (a ≡ true) × (b ≡ true)
both_hold true b h = (refl, h)
both_hold false b h = cc

-- ---- a head

head_goes : (n rows : ℕ) (heading : Option Heading) (at new : Standing) (before now : Option (List ℕ)) (held : Rows) (next : Heading) (t : Turn)
    → AreSince (is_full (bounds_of rows)) held → StepsOn at new before now (Head next ∷ []) → HeadTurn t heading held
    → TurnGoes t (import_at n rows heading at) (import_at n rows (Some next) new) held held before now
head_goes n rows heading at new before now held next turn.Goes since steps empty =
    subst (λ (h : Rows). Goes at new (batches_behind (import_at n rows heading at) h) (batches_behind (import_at n rows (Some next) new) h) (ahead []) before now) (sym empty)
    (goes_seen at new (steps_to_come at) (steps_to_come new) (ahead (Head next ∷ [])) before now (Seen n rows heading []) (Seen n rows (Some next) []) (ahead [])
    (λ more stop. head_comes n rows heading next (steps_to_come new more stop)) steps)
head_goes n rows heading at new before now held next (turn.Closes layout) since steps closes =
    subst (λ (h : Option Heading). Goes at new (batches_behind (import_at n rows h at) held) (batches_to_come (import_at n rows (Some next) new)) (ahead (batch_of n (heading_of layout) held ∷ [])) before now)
    (sym closes.0)
    (goes_seen at new (steps_to_come at) (steps_to_come new) (ahead (Head next ∷ [])) before now (Seen n rows (Some (heading_of layout)) held) (Seen n rows (Some next) []) (ahead (batch_of n (heading_of layout) held ∷ []))
    (λ more stop. head_closes n rows (heading_of layout) next held (steps_to_come new more stop) since closes.1) steps)
head_goes n rows heading at new before now held next (turn.Ends end) since steps never = absurd never

some_rows : (held : Rows) → (held ≡ [] → ⊥) → 1 ≤ length held
some_rows [] some = absurd (some refl)
some_rows (x ∷ xs) some = omega arith

layout_fits : (layout : Layout) (heading : Option Heading) (held : Rows) → heading ≡ Some (heading_of layout) → HeldFit heading held → rows_fit layout held ≡ true
layout_fits layout heading held is fit =
    sym (rows_fit_fields layout.columns held) ∙ subst (λ (h : Option Heading). HeldFit h held) is fit

head_holds : (n rows : ℕ) (heading : Option Heading) (at new : Standing) (held : Rows) (next : Heading) (t : Turn)
    → 1 ≤ rows → AreHeld (import_at n rows heading at) held → (IsLost new → ⊥) → HeadTurn t heading held
    → TurnHolds t (import_at n rows (Some next) new) held
head_holds n rows heading at new held next turn.Goes some are there empty =
    subst (λ (h : Rows). AreHeld (import_at n rows (Some next) new) h) (sym empty)
    (record { since = none_since (is_full (bounds_of rows)); below = omega (arith, some); few = omega arith; fit = refl })
head_holds n rows heading at new held next (turn.Closes layout) some are there closes =
    (layout_fits layout heading held closes.0 are.fit, some_rows held closes.1, omega (arith, are.below), there)
head_holds n rows heading at new held next (turn.Ends end) some are there never = absurd never

-- ---- a row

line_goes_some : (n rows : ℕ) (h : Heading) (at new : Standing) (before now : Option (List ℕ)) (held : Rows) (row : List Cell) (t : Turn)
    → AreSince (is_full (bounds_of rows)) held → StepsOn at new before now (Line row ∷ []) → LineTurn t (Some h) rows (held ++ row ∷ [])
    → TurnGoes t (import_at n rows (Some h) at) (import_at n rows (Some h) new) held (held ++ row ∷ []) before now
line_goes_some n rows h at new before now held row turn.Goes since steps below =
    goes_seen at new (steps_to_come at) (steps_to_come new) (ahead (Line row ∷ [])) before now (Seen n rows (Some h) held) (Seen n rows (Some h) (held ++ row ∷ [])) (ahead [])
    (λ more stop. line_comes n rows h held row (steps_to_come new more stop)) steps
line_goes_some n rows h at new before now held row (turn.Closes layout) since steps closes =
    let same : h ≡ heading_of layout = some_same h (heading_of layout) closes.1 in
    subst (λ (x : Heading). Goes at new (batches_behind (import_at n rows (Some h) at) held) (batches_to_come (import_at n rows (Some h) new)) (ahead (batch_of n x (held ++ row ∷ []) ∷ [])) before now) same
    (goes_seen at new (steps_to_come at) (steps_to_come new) (ahead (Line row ∷ [])) before now (Seen n rows (Some h) held) (Seen n rows (Some h) []) (ahead (batch_of n h (held ++ row ∷ []) ∷ []))
    (λ more stop. line_closes n rows h held row (steps_to_come new more stop) since closes.0) steps)
line_goes_some n rows h at new before now held row (turn.Ends end) since steps never = absurd never

line_goes : (n rows : ℕ) (heading : Option Heading) (at new : Standing) (before now : Option (List ℕ)) (held held_now : Rows) (row : List Cell) (t : Turn)
    → AreSince (is_full (bounds_of rows)) held → RowFits heading row → StepsOn at new before now (Line row ∷ []) → held_now ≡ held ++ row ∷ [] → LineTurn t heading rows held_now
    → TurnGoes t (import_at n rows heading at) (import_at n rows heading new) held held_now before now
line_goes n rows None at new before now held held_now row t since fits steps more line = absurd fits
line_goes n rows (Some h) at new before now held held_now row t since fits steps more line =
    subst (λ (r : Rows). TurnGoes t (import_at n rows (Some h) at) (import_at n rows (Some h) new) held r before now) (sym more)
    (line_goes_some n rows h at new before now held row t since steps (subst (λ (r : Rows). LineTurn t (Some h) rows r) more line))

all_more : (fields : List Field) (held : Rows) (row : List Cell) → list_all (fits_fields fields) held ≡ true → fits_fields fields row ≡ true → list_all (fits_fields fields) (held ++ row ∷ []) ≡ true
all_more fields [] row all fits = rw fits refl
all_more fields (x ∷ xs) row all fits =
    let parts = both_hold (fits_fields fields x) (list_all (fits_fields fields) xs) all in
    rw (parts.0, all_more fields xs row parts.1 fits) refl

not_either : (a b : Bool) → a || b ≡ false → (a ≡ false) × (b ≡ false)
not_either true b h = cc
not_either false b h = (refl, h)

line_holds_some : (n rows : ℕ) (h : Heading) (at new : Standing) (held : Rows) (row : List Cell) (t : Turn)
    → AreHeld (import_at n rows (Some h) at) held → fits_fields h.fields row ≡ true → (IsLost new → ⊥) → LineTurn t (Some h) rows (held ++ row ∷ [])
    → TurnHolds t (import_at n rows (Some h) new) (held ++ row ∷ [])
line_holds_some n rows h at new held row turn.Goes are fits there below =
    let parts = not_either (nat_le rows (length (held ++ row ∷ []))) (nat_le most_cell_bytes (length (cell_bytes_of (held ++ row ∷ [])))) below in
    record {
      since = row_since (is_full (bounds_of rows)) held row are.since below;
      below = grind (arith, nat_tests, parts.0);
      few = grind (arith, nat_tests, parts.1);
      fit = all_more h.fields held row are.fit fits;
    }
line_holds_some n rows h at new held row (turn.Closes layout) are fits there closes = (
  layout_fits layout (Some h) (held ++ row ∷ []) closes.1 (all_more h.fields held row are.fit fits),
  omega (arith, length-append held (row ∷ [])),
  omega (arith, are.below, length-append held (row ∷ [])),
  there,
)
line_holds_some n rows h at new held row (turn.Ends end) are fits there never = absurd never

line_holds : (n rows : ℕ) (heading : Option Heading) (at new : Standing) (held held_now : Rows) (row : List Cell) (t : Turn)
    → AreHeld (import_at n rows heading at) held → RowFits heading row → (IsLost new → ⊥) → held_now ≡ held ++ row ∷ [] → LineTurn t heading rows held_now
    → TurnHolds t (import_at n rows heading new) held_now
line_holds n rows None at new held held_now row t are fits there more line = absurd fits
line_holds n rows (Some h) at new held held_now row t are fits there more line =
    subst (λ (r : Rows). TurnHolds t (import_at n rows (Some h) new) r) (sym more)
    (line_holds_some n rows h at new held row t are fits there (subst (λ (r : Rows). LineTurn t (Some h) rows r) more line))

-- ---- an end

end_empty : (n rows : ℕ) (heading heading_now : Option Heading) (at : Standing) (before now : Option (List ℕ)) (held : Rows) (end : Option ImportEnd) → held ≡ []
    → StepsOn at (Ended end) before now []
    → Goes at (Ended end) (batches_behind (import_at n rows heading at) held) (batches_to_come (import_at n rows heading_now (Ended end))) (ahead []) before now
end_empty n rows heading heading_now at before now held end empty steps =
    subst (λ (h : Rows). Goes at (Ended end) (batches_behind (import_at n rows heading at) h) (batches_to_come (import_at n rows heading_now (Ended end))) (ahead []) before now) (sym empty)
    (goes_seen at (Ended end) (steps_to_come at) (steps_to_come (Ended end)) (ahead []) before now (Seen n rows heading []) (Seen n rows heading_now []) (ahead [])
    (λ more stop. nothing_comes n rows heading end ∙ sym (nothing_comes n rows heading_now end)) steps)

end_any : (n rows : ℕ) (heading heading_now : Option Heading) (at : Standing) (before now : Option (List ℕ)) (held : Rows) (end : Option ImportEnd) → ((IsMemory end → ⊥) → held ≡ [])
    → StepsOn at (Ended end) before now []
    → Goes at (Ended end) (batches_behind (import_at n rows heading at) held) (batches_to_come (import_at n rows heading_now (Ended end))) (ahead []) before now
end_any n rows heading heading_now at before now held None empty steps = end_empty n rows heading heading_now at before now held None (empty (λ never. never)) steps
end_any n rows heading heading_now at before now held (Some (Fault f)) empty steps = end_empty n rows heading heading_now at before now held (Some (Fault f)) (empty (λ never. never)) steps
end_any n rows heading heading_now at before now held (Some ReadFault) empty steps = end_empty n rows heading heading_now at before now held (Some ReadFault) (empty (λ never. never)) steps
end_any n rows heading heading_now at before now held (Some TooLong) empty steps = end_empty n rows heading heading_now at before now held (Some TooLong) (empty (λ never. never)) steps
end_any n rows heading heading_now at before now held (Some Memory) empty steps =
    goes_lost at (Ended (Some Memory)) (steps_to_come at) (steps_to_come (Ended (Some Memory))) (ahead [])
    (batches_behind (import_at n rows heading at) held) (batches_to_come (import_at n rows heading_now (Ended (Some Memory)))) (ahead []) before now steps

end_goes : (n rows : ℕ) (heading heading_now : Option Heading) (at : Standing) (before now : Option (List ℕ)) (held : Rows) (end : Option ImportEnd) (t : Turn)
    → AreSince (is_full (bounds_of rows)) held → StepsOn at (Ended end) before now [] → EndTurn t end heading held
    → TurnGoes t (import_at n rows heading at) (import_at n rows heading_now (Ended end)) held held before now
end_goes n rows heading heading_now at before now held end turn.Goes since steps never = absurd never
end_goes n rows heading heading_now at before now held end (turn.Closes layout) since steps closes =
    subst (λ (h : Option Heading). Goes at (Ended end) (batches_behind (import_at n rows h at) held) (batches_to_come (import_at n rows heading_now (Ended end))) (ahead (batch_of n (heading_of layout) held ∷ [])) before now)
    (sym closes.0)
    (goes_seen at (Ended end) (steps_to_come at) (steps_to_come (Ended end)) (ahead []) before now (Seen n rows (Some (heading_of layout)) held) (Seen n rows heading_now []) (ahead (batch_of n (heading_of layout) held ∷ []))
    (λ more stop. end_closes n rows (heading_of layout) held end since closes.1 ∙ ap (ahead (batch_of n (heading_of layout) held ∷ [])) (sym (nothing_comes n rows heading_now end))) steps)
end_goes n rows heading heading_now at before now held end (turn.Ends e) since steps ends = end_any n rows heading heading_now at before now held end ends.1 steps

end_holds : (n rows : ℕ) (heading heading_now : Option Heading) (at : Standing) (held : Rows) (end : Option ImportEnd) (t : Turn)
    → AreHeld (import_at n rows heading at) held → EndTurn t end heading held → TurnHolds t (import_at n rows heading_now (Ended end)) held
end_holds n rows heading heading_now at held end turn.Goes are never = absurd never
end_holds n rows heading heading_now at held end (turn.Closes layout) are closes =
    (layout_fits layout heading held closes.0 are.fit, some_rows held closes.1, omega (arith, are.below), closes.2)
end_holds n rows heading heading_now at held end (turn.Ends e) are ends = ap Ended (sym ends.0)

end_stays : (t : Turn) (why end : Option ImportEnd) (heading : Option Heading) (held : Rows) → EndTurn t why heading held → held ≡ [] → end ≡ why → t ≡ turn.Ends end
end_stays turn.Goes why end heading held never empty same = absurd never
end_stays (turn.Closes layout) why end heading held closes empty same = absurd (closes.1 empty)
end_stays (turn.Ends e) why end heading held ends empty same = ap turn.Ends (ends.0 ∙ sym same)

-- ---- an import and its parts

abbrev whole : {S : Type 0} → Importing → S → Sourced Importing S
whole import from = record { at = import; source = from }

held_by : {S : Type 0} (old : Sourced Importing S) (import : Importing) (from : S) (held : Rows) → whole import from ≡ old → AreHeld old.at held → AreHeld import held
held_by {S = S} old import from held seen are = subst (λ (o : Sourced Importing S). AreHeld o.at held) (sym seen) are

pub head_turn : {S : Type 0} (left_of : S → Option (List ℕ)) (old : Sourced Importing S) (n rows : ℕ) (heading heading_now : Option Heading) (at new : Standing) (from : S) (now : Option (List ℕ))
    (held : Rows) (next : Heading) (t : Turn) → whole (import_at n rows heading at) from ≡ old → AreHeld old.at held → StepsOn at new (left_of from) now (Head next ∷ []) → heading_now ≡ Some next
    → HeadTurn t heading held → TurnGoes t old.at (import_at n rows heading_now new) held held (left_of old.source) now
head_turn {S = S} left_of old n rows heading heading_now at new from now held next t seen are steps told by =
    let here = held_by old (import_at n rows heading at) from held seen are in
    subst (λ (o : Sourced Importing S). TurnGoes t o.at (import_at n rows heading_now new) held held (left_of o.source) now) seen
    (subst (λ (h : Option Heading). TurnGoes t (import_at n rows heading at) (import_at n rows h new) held held (left_of from) now) (sym told)
    (head_goes n rows heading at new (left_of from) now held next t here.since steps by))

pub head_turn_holds : {S : Type 0} (old : Sourced Importing S) (n rows : ℕ) (heading heading_now : Option Heading) (at new : Standing) (from : S)
    (held : Rows) (next : Heading) (t : Turn) → whole (import_at n rows heading at) from ≡ old → AreHeld old.at held → 1 ≤ rows → (IsLost new → ⊥) → heading_now ≡ Some next
    → HeadTurn t heading held → TurnHolds t (import_at n rows heading_now new) held
head_turn_holds old n rows heading heading_now at new from held next t seen are some there told by =
    let here = held_by old (import_at n rows heading at) from held seen are in
    subst (λ (h : Option Heading). TurnHolds t (import_at n rows h new) held) (sym told)
    (head_holds n rows heading at new held next t some here there by)

pub line_turn : {S : Type 0} (left_of : S → Option (List ℕ)) (old : Sourced Importing S) (n rows : ℕ) (heading : Option Heading) (at new : Standing) (from : S) (now : Option (List ℕ))
    (held held_now : Rows) (row : List Cell) (t : Turn) → whole (import_at n rows heading at) from ≡ old → AreHeld old.at held → RowFits heading row → StepsOn at new (left_of from) now (Line row ∷ [])
    → held_now ≡ held ++ row ∷ [] → LineTurn t heading rows held_now → TurnGoes t old.at (import_at n rows heading new) held held_now (left_of old.source) now
line_turn {S = S} left_of old n rows heading at new from now held held_now row t seen are fits steps more by =
    let here = held_by old (import_at n rows heading at) from held seen are in
    subst (λ (o : Sourced Importing S). TurnGoes t o.at (import_at n rows heading new) held held_now (left_of o.source) now) seen
    (line_goes n rows heading at new (left_of from) now held held_now row t here.since fits steps more by)

pub line_turn_holds : {S : Type 0} (old : Sourced Importing S) (n rows : ℕ) (heading : Option Heading) (at new : Standing) (from : S)
    (held held_now : Rows) (row : List Cell) (t : Turn) → whole (import_at n rows heading at) from ≡ old → AreHeld old.at held → RowFits heading row → (IsLost new → ⊥)
    → held_now ≡ held ++ row ∷ [] → LineTurn t heading rows held_now → TurnHolds t (import_at n rows heading new) held_now
line_turn_holds old n rows heading at new from held held_now row t seen are fits there more by =
    line_holds n rows heading at new held held_now row t (held_by old (import_at n rows heading at) from held seen are) fits there more by

pub end_turn : {S : Type 0} (left_of : S → Option (List ℕ)) (old : Sourced Importing S) (n rows : ℕ) (heading heading_now : Option Heading) (at new : Standing) (from : S) (now : Option (List ℕ))
    (held : Rows) (end : Option ImportEnd) (t : Turn) → whole (import_at n rows heading at) from ≡ old → AreHeld old.at held → StepsOn at new (left_of from) now [] → new ≡ Ended end
    → EndTurn t end heading held → TurnGoes t old.at (import_at n rows heading_now new) held held (left_of old.source) now
end_turn {S = S} left_of old n rows heading heading_now at new from now held end t seen are steps ended by =
    let here = held_by old (import_at n rows heading at) from held seen are in
    subst (λ (o : Sourced Importing S). TurnGoes t o.at (import_at n rows heading_now new) held held (left_of o.source) now) seen
    (subst (λ (s : Standing). TurnGoes t (import_at n rows heading at) (import_at n rows heading_now s) held held (left_of from) now) (sym ended)
    (end_goes n rows heading heading_now at (left_of from) now held end t here.since (subst (λ (s : Standing). StepsOn at s (left_of from) now []) ended steps) by))

pub end_turn_holds : {S : Type 0} (old : Sourced Importing S) (n rows : ℕ) (heading heading_now : Option Heading) (at new : Standing) (from : S)
    (held : Rows) (end : Option ImportEnd) (t : Turn) → whole (import_at n rows heading at) from ≡ old → AreHeld old.at held → new ≡ Ended end
    → EndTurn t end heading held → TurnHolds t (import_at n rows heading_now new) held
end_turn_holds old n rows heading heading_now at new from held end t seen are ended by =
    let here = held_by old (import_at n rows heading at) from held seen are in
    subst (λ (s : Standing). TurnHolds t (import_at n rows heading_now s) held) (sym ended) (end_holds n rows heading heading_now at held end t here by)

abbrev step_answer : Option ImportEnd → Result (Option Step) ImportEnd
step_answer end = end_answer end

same_answer : (a b : Option ImportEnd) → step_answer a ≡ step_answer b → b ≡ a
same_answer None None same = refl
same_answer None (Some x) same = cc
same_answer (Some x) None same = cc
same_answer (Some x) (Some y) same = cc

-- an end stays: `why` is answered again, and the import is the same
pub end_turn_stays : {S : Type 0} (old : Sourced Importing S) (n rows : ℕ) (heading heading_now : Option Heading) (input input_now : Standpoint S)
    (held : Rows) (why : Option ImportEnd) (t : Turn) → whole (import_at n rows heading input.at) input.source ≡ old → Stays input.at input input_now (step_answer why)
    → EndTurn t why heading held → (held ≡ [] → heading_now ≡ heading)
    → (end : Option ImportEnd) → old.at.standing ≡ Ended end → held ≡ [] → (t ≡ turn.Ends end) × (whole (import_at n rows heading_now input_now.at) input_now.source ≡ old)
end_turn_stays {S = S} old n rows heading heading_now input input_now held why t seen stays by same end stands empty =
    let at : input.at ≡ Ended end = ap (λ (o : Sourced Importing S). o.at.standing) seen ∙ stands in
    let again = stays end at in (
      end_stays t why end heading held by empty (same_answer why end again.0),
      rw (same empty, again.1) seen,
    )

pub row_fits_columns : (known : Option Layout) (layout : Layout) (row : List Cell) → known ≡ Some layout → RowFits (option_map heading_of known) row → fits_columns layout.columns row ≡ true
row_fits_columns known layout row is fits =
    sym (fits_fields-map layout.columns row) ∙ subst (λ (k : Option Layout). RowFits (option_map heading_of k) row) is fits

-- what an input's answer says, by what it found

abbrev pub ok_step : Option Step → Result (Option Step) ImportEnd
ok_step found = Ok found

abbrev pub err_step : ImportEnd → Result (Option Step) ImportEnd
err_step end = Err end

abbrev pub GivesOn : Standing → Standing → Option (List ℕ) → Option (List ℕ) → Result (Option Step) ImportEnd → Type 0
GivesOn at new before now answer = StepsOn at new before now (steps_given answer)

abbrev pub EndsSo : Standing → Result (Option Step) ImportEnd → Type 0
EndsSo new answer = EndsAt answer new

abbrev pub FitsSo : Standing → Standing → Result (Option Step) ImportEnd → Type 0
FitsSo at new answer = IfOk answer (λ found. IfSome found (λ step. StepFits (heading_at at) (heading_at new) (step_of step)))

row_fits_in : (told heading : Option Heading) (row : List Cell) → IfSome told (λ h. heading ≡ Some h) → IsSomeAnd told (λ h. IsTrue (fits_fields h.fields row)) → RowFits heading row
row_fits_in None heading row last fits = absurd fits
row_fits_in (Some h) heading row last fits = subst (λ (o : Option Heading). RowFits o row) (sym last) fits

pub row_fits_by : (heading : Option Heading) (at new : Standing) (row : List Cell) → IsLastLayout heading at → StepFits (heading_at at) (heading_at new) (Line row) → RowFits heading row
row_fits_by heading at new row last fits = row_fits_in (heading_at at) heading row last fits.0

pub turn_going : (t : Turn) (new : Standing) → (IsLost new → ⊥) → TurnGoing t new
turn_going turn.Goes new there = there
turn_going (turn.Closes layout) new there = tt
turn_going (turn.Ends end) new there = tt

-- ---- a call, turn by turn

held_nothing : (heading : Option Heading) → HeldFit heading []
held_nothing None = refl
held_nothing (Some h) = refl

pub starts_held : (import : Importing) (held : Rows) → held ≡ [] → 1 ≤ import.rows → AreHeld import held
starts_held import held empty some =
    subst (λ (r : Rows). AreHeld import r) (sym empty)
    (record { since = none_since (is_full (bounds_of import.rows)); below = omega (arith, some); few = omega arith; fit = held_nothing import.heading })

abbrev pub SoFar : Importing → Importing → Rows → Option (List ℕ) → Option (List ℕ) → Type 0
SoFar first now held before left = Goes first.standing now.standing (batches_to_come first) (batches_behind now held) (ahead []) before left

pub starts_so : (import : Importing) (held : Rows) (left : Option (List ℕ)) → held ≡ [] → SoFar import import held left left
starts_so import held left empty =
    subst (λ (r : Rows). SoFar import import r left left) (sym empty) (goes_stay import.standing (batches_to_come import) left)

pub so_further : (first mid new : Importing) (held held_now : Rows) (a b c : Option (List ℕ)) → SoFar first mid held a b → TurnGoes turn.Goes mid new held held_now b c → SoFar first new held_now a c
so_further first mid new held held_now a b c far goes =
    goes_join first.standing mid.standing new.standing (batches_to_come first) (batches_behind mid held) (batches_behind new held_now) (ahead []) (ahead []) a b c far goes

pub so_ends : (first mid new : Importing) (held held_now : Rows) (end : Option ImportEnd) (a b c : Option (List ℕ)) → SoFar first mid held a b → TurnGoes (turn.Ends end) mid new held held_now b c
    → BatchesOn first new a c []
so_ends first mid new held held_now end a b c far goes =
    goes_join first.standing mid.standing new.standing (batches_to_come first) (batches_behind mid held) (batches_to_come new) (ahead []) (ahead []) a b c far goes

content_is : (batch : Batch) (n : ℕ) (layout : Layout) (rows : Rows) → batch.source ≡ n → batch.layout ≡ layout → batch.rows ≡ rows → content_of batch ≡ batch_of n (heading_of layout) rows
content_is batch n layout rows source is same = rw (source, is, same) refl

pub so_closes : (first mid new : Importing) (held held_now : Rows) (layout : Layout) (batch : Batch) (rows : Rows) (n : ℕ) (a b c : Option (List ℕ)) → SoFar first mid held a b
    → TurnGoes (turn.Closes layout) mid new held held_now b c → batch.source ≡ n → n ≡ mid.number → batch.layout ≡ layout → batch.rows ≡ rows → rows ≡ held_now
    → BatchesOn first new a c (content_of batch ∷ [])
so_closes first mid new held held_now layout batch rows n a b c far goes source number is same rest =
    subst (λ (x : Content). BatchesOn first new a c (x ∷ [])) (sym (content_is batch mid.number layout held_now (source ∙ number) is (same ∙ rest)))
    (goes_join first.standing mid.standing new.standing (batches_to_come first) (batches_behind mid held) (batches_to_come new) (ahead [])
    (ahead (batch_of mid.number (heading_of layout) held_now ∷ [])) a b c far goes)

-- nothing was done yet, or memory wasn't wanting so far
abbrev pub FaultsFar : {V : Type 0} → (V → Standing) → V → V → ℕ → ℕ → Type 0
FaultsFar {V} at first mid x y = ((mid ≡ first) × (y ≡ x)) ⊎ ((IsLost (at mid) → ⊥) × HasFaults (at first) (at mid) x y)

pub faults_so : {V : Type 0} (at : V → Standing) (first mid new : V) (x y z : ℕ) → FaultsFar at first mid x y → HasFaults (at mid) (at new) y z → HasFaults (at first) (at new) x z
faults_so {V = V} at first mid new x y z (inl still) faults =
    subst (λ (v : V). HasFaults (at v) (at new) x z) still.0 (subst (λ (n : ℕ). HasFaults (at mid) (at new) n z) still.1 faults)
faults_so at first mid new x y z (inr far) faults = faults_join (at first) (at mid) (at new) x y z far.0 far.1 faults

goes_or_ends : (end : Option ImportEnd) → turn.Goes ≡ turn.Ends end → ⊥
goes_or_ends end same = cc

-- nothing goes on behind an end
pub stays_so : {V : Type 0} (first mid new : V) (standing : V → Standing) (held held_now : Rows)
    → ((end : Option ImportEnd) → standing first ≡ Ended end → (mid ≡ first) × (held ≡ []))
    → ((end : Option ImportEnd) → standing mid ≡ Ended end → held ≡ [] → (turn.Goes ≡ turn.Ends end) × (new ≡ mid))
    → (end : Option ImportEnd) → standing first ≡ Ended end → (new ≡ first) × (held_now ≡ [])
stays_so first mid new standing held held_now far stays end ended =
    let same = far end ended in
    absurd (goes_or_ends end (stays end (ap standing same.0 ∙ ended) same.1).0)
