-- The law of telling, by induction over legal histories.
use Rattle.std.proofs.Common.{◌≡◌, ℕ, zero, suc, ◌+◌, ◌<◌, ◌≤◌, Bool, true, false, not, ◌&&◌, List, [], ◌∷◌, ◌++◌, Option, None, Some, length, map, filter, refl, ap, sym, ◌∙◌, subst, arith, ◌==◌, if◌then◌else◌, max, min, nat_lt}
use Rattle.std.specs.Option.{option_or}
use Rattle.std.proofs.lemmas.List.{append-nil, length-append, length-map, map-append}
use Rattle.std.proofs.lemmas.List.Elements.{filter-append}
use Rattle.std.proofs.lemmas.Grind.{flat_map-append}
use Rattle.std.proofs.lemmas.Bool.Decides.{Decides-eqb}
use Rattle.query_meaning.specs.declared.expr.Expr.{Expr}
use Rattle.event_batch.specs.Contents.{Content, Spelled}
use Rattle.event_history.specs.declared.entry.Deed.{Deed}
use Rattle.event_history.specs.declared.entry.Deed.TheVariants.{Accept, Claim, Unclaim, Index, Seal, Register, Take, Leave}
use Rattle.event_history.specs.declared.entry.Entry.{Entry}
use Rattle.event_history.specs.declared.entry.Limits.{Limits}
use Rattle.event_history.specs.declared.entry.Mode.{Mode}
use Rattle.event_history.specs.declared.entry.Mode.TheVariants.{Past, Coming, Both, Since}
use Rattle.event_history.specs.Choices.{again_of, holds_up, least, reaches, some_if, stop_at}
use Rattle.event_history.specs.Delivered.{delivered, is_below, told_after, told_between}
use Rattle.event_history.specs.Events.{Event, answer, events_in, events_of, matches}
use Rattle.event_history.specs.Histories.{accepted, batch_count, content, event_count, events, events_after, first_of, is_indexed, with_accepted}
use Rattle.event_history.specs.Laws.{DeliversExactly}
use Rattle.event_history.specs.Legal.{Allowed, GoesTo, Legal}
use Rattle.event_history.specs.Modes.{live_end, past_begin}
use Rattle.event_history.specs.Queries.{Registration, position, position_after, queries_after, query_count, registration, registration_after}
use Rattle.event_history.proofs.AnswerLemmas.{chosen_above, chosen_below, chosen_join, chosen_more, chosen_none, chosen_not_above, chosen_not_below, lt_of}

-- What holds of a registered query: its number, where its parts and positions stand, and what it was told.
pub record Standing (q n count : ℕ) (all : List Event) (at : ℕ × ℕ) (told : List (ℕ × Event)) (g : Registration) : Type 0 where
  pub numbered : q ≤ count
  pub begins : past_begin g.mode g.from ≤ at.0
  pub within : at.0 ≤ g.from
  pub live_from : g.from ≤ at.1
  pub live_to : at.1 ≤ live_end g.mode g.from n
  pub known : g.from ≤ n
  pub past : filter (is_below g.from) told ≡ answer g.expr all (past_begin g.mode g.from) at.0
  pub live : filter (λ (x : ℕ × Event). not (is_below g.from x)) told ≡ answer g.expr all g.from at.1

-- a query that isn't registered was told nothing
abbrev pub StandsAt : ℕ → ℕ → ℕ → List Event → ℕ × ℕ → List (ℕ × Event) → Option Registration → Type 0
StandsAt q n count all at told None = told ≡ []
StandsAt q n count all at told (Some g) = Standing q n count all at told g

live_end_more : (mode : Mode) (from n k : ℕ) → live_end mode from n ≤ live_end mode from (n + k)
live_end_more Past from n k = omega arith
live_end_more Coming from n k = omega arith
live_end_more Both from n k = omega arith
live_end_more (Since id) from n k = omega arith

pub live_end_within : (mode : Mode) (from n : ℕ) → from ≤ n → live_end mode from n ≤ n
live_end_within Past from n h = h
live_end_within Coming from n h = omega arith
live_end_within Both from n h = omega arith
live_end_within (Since id) from n h = omega arith

live_end_from : (mode : Mode) (n : ℕ) → n ≤ live_end mode n n
live_end_from Past n = omega arith
live_end_from Coming n = omega arith
live_end_from Both n = omega arith
live_end_from (Since id) n = omega arith

-- More events.
accept_kept : (q n count k : ℕ) (all more : List Event) (at : ℕ × ℕ) (told : List (ℕ × Event)) (g : Option Registration) → length all ≡ n
    → StandsAt q n count all at told g → StandsAt q (n + k) count (all ++ more) at told g
accept_kept q n count k all more at told None e s = s
accept_kept q n count k all more at told (Some g) e s =
    let live : live_end g.mode g.from n ≤ n = live_end_within g.mode g.from n s.known in
    let later : live_end g.mode g.from n ≤ live_end g.mode g.from (n + k) = live_end_more g.mode g.from n k in
    record {
      numbered = s.numbered;
      begins = s.begins;
      within = s.within;
      live_from = s.live_from;
      live_to = omega (arith, s.live_to);
      known = omega (arith, s.known);
      past = s.past ∙ sym (chosen_more (matches g.expr) (past_begin g.mode g.from) at.0 all more (omega (arith, s.within, s.known)));
      live = s.live ∙ sym (chosen_more (matches g.expr) g.from at.1 all more (omega (arith, s.live_to)));
    }

told_none : (q n count : ℕ) (all : List Event) (at : ℕ × ℕ) (told : List (ℕ × Event)) (g : Option Registration) → count < q
    → StandsAt q n count all at told g → told ≡ []
told_none q n count all at told None h s = s
told_none q n count all at told (Some g) h s = absurd (omega (arith, s.numbered))

more_queries : (q n count : ℕ) (all : List Event) (at : ℕ × ℕ) (told : List (ℕ × Event)) (g : Option Registration)
    → StandsAt q n count all at told g → StandsAt q n (count + 1) all at told g
more_queries q n count all at told None s = s
more_queries q n count all at told (Some g) s = record {
  numbered = omega (arith, s.numbered);
  begins = s.begins;
  within = s.within;
  live_from = s.live_from;
  live_to = s.live_to;
  known = s.known;
  past = s.past;
  live = s.live;
}

fresh : (q n count : ℕ) (all : List Event) (told : List (ℕ × Event)) (mode : Mode) (expr : Expr) → q ≤ count → past_begin mode n ≤ n → told ≡ []
    → Standing q n count all (past_begin mode n, n) told (record { mode = mode; expr = expr; from = n })
fresh q n count all told mode expr h k e = record {
  numbered = h;
  begins = omega arith;
  within = k;
  live_from = omega arith;
  live_to = live_end_from mode n;
  known = omega arith;
  past = ap (λ (xs : List (ℕ × Event)). filter (is_below n) xs) e ∙ sym (chosen_none (matches expr) (past_begin mode n) all);
  live = ap (λ (xs : List (ℕ × Event)). filter (λ (x : ℕ × Event). not (is_below n x)) xs) e ∙ sym (chosen_none (matches expr) n all);
}

-- One query more.
register_kept : (b : Bool) (q r n count : ℕ) (all : List Event) (at : ℕ × ℕ) (told : List (ℕ × Event)) (g : Option Registration) (mode : Mode) (expr : Expr)
    → (b ≡ true → r ≡ q) → r ≡ count + 1 → past_begin mode n ≤ n
    → StandsAt q n count all at told g
    → StandsAt q n (count + 1) all (if b then (past_begin mode n, n) else at) told
    (if b then Some (record { mode = mode; expr = expr; from = n }) else g)
register_kept true q r n count all at told g mode expr is e h s =
    let same : r ≡ q = is refl in
    fresh q n (count + 1) all told mode expr (omega arith) h (told_none q n count all at told g (omega arith) s)
register_kept false q r n count all at told g mode expr is e h s = more_queries q n count all at told g s

-- A take goes on from where the query is, and not past its registration number.
chosen_passes : (first : Option ℕ) (test : ℕ → Bool) (pass : Bool) (n b : ℕ) → pass ≡ test n
    → ((c : ℕ) → first ≡ Some c → test c ≡ true) → option_or first (some_if pass n) ≡ Some b → test b ≡ true
chosen_passes (Some c) test pass n b p h e = h b e
chosen_passes None test true n b p h e =
    let same : n ≡ b = cc in
    ap test (sym same) ∙ sym p
chosen_passes None test false n b p h e = absurd cc

pub least_passes : (test : ℕ → Bool) (n b : ℕ) → least test n ≡ Some b → test b ≡ true
least_passes test zero b e = absurd cc
least_passes test (suc n) b e = chosen_passes (least test n) test (test n) n b refl (λ c. least_passes test n c) e

and_right : (a b : Bool) → (a && b) ≡ true → b ≡ true
and_right true b e = e
and_right false b e = absurd cc

stop_within : (position from : ℕ) (before : List Entry) (again : Option ℕ) → position ≤ from
    → ((b : ℕ) → again ≡ Some b → holds_up position from before b ≡ true)
    → (position ≤ stop_at position from before again) × (stop_at position from before again ≤ from)
stop_within position from before None h k = (h, omega arith)
stop_within position from before (Some b) h k =
    let reach : nat_lt (max position (first_of b before)) (min from (first_of (b + 1) before)) ≡ true = and_right (not (is_indexed b before)) (reaches position from before b) (k b refl) in
    let low : max position (first_of b before) < min from (first_of (b + 1) before) = lt_of (max position (first_of b before)) (min from (first_of (b + 1) before)) reach in
    (omega arith, omega arith)

take_told : (q n count : ℕ) (all : List Event) (at to : ℕ × ℕ) (told : List (ℕ × Event)) (g : Registration) → length all ≡ n
    → at.0 ≤ to.0 → to.0 ≤ g.from → to.1 ≡ live_end g.mode g.from n
    → Standing q n count all at told g
    → Standing q n count all to (told ++ (answer g.expr all at.0 to.0 ++ answer g.expr all at.1 to.1)) g
take_told q n count all at to told g e low high live s =
    let known : g.from ≤ n = s.known in
    let live_in : live_end g.mode g.from n ≤ n = live_end_within g.mode g.from n known in
    let A = answer g.expr all at.0 to.0 in
    let B = answer g.expr all at.1 to.1 in
    let below = is_below g.from in
    let above = λ (x : ℕ × Event). not (is_below g.from x) in
    let test = matches g.expr in
    let rises : at.1 ≤ to.1 = omega (arith, s.live_to) in
    record {
      numbered = s.numbered;
      begins = omega (arith, s.begins);
      within = high;
      live_from = omega (arith, s.live_from);
      live_to = omega arith;
      known = known;
      past =
          filter-append below told (A ++ B)
          ∙ ap (λ (xs : List (ℕ × Event)). filter below told ++ xs)
          (filter-append below A B
          ∙ ap (λ (xs : List (ℕ × Event)). xs ++ filter below B) (chosen_below test g.from at.0 to.0 all low high)
          ∙ ap (λ (xs : List (ℕ × Event)). A ++ xs) (chosen_not_below test g.from at.1 to.1 all s.live_from)
          ∙ append-nil A)
          ∙ ap (λ (xs : List (ℕ × Event)). xs ++ A) s.past
          ∙ sym (chosen_join test (past_begin g.mode g.from) at.0 to.0 all s.begins low (omega (arith, s.within)));
      live =
          filter-append above told (A ++ B)
          ∙ ap (λ (xs : List (ℕ × Event)). filter above told ++ xs)
          (filter-append above A B
          ∙ ap (λ (xs : List (ℕ × Event)). xs ++ filter above B) (chosen_not_above test g.from at.0 to.0 all low high)
          ∙ chosen_above test g.from at.1 to.1 all s.live_from)
          ∙ ap (λ (xs : List (ℕ × Event)). xs ++ B) s.live
          ∙ sym (chosen_join test g.from at.1 to.1 all s.live_from rises (omega (arith, s.live_to)));
    }

take_kept : (b : Bool) (q r n count : ℕ) (all : List Event) (before : List Entry) (at to : ℕ × ℕ) (told : List (ℕ × Event)) (g : Option Registration)
    → (b ≡ true → r ≡ q) → length all ≡ n
    → ((h : Registration) → g ≡ Some h → b ≡ true → (at.0 ≤ to.0) × (to.0 ≤ h.from) × (to.1 ≡ live_end h.mode h.from n))
    → (g ≡ None → b ≡ true → ⊥)
    → StandsAt q n count all at told g
    → StandsAt q n count all (if b then to else at) (if b then told ++ told_between all at to g else told) g
take_kept false q r n count all before at to told g is e goes some s = s
take_kept true q r n count all before at to told None is e goes some s = absurd (some refl refl)
take_kept true q r n count all before at to told (Some g) is e goes some s =
    let moves : (at.0 ≤ to.0) × (to.0 ≤ g.from) × (to.1 ≡ live_end g.mode g.from n) = goes g refl refl in
    take_told q n count all at to told g e moves.0 moves.1 moves.2 s

-- the list of events has as many as there are events
rows_counted : (batches : List Spelled) (packed : Spelled) → length (events_in (map content (batches ++ packed ∷ []))) ≡ length (events_in (map content batches)) + length packed.content.rows
rows_counted batches packed =
    ap (λ (xs : List Content). length (events_in xs)) (map-append content batches (packed ∷ []))
    ∙ ap (λ (xs : List Event). length xs) (flat_map-append events_of (map content batches) (packed.content ∷ []))
    ∙ length-append (events_in (map content batches)) (events_of packed.content ++ [])
    ∙ ap (λ (n : ℕ). length (events_in (map content batches)) + n)
    (ap (λ (xs : List Event). length xs) (append-nil (events_of packed.content)) ∙ length-map packed.content.rows _)

deed_counted : (d : Deed) (batches : List Spelled) (n : ℕ) → length (events_in (map content batches)) ≡ n
    → length (events_in (map content (with_accepted d batches))) ≡ events_after d n
deed_counted (Accept packed) batches n e = rows_counted batches packed ∙ ap (λ (m : ℕ). m + length packed.content.rows) e
deed_counted (Claim b) batches n e = e
deed_counted (Unclaim b) batches n e = e
deed_counted (Index b) batches n e = e
deed_counted (Seal k) batches n e = e
deed_counted (Register q mode expr) batches n e = e
deed_counted (Take q past_to live_to) batches n e = e
deed_counted (Leave q) batches n e = e

pub events_counted : (before : List Entry) → length (events before) ≡ event_count before
events_counted [] = refl
events_counted (e ∷ before) = deed_counted e.deed (accepted before) (event_count before) (events_counted before)

pub events_more : (batches : List Spelled) (packed : Spelled) → events_in (map content (batches ++ packed ∷ [])) ≡ events_in (map content batches) ++ events_of packed.content
events_more batches packed =
    ap (λ (xs : List Content). events_in xs) (map-append content batches (packed ∷ []))
    ∙ flat_map-append events_of (map content batches) (packed.content ∷ [])
    ∙ ap (λ (xs : List Event). events_in (map content batches) ++ xs) (append-nil (events_of packed.content))

pub same_if : (r q : ℕ) → (r == q) ≡ true → r ≡ q
same_if r q e = (Decides-eqb r q).0 e

-- what a legal take does to the positions of the query that it names
goes_on : (before : List Entry) (q past_to live_to : ℕ) (g : Registration) → (position q before).0 ≤ g.from
    → GoesTo before q past_to live_to (Some g)
    → ((position q before).0 ≤ past_to) × (past_to ≤ g.from) × (live_to ≡ live_end g.mode g.from (event_count before))
goes_on before q past_to live_to g within goes =
    let at = (position q before).0 in
    let stops = stop_within at g.from before (again_of at g.from before) within (least_passes (holds_up at g.from before) (batch_count before)) in
    (omega (arith, goes.0, stops.0), omega (arith, goes.0, stops.1), goes.1)

within_of : (q n count : ℕ) (all : List Event) (at : ℕ × ℕ) (told : List (ℕ × Event)) (g : Option Registration) (h : Registration) → g ≡ Some h
    → StandsAt q n count all at told g → at.0 ≤ h.from
within_of q n count all at told g h e s =
    let standing : Standing q n count all at told h = subst (λ (o : Option Registration). StandsAt q n count all at told o) e s in
    standing.within

goes_of : (before : List Entry) (q r past_to live_to : ℕ) → r ≡ q → GoesTo before r past_to live_to (registration r before)
    → GoesTo before q past_to live_to (registration q before)
goes_of before q r past_to live_to e goes = subst (λ (n : ℕ). GoesTo before n past_to live_to (registration n before)) e goes

take_step : (before : List Entry) (q r past_to live_to : ℕ)
    → GoesTo before r past_to live_to (registration r before)
    → StandsAt q (event_count before) (query_count before) (events before) (position q before) (delivered q before) (registration q before)
    → StandsAt q (event_count before) (query_count before) (events before) (position_after q (Take r past_to live_to) (event_count before) (position q before))
    (told_after q (Take r past_to live_to) before (delivered q before)) (registration q before)
take_step before q r past_to live_to goes s =
    take_kept (r == q) q r (event_count before) (query_count before) (events before) before (position q before) (past_to, live_to) (delivered q before)
    (registration q before) (same_if r q) (events_counted before)
    (λ h is same.
    goes_on before q past_to live_to h
    (within_of q (event_count before) (query_count before) (events before) (position q before) (delivered q before) (registration q before) h is s)
    (subst (λ (o : Option Registration). GoesTo before q past_to live_to o) is (goes_of before q r past_to live_to (same_if r q same) goes)))
    (λ none same. subst (λ (o : Option Registration). GoesTo before q past_to live_to o) none (goes_of before q r past_to live_to (same_if r q same) goes))
    s

-- Each deed keeps what holds.
deed_kept : (q : ℕ) (before : List Entry) (d : Deed) (limits : Limits) → Allowed limits before d
    → StandsAt q (event_count before) (query_count before) (events before) (position q before) (delivered q before) (registration q before)
    → StandsAt q (events_after d (event_count before)) (queries_after d (query_count before)) (events_in (map content (with_accepted d (accepted before))))
    (position_after q d (event_count before) (position q before)) (told_after q d before (delivered q before))
    (registration_after q d (event_count before) (registration q before))
deed_kept q before (Accept packed) limits a s =
    subst (λ (all : List Event). StandsAt q (event_count before + length packed.content.rows) (query_count before) all (position q before) (delivered q before) (registration q before))
    (sym (events_more (accepted before) packed))
    (accept_kept q (event_count before) (query_count before) (length packed.content.rows) (events before) (events_of packed.content) (position q before)
    (delivered q before) (registration q before) (events_counted before) s)
deed_kept q before (Claim b) limits a s = s
deed_kept q before (Unclaim b) limits a s = s
deed_kept q before (Index b) limits a s = s
deed_kept q before (Seal k) limits a s = s
deed_kept q before (Register r mode expr) limits a s =
    register_kept (r == q) q r (event_count before) (query_count before) (events before) (position q before) (delivered q before) (registration q before)
    mode expr (same_if r q) a.0 a.2 s
deed_kept q before (Take r past_to live_to) limits a s = take_step before q r past_to live_to a.1 s
deed_kept q before (Leave r) limits a s = s

stands : (limits : Limits) (before : List Entry) (q : ℕ) → Legal limits before
    → StandsAt q (event_count before) (query_count before) (events before) (position q before) (delivered q before) (registration q before)
stands limits [] q legal = refl
stands limits (e ∷ before) q legal = deed_kept q before e.deed limits legal.1 (stands limits before q legal.0)

pub standing_of : (limits : Limits) (before : List Entry) (q : ℕ) (g : Registration) → Legal limits before → registration q before ≡ Some g
    → Standing q (event_count before) (query_count before) (events before) (position q before) (delivered q before) g
standing_of limits before q g legal is =
    subst (λ (o : Option Registration). StandsAt q (event_count before) (query_count before) (events before) (position q before) (delivered q before) o) is
    (stands limits before q legal)

pub exactly : (limits : Limits) (before : List Entry) (q : ℕ) → DeliversExactly limits before q
exactly limits before q legal g is =
    let s : Standing q (event_count before) (query_count before) (events before) (position q before) (delivered q before) g = standing_of limits before q g legal is in
    record { past = s.past; live = s.live }

pub registered_within : (limits : Limits) (before : List Entry) (q : ℕ) (g : Registration) → Legal limits before → registration q before ≡ Some g
    → q ≤ query_count before
registered_within limits before q g legal is =
    let s : Standing q (event_count before) (query_count before) (events before) (position q before) (delivered q before) g = standing_of limits before q g legal is in
    s.numbered
