-- What a worker's query is told.
use Rattle.std.proofs.Common.{◌≡◌, ◌≢◌, Result, ℕ, ◌+◌, ◌≤◌, ◌==◌, ◌||◌, Bool, true, false, cond, if◌then◌else◌, List, [], ◌∷◌, ◌++◌, Option, None, Some, Ok, Err, IsSomeAnd, Contains, length, map, ap, sym, refl, subst, ◌∙◌, append-nil, append_assoc, eq-eqb, ne_eqb, arith, length-append}
use Rattle.std.specs.Option.{option_to_list}
use Rattle.std.specs.Result.{OnErr, OnOk}
use Rattle.std.specs.declared.alloc.AllocError.{AllocError}
use Rattle.std.proofs.lemmas.Bool.Decides.{nat_tests}
use Rattle.std.proofs.lemmas.List.{reverse-append}
use Rattle.std.proofs.lemmas.List.Elements.{All-head, All-tail, Contains-append_right}
use Rattle.archive_cache.specs.Caches.{Caching}
use Rattle.event_history.specs.declared.entry.Deed.{Deed}
use Rattle.event_history.specs.declared.entry.Deed.TheVariants as deed
use Rattle.event_history.specs.declared.entry.Entry.{Entry}
use Rattle.event_history.specs.declared.entry.Limits.{Limits}
use Rattle.event_history.specs.Choices.{Taking}
use Rattle.event_history.specs.Delivered.{told_between}
use Rattle.event_history.specs.Events.{Event, answer}
use Rattle.event_history.specs.Histories.{event_count, events, past}
use Rattle.event_history.specs.Legal.{Allowed, Legal}
use Rattle.event_history.specs.Pieces.{Held, Piece}
use Rattle.event_history.specs.Queries.{Registration, has_left, position, queries_after, query_count, registration, registration_after}
use Rattle.event_history.specs.Steps as s
use Rattle.exporter.specs.Asks.{AgreesWith, KeepsOnly}
use Rattle.exporter.specs.Laws.{FindsTheAnswers}
use Rattle.exporter.specs.Pages.{found_in, held_by}
use Rattle.exporter.specs.Stores.{IsCacheOf, ServesStore}
use Rattle.history_core.specs.declared.session.Session.{Session}
use Rattle.history_core.specs.declared.taken.Taken.{Taken}
use Rattle.history_core.specs.Replies.{IsRegisteredAt}
use Rattle.history_core.specs.Snapshots.{IsSnapshot, Snapshot}
use Rattle.turn_book.specs.Histories.{Outside, own_of}
use Rattle.turn_book.proofs.Owned.{own-append, own-others}
use Rattle.shared_store.specs.Turns.{IsTakenAt, IsTurn, Stands, own, seat_of}
use Rattle.worker_pool.specs.Deeds.{Went, by_seat, deed_told, deeds_told}
use Rattle.worker_pool.specs.declared.paging.QueryEnd.{QueryEnd}
use Rattle.worker_pool.specs.Paging.{Draws, HasAsked, Holds, Told, is_named, pages_after, pages_by, told_by_take, told_of, told_taken}
use Rattle.worker_pool.proofs.WentLemmas.{answers_tell, seen_found, seen_more, went_turn, went_none}

-- ---- what others did tells the query nothing by these seats

not_named : (n : ℕ) (names : List ℕ) → (Contains names n → ⊥) → is_named names n ≡ false
not_named n [] other = refl
not_named n (x ∷ xs) other =
    let ne : x ≢ n = λ e. other (0, omega arith, e) in
    let rest = not_named n xs (λ c. other (Contains-append_right (x ∷ []) xs n c)) in
    λ i. ne_eqb x n ne i || rest i

other_page : (names : List ℕ) (q : ℕ) (e : Entry) (before : List Entry) → is_named names e.seat ≡ false → pages_by names q (e ∷ before) ≡ pages_by names q before
other_page names q e before other = rw other refl

own_page : (names : List ℕ) (q : ℕ) (e : Entry) (before : List Entry) → is_named names e.seat ≡ true → pages_by names q (e ∷ before) ≡ pages_after q e.deed before (pages_by names q before)
own_page names q e before own = rw own refl

pub others_page : (names : List ℕ) (q : ℕ) (since seen : List Entry) → Outside seat_of names since → pages_by names q (past (seen ++ since)) ≡ pages_by names q (past seen)
others_page names q [] seen others = ap (λ (l : List Entry). pages_by names q (past l)) (append-nil seen)
others_page names q (e ∷ since) seen others =
    ap (λ (l : List Entry). pages_by names q (past l)) (sym (append_assoc seen (e ∷ []) since))
    ∙ others_page names q since (seen ++ e ∷ []) (All-tail (λ (x : Entry). ¬ Contains names (seat_of x)) e since others)
    ∙ ap (pages_by names q) (reverse-append seen (e ∷ []))
    ∙ other_page names q e (past seen) (not_named (seat_of e) names (All-head (λ (x : Entry). ¬ Contains names (seat_of x)) e since others))

-- ---- an entry that came among the own ones is of a named seat

named_by : (b : Bool) (e : Entry) (xs ys : List Entry) → ys ≡ cond b (e ∷ []) [] → xs ++ ys ≡ xs ++ e ∷ [] → b ≡ true
named_by true e xs ys is same = refl
named_by false e xs ys is same = absurd (omega (arith, ap length same, ap length is, length-append xs ys, length-append xs (e ∷ [])))

pub own_named : (request : s.Request) (a b : Stands) (reply : Option s.Reply) (e : Entry) (t : IsTurn request a b reply) → t.new ≡ e ∷ [] → is_named a.names e.seat ≡ true
own_named request a b reply e t one =
    let names = a.names in
    let mine = own_of seat_of names in
    let all : own a ++ mine (e ∷ []) ≡ own a ++ e ∷ [] =
    sym (ap (λ (l : List Entry). l ++ mine (e ∷ [])) (append-nil (own a)))
    ∙ ap (λ (l : List Entry). (own a ++ l) ++ mine (e ∷ [])) (sym (own-others Entry seat_of names t.since t.others))
    ∙ ap (λ (l : List Entry). l ++ mine (e ∷ [])) (sym (own-append Entry seat_of names a.seen t.since) ∙ ap mine (sym t.begins))
    ∙ sym (own-append Entry seat_of names t.found (e ∷ []))
    ∙ ap (λ (l : List Entry). mine (t.found ++ l)) (sym one)
    ∙ ap own (sym t.leaves) ∙ t.mine ∙ ap (λ (l : List Entry). own a ++ l) one in
    named_by (is_named names e.seat) e (own a) (mine (e ∷ [])) refl all

-- ---- what a take tells

told_at : (q : ℕ) (before : List Entry) (size : ℕ) (x : Snapshot) (g : Option Registration) → IsSnapshot size before q x g
    → answer x.taking.expr (events before) x.taking.past_from x.taking.past_to ++ answer x.taking.expr (events before) x.taking.live_from x.taking.live_to
    ≡ told_between (events before) (position q before) (x.taking.past_to, x.taking.live_to) g
told_at q before size x None is = absurd is
told_at q before size x (Some g) is =
    let place : Taking → List (ℕ × Event) = λ (k : Taking). answer k.expr (events before) k.past_from x.taking.past_to ++ answer k.expr (events before) k.live_from x.taking.live_to in
    ap place is.0

tail_same : (d e : Entry) (xs ys : List Entry) → d ∷ xs ≡ e ∷ ys → xs ≡ ys
tail_same d e xs ys same = cc

module _ (q : ℕ) (a b : Stands) (x : Snapshot) (reply : s.Reply) (t : IsTurn (s.Take q) a b (Some reply)) (at : IsTakenAt b q x)
    (told : reply ≡ s.Taken x.taking x.parts x.past_batches x.live_batches) where
  deed_is : deed_told (s.Take q) reply ≡ Some (deed.Take q x.taking.past_to x.taking.live_to)
  deed_is = ap (deed_told (s.Take q)) told

  one_entry : t.new ≡ by_seat a.seat (deed.Take q x.taking.past_to x.taking.live_to) ∷ []
  one_entry =
      answers_tell t.limits t.found a.seat (s.Take q) (Some reply) t.new t.answered
      ∙ ap (λ (d : Option Deed). map (by_seat a.seat) (option_to_list d)) deed_is

  seen_is : past b.seen ≡ by_seat a.seat (deed.Take q x.taking.past_to x.taking.live_to) ∷ past t.found
  seen_is = seen_more (s.Take q) a b reply (deed.Take q x.taking.past_to x.taking.live_to) t deed_is

  before_found : at.before ≡ past t.found
  before_found = tail_same _ _ at.before (past t.found) (sym at.last ∙ seen_is)

  found_is : FindsTheAnswers at.limits at.before q x
      → found_in x ≡ told_between (events (past t.found)) (position q (past t.found)) (x.taking.past_to, x.taking.live_to) (registration q (past t.found))
  found_is finds =
      finds at.legal at.snapshot ∙ told_at q at.before at.limits.group x (registration q at.before) at.snapshot
      ∙ ap (λ (l : List Entry). told_between (events l) (position q l) (x.taking.past_to, x.taking.live_to) (registration q l)) before_found

  pub take_tells_page : FindsTheAnswers at.limits at.before q x
      → pages_by a.names q (past b.seen) ≡ pages_by a.names q (past a.seen) ++ record { past_to = x.taking.past_to; live_to = x.taking.live_to; found = found_in x } ∷ []
  take_tells_page finds =
      let by : Entry = by_seat a.seat (deed.Take q x.taking.past_to x.taking.live_to) in
      let pages : List Told = pages_by a.names q (past t.found) in
      let told_so : List (ℕ × Event) → Told = λ (f : List (ℕ × Event)). record { past_to = x.taking.past_to; live_to = x.taking.live_to; found = f } in
      let chosen : pages_after q (deed.Take q x.taking.past_to x.taking.live_to) (past t.found) pages ≡ pages ++ told_by_take q x.taking.past_to x.taking.live_to (past t.found) ∷ [] =
      ap (λ (c : Bool). cond c (pages ++ told_by_take q x.taking.past_to x.taking.live_to (past t.found) ∷ []) pages) (eq-eqb q q refl) in
      ap (pages_by a.names q) seen_is
      ∙ own_page a.names q by (past t.found) (own_named (s.Take q) a b (Some reply) by t one_entry)
      ∙ chosen
      ∙ ap (λ (l : List Told). l ++ told_by_take q x.taking.past_to x.taking.live_to (past t.found) ∷ [])
      (ap (λ (l : List Entry). pages_by a.names q (past l)) t.begins ∙ others_page a.names q t.since a.seen t.others)
      ∙ ap (λ (f : List (ℕ × Event)). pages_by a.names q (past a.seen) ++ told_so f ∷ []) (sym (found_is finds))

-- ---- the cache of a worker

seen_later : (request : s.Request) (a b : Stands) (reply : Option s.Reply) (t : IsTurn request a b reply) → past b.seen ≡ past (t.since ++ t.new) ++ past a.seen
seen_later request a b reply t =
    ap (λ (st : Stands). past st.seen) t.leaves
    ∙ ap (λ (l : List Entry). past (l ++ t.new)) t.begins
    ∙ ap past (append_assoc a.seen t.since t.new)
    ∙ reverse-append a.seen (t.since ++ t.new)

pub legal_later : (request : s.Request) (a b : Stands) (reply : Option s.Reply) (t : IsTurn request a b reply) → Legal t.limits (past b.seen)
legal_later request a b reply t = subst (λ (st : Stands). Legal t.limits (past st.seen)) (sym t.leaves) t.legal

module _ (serve : (limits : Limits) (before : List Entry) → ServesStore limits before) where
  -- a cache of the store stays one
  pub cache_turn : (request : s.Request) (a b : Stands) (reply : Option s.Reply) (cache : Caching) → IsTurn request a b reply → IsCacheOf (past a.seen) cache → IsCacheOf (past b.seen) cache
  cache_turn request a b reply cache t is =
      subst (λ (l : List Entry). IsCacheOf l cache) (sym (seen_later request a b reply t))
      ((serve t.limits (past a.seen)).cache_stays (past (t.since ++ t.new)) cache (subst (Legal t.limits) (seen_later request a b reply t) (legal_later request a b reply t)) is)

  module _ (q : ℕ) (a b : Stands) (x : Snapshot) (reply : s.Reply) (t : IsTurn (s.Take q) a b (Some reply)) (at : IsTakenAt b q x)
      (told : reply ≡ s.Taken x.taking x.parts x.past_batches x.live_batches) where
    before_is : at.before ≡ past t.since ++ past a.seen
    before_is = before_found q a b x reply t at told ∙ ap past t.begins ∙ reverse-append a.seen t.since

    cache_before : (cache : Caching) → IsCacheOf (past a.seen) cache → IsCacheOf at.before cache
    cache_before cache is =
        subst (λ (l : List Entry). IsCacheOf l cache) (sym before_is)
        ((serve at.limits (past a.seen)).cache_stays (past t.since) cache (subst (Legal at.limits) before_is at.legal) is)

    -- it agrees with what was taken
    pub taken_agrees : (cache : Caching) → IsCacheOf (past a.seen) cache → AgreesWith (held_by x) cache
    taken_agrees cache is =
        let here = serve at.limits at.before in
        here.agrees (held_by x) cache (here.taken q x at.snapshot) (cache_before cache is)

    -- and the page leaves it one of the store
    pub page_leaves : (cache cache_now : Caching) → IsCacheOf (past a.seen) cache → KeepsOnly (held_by x) cache cache_now → IsCacheOf (past b.seen) cache_now
    page_leaves cache cache_now is only =
        let here = serve at.limits at.before in
        let now = here.left (held_by x) cache cache_now (here.taken q x at.snapshot) (cache_before cache is) only in
        let by : Entry = by_seat a.seat (deed.Take q x.taking.past_to x.taking.live_to) in
        let seen : past b.seen ≡ by ∷ at.before = seen_is q a b x reply t at told ∙ ap (λ (l : List Entry). by ∷ l) (sym (before_found q a b x reply t at told)) in
        subst (λ (l : List Entry). IsCacheOf l cache_now) (sym seen)
        ((serve t.limits at.before).cache_stays (by ∷ []) cache_now (subst (Legal t.limits) seen (legal_later (s.Take q) a b (Some reply) t)) now)

-- ---- one query was asked on

pub draws_page : (q : ℕ) (result : Result (Unit {0}) AllocError) (old new : QueryEnd) (a b : Stands) (taken : Taken) (reply : s.Reply) (t : IsTurn (s.Take q) a b (Some reply)) (at : IsTakenAt b q taken.snapshot)
    → reply ≡ s.Taken taken.snapshot.taking taken.snapshot.parts taken.snapshot.past_batches taken.snapshot.live_batches → FindsTheAnswers at.limits at.before q taken.snapshot
    → told_of new ≡ told_of old ++ told_taken taken ∷ [] → Holds q new.session new.taken → Draws q result old new a b
draws_page q result old new a b taken reply t at is finds told holds = record {
  more = told_taken taken ∷ [];
  asked = asked_one q result (told_taken taken) b;
  went = subst (λ (r : s.Reply). Went a b (deeds_told (s.Take q) (Some r))) is (went_turn (s.Take q) a b (Some reply) t);
  told = told;
  tells = take_tells_page q a b taken.snapshot reply t at is finds;
  holds = holds;
}
  where
    asked_one : (q : ℕ) (result : Result (Unit {0}) AllocError) (told : Told) (st : Stands) → HasAsked q result (told ∷ []) st
    asked_one q (Ok u) told st = tt
    asked_one q (Err e) told st = tt

stays_page : (request : s.Request) (q : ℕ) (a b : Stands) (reply : Option s.Reply) (t : IsTurn request a b reply) → t.new ≡ [] → pages_by a.names q (past b.seen) ≡ pages_by a.names q (past a.seen) ++ []
stays_page request q a b reply t none =
    ap (λ (st : Stands). pages_by a.names q (past st.seen)) t.leaves
    ∙ ap (λ (l : List Entry). pages_by a.names q (past (t.found ++ l))) none
    ∙ ap (λ (l : List Entry). pages_by a.names q (past l)) (append-nil t.found ∙ t.begins)
    ∙ others_page a.names q t.since a.seen t.others
    ∙ sym (append-nil (pages_by a.names q (past a.seen)))

-- ---- a query that is registered

no_registration : (g : Registration) → Some g ≡ None → ⊥
no_registration g is = absurd cc

later_by : (b : Bool) (r q count : ℕ) (g : Registration) (rest : Option Registration) → (r == q) ≡ b → r ≡ count + 1 → q ≤ count + 1 → (q ≤ count → rest ≡ None → ⊥) → (if b then Some g else rest) ≡ None → ⊥
later_by true r q count g rest test next within before none = no_registration g none
later_by false r q count g rest test next within before none = before (grind (arith, nat_tests, test, next, within)) none

registered_by : (limits : Limits) (before : List Entry) (d : Deed) (q n : ℕ) (rest : Option Registration) → Allowed limits before d → q ≤ queries_after d (query_count before) → (q ≤ query_count before → rest ≡ None → ⊥)
    → registration_after q d n rest ≡ None → ⊥
registered_by limits before (deed.Accept packed) q n rest allowed within there none = there within none
registered_by limits before (deed.Claim b) q n rest allowed within there none = there within none
registered_by limits before (deed.Unclaim b) q n rest allowed within there none = there within none
registered_by limits before (deed.Index b) q n rest allowed within there none = there within none
registered_by limits before (deed.Seal k) q n rest allowed within there none = there within none
registered_by limits before (deed.Take r x y) q n rest allowed within there none = there within none
registered_by limits before (deed.Leave r) q n rest allowed within there none = there within none
registered_by limits before (deed.Register r mode expr) q n rest allowed within there none =
    later_by (r == q) r q (query_count before) (record { mode = mode; expr = expr; from = n }) rest refl (allowed.0) within there none

pub registered : (limits : Limits) (before : List Entry) (q : ℕ) → Legal limits before → IsRegisteredAt before q → registration q before ≡ None → ⊥
registered limits [] q legal known none = absurd (omega (arith, known.0, known.1))
registered limits (e ∷ before) q legal known none =
    registered_by limits before e.deed q (event_count before) (registration q before) legal.1 known.1 (λ within. registered limits before q legal.0 (known.0, within)) none

other_reply : (k : ℕ) (taking : Taking) (parts : List Piece) (past_batches live_batches : List Held) → s.Left k ≡ s.Taken taking parts past_batches live_batches → ⊥
other_reply k taking parts past_batches live_batches is = cc

-- a session is back, or what was taken with it
pub holds_settled : (q : ℕ) (r : Result (Unit {0}) AllocError) (old session : Option Session) (held : Option Taken) (taken : Taken) → taken.session.query ≡ q → old ≡ None
    → OnOk r ((session ≡ Some taken.session) × (held ≡ None)) → OnErr r ((session ≡ old) × (held ≡ Some taken)) → Holds q session held
holds_settled q (Ok u) old session held taken same none ok err = rw (ok.0, ok.1) same
holds_settled q (Err e) old session held taken same none ok err = rw (err.0 ∙ none, err.1) same

-- it had left
pub draws_left : (q k : ℕ) (old new : QueryEnd) (a b : Stands) → IsTurn (s.Take q) a b (Some (s.Left k)) → IsRegisteredAt (past b.seen) q → told_of new ≡ told_of old → Holds q new.session new.taken → Draws q (Ok tt) old new a b
draws_left q k old new a b t known same holds =
    let seen = seen_found (s.Take q) a b (s.Left k) t refl in
    let there = subst (λ (l : List Entry). registration q (past l) ≡ None → ⊥) seen (registered t.limits (past b.seen) q (legal_later (s.Take q) a b (Some (s.Left k)) t) known) in
    let none : t.new ≡ [] = answers_tell t.limits t.found a.seat (s.Take q) (Some (s.Left k)) t.new t.answered in
    record {
      more = [];
      asked = ap (λ (l : List Entry). has_left q (past l)) (seen_found (s.Take q) a b (s.Left k) t refl) ∙ left_is q k t.limits.group (past t.found) (has_left q (past t.found)) (registration q (past t.found)) there t.answered.0;
      went = went_turn (s.Take q) a b (Some (s.Left k)) t;
      told = same ∙ sym (append-nil (told_of old));
      tells = stays_page (s.Take q) q a b (Some (s.Left k)) t none;
      holds = holds;
    }
  where
    not_taken : (q k size : ℕ) (before : List Entry) (g : Option Registration) → (g ≡ None → ⊥) → s.Left k ≡ (s.take_step size before q g).reply → ⊥
    not_taken q k size before None there is = there refl
    not_taken q k size before (Some g) there is = other_reply k _ _ _ _ is

    left_is : (q k size : ℕ) (before : List Entry) (b : Bool) (g : Option Registration) → (g ≡ None → ⊥) → s.Left k ≡ (if b then s.replies (s.Left q) else s.take_step size before q g).reply → b ≡ true
    left_is q k size before true g there is = refl
    left_is q k size before false g there is = absurd (not_taken q k size before g there is)

-- memory was wanting before anything was taken
pub draws_refused : (q : ℕ) (e : AllocError) (old new : QueryEnd) (a b : Stands) → IsTurn (s.Take q) a b None → told_of new ≡ told_of old → Holds q new.session new.taken → Draws q (Err e) old new a b
draws_refused q e old new a b t same holds = record {
  more = [];
  asked = tt;
  went = went_turn (s.Take q) a b None t;
  told = same ∙ sym (append-nil (told_of old));
  tells = stays_page (s.Take q) q a b None t t.answered;
  holds = holds;
}

pub draws_nothing : (q : ℕ) (e : AllocError) (old new : QueryEnd) (a : Stands) → told_of new ≡ told_of old → Holds q new.session new.taken → Draws q (Err e) old new a a
draws_nothing q e old new a same holds = record {
  more = [];
  asked = tt;
  went = went_none a;
  told = same ∙ sym (append-nil (told_of old));
  tells = sym (append-nil (pages_by a.names q (past a.seen)));
  holds = holds;
}

pub nothing_drawn : (o : Option Session) (session : Session) (e : AllocError) (old new : QueryEnd) (a : Stands) → o ≡ Some session → told_of new ≡ told_of old → Holds session.query new.session new.taken
    → IsSomeAnd o (λ (x : Session). Draws x.query (Err e) old new a a)
nothing_drawn o session e old new a is same holds =
    subst (λ (p : Option Session). IsSomeAnd p (λ (x : Session). Draws x.query (Err e) old new a a)) (sym is) (draws_nothing session.query e old new a same holds)

-- a cache that keeps nothing is one of any store
pub new_cache : (before : List Entry) (size : ℕ) (cache : Caching) → cache ≡ record { size = size; entries = [] } → IsCacheOf before cache
new_cache before size cache is = subst (IsCacheOf before) (sym is) (λ number what kept. absurd cc)
