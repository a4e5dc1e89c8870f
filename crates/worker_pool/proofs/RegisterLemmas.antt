-- Registering a worker's queries.
use Rattle.std.proofs.Common.{◌≡◌, ℕ, ◌+◌, ◌<◌, ◌≤◌, Bool, true, false, List, [], ◌∷◌, ◌++◌, Option, None, Some, Result, Ok, Err, IsSome, All, Contains, map, nat_lt, nat_le, if◌then◌else◌, ap, refl, sym, subst, ◌∙◌, ne_eqb, arith, zero, suc, inl, inr, ⊎_elim, ◌⊎◌}
use Rattle.std.specs.declared.alloc.AllocError.{AllocError}
use Rattle.std.proofs.lemmas.Bool.Decides.{nat_tests}
use Rattle.std.proofs.lemmas.List.{reverse-append}
use Rattle.event_history.specs.declared.entry.Deed.{Deed}
use Rattle.event_history.specs.declared.entry.Deed.TheVariants as deed
use Rattle.event_history.specs.declared.entry.Entry.{Entry}
use Rattle.event_history.specs.declared.entry.Limits.{Limits}
use Rattle.event_history.specs.declared.entry.Mode.{Mode}
use Rattle.event_history.specs.declared.entry.Mode.TheVariants.{Both}
use Rattle.event_history.specs.Histories.{event_count, past}
use Rattle.event_history.specs.Legal.{Allowed, GoesTo, Legal}
use Rattle.event_history.specs.Queries.{Registration, queries_after, query_count, registration}
use Rattle.event_history.specs.Steps as s
use Rattle.event_history.proofs.TellingLemmas.{registered_within}
use Rattle.query_meaning.specs.declared.expr.Expr.{Expr}
use Rattle.history_core.specs.declared.session.Session.{Session}
use Rattle.history_core.specs.Replies.{IsRegisteredAt}
use Rattle.shared_store.specs.Given.{Sees}
use Rattle.shared_store.specs.Turns.{IsTurn, Stands}
use Rattle.worker_pool.specs.declared.registering.Query.{Query}
use Rattle.worker_pool.specs.Deeds.{Went, by_seat}
use Rattle.worker_pool.specs.Paging.{Told, is_named, pages_after, pages_by}
use Rattle.worker_pool.specs.Registering as r
use Rattle.worker_pool.specs.declared.paging.QueryEnd.{QueryEnd}
use Rattle.worker_pool.specs.Paging.{told_of}
use Rattle.worker_pool.proofs.TakeLemmas.{all_paged_stay, paged_stays, past_is}
use Rattle.worker_pool.specs.Registering.{AreAskable, EndsRegistering, IsFirst, IsNew, IsUnasked, Registering, ends, registering_deeds, Registers, RegistersAll, registered_end}
use Rattle.worker_pool.specs.Takes.{AreApart, IsFree, IsPaged, is_take, numbers_of}
use Rattle.std.proofs.lemmas.List.Elements.{All-append, All-cons, All-head, All-nil, All-tail, Contains-append_cases, Contains-append_left, Contains-append_right, Contains-push}
use Rattle.worker_pool.proofs.PageLemmas.{legal_later}
use Rattle.worker_pool.proofs.TakeLemmas.{count_grows, silent_after}
use Rattle.worker_pool.proofs.WentLemmas.{same_limits, seen_found, seen_more, went_none, went_then, went_turn}

-- ---- a query that is not registered yet was told nothing

more_before : (d : Deed) (n q : ℕ) → queries_after d n < q → n < q
more_before (deed.Accept packed) n q h = h
more_before (deed.Claim b) n q h = h
more_before (deed.Unclaim b) n q h = h
more_before (deed.Index b) n q h = h
more_before (deed.Seal k) n q h = h
more_before (deed.Register r mode expr) n q h = omega (arith, h)
more_before (deed.Take r x y) n q h = h
more_before (deed.Leave r) n q h = h

take_within : (limits : Limits) (before : List Entry) (q x y : ℕ) (g : Option Registration) → registration q before ≡ g → Legal limits before → GoesTo before q x y g → q ≤ query_count before
take_within limits before q x y None is legal goes = absurd goes
take_within limits before q x y (Some g) is legal goes = registered_within limits before q g legal is

no_take : (limits : Limits) (before : List Entry) (d : Deed) (q : ℕ) → Legal limits before → Allowed limits before d → query_count before < q → is_take q d ≡ false
no_take limits before (deed.Accept packed) q legal allowed above = refl
no_take limits before (deed.Claim b) q legal allowed above = refl
no_take limits before (deed.Unclaim b) q legal allowed above = refl
no_take limits before (deed.Index b) q legal allowed above = refl
no_take limits before (deed.Seal k) q legal allowed above = refl
no_take limits before (deed.Register t mode expr) q legal allowed above = refl
no_take limits before (deed.Take t x y) q legal allowed above =
    ne_eqb t q (λ e. absurd (omega (arith, above, e, take_within limits before t x y (registration t before) refl legal allowed.1)))
no_take limits before (deed.Leave t) q legal allowed above = refl

chosen_none : (b : Bool) (told rest : List Told) → told ≡ rest → rest ≡ [] → (if b then told else rest) ≡ []
chosen_none true told rest same none = same ∙ none
chosen_none false told rest same none = none

pub untold : (limits : Limits) (before : List Entry) (names : List ℕ) (q : ℕ) → Legal limits before → query_count before < q → pages_by names q before ≡ []
untold limits [] names q legal above = refl
untold limits (e ∷ before) names q legal above =
    let under = more_before e.deed (query_count before) q above in
    chosen_none (is_named names e.seat) (pages_after q e.deed before (pages_by names q before)) (pages_by names q before)
    (silent_after q e.deed before (pages_by names q before) (no_take limits before e.deed q legal.0 legal.1 under)) (untold limits before names q legal.0 under)

-- ---- one query

reply_by : (b c : Bool) (limit from count : ℕ) (ahead : ℕ) (q n : ℕ) (m mode : Mode) (expr : Expr) → s.Registered q n m ≡ (if b then s.replies (s.TooMany limit) else (if c then s.replies (s.Ahead from ahead) else s.does (s.Registered (count + 1) ahead mode) (deed.Register (count + 1) mode expr))).reply → q ≡ count + 1
reply_by true c limit from count ahead q n m mode expr is = absurd cc
reply_by false true limit from count ahead q n m mode expr is = absurd cc
reply_by false false limit from count ahead q n m mode expr is = cc

refused_by : (b c : Bool) (limit from count : ℕ) (ahead told : ℕ) (mode : Mode) (expr : Expr) → nat_le limit count ≡ b → s.TooMany told ≡ (if b then s.replies (s.TooMany limit) else (if c then s.replies (s.Ahead from ahead) else s.does (s.Registered (count + 1) ahead mode) (deed.Register (count + 1) mode expr))).reply → (told ≡ limit) × (limit ≤ count)
refused_by true c limit from count ahead told mode expr test is = (cc, grind (arith, nat_tests, test))
refused_by false true limit from count ahead told mode expr test is = absurd cc
refused_by false false limit from count ahead told mode expr test is = absurd cc

ahead_by : (b c : Bool) (limit count ahead x y : ℕ) (expr : Expr) → nat_lt ahead 0 ≡ c
    → s.Ahead x y ≡ (if b then s.replies (s.TooMany limit) else (if c then s.replies (s.Ahead 0 ahead) else s.does (s.Registered (count + 1) ahead Both) (deed.Register (count + 1) Both expr))).reply → ⊥
ahead_by true c limit count ahead x y expr test is = absurd cc
ahead_by false true limit count ahead x y expr test is = absurd (grind (arith, nat_tests, test))
ahead_by false false limit count ahead x y expr test is = absurd cc

-- one of mode Both does not begin at an event that is not there
pub never_ahead : (expr : Expr) (a b : Stands) (x y : ℕ) → IsTurn (s.Register Both expr) a b (Some (s.Ahead x y)) → ⊥
never_ahead expr a b x y t = ahead_by (nat_le t.limits.queries (query_count (past t.found))) (nat_lt (event_count (past t.found)) 0) t.limits.queries (query_count (past t.found)) (event_count (past t.found)) x y expr refl t.answered.0

module _ (old new : Query) (a b : Stands) where
  pub nothing_to_register : old.expr ≡ None → new.expr ≡ None → new.end ≡ old.end → a ≡ b → Registers (Ok tt) old new a b
  nothing_to_register none left same stays = record {
    did = r.Nothing;
    went = subst (λ (c : Stands). Went a c []) stays (went_none a);
    ends = (none, left);
    end = same;
    first = tt;
  }

  module _ (expr : Expr) (had : old.expr ≡ Some expr) where
    pub registers : (session : Session) → IsTurn (s.Register Both expr) a b (Some (s.Registered session.query session.registered session.mode)) → IsRegisteredAt (past b.seen) session.query → new.expr ≡ None
        → new.end ≡ record old.end { session = Some session } → Registers (Ok tt) old new a b
    registers session t known left end =
        let reply = s.Registered session.query session.registered session.mode in
        let request = s.Register Both expr in
        let found : List Entry = past t.found in
        let did = deed.Register session.query Both expr in
        let number : session.query ≡ query_count found + 1 =
        reply_by (nat_le t.limits.queries (query_count found)) (nat_lt (event_count found) 0) t.limits.queries 0 (query_count found) (event_count found) session.query session.registered session.mode Both expr t.answered.0 in
        let seen = seen_more request a b reply did t refl in
        let legal : Legal t.limits (by_seat a.seat did ∷ found) = subst (Legal t.limits) seen (legal_later request a b (Some reply) t) in
        let later : found ≡ past t.since ++ past a.seen = ap past t.begins ∙ reverse-append a.seen t.since in
        let grows : query_count (past a.seen) ≤ query_count found = subst (λ (l : List Entry). query_count (past a.seen) ≤ query_count l) (sym later) (count_grows (past t.since) (past a.seen)) in
        let above : query_count found < session.query = omega (arith, number) in
        record {
          did = r.Registered session expr;
          went = went_turn request a b (Some reply) t;
          ends = (had, left);
          end = end;
          first = (
            omega (arith, number, grows),
            known,
            ap (pages_by b.names session.query) seen
                ∙ chosen_none (is_named b.names a.seat) (pages_by b.names session.query found) (pages_by b.names session.query found) refl (untold t.limits found b.names session.query legal.0 above),
          );
        }

    pub refuses : (limit : ℕ) → IsTurn (s.Register Both expr) a b (Some (s.TooMany limit)) → new.expr ≡ None → new.end ≡ record old.end { too_many = Some limit } → Registers (Ok tt) old new a b
    refuses limit t left end = record {
      did = r.Refused limit;
      went = went_turn (s.Register Both expr) a b (Some (s.TooMany limit)) t;
      ends = (rw had refl, left, sees);
      end = end;
      first = tt;
    }
      where
        Limited : Limits → List Entry → Type 0
        Limited limits before = (limit ≡ limits.queries) × (limits.queries ≤ query_count before)

        here : Limited t.limits (past t.found)
        here = refused_by (nat_le t.limits.queries (query_count (past t.found))) (nat_lt (event_count (past t.found)) 0) t.limits.queries 0 (query_count (past t.found)) (event_count (past t.found)) limit Both expr refl t.answered.0

        sees : Sees Limited b
        sees limits framed =
            subst (λ (l : List Entry). Limited limits (past l)) (sym (seen_found (s.Register Both expr) a b (s.TooMany limit) t refl))
            (subst (λ (f : Limits). Limited f (past t.found)) (same_limits b.frame t.limits limits (ap (λ (st : Stands). st.frame) t.leaves ∙ t.framed) framed) here)

    pub register_failed : (e : AllocError) → IsTurn (s.Register Both expr) a b None → new.end ≡ old.end → Registers (Err e) old new a b
    register_failed e t end = record {
      did = r.Wanting;
      went = went_turn (s.Register Both expr) a b None t;
      ends = rw had refl;
      end = end;
      first = tt;
    }

-- ---- what registering leaves of the queries

head_is : (a b : ℕ) (xs ys : List ℕ) → a ∷ xs ≡ b ∷ ys → a ≡ b
head_is a b xs ys e = cc

some_of : {X : Type 0} (o : Option X) → IsSome o → (x : X) × (o ≡ Some x)
some_of None is = absurd cc
some_of (Some x) is = (x, refl)

none_left : {X : Type 0} (o : Option X) (x : X) → o ≡ None → o ≡ Some x → ⊥
none_left o x none some = no_some x (sym none ∙ some)
  where
    no_some : {Y : Type 0} (y : Y) → None ≡ Some y → ⊥
    no_some y e = absurd cc

silent_deeds : (did : Registering) (q : ℕ) → All (λ (d : Deed). is_take q d ≡ false) (registering_deeds did)
silent_deeds r.Nothing q = All-nil (λ (d : Deed). is_take q d ≡ false)
silent_deeds (r.Registered session expr) q = All-cons (λ (d : Deed). is_take q d ≡ false) (deed.Register session.query Both expr) [] refl (All-nil (λ (d : Deed). is_take q d ≡ false))
silent_deeds (r.Refused limit) q = All-nil (λ (d : Deed). is_take q d ≡ false)
silent_deeds r.Wanting q = All-nil (λ (d : Deed). is_take q d ≡ false)

untold_end : (q : QueryEnd) → IsNew q → told_of q ≡ []
untold_end q new = rw (new.3, new.1) refl

module _ (a b : Stands) where
  -- the number of a query that was registered is its old one, or above all that were there, and nothing was taken of it
  abbrev pub IsNumber : QueryEnd → ℕ → Type 0
  IsNumber end n = (numbers_of end ≡ n ∷ []) ⊎ ((query_count (past a.seen) < n) × IsRegisteredAt (past b.seen) n)

  number_by : (did : Registering) (old : QueryEnd) → IsFirst did a b → (n : ℕ) → numbers_of (registered_end did old) ≡ n ∷ [] → IsNumber old n
  number_by r.Nothing old first n of = inl of
  number_by (r.Registered session expr) old first n of =
      let is = head_is session.query n _ _ of in
      inr (subst (λ (k : ℕ). (query_count (past a.seen) < k) × IsRegisteredAt (past b.seen) k) is (first.0, first.1))
  number_by (r.Refused limit) old first n of = inl of
  number_by r.Wanting old first n of = inl of

  new_by : (result : Result (Unit {0}) AllocError) (session : Session) (e : Expr) (expr left : Option Expr) → EndsRegistering result (r.Registered session e) expr left b → expr ≡ Some e
  new_by (Ok u) session e expr left ends = ends.0
  new_by (Err why) session e expr left ends = absurd ends

  paged_by : (result : Result (Unit {0}) AllocError) (did : Registering) (old : Query) (left : Option Expr) → Went a b (registering_deeds did) → IsFirst did a b → EndsRegistering result did old.expr left b → IsUnasked old → IsPaged a old.end → IsPaged b (registered_end did old.end)
  paged_by result r.Nothing old left went first ends unasked paged = paged_stays a b [] went old.end (λ q of. silent_deeds r.Nothing q) paged
  paged_by result (r.Refused limit) old left went first ends unasked paged =
      let is = paged_stays a b [] went old.end (λ q of. silent_deeds (r.Refused limit) q) paged in record { paged = is.paged; known = is.known }
  paged_by result r.Wanting old left went first ends unasked paged = paged_stays a b [] went old.end (λ q of. silent_deeds r.Wanting q) paged
  paged_by result (r.Registered session e) old left went first ends unasked paged =
      let new = unasked e (new_by result session e old.expr left ends) in
      record {
        paged = λ q of. untold_end old.end new ∙ sym (subst (λ (k : ℕ). pages_by b.names k (past b.seen) ≡ []) (head_is session.query q _ _ of) first.2);
        known = λ q of. subst (IsRegisteredAt (past b.seen)) (head_is session.query q _ _ of) first.1;
      }

  taken_stays : (did : Registering) (old : QueryEnd) → (registered_end did old).taken ≡ old.taken
  taken_stays r.Nothing old = refl
  taken_stays (r.Registered session expr) old = refl
  taken_stays (r.Refused limit) old = refl
  taken_stays r.Wanting old = refl

  unasked_by : (result : Result (Unit {0}) AllocError) (did : Registering) (old : Query) (left : Option Expr) → EndsRegistering result did old.expr left b → IsUnasked old → (e : Expr) → left ≡ Some e → IsNew (registered_end did old.end)
  unasked_by (Ok u) r.Nothing old left ends unasked e is = absurd (none_left left e ends.1 is)
  unasked_by (Ok u) (r.Registered session x) old left ends unasked e is = absurd (none_left left e ends.1 is)
  unasked_by (Ok u) (r.Refused limit) old left ends unasked e is = absurd (none_left left e ends.1 is)
  unasked_by (Ok u) r.Wanting old left ends unasked e is = absurd ends
  unasked_by (Err why) r.Nothing old left ends unasked e is = absurd ends
  unasked_by (Err why) (r.Registered session x) old left ends unasked e is = absurd ends
  unasked_by (Err why) (r.Refused limit) old left ends unasked e is = absurd ends
  unasked_by (Err why) r.Wanting old left ends unasked e is = let had = some_of old.expr ends in unasked had.0 had.1

  module _ (result : Result (Unit {0}) AllocError) (old new : Query) (registers : Registers result old new a b) (unasked : IsUnasked old) where
    pub number_registered : (n : ℕ) → numbers_of new.end ≡ n ∷ [] → IsNumber old.end n
    number_registered n of = number_by registers.did old.end registers.first n (ap numbers_of (sym registers.end) ∙ of)

    pub paged_registered : IsPaged a old.end → IsPaged b new.end
    paged_registered paged = subst (IsPaged b) (sym registers.end) (paged_by result registers.did old new.expr registers.went registers.first registers.ends unasked paged)

    pub free_registered : IsFree old.end → IsFree new.end
    free_registered free = ap (λ (q : QueryEnd). q.taken) registers.end ∙ taken_stays registers.did old.end ∙ free

    pub unasked_registered : IsUnasked new
    unasked_registered e is = subst IsNew (sym registers.end) (unasked_by result registers.did old new.expr registers.ends unasked e is)

-- ---- all of them

first_case : {X : Type 0} (x y : X) (xs : List X) → Contains (x ∷ xs) y → (x ≡ y) ⊎ Contains xs y
first_case x y xs there = ⊎_elim (λ (c : Contains (x ∷ []) y). inl (only_one x y c)) (λ (c : Contains xs y). inr c) (Contains-append_cases (x ∷ []) xs y there)
  where
    only_one : {Y : Type 0} (u v : Y) → Contains (u ∷ []) v → u ≡ v
    only_one u v (zero, below, is) = is
    only_one u v (suc i, below, is) = absurd (omega (arith, below))

contains_first : {X : Type 0} (x y : X) (xs : List X) → x ≡ y → Contains (x ∷ xs) y
contains_first x y xs is = subst (Contains (x ∷ xs)) is (Contains-append_left (x ∷ []) xs x (Contains-push [] x))

contains_rest : {X : Type 0} (x y : X) (xs : List X) → Contains xs y → Contains (x ∷ xs) y
contains_rest x y xs there = Contains-append_right (x ∷ []) xs y there

-- a number among them was seen registered
known_in : (s : Stands) (queries : List QueryEnd) (n : ℕ) → All (IsPaged s) queries → Contains (map numbers_of queries) (n ∷ []) → IsRegisteredAt (past s.seen) n
known_in s [] n paged (i, below, is) = absurd (omega (arith, below))
known_in s (x ∷ xs) n paged there =
    ⊎_elim (λ (is : numbers_of x ≡ n ∷ []). (All-head (IsPaged s) x xs paged).known n is) (λ (c : Contains (map numbers_of xs) (n ∷ [])). known_in s xs n (All-tail (IsPaged s) x xs paged) c)
    (first_case (numbers_of x) (n ∷ []) (map numbers_of xs) there)

counts_went : (a b : Stands) (did : List Deed) → Went a b did → query_count (past a.seen) ≤ query_count (past b.seen)
counts_went a b did went =
    subst (λ (l : List Entry). query_count (past a.seen) ≤ query_count l) (sym (past_is a b did went)) (count_grows (past went.since) (past a.seen))

all_unasked_rest : (x : Query) (xs : List Query) → All IsUnasked (x ∷ xs) → All IsUnasked xs
all_unasked_rest x xs all = All-tail IsUnasked x xs all

-- a number of theirs is an old one, or above all that were there
pub numbers_registered : (result : Result (Unit {0}) AllocError) (olds news : List Query) (a b : Stands) → RegistersAll result olds news a b → All IsUnasked olds → (n : ℕ) → Contains (map numbers_of (ends news)) (n ∷ [])
    → Contains (map numbers_of (ends olds)) (n ∷ []) ⊎ (query_count (past a.seen) < n)
numbers_registered result [] [] a b all unasked n there = inl there
numbers_registered result [] (y ∷ ys) a b all unasked n there = absurd all
numbers_registered result (x ∷ xs) [] a b all unasked n there = absurd all
numbers_registered result (x ∷ xs) (y ∷ ys) a b (inl (mid, one, rest)) unasked n there =
    let more = counts_went a mid (registering_deeds one.did) one.went in
    ⊎_elim
    (λ (is : numbers_of y.end ≡ n ∷ []). ⊎_elim (λ (old : numbers_of x.end ≡ n ∷ []). inl (contains_first (numbers_of x.end) (n ∷ []) (map numbers_of (ends xs)) old)) (λ (new : (query_count (past a.seen) < n) × IsRegisteredAt (past mid.seen) n). inr new.0)
    (number_registered a mid (Ok tt) x y one (All-head IsUnasked x xs unasked) n is))
    (λ (c : Contains (map numbers_of (ends ys)) (n ∷ [])). ⊎_elim (λ (old : Contains (map numbers_of (ends xs)) (n ∷ [])). inl (contains_rest (numbers_of x.end) (n ∷ []) (map numbers_of (ends xs)) old)) (λ (new : query_count (past mid.seen) < n). inr (omega (arith, more, new)))
    (numbers_registered result xs ys mid b rest (All-tail IsUnasked x xs unasked) n c))
    (first_case (numbers_of y.end) (n ∷ []) (map numbers_of (ends ys)) there)
numbers_registered result (x ∷ xs) (y ∷ ys) a b (inr (failed, one, same)) unasked n there =
    ⊎_elim
    (λ (is : numbers_of y.end ≡ n ∷ []). ⊎_elim (λ (old : numbers_of x.end ≡ n ∷ []). inl (contains_first (numbers_of x.end) (n ∷ []) (map numbers_of (ends xs)) old)) (λ (new : (query_count (past a.seen) < n) × IsRegisteredAt (past b.seen) n). inr new.0)
    (number_registered a b result x y one (All-head IsUnasked x xs unasked) n is))
    (λ (c : Contains (map numbers_of (ends ys)) (n ∷ [])). inl (contains_rest (numbers_of x.end) (n ∷ []) (map numbers_of (ends xs)) (subst (λ (l : List Query). Contains (map numbers_of (ends l)) (n ∷ [])) same c)))
    (first_case (numbers_of y.end) (n ∷ []) (map numbers_of (ends ys)) there)

-- what was done took nothing of any query
pub registers_went : (result : Result (Unit {0}) AllocError) (olds news : List Query) (a b : Stands) → RegistersAll result olds news a b
    → (did : List Deed) × Went a b did × ((q : ℕ) → All (λ (d : Deed). is_take q d ≡ false) did)
registers_went result [] [] a b all = ([], subst (λ (s : Stands). Went a s []) (sym all.1) (went_none a), λ q. All-nil (λ (d : Deed). is_take q d ≡ false))
registers_went result [] (y ∷ ys) a b all = absurd all
registers_went result (x ∷ xs) [] a b all = absurd all
registers_went result (x ∷ xs) (y ∷ ys) a b (inl (mid, one, rest)) =
    let more = registers_went result xs ys mid b rest in
    let did = registering_deeds one.did in
    (did ++ more.0, went_then a mid b did more.0 one.went more.1, λ q. All-append (λ (d : Deed). is_take q d ≡ false) did more.0 (silent_deeds one.did q) (more.2 q))
registers_went result (x ∷ xs) (y ∷ ys) a b (inr (failed, one, same)) = (registering_deeds one.did, one.went, silent_deeds one.did)

-- they may be asked on
pub askable_registered : (result : Result (Unit {0}) AllocError) (olds news : List Query) (a b : Stands) → RegistersAll result olds news a b → All IsUnasked olds → AreAskable a olds → AreAskable b news
askable_registered result [] [] a b all new is = record { paged = All-nil (IsPaged b); free = is.free; apart = is.apart }
askable_registered result [] (y ∷ ys) a b all new is = absurd all
askable_registered result (x ∷ xs) [] a b all new is = absurd all
askable_registered result (x ∷ xs) (y ∷ ys) a b (inl (mid, one, rest)) unasked is =
    let first = All-head IsUnasked x xs unasked in
    let did = registering_deeds one.did in
    let mid_rest : AreAskable mid xs = record {
      paged = all_paged_stay a mid did one.went (ends xs) (λ q there. silent_deeds one.did q) (All-tail (IsPaged a) x.end (ends xs) is.paged);
      free = All-tail IsFree x.end (ends xs) is.free;
      apart = is.apart.1;
    } in
    let now = askable_registered result xs ys mid b rest (All-tail IsUnasked x xs unasked) mid_rest in
    let went = registers_went result xs ys mid b rest in
    let more = counts_went a mid did one.went in
    record {
      paged = All-cons (IsPaged b) y.end (ends ys) (paged_stays mid b went.0 went.1 y.end (λ q of. went.2 q) (paged_registered a mid (Ok tt) x y one first (All-head (IsPaged a) x.end (ends xs) is.paged))) now.paged;
      free = All-cons IsFree y.end (ends ys) (free_registered a mid (Ok tt) x y one first (All-head IsFree x.end (ends xs) is.free)) now.free;
      apart = (
        λ q of there.
            ⊎_elim
            (λ (old : numbers_of x.end ≡ q ∷ []).
            let known = (All-head (IsPaged a) x.end (ends xs) is.paged).known q old in
            ⊎_elim (λ (c : Contains (map numbers_of (ends xs)) (q ∷ [])). is.apart.0 q old c) (λ (above : query_count (past mid.seen) < q). absurd (omega (arith, known.1, more, above)))
            (numbers_registered result xs ys mid b rest (All-tail IsUnasked x xs unasked) q there))
            (λ (new : (query_count (past a.seen) < q) × IsRegisteredAt (past mid.seen) q).
            ⊎_elim (λ (c : Contains (map numbers_of (ends xs)) (q ∷ [])). absurd (omega (arith, new.0, (known_in a (ends xs) q (All-tail (IsPaged a) x.end (ends xs) is.paged) c).1))) (λ (above : query_count (past mid.seen) < q). absurd (omega (arith, new.1.1, above)))
            (numbers_registered result xs ys mid b rest (All-tail IsUnasked x xs unasked) q there))
            (number_registered a mid (Ok tt) x y one first q of),
        now.apart,
      );
    }
askable_registered result (x ∷ xs) (y ∷ ys) a b (inr (failed, one, same)) unasked is = askable_failed same
  where
    first : IsUnasked x
    first = All-head IsUnasked x xs unasked

    askable_failed : ys ≡ xs → AreAskable b (y ∷ ys)
    askable_failed same = subst (λ (l : List Query). AreAskable b (y ∷ l)) (sym same) (record {
      paged = All-cons (IsPaged b) y.end (ends xs) (paged_registered a b result x y one first (All-head (IsPaged a) x.end (ends xs) is.paged))
          (all_paged_stay a b (registering_deeds one.did) one.went (ends xs) (λ q there. silent_deeds one.did q) (All-tail (IsPaged a) x.end (ends xs) is.paged));
      free = All-cons IsFree y.end (ends xs) (free_registered a b result x y one first (All-head IsFree x.end (ends xs) is.free)) (All-tail IsFree x.end (ends xs) is.free);
      apart = (
        λ q of there.
            ⊎_elim (λ (old : numbers_of x.end ≡ q ∷ []). is.apart.0 q old there)
            (λ (new : (query_count (past a.seen) < q) × IsRegisteredAt (past b.seen) q). absurd (omega (arith, new.0, (known_in a (ends xs) q (All-tail (IsPaged a) x.end (ends xs) is.paged) there).1)))
            (number_registered a b result x y one first q of),
        is.apart.1,
      );
    })
