-- Asking a worker's queries on.
use Rattle.std.proofs.Common.{◌≡◌, Result, ℕ, zero, suc, ◌≤◌, ◌||◌, Bool, true, false, cond, if◌then◌else◌, List, [], ◌∷◌, ◌++◌, Option, None, Some, Ok, Err, IsSomeAnd, OnOk, All, Contains, is_some, not, length, map, ap, sym, refl, subst, ◌∙◌, append-nil, append_assoc, eq-eqb, ne_eqb, arith, inl, inr, ◌⊎◌}
use Rattle.std.specs.List.{list_any}
use Rattle.std.specs.declared.alloc.AllocError.{AllocError}
use Rattle.std.proofs.lemmas.List.{append_cancel_left, reverse-append}
use Rattle.std.proofs.lemmas.List.Elements.{All-append, All-cons, All-head, All-map, All-nil, All-tail, All-weaker, Contains-append_left, Contains-append_right, Contains-push}
use Rattle.event_history.specs.declared.entry.Deed.{Deed}
use Rattle.event_history.specs.declared.entry.Deed.TheVariants as deed
use Rattle.event_history.specs.declared.entry.Entry.{Entry}
use Rattle.event_history.specs.Histories.{past}
use Rattle.event_history.specs.Queries.{has_left, leaves, queries_after, query_count}
use Rattle.history_core.specs.declared.session.Session.{Session}
use Rattle.history_core.specs.declared.taken.Taken.{Taken}
use Rattle.history_core.specs.Replies.{IsRegisteredAt}
use Rattle.turn_book.specs.Histories.{own_of}
use Rattle.turn_book.proofs.Owned.{own-append}
use Rattle.shared_store.specs.Turns.{Stands, own, seat_of}
use Rattle.worker_pool.specs.Deeds.{Went, by_seat}
use Rattle.worker_pool.specs.declared.paging.QueryEnd.{QueryEnd}
use Rattle.worker_pool.specs.declared.registering.Query.{Query}
use Rattle.worker_pool.specs.Registering.{ends}
use Rattle.worker_pool.specs.Paging.{Draws, HasAsked, HasSession, Holds, Told, is_named, pages_after, pages_by, take_deed}
use Rattle.worker_pool.specs.Takes.{AreApart, IsAsked, IsFree, IsPaged, IsTakeOf, TakesOn, is_take, known_as, numbers_in, numbers_of}
use Rattle.worker_pool.proofs.WentLemmas.{went_none, went_then}

no_one : (q : ℕ) → [] ≡ q ∷ [] → ⊥
no_one q e = absurd cc

one_is : (a b : ℕ) → a ∷ [] ≡ b ∷ [] → a ≡ b
one_is a b e = cc

-- ---- deeds that take nothing of a query tell it nothing

pub silent_after : (q : ℕ) (d : Deed) (before : List Entry) (told : List Told) → is_take q d ≡ false → pages_after q d before told ≡ told
silent_after q (deed.Accept packed) before told silent = refl
silent_after q (deed.Claim b) before told silent = refl
silent_after q (deed.Unclaim b) before told silent = refl
silent_after q (deed.Index b) before told silent = refl
silent_after q (deed.Seal k) before told silent = refl
silent_after q (deed.Register r mode expr) before told silent = refl
silent_after q (deed.Take r x y) before told silent = rw silent refl
silent_after q (deed.Leave r) before told silent = refl

-- of these entries those of the named seats take nothing of the query
abbrev pub AreSilent : List ℕ → ℕ → List Entry → Type 0
AreSilent names q entries = All (λ (e : Entry). is_take q e.deed ≡ false) (own_of seat_of names entries)

silent_by : (b : Bool) (q : ℕ) (e : Entry) (before : List Entry) (told : List Told) → All (λ (x : Entry). is_take q x.deed ≡ false) (cond b (e ∷ []) []) → (if b then pages_after q e.deed before told else told) ≡ told
silent_by true q e before told silent = silent_after q e.deed before told (All-head (λ (x : Entry). is_take q x.deed ≡ false) e [] silent)
silent_by false q e before told silent = refl

all_left : {X : Type 0} (P : X → Type 0) (xs ys : List X) → All P (xs ++ ys) → All P xs
all_left P [] ys h = All-nil P
all_left P (x ∷ xs) ys h = All-cons P x xs (All-head P x (xs ++ ys) h) (all_left P xs ys (All-tail P x (xs ++ ys) h))

all_right : {X : Type 0} (P : X → Type 0) (xs ys : List X) → All P (xs ++ ys) → All P ys
all_right P [] ys h = h
all_right P (x ∷ xs) ys h = all_right P xs ys (All-tail P x (xs ++ ys) h)

pub all_of : {X : Type 0} (P : X → Type 0) → ((x : X) → P x) → (xs : List X) → All P xs
all_of P each [] = All-nil P
all_of P each (x ∷ xs) = All-cons P x xs (each x) (all_of P each xs)

silent_page : (names : List ℕ) (q : ℕ) (e : Entry) (before : List Entry) → AreSilent names q (e ∷ []) → pages_by names q (e ∷ before) ≡ pages_by names q before
silent_page names q e before silent = silent_by (is_named names e.seat) q e before (pages_by names q before) silent

silent_pages : (names : List ℕ) (q : ℕ) (since seen : List Entry) → AreSilent names q since → pages_by names q (past (seen ++ since)) ≡ pages_by names q (past seen)
silent_pages names q [] seen silent = ap (λ (l : List Entry). pages_by names q (past l)) (append-nil seen)
silent_pages names q (e ∷ since) seen silent =
    let each : Entry → Type 0 = λ (x : Entry). is_take q x.deed ≡ false in
    let both : All each (own_of seat_of names (e ∷ []) ++ own_of seat_of names since) = subst (All each) (own-append Entry seat_of names (e ∷ []) since) silent in
    ap (λ (l : List Entry). pages_by names q (past l)) (sym (append_assoc seen (e ∷ []) since))
    ∙ silent_pages names q since (seen ++ e ∷ []) (all_right each (own_of seat_of names (e ∷ [])) (own_of seat_of names since) both)
    ∙ ap (pages_by names q) (reverse-append seen (e ∷ []))
    ∙ silent_page names q e (past seen) (all_left each (own_of seat_of names (e ∷ [])) (own_of seat_of names since) both)

module _ (a b : Stands) (did : List Deed) (went : Went a b did) where
  seen_is : b.seen ≡ a.seen ++ went.since
  seen_is = ap (λ (s : Stands). s.seen) went.leaves

  pub names_stay : b.names ≡ a.names
  names_stay = ap (λ (s : Stands). s.names) went.leaves

  -- the own entries that came are those deeds
  own_came : own_of seat_of a.names went.since ≡ map (by_seat a.seat) did
  own_came =
      append_cancel_left (own a) (own_of seat_of a.names went.since) (map (by_seat a.seat) did)
      (sym (own-append Entry seat_of a.names a.seen went.since) ∙ ap (λ (s : Stands). own s) (sym went.leaves) ∙ went.mine)

  pub went_silent : (q : ℕ) → All (λ (d : Deed). is_take q d ≡ false) did → pages_by b.names q (past b.seen) ≡ pages_by a.names q (past a.seen)
  went_silent q silent =
      ap (λ (s : Stands). pages_by s.names q (past s.seen)) went.leaves
      ∙ silent_pages a.names q went.since a.seen
      (subst (All (λ (x : Entry). is_take q x.deed ≡ false)) (sym own_came) (All-map (λ (x : Entry). is_take q x.deed ≡ false) (by_seat a.seat) did silent))

  pub past_is : past b.seen ≡ past went.since ++ past a.seen
  past_is = ap past seen_is ∙ reverse-append a.seen went.since

-- ---- what a longer history still says

more_queries : (d : Deed) (n : ℕ) → n ≤ queries_after d n
more_queries (deed.Accept packed) n = omega arith
more_queries (deed.Claim b) n = omega arith
more_queries (deed.Unclaim b) n = omega arith
more_queries (deed.Index b) n = omega arith
more_queries (deed.Seal k) n = omega arith
more_queries (deed.Register r mode expr) n = omega arith
more_queries (deed.Take r x y) n = omega arith
more_queries (deed.Leave r) n = omega arith

pub count_grows : (more before : List Entry) → query_count before ≤ query_count (more ++ before)
count_grows [] before = omega arith
count_grows (e ∷ more) before = omega (arith, count_grows more before, more_queries e.deed (query_count (more ++ before)))

or_right : (x y : Bool) → y ≡ true → (x || y) ≡ true
or_right true y is = refl
or_right false y is = is

left_stays : (q : ℕ) (more before : List Entry) → has_left q before ≡ true → has_left q (more ++ before) ≡ true
left_stays q [] before left = left
left_stays q (e ∷ more) before left = or_right (leaves q e.deed) (has_left q (more ++ before)) (left_stays q more before left)

pub registered_went : (a b : Stands) (did : List Deed) → Went a b did → (q : ℕ) → IsRegisteredAt (past a.seen) q → IsRegisteredAt (past b.seen) q
registered_went a b did went q known =
    let later = past_is a b did went in
    subst (λ (l : List Entry). IsRegisteredAt l q) (sym later) (known.0, omega (arith, known.1, count_grows (past went.since) (past a.seen)))

pub left_went : (a b : Stands) (did : List Deed) → Went a b did → (q : ℕ) → has_left q (past a.seen) ≡ true → has_left q (past b.seen) ≡ true
left_went a b did went q left =
    subst (λ (l : List Entry). has_left q l ≡ true) (sym (past_is a b did went)) (left_stays q (past went.since) (past a.seen) left)

-- ---- a query of which nothing is taken

pub paged_stays : (a b : Stands) (did : List Deed) → Went a b did → (query : QueryEnd) → ((q : ℕ) → numbers_of query ≡ q ∷ [] → All (λ (d : Deed). is_take q d ≡ false) did) → IsPaged a query → IsPaged b query
paged_stays a b did went query silent is = record {
  paged = λ q number. is.paged q number ∙ sym (went_silent a b did went q (silent q number));
  known = λ q number. registered_went a b did went q (is.known q number);
}

pub all_paged_stay : (a b : Stands) (did : List Deed) → Went a b did → (queries : List QueryEnd) → ((q : ℕ) → Contains (map numbers_of queries) (q ∷ []) → All (λ (d : Deed). is_take q d ≡ false) did) → All (IsPaged a) queries → All (IsPaged b) queries
all_paged_stay a b did went [] silent all = All-nil (IsPaged b)
all_paged_stay a b did went (x ∷ xs) silent all =
    All-cons (IsPaged b) x xs
    (paged_stays a b did went x (λ q number. silent q (subst (Contains (numbers_of x ∷ map numbers_of xs)) number (Contains-append_left (numbers_of x ∷ []) (map numbers_of xs) (numbers_of x) (Contains-push [] (numbers_of x))))) (All-head (IsPaged a) x xs all))
    (all_paged_stay a b did went xs (λ q there. silent q (Contains-append_right (numbers_of x ∷ []) (map numbers_of xs) (q ∷ []) there)) (All-tail (IsPaged a) x xs all))

-- a take of others is none of this one
other_take : (numbers : List (List ℕ)) (q : ℕ) (d : Deed) → IsTakeOf numbers d → (Contains numbers (q ∷ []) → ⊥) → is_take q d ≡ false
other_take numbers q (deed.Accept packed) of other = absurd of
other_take numbers q (deed.Claim b) of other = absurd of
other_take numbers q (deed.Unclaim b) of other = absurd of
other_take numbers q (deed.Index b) of other = absurd of
other_take numbers q (deed.Seal k) of other = absurd of
other_take numbers q (deed.Register r mode expr) of other = absurd of
other_take numbers q (deed.Take r x y) of other = ne_eqb r q (λ e. other (subst (λ (n : ℕ). Contains numbers (n ∷ [])) e of))
other_take numbers q (deed.Leave r) of other = absurd of

pub other_takes : (numbers : List (List ℕ)) (q : ℕ) (did : List Deed) → All (IsTakeOf numbers) did → (Contains numbers (q ∷ []) → ⊥) → All (λ (d : Deed). is_take q d ≡ false) did
other_takes numbers q did only other = All-weaker (IsTakeOf numbers) (λ (d : Deed). is_take q d ≡ false) (λ d of. other_take numbers q d of other) did only

wider_take : (some more : List (List ℕ)) → ((n : List ℕ) → Contains some n → Contains more n) → (d : Deed) → IsTakeOf some d → IsTakeOf more d
wider_take some more all (deed.Accept packed) of = of
wider_take some more all (deed.Claim b) of = of
wider_take some more all (deed.Unclaim b) of = of
wider_take some more all (deed.Index b) of = of
wider_take some more all (deed.Seal k) of = of
wider_take some more all (deed.Register r mode expr) of = of
wider_take some more all (deed.Take r x y) of = all (r ∷ []) of
wider_take some more all (deed.Leave r) of = of

-- ---- one query

holds_number : (q : ℕ) (session : Option Session) (taken : Option Taken) → Holds q session taken → numbers_in session taken ≡ q ∷ []
holds_number q (Some session) None holds = ap (λ (n : ℕ). n ∷ []) holds
holds_number q None (Some taken) holds = ap (λ (n : ℕ). n ∷ []) holds
holds_number q (Some session) (Some taken) holds = absurd holds
holds_number q None None holds = absurd holds

asked_by : (q : ℕ) (result : Result (Unit {0}) AllocError) (more : List Told) (s : Stands) → HasAsked q result more s → OnOk result ((list_any (is_take q) (map (take_deed q) more) ≡ true) ⊎ (has_left q (past s.seen) ≡ true))
asked_by q (Ok u) [] s asked = inr asked
asked_by q (Ok u) (t ∷ []) s asked = inl (ap (λ (x : Bool). x || false) (eq-eqb q q refl))
asked_by q (Ok u) (t ∷ (v ∷ more)) s asked = absurd asked
asked_by q (Err e) more s asked = tt

on_ok_both : {A B C : Type 0} (result : Result (Unit {0}) AllocError) → (A → B → C) → OnOk result A → OnOk result B → OnOk result C
on_ok_both (Ok u) f a b = f a b
on_ok_both (Err e) f a b = tt

single : {X : Type 0} (P : X → Type 0) (x : X) → P x → All P (x ∷ [])
single P x is = All-cons P x [] is (All-nil P)

module _ (result : Result (Unit {0}) AllocError) (old new : QueryEnd) (a b : Stands) where
  drawn : (x : Session) → old.session ≡ Some x → IsFree old → Draws x.query result old new a b → OnOk result (HasSession old new) → IsRegisteredAt (past b.seen) x.query → known_as new ≡ known_as old → IsPaged a old
      → TakesOn result (old ∷ []) (new ∷ []) a b
  drawn x is free d session known same paged =
      let number : numbers_of old ≡ x.query ∷ [] = ap (λ (o : Option Session). numbers_in o old.taken) is ∙ ap (numbers_in (Some x)) free in
      let now : numbers_of new ≡ x.query ∷ [] = holds_number x.query new.session new.taken d.holds in
      let it : (q : ℕ) → numbers_of new ≡ q ∷ [] → x.query ≡ q = λ q of. one_is x.query q (sym now ∙ of) in
      let did = map (take_deed x.query) d.more in
      let named = names_stay a b did d.went in
      record {
        did = did;
        went = d.went;
        only = All-map (IsTakeOf (numbers_of old ∷ [])) (take_deed x.query) d.more
            (all_of (λ (t : Told). IsTakeOf (numbers_of old ∷ []) (take_deed x.query t)) (λ t. subst (Contains (numbers_of old ∷ [])) number (Contains-push [] (numbers_of old))) d.more);
        numbers = ap (λ (n : List ℕ). n ∷ []) (now ∙ sym number);
        names = ap (λ (n : List ℕ × Option ℕ). n ∷ []) same;
        paged = single (IsPaged b) new (record {
          paged = λ q of. d.told ∙ ap (λ (l : List Told). l ++ d.more) (paged.paged x.query number) ∙ sym d.tells
              ∙ ap (λ (k : ℕ). pages_by a.names k (past b.seen)) (it q of) ∙ ap (λ (names : List ℕ). pages_by names q (past b.seen)) (sym named);
          known = λ q of. subst (IsRegisteredAt (past b.seen)) (it q of) known;
        });
        asked = on_ok_both result
            (λ (s : HasSession old new) (asked : (list_any (is_take x.query) did ≡ true) ⊎ (has_left x.query (past b.seen) ≡ true)).
            (single IsFree new s.1, single (IsAsked did b) new (λ q of. subst (λ (k : ℕ). (list_any (is_take k) did ≡ true) ⊎ (has_left k (past b.seen) ≡ true)) (it q of) asked)))
            session (asked_by x.query result d.more b d.asked);
      }

  -- one that may be asked on
  pub takes_drawn : (o : Option Session) → old.session ≡ o → IsFree old → IsSomeAnd o (λ x. Draws x.query result old new a b) → OnOk result (HasSession old new) → IsSomeAnd o (λ x. IsRegisteredAt (past b.seen) x.query)
      → known_as new ≡ known_as old → IsPaged a old → TakesOn result (old ∷ []) (new ∷ []) a b
  takes_drawn None is free draws session known same paged = absurd draws
  takes_drawn (Some x) is free draws session known same paged = drawn x is free draws session known same paged

-- one that has no session takes nothing
pub takes_no : (old : QueryEnd) (a : Stands) → old.session ≡ None → IsFree old → IsPaged a old → TakesOn (Ok tt) (old ∷ []) (old ∷ []) a a
takes_no old a none free paged =
    let number : numbers_of old ≡ [] = ap (λ (o : Option Session). numbers_in o old.taken) none ∙ ap (numbers_in None) free in
    record {
      did = [];
      went = went_none a;
      only = All-nil (IsTakeOf (numbers_of old ∷ []));
      numbers = refl;
      names = refl;
      paged = single (IsPaged a) old paged;
      asked = (single IsFree old free, single (IsAsked [] a) old (λ q of. absurd (no_one q (sym number ∙ of))));
    }

-- a session is that of a query that was seen registered
pub known_by : (query : QueryEnd) (s : Stands) (o : Option Session) → query.session ≡ o → (o ≡ None → ⊥) → IsFree query → IsPaged s query → IsSomeAnd o (λ x. IsRegisteredAt (past s.seen) x.query)
known_by query s None is some free paged = absurd (some refl)
known_by query s (Some x) is some free paged = paged.known x.query (ap (λ (o : Option Session). numbers_in o query.taken) is ∙ ap (numbers_in (Some x)) free)

-- ---- one query and then the others

or_any : (t x y : Bool) → (x ≡ true → y ≡ true) → (t || x) ≡ true → (t || y) ≡ true
or_any true x y next any = refl
or_any false x y next any = next any

any_left : (q : ℕ) (xs ys : List Deed) → list_any (is_take q) xs ≡ true → list_any (is_take q) (xs ++ ys) ≡ true
any_left q [] ys any = absurd cc
any_left q (x ∷ xs) ys any = or_any (is_take q x) (list_any (is_take q) xs) (list_any (is_take q) (xs ++ ys)) (any_left q xs ys) any

any_right : (q : ℕ) (xs ys : List Deed) → list_any (is_take q) ys ≡ true → list_any (is_take q) (xs ++ ys) ≡ true
any_right q [] ys any = any
any_right q (x ∷ xs) ys any = or_right (is_take q x) (list_any (is_take q) (xs ++ ys)) (any_right q xs ys any)

pub takes_none : (a : Stands) → TakesOn (Ok tt) [] [] a a
takes_none a = record {
  did = [];
  went = went_none a;
  only = All-nil (IsTakeOf []);
  numbers = refl;
  names = refl;
  paged = All-nil (IsPaged a);
  asked = (All-nil IsFree, All-nil (IsAsked [] a));
}

no_other : (n : List ℕ) (q : ℕ) → Contains (n ∷ []) (q ∷ []) → n ≡ q ∷ []
no_other n q (zero, below, is) = is
no_other n q (suc i, below, is) = absurd (omega (arith, below))

module _ (first now : QueryEnd) (rest : List QueryEnd) (a m : Stands) (apart : AreApart (numbers_of first ∷ map numbers_of rest)) (all : All (IsPaged a) (first ∷ rest)) where
  -- the others are as they were
  pub paged_rest : (result : Result (Unit {0}) AllocError) → TakesOn result (first ∷ []) (now ∷ []) a m → All (IsPaged m) rest
  paged_rest result takes =
      all_paged_stay a m takes.did takes.went rest
      (λ q there. other_takes (numbers_of first ∷ []) q takes.did takes.only (λ it. apart.0 q (no_other (numbers_of first) q it) there))
      (All-tail (IsPaged a) first rest all)

  pub takes_failed : (e : AllocError) → TakesOn (Err e) (first ∷ []) (now ∷ []) a m → TakesOn (Err e) (first ∷ rest) (now ∷ rest) a m
  takes_failed e takes = record {
    did = takes.did;
    went = takes.went;
    only = All-weaker (IsTakeOf (numbers_of first ∷ [])) (IsTakeOf (numbers_of first ∷ map numbers_of rest))
        (wider_take (numbers_of first ∷ []) (numbers_of first ∷ map numbers_of rest) (λ n there. Contains-append_left (numbers_of first ∷ []) (map numbers_of rest) n there)) takes.did takes.only;
    numbers = ap (λ (l : List (List ℕ)). l ++ map numbers_of rest) takes.numbers;
    names = ap (λ (l : List (List ℕ × Option ℕ)). l ++ map known_as rest) takes.names;
    paged = All-cons (IsPaged m) now rest (All-head (IsPaged m) now [] takes.paged) (paged_rest (Err e) takes);
    asked = tt;
  }

  pub takes_then : (u : Unit {0}) (result : Result (Unit {0}) AllocError) (news : List QueryEnd) (c : Stands) → TakesOn (Ok u) (first ∷ []) (now ∷ []) a m → TakesOn result rest news m c → TakesOn result (first ∷ rest) (now ∷ news) a c
  takes_then u result news c one others =
      let numbers = numbers_of first ∷ map numbers_of rest in
      let later : (q : ℕ) → numbers_of now ≡ q ∷ [] → All (λ (d : Deed). is_take q d ≡ false) others.did =
      λ q of. other_takes (map numbers_of rest) q others.did others.only (apart.0 q (heads (numbers_of now) (numbers_of first) one.numbers ∙ of)) in
      record {
        did = one.did ++ others.did;
        went = went_then a m c one.did others.did one.went others.went;
        only = All-append (IsTakeOf numbers) one.did others.did
            (All-weaker (IsTakeOf (numbers_of first ∷ [])) (IsTakeOf numbers) (wider_take (numbers_of first ∷ []) numbers (λ n there. Contains-append_left (numbers_of first ∷ []) (map numbers_of rest) n there)) one.did one.only)
            (All-weaker (IsTakeOf (map numbers_of rest)) (IsTakeOf numbers) (wider_take (map numbers_of rest) numbers (λ n there. Contains-append_right (numbers_of first ∷ []) (map numbers_of rest) n there)) others.did others.only);
        numbers = ap (λ (l : List (List ℕ)). l ++ map numbers_of news) one.numbers ∙ ap (λ (l : List (List ℕ)). numbers_of first ∷ l) others.numbers;
        names = ap (λ (l : List (List ℕ × Option ℕ)). l ++ map known_as news) one.names ∙ ap (λ (l : List (List ℕ × Option ℕ)). known_as first ∷ l) others.names;
        paged = All-cons (IsPaged c) now news (paged_stays m c others.did others.went now later (All-head (IsPaged m) now [] one.paged)) others.paged;
        asked = asked_then result others.asked;
      }
    where
      heads : (x y : List ℕ) → x ∷ [] ≡ y ∷ [] → y ≡ x
      heads x y e = cc

      asked_then : (r : Result (Unit {0}) AllocError) → OnOk r (All IsFree news × All (IsAsked others.did c) news) → OnOk r (All IsFree (now ∷ news) × All (IsAsked (one.did ++ others.did) c) (now ∷ news))
      asked_then (Err e) asked = tt
      asked_then (Ok v) asked = (
        All-cons IsFree now news (All-head IsFree now [] one.asked.0) asked.0,
        All-cons (IsAsked (one.did ++ others.did) c) now news
            (λ q of. first_asked q (All-head (IsAsked one.did m) now [] one.asked.1 q of))
            (All-weaker (IsAsked others.did c) (IsAsked (one.did ++ others.did) c) (λ x is q of. rest_asked q (is q of)) news asked.1),
      )
        where
          first_asked : (q : ℕ) → (list_any (is_take q) one.did ≡ true) ⊎ (has_left q (past m.seen) ≡ true) → (list_any (is_take q) (one.did ++ others.did) ≡ true) ⊎ (has_left q (past c.seen) ≡ true)
          first_asked q (inl taken) = inl (any_left q one.did others.did taken)
          first_asked q (inr left) = inr (left_went m c others.did others.went q left)

          rest_asked : (q : ℕ) → (list_any (is_take q) others.did ≡ true) ⊎ (has_left q (past c.seen) ≡ true) → (list_any (is_take q) (one.did ++ others.did) ≡ true) ⊎ (has_left q (past c.seen) ≡ true)
          rest_asked q (inl taken) = inl (any_right q one.did others.did taken)
          rest_asked q (inr left) = inr left

empty_ends : (queries : List Query) → length queries ≡ 0 → queries ≡ []
empty_ends [] none = refl
empty_ends (q ∷ queries) none = absurd (omega (arith, none))

pub takes_none_of : (queries : List Query) (a : Stands) → length queries ≡ 0 → TakesOn (Ok tt) (ends queries) (ends queries) a a
takes_none_of queries a none = rw (empty_ends queries none) (takes_none a)

pub is_none_by : {X : Type 0} (o : Option X) (b : Bool) → is_some o ≡ not b → b ≡ true → o ≡ None
is_none_by None b is none = refl
is_none_by (Some x) b is none = absurd (bad (is ∙ ap not none))
  where
    bad : true ≡ false → ⊥
    bad e = absurd cc
