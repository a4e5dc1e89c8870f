-- Which event of an id is in an answer.
use Rattle.std.proofs.Common.{◌≡◌, ℕ, zero, suc, ◌+◌, ◌-◌, ◌<◌, ◌≤◌, ◌==◌, Bool, true, false, not, ◌&&◌, ◌||◌, cond, if◌then◌else◌, List, [], ◌∷◌, Option, length, take, drop, filter, slice_get, refl, ap, sym, ◌∙◌, arith, nat_le, nat_lt, inl, inr}
use Rattle.std.proofs.lemmas.List.{length-drop, length-take}
use Rattle.std.proofs.lemmas.Bool.Decides.{eqb_tells, leb_tells, nat_tests}
use Rattle.event_history.specs.declared.entry.Entry.{Entry}
use Rattle.event_history.specs.declared.entry.Limits.{Limits}
use Rattle.event_history.specs.Delivered.{delivered, is_below}
use Rattle.event_history.specs.Events.{Event, answer, chosen, matches, numbered}
use Rattle.event_history.specs.Histories.{event_count, events}
use Rattle.event_history.specs.Laws.{TellsOnce, is_due, told_as}
use Rattle.event_history.specs.Modes.{past_begin}
use Rattle.event_history.specs.Queries.{Registration, position, query_count}
use Rattle.event_history.proofs.AnswerLemmas.{drops_run, le_false, le_true, lt_false, lt_true}
use Rattle.event_history.proofs.TellingLemmas.{Standing, standing_of}

abbrev has_id : ℕ → ℕ × Event → Bool
has_id id x = x.0 == id

same_id : (n id : ℕ) → n ≡ id → (n == id) ≡ true
same_id n id h = grind (arith, nat_tests)

other_id : (n id : ℕ) → (n ≡ id → ⊥) → (n == id) ≡ false
other_id n id h = elim (eqb_tells n id) as (λ _. (n == id) ≡ false) [ inl k ↦ absurd (h k.1) | inr k ↦ k.0 ]

none_of : (t : Event → Bool) (id n : ℕ) (xs : List Event) → ((i : ℕ) → n ≤ i → i < n + length xs → i ≡ id → ⊥)
    → filter (has_id id) (filter (λ (x : ℕ × Event). t x.1) (numbered n xs)) ≡ []
none_of t id n xs h = drops_run (has_id id) (λ x. t x.1) n xs (λ i x low high. other_id i id (h i low high))

head_of : (t : Event → Bool) (b : Bool) (id n : ℕ) (x : Event) (rest : List (ℕ × Event)) → n ≡ id → filter (has_id id) rest ≡ []
    → filter (has_id id) (cond b ((n, x) ∷ rest) rest) ≡ cond b ((id, x) ∷ []) []
head_of t true id n x rest same none =
    ap (λ (b : Bool). cond b ((n, x) ∷ filter (has_id id) rest) (filter (has_id id) rest)) (same_id n id same)
    ∙ ap (λ (xs : List (ℕ × Event)). (n, x) ∷ xs) none
    ∙ ap (λ (m : ℕ). (m, x) ∷ []) same
head_of t false id n x rest same none = none

head_not : (b : Bool) (id n : ℕ) (x : Event) (rest : List (ℕ × Event)) → (n ≡ id → ⊥)
    → filter (has_id id) (cond b ((n, x) ∷ rest) rest) ≡ filter (has_id id) rest
head_not true id n x rest other =
    ap (λ (b : Bool). cond b ((n, x) ∷ filter (has_id id) rest) (filter (has_id id) rest)) (other_id n id other)
head_not false id n x rest other = refl

run_of : (t : Event → Bool) (id n k : ℕ) (xs : List Event) → id ≡ n + k
    → filter (has_id id) (filter (λ (x : ℕ × Event). t x.1) (numbered n xs)) ≡ told_as t id (slice_get xs k)
run_of t id n k [] e = refl
run_of t id n zero (x ∷ xs) e =
    head_of t (t x) id n x (filter (λ (x : ℕ × Event). t x.1) (numbered (n + 1) xs)) (omega arith)
    (none_of t id (n + 1) xs (λ i low high same. omega arith))
run_of t id n (suc k) (x ∷ xs) e =
    head_not (t x) id n x (filter (λ (x : ℕ × Event). t x.1) (numbered (n + 1) xs)) (λ same. omega arith)
    ∙ run_of t id (n + 1) k xs (omega arith)

get_drop : (xs : List Event) (a k i : ℕ) → i ≡ a + k → slice_get (drop a xs) k ≡ slice_get xs i
get_drop xs zero k i e =
    let same : k ≡ i = omega arith in
    ap (λ (n : ℕ). slice_get xs n) same
get_drop [] (suc a) k i e = refl
get_drop (x ∷ xs) (suc a) k zero e = absurd (omega arith)
get_drop (x ∷ xs) (suc a) k (suc i) e = get_drop xs a k i (omega arith)

get_take : (xs : List Event) (b i : ℕ) → i < b → slice_get (take b xs) i ≡ slice_get xs i
get_take xs zero i h = absurd (omega arith)
get_take [] (suc b) i h = refl
get_take (x ∷ xs) (suc b) zero h = refl
get_take (x ∷ xs) (suc b) (suc i) h = get_take xs b i (omega arith)

abbrev within : ℕ → ℕ → ℕ → Bool
within a b id = nat_le a id && nat_lt id b

and_false : (b : Bool) → (b && false) ≡ false
and_false true = refl
and_false false = refl

chosen_at : (t : Event → Bool) (a b id : ℕ) (xs : List Event)
    → filter (has_id id) (chosen t a b xs) ≡ (if within a b id then told_as t id (slice_get xs id) else [])
chosen_at t a b id xs =
    let out : (within a b id ≡ false) → ((i : ℕ) → a ≤ i → i < a + length (drop a (take b xs)) → i ≡ id → ⊥)
    → filter (has_id id) (chosen t a b xs) ≡ (if within a b id then told_as t id (slice_get xs id) else []) =
    λ e h. none_of t id a (drop a (take b xs)) h ∙ sym (ap (λ (c : Bool). if c then told_as t id (slice_get xs id) else []) e) in
    elim (leb_tells a id) as (λ _. filter (has_id id) (chosen t a b xs) ≡ (if within a b id then told_as t id (slice_get xs id) else [])) [
      | inl low ↦ elim (leb_tells b id) as (λ _. filter (has_id id) (chosen t a b xs) ≡ (if within a b id then told_as t id (slice_get xs id) else [])) [
        | inl high ↦ out (ap (λ (c : Bool). nat_le a id && c) (lt_false id b high.1) ∙ and_false (nat_le a id))
            (λ i from to same. omega (arith, low.1, high.1, length-drop a (take b xs), length-take b xs))
        | inr high ↦
            run_of t id a (id - a) (drop a (take b xs)) (omega (arith, low.1))
            ∙ ap (λ (o : Option Event). told_as t id o)
            (get_drop (take b xs) a (id - a) id (omega (arith, low.1)) ∙ get_take xs b id high.1)
            ∙ sym (ap (λ (c : Bool). if c then told_as t id (slice_get xs id) else [])
            (ap (λ (c : Bool). c && nat_lt id b) (le_true a id low.1) ∙ lt_true id b high.1))
      ]
      | inr low ↦ out (ap (λ (c : Bool). c && nat_lt id b) (le_false a id low.1)) (λ i from to same. omega (arith, low.1))
    ]

-- a test that passes only where another one does, behind that one
inner : (p q : ℕ × Event → Bool) (a b : Bool) (x : ℕ × Event) (xs ys : List (ℕ × Event)) → p x ≡ a → (a ≡ true → b ≡ true) → filter p ys ≡ filter p xs
    → filter p (cond b (x ∷ ys) ys) ≡ cond a (x ∷ filter p xs) (filter p xs)
inner p q a true x xs ys is only e =
    ap (λ (c : Bool). cond c (x ∷ filter p ys) (filter p ys)) is ∙ ap (λ (zs : List (ℕ × Event)). cond a (x ∷ zs) zs) e
inner p q true false x xs ys is only e = absurd (let no : false ≡ true = only refl in cc)
inner p q false false x xs ys is only e = e

behind : (p q : ℕ × Event → Bool) (xs : List (ℕ × Event)) → ((x : ℕ × Event) → p x ≡ true → q x ≡ true) → filter p (filter q xs) ≡ filter p xs
behind p q [] only = refl
behind p q (x ∷ xs) only = inner p q (p x) (q x) x xs (filter q xs) refl (only x) (behind p q xs only)

id_of : (n id : ℕ) → (n == id) ≡ true → n ≡ id
id_of n id e = grind (arith, nat_tests)

id_below : (id from : ℕ) (x : ℕ × Event) → id < from → (x.0 == id) ≡ true → nat_lt x.0 from ≡ true
id_below id from x h e = lt_true x.0 from (omega (arith, id_of x.0 id e))

id_above : (id from : ℕ) (x : ℕ × Event) → from ≤ id → (x.0 == id) ≡ true → not (nat_lt x.0 from) ≡ true
id_above id from x h e = ap not (lt_false x.0 from (omega (arith, id_of x.0 id e)))

or_false : (b : Bool) → (b || false) ≡ b
or_false true = refl
or_false false = refl

module _ (g : Registration) (at : ℕ × ℕ) (id : ℕ) (all : List Event) (told : List (ℕ × Event)) where
  in_past : id < g.from → filter (is_below g.from) told ≡ answer g.expr all (past_begin g.mode g.from) at.0
      → filter (has_id id) told ≡ (if is_due g at id then told_as (matches g.expr) id (slice_get all id) else [])
  in_past low past =
      sym (behind (has_id id) (is_below g.from) told (λ x. id_below id g.from x low))
      ∙ ap (λ (xs : List (ℕ × Event)). filter (has_id id) xs) past
      ∙ chosen_at (matches g.expr) (past_begin g.mode g.from) at.0 id all
      ∙ sym (ap (λ (c : Bool). if c then told_as (matches g.expr) id (slice_get all id) else [])
      (ap (λ (c : Bool). within (past_begin g.mode g.from) at.0 id || (c && nat_lt id at.1)) (le_false g.from id low)
      ∙ or_false (within (past_begin g.mode g.from) at.0 id)))

  in_live : g.from ≤ id → at.0 ≤ g.from → filter (λ (x : ℕ × Event). not (is_below g.from x)) told ≡ answer g.expr all g.from at.1
      → filter (has_id id) told ≡ (if is_due g at id then told_as (matches g.expr) id (slice_get all id) else [])
  in_live high short live =
      sym (behind (has_id id) (λ (x : ℕ × Event). not (is_below g.from x)) told (λ x. id_above id g.from x high))
      ∙ ap (λ (xs : List (ℕ × Event)). filter (has_id id) xs) live
      ∙ chosen_at (matches g.expr) g.from at.1 id all
      ∙ sym (ap (λ (c : Bool). if c then told_as (matches g.expr) id (slice_get all id) else [])
      (ap (λ (c : Bool). (nat_le (past_begin g.mode g.from) id && c) || within g.from at.1 id) (lt_false id at.0 (omega arith))
      ∙ ap (λ (c : Bool). c || within g.from at.1 id) (and_false (nat_le (past_begin g.mode g.from) id))))

pub once : (limits : Limits) (before : List Entry) (q : ℕ) → TellsOnce limits before q
once limits before q legal g is id =
    let s : Standing q (event_count before) (query_count before) (events before) (position q before) (delivered q before) g = standing_of limits before q g legal is in
    elim (leb_tells g.from id) as
    (λ _. filter (λ (x : ℕ × Event). x.0 == id) (delivered q before)
    ≡ (if is_due g (position q before) id then told_as (matches g.expr) id (slice_get (events before) id) else [])) [
      | inl high ↦ in_live g (position q before) id (events before) (delivered q before) high.1 s.within s.live
      | inr low ↦ in_past g (position q before) id (events before) (delivered q before) low.1 s.past
    ]
