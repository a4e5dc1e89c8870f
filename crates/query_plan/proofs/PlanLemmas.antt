-- Going over an expression's members one by one.
use Rattle.std.proofs.Common.{◌≡◌, ℕ, zero, suc, ◌+◌, ◌<◌, ◌≤◌, Bool, true, false, not, ◌&&◌, ◌||◌, List, [], ◌∷◌, ◌++◌, length, map, take, replicate, slice_index_or, Some, refl, ap, sym, subst, ◌∙◌, arith}
use Rattle.std.specs.List.{list_all, list_any}
use Rattle.std.proofs.lemmas.List.{length-map, map-append, take_all}
use Rattle.std.proofs.lemmas.List.Folds.{list_all-append, list_any-append}
use Rattle.bits_law.specs.Bitwise.{IsClearFrom, bitwise}
use Rattle.event_history.specs.Events.{Event}
use Rattle.query_meaning.specs.declared.expr.Expr.{Expr}
use Rattle.query_meaning.specs.declared.expr.Expr.TheFolds.{fold-roll-Expr}
use Rattle.query_meaning.specs.declared.expr.Expr.TheOpen as level
use Rattle.query_meaning.specs.declared.expr.Expr.TheVariants as expr
use Rattle.query_meaning.specs.declared.expr.Expr.TheVariants.{And, Not, Or}
use Rattle.query_meaning.proofs.SureLemmas.{bounded}
use Rattle.query_meaning.specs.Sure.{Known, known, level_known}
use Rattle.query_plan.specs.Candidates.{maybe_bits, sure_bits}

bitwise_map : {X : Type 0} (f : Bool → Bool → Bool) (g h : X → Bool) (xs : List X) → bitwise f (map g xs) (map h xs) ≡ map (λ x. f (g x) (h x)) xs
bitwise_map f g h [] = refl
bitwise_map f g h (x ∷ xs) = ap (λ (bs : List Bool). f (g x) (h x) ∷ bs) (bitwise_map f g h xs)

map_same : {X : Type 0} (f g : X → Bool) (xs : List X) → ((x : X) → f x ≡ g x) → map f xs ≡ map g xs
map_same f g [] h = refl
map_same f g (x ∷ xs) h = ap (λ (b : Bool). b ∷ map f xs) (h x) ∙ ap (λ (bs : List Bool). g x ∷ bs) (map_same f g xs h)

not_map : (g : Event → Bool) (events : List Event) → map not (map g events) ≡ map (λ e. not (g e)) events
not_map g [] = refl
not_map g (e ∷ es) = ap (λ (bs : List Bool). not (g e) ∷ bs) (not_map g es)

map_not : (g : Event → Bool) (bits : List Bool) (events : List Event) → bits ≡ map g events → map not bits ≡ map (λ e. not (g e)) events
map_not g bits events e = ap (λ (bs : List Bool). map not bs) e ∙ not_map g events

take_suc : {X : Type 0} (xs : List X) (i : ℕ) (x : X) → i < length xs → x ≡ slice_index_or xs i x → take (suc i) xs ≡ take i xs ++ x ∷ []
take_suc [] i x h e = absurd (omega (arith, h))
take_suc (y ∷ ys) zero x h e = ap (λ (z : _). z ∷ []) (sym e)
take_suc (y ∷ ys) (suc i) x h e = ap (λ (zs : List _). y ∷ zs) (take_suc ys i x (omega (arith, h)) e)

take_next : {X : Type 0} (xs : List X) (i : ℕ) (x : X) → i < length xs → x ≡ slice_index_or xs i x → take (i + 1) xs ≡ take i xs ++ x ∷ []
take_next xs i x h e =
    let next : i + 1 ≡ suc i = omega arith in
    ap (λ (n : ℕ). take n xs) next ∙ take_suc xs i x h e

and_true : (b : Bool) → (b && true) ≡ b
and_true true = refl
and_true false = refl

or_false : (b : Bool) → (b || false) ≡ b
or_false true = refl
or_false false = refl

-- an answer of the first members
abbrev pub AreAll : (Known → Bool) → List Expr → List Event → List Bool → Type 0
AreAll f members events bits = bits ≡ map (λ e. list_all f (map (known e.heading e.row) members)) events

abbrev pub AreAny : (Known → Bool) → List Expr → List Event → List Bool → Type 0
AreAny f members events bits = bits ≡ map (λ e. list_any f (map (known e.heading e.row) members)) events

-- an answer of one member
abbrev pub AreOne : (Known → Bool) → Expr → List Event → List Bool → Type 0
AreOne f member events bits = bits ≡ map (λ e. f (known e.heading e.row member)) events

pub constant : (b : Bool) (n : ℕ) (events : List Event) → n ≡ length events → replicate n b ≡ map (λ e. b) events
constant b zero [] e = refl
constant b zero (x ∷ xs) e = absurd (omega (arith, e))
constant b (suc n) [] e = absurd (omega (arith, e))
constant b (suc n) (x ∷ xs) e = ap (λ (bs : List Bool). b ∷ bs) (constant b n xs (omega (arith, e)))

pub all_more : (f : Known → Bool) (members : List Expr) (i : ℕ) (m : Expr) (events : List Event) (all more new : List Bool) → i < length members → m ≡ slice_index_or members i m
    → AreAll f (take i members) events all → AreOne f m events more → new ≡ bitwise ◌&&◌ all more → AreAll f (take (i + 1) members) events new
all_more f members i m events all more new h found a one is =
    is ∙ ap (λ (bs : List Bool). bitwise ◌&&◌ bs more) a ∙ ap (λ (bs : List Bool). bitwise ◌&&◌ (map (λ e. list_all f (map (known e.heading e.row) (take i members))) events) bs) one
    ∙ bitwise_map ◌&&◌ (λ e. list_all f (map (known e.heading e.row) (take i members))) (λ e. f (known e.heading e.row m)) events
    ∙ map_same (λ e. list_all f (map (known e.heading e.row) (take i members)) && f (known e.heading e.row m)) (λ e. list_all f (map (known e.heading e.row) (take (i + 1) members))) events
    (λ e. sym (ap (λ (ms : List Expr). list_all f (map (known e.heading e.row) ms)) (take_next members i m h found)
    ∙ ap (λ (ks : List Known). list_all f ks) (map-append (known e.heading e.row) (take i members) (m ∷ []))
    ∙ list_all-append f (map (known e.heading e.row) (take i members)) (known e.heading e.row m ∷ [])
    ∙ ap (λ (b : Bool). list_all f (map (known e.heading e.row) (take i members)) && b) (and_true (f (known e.heading e.row m)))))

pub any_more : (f : Known → Bool) (members : List Expr) (i : ℕ) (m : Expr) (events : List Event) (all more new : List Bool) → i < length members → m ≡ slice_index_or members i m
    → AreAny f (take i members) events all → AreOne f m events more → new ≡ bitwise ◌||◌ all more → AreAny f (take (i + 1) members) events new
any_more f members i m events all more new h found a one is =
    is ∙ ap (λ (bs : List Bool). bitwise ◌||◌ bs more) a ∙ ap (λ (bs : List Bool). bitwise ◌||◌ (map (λ e. list_any f (map (known e.heading e.row) (take i members))) events) bs) one
    ∙ bitwise_map ◌||◌ (λ e. list_any f (map (known e.heading e.row) (take i members))) (λ e. f (known e.heading e.row m)) events
    ∙ map_same (λ e. list_any f (map (known e.heading e.row) (take i members)) || f (known e.heading e.row m)) (λ e. list_any f (map (known e.heading e.row) (take (i + 1) members))) events
    (λ e. sym (ap (λ (ms : List Expr). list_any f (map (known e.heading e.row) ms)) (take_next members i m h found)
    ∙ ap (λ (ks : List Known). list_any f ks) (map-append (known e.heading e.row) (take i members) (m ∷ []))
    ∙ list_any-append f (map (known e.heading e.row) (take i members)) (known e.heading e.row m ∷ [])
    ∙ ap (λ (b : Bool). list_any f (map (known e.heading e.row) (take i members)) || b) (or_false (f (known e.heading e.row m)))))

pub even : {X : Type 0} (g h : X → Bool) (a b : List Bool) (xs : List X) → a ≡ map g xs → b ≡ map h xs → length a ≡ length b
even g h a b xs e f =
    ap (λ (bs : List Bool). length bs) e ∙ length-map xs g ∙ sym (ap (λ (bs : List Bool). length bs) f ∙ length-map xs h)

-- What is known of an expression goes by its members.
known_not : (m : Expr) (e : Event) → known e.heading e.row (Not m) ≡ level_known e.heading e.row (level.Not (known e.heading e.row m))
known_not m e = sym (ap (known e.heading e.row) (expr.rolls-Not m)) ∙ fold-roll-Expr Known (level_known e.heading e.row) (level.Not m)

known_and : (ms : List Expr) (e : Event) → known e.heading e.row (And ms) ≡ level_known e.heading e.row (level.And (map (known e.heading e.row) ms))
known_and ms e = sym (ap (known e.heading e.row) (expr.rolls-And ms)) ∙ fold-roll-Expr Known (level_known e.heading e.row) (level.And ms)

known_or : (ms : List Expr) (e : Event) → known e.heading e.row (Or ms) ≡ level_known e.heading e.row (level.Or (map (known e.heading e.row) ms))
known_or ms e = sym (ap (known e.heading e.row) (expr.rolls-Or ms)) ∙ fold-roll-Expr Known (level_known e.heading e.row) (level.Or ms)

pub none_sure : (x m : Expr) (events : List Event) (bits : List Bool) → x ≡ Not m → bits ≡ map not (maybe_bits m events) → bits ≡ sure_bits x events
none_sure x m events bits is e =
    e ∙ map_not (λ v. (known v.heading v.row m).maybe) (maybe_bits m events) events refl
    ∙ map_same (λ v. not (known v.heading v.row m).maybe) (λ v. (known v.heading v.row x).sure) events
    (λ v. sym (ap (λ (y : Expr). (known v.heading v.row y).sure) is ∙ ap (λ (k : Known). k.sure) (known_not m v)))

pub none_maybe : (x m : Expr) (events : List Event) (bits : List Bool) → x ≡ Not m → bits ≡ map not (sure_bits m events) → bits ≡ maybe_bits x events
none_maybe x m events bits is e =
    e ∙ map_not (λ v. (known v.heading v.row m).sure) (sure_bits m events) events refl
    ∙ map_same (λ v. not (known v.heading v.row m).sure) (λ v. (known v.heading v.row x).maybe) events
    (λ v. sym (ap (λ (y : Expr). (known v.heading v.row y).maybe) is ∙ ap (λ (k : Known). k.maybe) (known_not m v)))

pub all_sure : (x : Expr) (ms : List Expr) (events : List Event) (bits : List Bool) → x ≡ And ms → AreAll (λ k. k.sure) ms events bits → bits ≡ sure_bits x events
all_sure x ms events bits is e =
    e ∙ map_same (λ v. list_all (λ k. k.sure) (map (known v.heading v.row) ms)) (λ v. (known v.heading v.row x).sure) events
    (λ v. sym (ap (λ (y : Expr). (known v.heading v.row y).sure) is ∙ ap (λ (k : Known). k.sure) (known_and ms v)))

pub all_maybe : (x : Expr) (ms : List Expr) (events : List Event) (bits : List Bool) → x ≡ And ms → AreAll (λ k. k.maybe) ms events bits → bits ≡ maybe_bits x events
all_maybe x ms events bits is e =
    e ∙ map_same (λ v. list_all (λ k. k.maybe) (map (known v.heading v.row) ms)) (λ v. (known v.heading v.row x).maybe) events
    (λ v. sym (ap (λ (y : Expr). (known v.heading v.row y).maybe) is ∙ ap (λ (k : Known). k.maybe) (known_and ms v)))

pub any_sure : (x : Expr) (ms : List Expr) (events : List Event) (bits : List Bool) → x ≡ Or ms → AreAny (λ k. k.sure) ms events bits → bits ≡ sure_bits x events
any_sure x ms events bits is e =
    e ∙ map_same (λ v. list_any (λ k. k.sure) (map (known v.heading v.row) ms)) (λ v. (known v.heading v.row x).sure) events
    (λ v. sym (ap (λ (y : Expr). (known v.heading v.row y).sure) is ∙ ap (λ (k : Known). k.sure) (known_or ms v)))

pub any_maybe : (x : Expr) (ms : List Expr) (events : List Event) (bits : List Bool) → x ≡ Or ms → AreAny (λ k. k.maybe) ms events bits → bits ≡ maybe_bits x events
any_maybe x ms events bits is e =
    e ∙ map_same (λ v. list_any (λ k. k.maybe) (map (known v.heading v.row) ms)) (λ v. (known v.heading v.row x).maybe) events
    (λ v. sym (ap (λ (y : Expr). (known v.heading v.row y).maybe) is ∙ ap (λ (k : Known). k.maybe) (known_or ms v)))

pub all_taken : (f : Known → Bool) (ms : List Expr) (n : ℕ) (events : List Event) (bits : List Bool) → length ms ≤ n → AreAll f (take n ms) events bits → AreAll f ms events bits
all_taken f ms n events bits h a = a ∙ ap (λ (xs : List Expr). map (λ e. list_all f (map (known e.heading e.row) xs)) events) (take_all n ms h)

pub any_taken : (f : Known → Bool) (ms : List Expr) (n : ℕ) (events : List Event) (bits : List Bool) → length ms ≤ n → AreAny f (take n ms) events bits → AreAny f ms events bits
any_taken f ms n events bits h a = a ∙ ap (λ (xs : List Expr). map (λ e. list_any f (map (known e.heading e.row) xs)) events) (take_all n ms h)

-- Where no event may match the first members, none does all.
bool_false : (b : Bool) → (b ≡ true → ⊥) → b ≡ false
bool_false true h = absurd (h refl)
bool_false false h = refl

clear_same : (g s f : Event → Bool) (events : List Event) → IsClearFrom (map g events) 0 → ((e : Event) → g e ≡ false → s e ≡ f e) → map s events ≡ map f events
clear_same g s f [] h same = refl
clear_same g s f (e ∷ es) h same =
    ap (λ (b : Bool). b ∷ map s es) (same e (bool_false (g e) (λ t. h 0 (omega arith) (ap (λ (b : Bool). Some b) t))))
    ∙ ap (λ (bs : List Bool). f e ∷ bs) (clear_same g s f es (λ k le. h (suc k) (omega arith)) same)

and_left : (a b : Bool) → (a && b) ≡ true → a ≡ true
and_left true b e = refl
and_left false b e = absurd cc

and_right : (a b : Bool) → (a && b) ≡ true → b ≡ true
and_right true b e = e
and_right false b e = absurd cc

all_front : (f : Known → Bool) (k : Expr → Known) (ms : List Expr) (i : ℕ) → list_all f (map k ms) ≡ true → list_all f (map k (take i ms)) ≡ true
all_front f k ms zero h = refl
all_front f k [] (suc i) h = refl
all_front f k (m ∷ ms) (suc i) h =
    ap (λ (b : Bool). b && list_all f (map k (take i ms))) (and_left (f (k m)) (list_all f (map k ms)) h)
    ∙ all_front f k ms i (and_right (f (k m)) (list_all f (map k ms)) h)

true_false : (b : Bool) → b ≡ true → b ≡ false → ⊥
true_false b t f = let unmet : true ≡ false = sym t ∙ f in absurd cc

sure_false : (x : Expr) (e : Event) → (known e.heading e.row x).maybe ≡ false → (known e.heading e.row x).sure ≡ false
sure_false x e unmet =
    let b = bounded e.heading e.row x in
    bool_false (known e.heading e.row x).sure (λ t. true_false (known e.heading e.row x).maybe (b.holds_maybe (b.sure_holds t)) unmet)

front_false : (x : Expr) (ms : List Expr) (i : ℕ) (e : Event) → x ≡ And ms → list_all (λ k. k.maybe) (map (known e.heading e.row) (take i ms)) ≡ false → (known e.heading e.row x).maybe ≡ false
front_false x ms i e is unmet =
    ap (λ (y : Expr). (known e.heading e.row y).maybe) is ∙ ap (λ (k : Known). k.maybe) (known_and ms e)
    ∙ bool_false (list_all (λ k. k.maybe) (map (known e.heading e.row) ms))
    (λ t. true_false (list_all (λ k. k.maybe) (map (known e.heading e.row) (take i ms))) (all_front (λ k. k.maybe) (known e.heading e.row) ms i t) unmet)

pub clear_maybe : (x : Expr) (ms : List Expr) (i : ℕ) (events : List Event) (maybe_rows : List Bool) → x ≡ And ms → AreAll (λ k. k.maybe) (take i ms) events maybe_rows → IsClearFrom maybe_rows 0
    → maybe_rows ≡ maybe_bits x events
clear_maybe x ms i events maybe_rows is a clear =
    let g = λ (e : Event). list_all (λ k. k.maybe) (map (known e.heading e.row) (take i ms)) in
    a ∙ clear_same g g (λ e. (known e.heading e.row x).maybe) events (subst (λ (bs : List Bool). IsClearFrom bs 0) a clear)
    (λ e unmet. unmet ∙ sym (front_false x ms i e is unmet))

pub clear_sure : (x : Expr) (ms : List Expr) (i : ℕ) (events : List Event) (sure_rows maybe_rows : List Bool) → x ≡ And ms → AreAll (λ k. k.sure) (take i ms) events sure_rows
    → AreAll (λ k. k.maybe) (take i ms) events maybe_rows → IsClearFrom maybe_rows 0 → sure_rows ≡ sure_bits x events
clear_sure x ms i events sure_rows maybe_rows is s a clear =
    let g = λ (e : Event). list_all (λ k. k.maybe) (map (known e.heading e.row) (take i ms)) in
    s ∙ clear_same g (λ e. list_all (λ k. k.sure) (map (known e.heading e.row) (take i ms))) (λ e. (known e.heading e.row x).sure) events
    (subst (λ (bs : List Bool). IsClearFrom bs 0) a clear)
    (λ e unmet.
    sym (ap (λ (k : Known). k.sure) (known_and (take i ms) e))
    ∙ sure_false (And (take i ms)) e (ap (λ (k : Known). k.maybe) (known_and (take i ms) e) ∙ unmet)
    ∙ sym (sure_false x e (front_false x ms i e is unmet)))
