-- Asking the columns of a part one by one.
use Rattle.std.proofs.Common.{◌≡◌, ℕ, zero, suc, ◌+◌, ◌-◌, ◌<◌, ◌≤◌, Bool, true, false, ◌&&◌, ◌||◌, List, [], ◌∷◌, ◌++◌, Some, length, map, take, drop, replicate, slice_get, slice_index_or, refl, ap, sym, ◌∙◌, arith}
use Rattle.std.specs.List.{list_all, list_any}
use Rattle.std.proofs.lemmas.List.{take_more, length-map}
use Rattle.bits_law.specs.Bitwise.{bitwise}
use Rattle.bits_law.specs.Keys.{answers, meets}
use Rattle.vast_value.specs.declared.cell.Cell.{Cell}
use Rattle.query_meaning.specs.declared.expr.Pick.{Pick}
use Rattle.event_history.specs.Events.{Event}
use Rattle.partition.specs.Asking.{so_far, window}
use Rattle.partition.proofs.PickLemmas.{and_left, and_right}
use Rattle.partition.specs.Columns.{Place, cell_in, column_cells, picks, some_column}

or_assoc : (a b c : Bool) → (a || (b || c)) ≡ ((a || b) || c)
or_assoc true b c = refl
or_assoc false b c = refl

or_false : (b : Bool) → (b || false) ≡ b
or_false true = refl
or_false false = refl

any_append : {X : Type 0} (f : X → Bool) (xs ys : List X) → list_any f (xs ++ ys) ≡ (list_any f xs || list_any f ys)
any_append f [] ys = refl
any_append f (x ∷ xs) ys = ap (λ (b : Bool). f x || b) (any_append f xs ys) ∙ or_assoc (f x) (list_any f xs) (list_any f ys)

pub bitwise_map : {X : Type 0} (f : Bool → Bool → Bool) (g h : X → Bool) (xs : List X) → bitwise f (map g xs) (map h xs) ≡ map (λ x. f (g x) (h x)) xs
bitwise_map f g h [] = refl
bitwise_map f g h (x ∷ xs) = ap (λ (bs : List Bool). f (g x) (h x) ∷ bs) (bitwise_map f g h xs)

pub map_same : {X : Type 0} (f g : X → Bool) (xs : List X) → ((x : X) → f x ≡ g x) → map f xs ≡ map g xs
map_same f g [] h = refl
map_same f g (x ∷ xs) h = ap (λ (b : Bool). b ∷ map f xs) (h x) ∙ ap (λ (bs : List Bool). g x ∷ bs) (map_same f g xs h)

answered : (test : Cell → Bool) (p : Place) (events : List Event) → answers test (column_cells p events) ≡ map (λ e. meets test (cell_in p e)) events
answered test p [] = refl
answered test p (e ∷ es) = ap (λ (bs : List Bool). meets test (cell_in p e) ∷ bs) (answered test p es)

one_more : (pick : Pick) (test : Cell → Bool) (places : List Place) (i : ℕ) (p : Place) (e : Event) → i < length places → p ≡ slice_index_or places i p
    → some_column pick test (take (i + 1) places) e ≡ (some_column pick test (take i places) e || (picks pick p && meets test (cell_in p e)))
one_more pick test places i p e there found =
    ap (λ (ps : List Place). some_column pick test ps e) (take_more places i p there ∙ ap (λ (q : Place). take i places ++ q ∷ []) (sym found))
    ∙ any_append (λ q. picks pick q && meets test (cell_in q e)) (take i places) (p ∷ [])
    ∙ ap (λ (b : Bool). some_column pick test (take i places) e || b) (or_false (picks pick p && meets test (cell_in p e)))

pub column_passed : (pick : Pick) (test : Cell → Bool) (places : List Place) (i : ℕ) (p : Place) (events : List Event) (all : List Bool) → i < length places → p ≡ slice_index_or places i p
    → picks pick p ≡ false → all ≡ map (some_column pick test (take i places)) events → all ≡ map (some_column pick test (take (i + 1) places)) events
column_passed pick test places i p events all there found not_picked before =
    before
    ∙ map_same (some_column pick test (take i places)) (some_column pick test (take (i + 1) places)) events
    (λ e. sym (one_more pick test places i p e there found
    ∙ ap (λ (b : Bool). some_column pick test (take i places) e || (b && meets test (cell_in p e))) not_picked
    ∙ or_false (some_column pick test (take i places) e)))

pub column_asked : (pick : Pick) (test : Cell → Bool) (places : List Place) (i : ℕ) (p : Place) (events : List Event) (all asked both : List Bool) → i < length places → p ≡ slice_index_or places i p
    → picks pick p ≡ true → all ≡ map (some_column pick test (take i places)) events → asked ≡ answers test (column_cells p events) → both ≡ bitwise ◌||◌ all asked
    → both ≡ map (some_column pick test (take (i + 1) places)) events
column_asked pick test places i p events all asked both there found picked before answer joined =
    joined
    ∙ ap (λ (bs : List Bool). bitwise ◌||◌ bs asked) before
    ∙ ap (λ (bs : List Bool). bitwise ◌||◌ (map (some_column pick test (take i places)) events) bs) (answer ∙ answered test p events)
    ∙ bitwise_map ◌||◌ (some_column pick test (take i places)) (λ e. meets test (cell_in p e)) events
    ∙ map_same (λ e. some_column pick test (take i places) e || meets test (cell_in p e)) (some_column pick test (take (i + 1) places)) events
    (λ e. sym (one_more pick test places i p e there found
    ∙ ap (λ (b : Bool). some_column pick test (take i places) e || (b && meets test (cell_in p e))) picked))

pub none_asked : (pick : Pick) (test : Cell → Bool) (places : List Place) (events : List Event) (rows : ℕ) → rows ≡ length events
    → replicate rows false ≡ map (some_column pick test (take 0 places)) events
none_asked pick test places [] rows e = ap (λ (n : ℕ). replicate n false) e
none_asked pick test places (x ∷ xs) rows e =
    ap (λ (n : ℕ). replicate n false) e ∙ ap (λ (bs : List Bool). false ∷ bs) (none_asked pick test places xs (length xs) refl)

pub same_length : {X : Type 0} (f g : X → Bool) (xs : List X) (left right : List Bool) → left ≡ map f xs → right ≡ map g xs → length left ≡ length right
same_length {X} f g xs left right e h =
    ap (λ (cs : List Bool). length cs) e ∙ length-map xs f ∙ sym (ap (λ (cs : List Bool). length cs) h ∙ length-map xs g)

pub asked_map : (test : Cell → Bool) (p : Place) (events : List Event) (asked : List Bool) → asked ≡ answers test (column_cells p events)
    → asked ≡ map (λ e. meets test (cell_in p e)) events
asked_map test p events asked e = e ∙ answered test p events

-- Spans.
pub window_runs : (from rows all : ℕ) → from + rows ≤ all → (replicate from false ++ replicate rows true) ++ replicate (all - from - rows) false ≡ window from rows all
window_runs zero zero zero h = refl
window_runs zero zero (suc all) h =
    let e : suc all - 0 - 0 ≡ suc (all - 0 - 0) = omega arith in
    ap (λ (n : ℕ). replicate n false) e ∙ ap (λ (bs : List Bool). false ∷ bs) (window_runs zero zero all (omega arith))
window_runs zero (suc rows) zero h = absurd (omega (arith, h))
window_runs zero (suc rows) (suc all) h =
    let e : suc all - 0 - suc rows ≡ all - 0 - rows = omega arith in
    ap (λ (n : ℕ). true ∷ (replicate rows true ++ replicate n false)) e ∙ ap (λ (bs : List Bool). true ∷ bs) (window_runs zero rows all (omega (arith, h)))
window_runs (suc from) rows zero h = absurd (omega (arith, h))
window_runs (suc from) rows (suc all) h =
    let e : suc all - suc from - rows ≡ all - from - rows = omega arith in
    ap (λ (n : ℕ). false ∷ ((replicate from false ++ replicate rows true) ++ replicate n false)) e ∙ ap (λ (bs : List Bool). false ∷ bs) (window_runs from rows all (omega (arith, h)))

pub so_far_none : (test : Event → Bool) (es : List Event) → replicate (length es) false ≡ so_far test 0 es
so_far_none test [] = refl
so_far_none test (e ∷ es) = ap (λ (bs : List Bool). false ∷ bs) (so_far_none test es)

pub so_far_all : (test : Event → Bool) (es : List Event) → so_far test (length es) es ≡ map test es
so_far_all test [] = refl
so_far_all test (e ∷ es) = ap (λ (bs : List Bool). test e ∷ bs) (so_far_all test es)

pub so_far_length : (test : Event → Bool) (n : ℕ) (es : List Event) → length (so_far test n es) ≡ length es
so_far_length test n [] = refl
so_far_length test (suc n) (e ∷ es) = ap suc (so_far_length test n es)
so_far_length test zero (e ∷ es) = ap suc (so_far_length test zero es)

and_no : (b : Bool) → (b && false) ≡ false
and_no true = refl
and_no false = refl

and_yes : (b : Bool) → (b && true) ≡ b
and_yes true = refl
and_yes false = refl

nothing_added : (f : Event → Bool) (e : Event) (es : List Event) → false ∷ so_far f (0 + 0) es ≡ so_far f (0 + 0) (e ∷ es)
nothing_added f e es = refl

pub span_added : (f h : Event → Bool) (from rows : ℕ) (es : List Event) → from + rows ≤ length es
    → ((i : ℕ) (e : Event) → i < rows → slice_get (drop from es) i ≡ Some e → h e ≡ f e)
    → bitwise ◌||◌ (so_far f from es) (bitwise ◌&&◌ (map h es) (window from rows (length es))) ≡ so_far f (from + rows) es
span_added f h from rows [] room same = refl
span_added f h (suc from) rows (e ∷ es) room same =
    let n : suc from + rows ≡ suc (from + rows) = omega arith in
    ap (λ (b : Bool). (f e || b) ∷ bitwise ◌||◌ (so_far f from es) (bitwise ◌&&◌ (map h es) (window from rows (length es)))) (and_no (h e))
    ∙ ap (λ (b : Bool). b ∷ bitwise ◌||◌ (so_far f from es) (bitwise ◌&&◌ (map h es) (window from rows (length es)))) (or_false (f e))
    ∙ ap (λ (bs : List Bool). f e ∷ bs) (span_added f h from rows es (omega (arith, room)) same)
    ∙ sym (ap (λ (m : ℕ). so_far f m (e ∷ es)) n)
span_added f h zero (suc rows) (e ∷ es) room same =
    let n : 0 + suc rows ≡ suc (0 + rows) = omega arith in
    ap (λ (b : Bool). b ∷ bitwise ◌||◌ (so_far f zero es) (bitwise ◌&&◌ (map h es) (window zero rows (length es)))) (and_yes (h e) ∙ same 0 e (omega arith) refl)
    ∙ ap (λ (bs : List Bool). f e ∷ bs) (span_added f h zero rows es (omega (arith, room)) (λ i x k got. same (suc i) x (omega arith) got))
    ∙ sym (ap (λ (m : ℕ). so_far f m (e ∷ es)) n)
span_added f h zero zero (e ∷ es) room same =
    ap (λ (b : Bool). b ∷ bitwise ◌||◌ (so_far f zero es) (bitwise ◌&&◌ (map h es) (window zero zero (length es)))) (and_no (h e))
    ∙ ap (λ (bs : List Bool). false ∷ bs) (span_added f h zero zero es (omega arith) (λ i x k got. absurd (omega (arith, k))))
    ∙ nothing_added f e es

pub map_on : (keep f g : Event → Bool) (es : List Event) → list_all keep es ≡ true → ((e : Event) → keep e ≡ true → f e ≡ g e) → map f es ≡ map g es
map_on keep f g [] all same = refl
map_on keep f g (e ∷ es) all same =
    ap (λ (b : Bool). b ∷ map f es) (same e (and_left (keep e) (list_all keep es) all))
    ∙ ap (λ (bs : List Bool). g e ∷ bs) (map_on keep f g es (and_right (keep e) (list_all keep es) all) same)

pub run_same : (f : Event → Bool) (held : Bool) (n : ℕ) (es : List Event) → n ≤ length es → ((i : ℕ) (e : Event) → i < n → slice_get es i ≡ Some e → f e ≡ held)
    → map f (take n es) ≡ replicate n held
run_same f held zero es h same = refl
run_same f held (suc n) [] h same = absurd (omega (arith, h))
run_same f held (suc n) (e ∷ es) h same =
    ap (λ (b : Bool). b ∷ map f (take n es)) (same 0 e (omega arith) refl)
    ∙ ap (λ (bs : List Bool). held ∷ bs) (run_same f held n es (omega (arith, h)) (λ i x k got. same (suc i) x (omega arith) got))

pub constant_map : (held : Bool) (es : List Event) (rows : ℕ) → rows ≡ length es → replicate rows held ≡ map (λ e. held) es
constant_map held [] rows e = ap (λ (n : ℕ). replicate n held) e
constant_map held (x ∷ xs) rows e = ap (λ (n : ℕ). replicate n held) e ∙ ap (λ (bs : List Bool). held ∷ bs) (constant_map held xs (length xs) refl)
