-- Asking a part's spans one behind the other.
use Rattle.std.proofs.Common.{◌≡◌, ℕ, zero, suc, ◌+◌, ◌-◌, ◌<◌, ◌≤◌, Bool, true, false, ◌&&◌, ◌||◌, List, [], ◌∷◌, ◌++◌, Option, None, Some, length, map, take, drop, replicate, slice_get, slice_index_or, refl, ap, sym, ◌∙◌, subst, arith, append-nil, take-add, if◌then◌else◌, nat_eq}
use Rattle.std.specs.List.{list_all, list_any}
use Rattle.std.proofs.lemmas.List.{drop_more, drop-drop, drop_all, length-append, length-drop, length-map, length-replicate, map-append, take-append-drop}
use Rattle.bits_law.specs.Bitwise.{bitwise}
use Rattle.bits_law.specs.Keys.{meets}
use Rattle.vast_value.specs.declared.cell.Cell.{Cell}
use Rattle.vast_value.specs.declared.cell.Cell.TheVariants as cell
use Rattle.vast_value.specs.declared.kind.Elem.TheVariants as elem
use Rattle.vast_value.specs.declared.value.Value.TheVariants.{Text}
use Rattle.vast_value.specs.Headings.{Field}
use Rattle.query_meaning.specs.declared.expr.Test.{Test}
use Rattle.query_meaning.specs.declared.expr.Pick.{Pick}
use Rattle.query_meaning.specs.declared.expr.Pick.TheVariants.{EventTime, Named, OfKind, TypeName}
use Rattle.query_meaning.specs.Meaning.{chosen, is_of}
use Rattle.query_meaning.specs.Sure.{maybe_by, maybe_test, sure_by, sure_test}
use Rattle.query_meaning.specs.SureCells.{maybe_cell, sure_cell}
use Rattle.vast_value.specs.declared.kind.Elem.{Elem}
use Rattle.query_meaning.specs.Relations.{meets as cell_meets}
use Rattle.event_history.specs.Events.{Event}
use Rattle.partition.specs.declared.index.Span.{Span}
use Rattle.partition.specs.Asking.{asked_time, maybe_bits, path_meets, so_far, sure_bits, time_of, window}
use Rattle.partition.specs.Columns.{Place, are_distinct, cell_among, cell_in, is_covered, or_unset, some_column, place_of, time_among, time_in, time_place}
use Rattle.partition.specs.Indexes.{AreSpans, InSpan, is_sound, time_at}
use Rattle.partition.proofs.AskLemmas.{map_same, run_same, span_added}
use Rattle.partition.proofs.HeadingLemmas.{time_is}
use Rattle.partition.proofs.PickLemmas.{Reads, and_left, and_right, bytes_self, kind_columns, named_columns, reads_all}
use Rattle.std.proofs.lemmas.Bool.Decides.{nat_tests}

next_span : (places : List Place) (spans : List Span) (i : ℕ) (s : Span) (es : List Event) → i < length spans → s ≡ slice_index_or spans i s
    → AreSpans places (drop i spans) es → AreSpans places (s ∷ drop (i + 1) spans) es
next_span places spans i s es there found are =
    subst (λ (ss : List Span). AreSpans places ss es) (drop_more spans i s there ∙ ap (λ (x : Span). x ∷ drop (i + 1) spans) (sym found)) are

no_span : (places : List Place) (spans : List Span) (i : ℕ) (es : List Event) → length spans ≤ i → AreSpans places (drop i spans) es → es ≡ []
no_span places spans i es h are = subst (λ (ss : List Span). AreSpans places ss es) (drop_all i spans h) are

pub record Told (f : Event → Bool) (places : List Place) (spans : List Span) (i : ℕ) (events : List Event) (bits : List Bool) : Type 0 where
  pub told : bits ≡ map f (take (length bits) events)
  pub within : length bits ≤ length events
  pub rest : AreSpans places (drop i spans) (drop (length bits) events)

pub path_step : (test : Test) (places : List Place) (spans : List Span) (i : ℕ) (s : Span) (events : List Event) (bits new : List Bool) (held : Bool) → i < length spans → s ≡ slice_index_or spans i s
    → Told (path_meets test) places spans i events bits → held ≡ cell_meets test.rel test.literal (cell.One (Text s.path)) → new ≡ bits ++ replicate s.rows held
    → Told (path_meets test) places spans (i + 1) events new
path_step test places spans i s events bits new held there found t is e =
    let k : ℕ = length bits in
    let next = next_span places spans i s (drop k events) there found t.rest in
    let count : length new ≡ k + s.rows =
    ap (λ (bs : List Bool). length bs) e ∙ length-append bits (replicate s.rows held) ∙ ap (λ (n : ℕ). k + n) (length-replicate s.rows held) in
    let room : s.rows ≤ length events - k = subst (λ (n : ℕ). s.rows ≤ n) (length-drop k events) next.0 in
    record {
      told =
          e
          ∙ ap (λ (bs : List Bool). bs ++ replicate s.rows held) t.told
          ∙ ap (λ (bs : List Bool). map (path_meets test) (take k events) ++ bs)
          (sym (run_same (path_meets test) held s.rows (drop k events) next.0
          (λ j x h got. ap (λ (p : List ℕ). cell_meets test.rel test.literal (cell.One (Text p))) (next.1 j x h got).path ∙ sym is)))
          ∙ sym (map-append (path_meets test) (take k events) (take s.rows (drop k events)))
          ∙ ap (λ (es : List Event). map (path_meets test) es) (sym (take-add k s.rows events))
          ∙ ap (λ (n : ℕ). map (path_meets test) (take n events)) (sym count);
      within = omega (arith, count, t.within);
      rest = subst (λ (es : List Event). AreSpans places (drop (i + 1) spans) es)
          (drop-drop s.rows k events ∙ ap (λ (n : ℕ). drop n events) (sym count)) next.2;
    }

pub path_end : (f : Event → Bool) (places : List Place) (spans : List Span) (i : ℕ) (events : List Event) (bits : List Bool) → length spans ≤ i
    → Told f places spans i events bits → bits ≡ map f events
path_end f places spans i events bits h t =
    t.told ∙ ap (λ (es : List Event). map f es)
    (sym (append-nil (take (length bits) events))
    ∙ ap (λ (es : List Event). take (length bits) events ++ es) (sym (no_span places spans i (drop (length bits) events) h t.rest))
    ∙ take-append-drop (length bits) events)

-- Times.
eq_of : (a b : ℕ) → nat_eq a b ≡ true → a ≡ b
eq_of a b e = grind (arith, nat_tests)

time_here : (e : Event) (p : Place) (f : Field) (fs : List Field) (x : Cell) (xs : List Cell) (b : Bool) → cell_among f.name f.kind e.heading.fields e.row ≡ Some x
    → (time_among e.heading.path fs ≡ Some p → (y : Cell) × (cell_in p e ≡ Some y))
    → (if b then Some (place_of e.heading.path f) else time_among e.heading.path fs) ≡ Some p → (y : Cell) × (cell_in p e ≡ Some y)
time_here e p f fs x xs true read later is =
    let same : place_of e.heading.path f ≡ p = cc in (
      x,
      ap (λ (q : Place). cell_in q e) (sym same)
          ∙ ap (λ (b : Bool). if b then cell_among f.name f.kind e.heading.fields e.row else None) (bytes_self e.heading.path) ∙ read,
    )
time_here e p f fs x xs false read later is = later is

time_cell : (e : Event) (p : Place) (fs : List Field) (xs : List Cell) → length fs ≡ length xs → Reads e.heading.fields e.row fs xs
    → time_among e.heading.path fs ≡ Some p → (x : Cell) × (cell_in p e ≡ Some x)
time_cell e p [] xs same reads is = absurd cc
time_cell e p (f ∷ fs) [] same reads is = absurd (omega (arith, same))
time_cell e p (f ∷ fs) (x ∷ xs) same reads is = time_here e p f fs x xs (is_of elem.Time f.kind) reads.0 (time_cell e p fs xs (omega (arith, same)) reads.1) is

sound_time : (e : Event) (p : Place) → is_sound e ≡ true → time_place e.heading ≡ Some p → (x : Cell) × (cell_in p e ≡ Some x)
sound_time e p sound is =
    time_cell e p e.heading.fields e.row (eq_of (length e.heading.fields) (length e.row) (and_right (are_distinct e.heading.fields) (nat_eq (length e.heading.fields) (length e.row)) sound))
    (reads_all e.heading.fields e.row (and_left (are_distinct e.heading.fields) (nat_eq (length e.heading.fields) (length e.row)) sound)) is

asked_is : (test : Cell → Bool) (e : Event) (o : Option Place) → is_sound e ≡ true → time_place e.heading ≡ o → asked_time test o e ≡ test (time_in o e)
asked_is test e None sound is = refl
asked_is test e (Some p) sound is =
    let found = sound_time e p sound is in
    let x : Cell = found.0 in
    ap (λ (c : Option Cell). meets test c) found.1 ∙ sym (ap (λ (c : Option Cell). test (or_unset c)) found.1)

time_same : (test : Cell → Bool) (places : List Place) (s : Span) (e : Event) → is_sound e ≡ true → InSpan places s e → asked_time test (time_at places s.time) e ≡ time_of test e
time_same test places s e sound here =
    asked_is test e (time_at places s.time) sound here.time
    ∙ ap (λ (o : Option Place). test (time_in o e)) (sym here.time)
    ∙ sym (ap test (time_is e (and_left (are_distinct e.heading.fields) (nat_eq (length e.heading.fields) (length e.row)) sound)
    (eq_of (length e.heading.fields) (length e.row) (and_right (are_distinct e.heading.fields) (nat_eq (length e.heading.fields) (length e.row)) sound))))

pub all_got : (keep : Event → Bool) (es : List Event) (k i : ℕ) (e : Event) → list_all keep es ≡ true → slice_get (drop k es) i ≡ Some e → keep e ≡ true
all_got keep [] zero i e all got = absurd cc
all_got keep [] (suc k) i e all got = absurd cc
all_got keep (x ∷ xs) zero zero e all got =
    ap keep (let same : e ≡ x = cc in same) ∙ and_left (keep x) (list_all keep xs) all
all_got keep (x ∷ xs) zero (suc i) e all got = all_got keep xs 0 i e (and_right (keep x) (list_all keep xs) all) got
all_got keep (x ∷ xs) (suc k) i e all got = all_got keep xs k i e (and_right (keep x) (list_all keep xs) all) got

pub window_length : (from rows all : ℕ) → length (window from rows all) ≡ all
window_length from rows zero = refl
window_length (suc from) rows (suc all) = ap suc (window_length from rows all)
window_length zero (suc rows) (suc all) = ap suc (window_length zero rows all)
window_length zero zero (suc all) = ap suc (window_length zero zero all)

pub bitwise_length : (f : Bool → Bool → Bool) (xs ys : List Bool) → length xs ≡ length ys → length (bitwise f xs ys) ≡ length xs
bitwise_length f [] ys e = refl
bitwise_length f (x ∷ xs) [] e = absurd (omega (arith, e))
bitwise_length f (x ∷ xs) (y ∷ ys) e = ap suc (bitwise_length f xs ys (omega (arith, e)))

pub record Timed (places : List Place) (spans : List Span) (i from : ℕ) (events : List Event) : Type 0 where
  pub within : from ≤ length events
  pub rest : AreSpans places (drop i spans) (drop from events)

pub time_room : (places : List Place) (spans : List Span) (i from : ℕ) (s : Span) (events : List Event) → i < length spans → s ≡ slice_index_or spans i s → Timed places spans i from events
    → from + s.rows ≤ length events
time_room places spans i from s events there found t =
    let next = next_span places spans i s (drop from events) there found t.rest in
    let room : s.rows ≤ length events - from = subst (λ (n : ℕ). s.rows ≤ n) (length-drop from events) next.0 in
    omega (arith, t.within)

pub time_goes_on : (places : List Place) (spans : List Span) (i from : ℕ) (s : Span) (events : List Event) → i < length spans → s ≡ slice_index_or spans i s → Timed places spans i from events
    → Timed places spans (i + 1) (from + s.rows) events
time_goes_on places spans i from s events there found t =
    let next = next_span places spans i s (drop from events) there found t.rest in
    record {
      within = time_room places spans i from s events there found t;
      rest = subst (λ (es : List Event). AreSpans places (drop (i + 1) spans) es) (drop-drop s.rows from events) next.2;
    }

pub time_step : (test : Cell → Bool) (places : List Place) (spans : List Span) (i from : ℕ) (s : Span) (events : List Event) (all asked here new : List Bool) → i < length spans
    → s ≡ slice_index_or spans i s → Timed places spans i from events → list_all is_sound events ≡ true
    → all ≡ so_far (time_of test) from events → asked ≡ map (asked_time test (time_at places s.time)) events
    → here ≡ bitwise ◌&&◌ asked (window from s.rows (length asked)) → new ≡ bitwise ◌||◌ all here
    → new ≡ so_far (time_of test) (from + s.rows) events
time_step test places spans i from s events all asked here new there found t sound before is masked joined =
    let next = next_span places spans i s (drop from events) there found t.rest in
    let count : length asked ≡ length events = ap (λ (bs : List Bool). length bs) is ∙ length-map events (asked_time test (time_at places s.time)) in
    joined
    ∙ ap (λ (bs : List Bool). bitwise ◌||◌ bs here) before
    ∙ ap (λ (bs : List Bool). bitwise ◌||◌ (so_far (time_of test) from events) bs)
    (masked
    ∙ ap (λ (n : ℕ). bitwise ◌&&◌ asked (window from s.rows n)) count
    ∙ ap (λ (bs : List Bool). bitwise ◌&&◌ bs (window from s.rows (length events))) is)
    ∙ span_added (time_of test) (asked_time test (time_at places s.time)) from s.rows events (time_room places spans i from s events there found t)
    (λ j e h got. time_same test places s e (all_got is_sound events from j e sound got) (next.1 j e h got))

pub here_length : (from rows : ℕ) (asked here : List Bool) → here ≡ bitwise ◌&&◌ asked (window from rows (length asked)) → length here ≡ length asked
here_length from rows asked here e =
    ap (λ (bs : List Bool). length bs) e ∙ bitwise_length ◌&&◌ asked (window from rows (length asked)) (sym (window_length from rows (length asked)))

pub time_end : (places : List Place) (spans : List Span) (i from : ℕ) (events : List Event) → length spans ≤ i → Timed places spans i from events → from ≡ length events
time_end places spans i from events h t =
    let none : drop from events ≡ [] = no_span places spans i (drop from events) h t.rest in
    let count : length events - from ≡ 0 = sym (length-drop from events) ∙ ap (λ (es : List Event). length es) none in
    omega (arith, t.within)

-- What is known of a test, by its pick.
map_sound : (f h : Event → Bool) (places : List Place) (es : List Event) → list_all (is_covered places) es ≡ true → list_all is_sound es ≡ true
    → ((e : Event) → is_covered places e ≡ true → are_distinct e.heading.fields ≡ true → f e ≡ h e) → map f es ≡ map h es
map_sound f h places [] covers sound same = refl
map_sound f h places (e ∷ es) covers sound same =
    let here : is_sound e ≡ true = and_left (is_sound e) (list_all is_sound es) sound in
    ap (λ (b : Bool). b ∷ map f es)
    (same e (and_left (is_covered places e) (list_all (is_covered places) es) covers)
    (and_left (are_distinct e.heading.fields) (nat_eq (length e.heading.fields) (length e.row)) here))
    ∙ ap (λ (bs : List Bool). h e ∷ bs)
    (map_sound f h places es (and_right (is_covered places e) (list_all (is_covered places) es) covers) (and_right (is_sound e) (list_all is_sound es) sound) same)

alone : (b : Bool) → b ≡ (b || false)
alone true = refl
alone false = refl

pub path_known : (test : Test) (es : List Event) → test.pick ≡ TypeName → (map (path_meets test) es ≡ sure_bits test es) × (map (path_meets test) es ≡ maybe_bits test es)
path_known test es is = (
  map_same (path_meets test) (λ e. sure_test test e.heading e.row) es
      (λ e. alone (path_meets test e) ∙ sym (ap (λ (p : Pick). list_any (sure_by p test.rel test.literal) (chosen p e.heading e.row)) is)),
  map_same (path_meets test) (λ e. maybe_test test e.heading e.row) es
      (λ e. alone (path_meets test e) ∙ sym (ap (λ (p : Pick). list_any (maybe_by p test.rel test.literal) (chosen p e.heading e.row)) is)),
)

pub time_known : (test : Test) (es : List Event) → test.pick ≡ EventTime
    → (map (time_of (sure_cell test.rel test.literal)) es ≡ sure_bits test es) × (map (time_of (maybe_cell test.rel test.literal)) es ≡ maybe_bits test es)
time_known test es is = (
  map_same (time_of (sure_cell test.rel test.literal)) (λ e. sure_test test e.heading e.row) es
      (λ e. alone (time_of (sure_cell test.rel test.literal) e) ∙ sym (ap (λ (p : Pick). list_any (sure_by p test.rel test.literal) (chosen p e.heading e.row)) is)),
  map_same (time_of (maybe_cell test.rel test.literal)) (λ e. maybe_test test e.heading e.row) es
      (λ e. alone (time_of (maybe_cell test.rel test.literal) e) ∙ sym (ap (λ (p : Pick). list_any (maybe_by p test.rel test.literal) (chosen p e.heading e.row)) is)),
)

pub kind_known : (test : Test) (k : Elem) (places : List Place) (es : List Event) → test.pick ≡ OfKind k → list_all (is_covered places) es ≡ true → list_all is_sound es ≡ true
    → (map (some_column test.pick (sure_cell test.rel test.literal) places) es ≡ sure_bits test es)
    × (map (some_column test.pick (maybe_cell test.rel test.literal) places) es ≡ maybe_bits test es)
kind_known test k places es is covers sound = (
  map_sound (some_column test.pick (sure_cell test.rel test.literal) places) (λ e. sure_test test e.heading e.row) places es covers sound
      (λ e covered distinct.
      ap (λ (p : Pick). some_column p (sure_cell test.rel test.literal) places e) is
      ∙ kind_columns k (sure_cell test.rel test.literal) places e distinct covered
      ∙ sym (ap (λ (p : Pick). list_any (sure_by p test.rel test.literal) (chosen p e.heading e.row)) is)),
  map_sound (some_column test.pick (maybe_cell test.rel test.literal) places) (λ e. maybe_test test e.heading e.row) places es covers sound
      (λ e covered distinct.
      ap (λ (p : Pick). some_column p (maybe_cell test.rel test.literal) places e) is
      ∙ kind_columns k (maybe_cell test.rel test.literal) places e distinct covered
      ∙ sym (ap (λ (p : Pick). list_any (maybe_by p test.rel test.literal) (chosen p e.heading e.row)) is)),
)

pub name_known : (test : Test) (name : List ℕ) (places : List Place) (es : List Event) → test.pick ≡ Named name → list_all (is_covered places) es ≡ true → list_all is_sound es ≡ true
    → (map (some_column test.pick (sure_cell test.rel test.literal) places) es ≡ sure_bits test es)
    × (map (some_column test.pick (maybe_cell test.rel test.literal) places) es ≡ maybe_bits test es)
name_known test name places es is covers sound = (
  map_sound (some_column test.pick (sure_cell test.rel test.literal) places) (λ e. sure_test test e.heading e.row) places es covers sound
      (λ e covered distinct.
      ap (λ (p : Pick). some_column p (sure_cell test.rel test.literal) places e) is
      ∙ named_columns name (sure_cell test.rel test.literal) places e distinct covered
      ∙ sym (ap (λ (p : Pick). list_any (sure_by p test.rel test.literal) (chosen p e.heading e.row)) is)),
  map_sound (some_column test.pick (maybe_cell test.rel test.literal) places) (λ e. maybe_test test e.heading e.row) places es covers sound
      (λ e covered distinct.
      ap (λ (p : Pick). some_column p (maybe_cell test.rel test.literal) places e) is
      ∙ named_columns name (maybe_cell test.rel test.literal) places e distinct covered
      ∙ sym (ap (λ (p : Pick). list_any (maybe_by p test.rel test.literal) (chosen p e.heading e.row)) is)),
)
