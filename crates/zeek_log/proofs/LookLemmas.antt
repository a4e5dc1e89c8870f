-- Cells that were looked at, and those that want no look, make a line a row.
use Rattle.std.proofs.Common.{◌≡◌, ℕ, zero, suc, ◌+◌, ◌-◌, ◌<◌, ◌≤◌, Bool, true, false, cond, List, [], ◌∷◌, ◌++◌, length, take, drop, get_or, map, refl, ap, sym, subst, arith, add-one}
use Rattle.std.specs.Prelude.{IsSome, ◌==◌}
use Rattle.std.specs.List.{position_or_len}
use Rattle.vast_value.specs.declared.column.Column.{Column}
use Rattle.vast_value.specs.declared.kind.Elem.TheVariants as elem
use Rattle.vast_value.specs.declared.kind.Kind.{Kind}
use Rattle.vast_value.specs.declared.kind.Kind.TheVariants as kind
use Rattle.plain_cells.specs.Readable.{IsReadable}
use Rattle.vast_value.specs.Headings.{field_of}
use Rattle.value_reading.specs.declared.marks.Marks.{Marks}
use Rattle.value_reading.specs.Reading.{cell_read}
use Rattle.plain_cells.specs.Places.{CutsLine, places_of}
use Rattle.zeek_log.specs.declared.looked.Look.{Look}
use Rattle.zeek_log.specs.Lines.{is_newline}
use Rattle.zeek_log.specs.declared.looked.Form.TheVariants.{Number, Port, Address, Seconds, Truth}
use Rattle.zeek_log.specs.Looks.{form_of, is_of_texts, looks_from}
use Rattle.zeek_log.specs.Plain.{AreInOrder, AreRead, cut_before, line_end, start_of}
use Rattle.zeek_log.proofs.PlainLemmas.{end_is, order_at, place_at, start_kept, texts_readable, within_line}
use Rattle.std.proofs.lemmas.List.{drop_all, get_or-take, length-take-le}

-- ---- places follow one another

order_sooner : (from count : ℕ) (ps : List ℕ) → AreInOrder (from + 1) count ps → AreInOrder from count ps
order_sooner from count [] order = tt
order_sooner from count (to ∷ more) order = (omega (arith, order.0), order.1, order.2)

pub places_in_order : (p : ℕ → Bool) (from end : ℕ) (xs : List ℕ) → end ≡ from + length xs
    → AreInOrder from end (places_of p from xs ++ end ∷ [])
places_in_order p from end [] is = (omega arith, omega arith, tt)
places_in_order p from end (x ∷ xs) is =
    let more : AreInOrder (from + 1) end (places_of p (from + 1) xs ++ end ∷ []) =
    places_in_order p (from + 1) end xs (omega arith) in
    elim (p x) as
    (λ t. AreInOrder from end (cond t (from ∷ places_of p (from + 1) xs) (places_of p (from + 1) xs) ++ end ∷ [])) [
      | true ↦ (omega arith, omega arith, more)
      | false ↦ order_sooner from end (places_of p (from + 1) xs ++ end ∷ []) more
    ]

-- ---- forms

pub number_form : (raw : List ℕ) → IsReadable (kind.One elem.Count) raw → IsReadable (kind.One elem.Int) raw
    → (k : Kind) → form_of k ≡ Number → IsReadable k raw
number_form raw count int (kind.One elem.Count) is = count
number_form raw count int (kind.One elem.Int) is = int
number_form raw count int _ is = cc

pub port_form : (raw : List ℕ) → IsReadable (kind.One elem.Port) raw → (k : Kind) → form_of k ≡ Port → IsReadable k raw
port_form raw port (kind.One elem.Port) is = port
port_form raw port _ is = cc

pub address_form : (raw : List ℕ) → IsReadable (kind.One elem.Addr) raw → (k : Kind) → form_of k ≡ Address
    → IsReadable k raw
address_form raw address (kind.One elem.Addr) is = address
address_form raw address _ is = cc

pub seconds_form : (raw : List ℕ) → IsReadable (kind.One elem.Time) raw → IsReadable (kind.One elem.Span) raw
    → (k : Kind) → form_of k ≡ Seconds → IsReadable k raw
seconds_form raw time span (kind.One elem.Time) is = time
seconds_form raw time span (kind.One elem.Span) is = span
seconds_form raw time span _ is = cc

pub truth_form : (raw : List ℕ) → IsReadable (kind.One elem.Bool) raw → (k : Kind) → form_of k ≡ Truth
    → IsReadable k raw
truth_form raw truth (kind.One elem.Bool) is = truth
truth_form raw truth _ is = cc

-- ---- looks

abbrev pub IsSeen : Marks → List ℕ → List ℕ → Look → Type 0
IsSeen marks text places look =
    (k : Kind) → form_of k ≡ look.form
    → IsSome (cell_read marks k (take (get_or places look.column 0 - start_of places look.column) (drop (start_of places look.column) text)))

abbrev pub AreSeen : Marks → List ℕ → List ℕ → List Look → Type 0
AreSeen marks text places [] = Unit {0}
AreSeen marks text places (look ∷ looks) = IsSeen marks text places look × AreSeen marks text places looks

one_below : (n : ℕ) (rest : List Look) (look d : Look) (bound : ℕ) (t : Bool) (at : ℕ) → look.column < bound
    → ((k : ℕ) → k < length rest → (get_or rest k d).column < bound) → at < length (cond t rest (look ∷ rest))
    → (get_or (cond t rest (look ∷ rest)) at d).column < bound
one_below n rest look d bound true at this more below = more at below
one_below n rest look d bound false zero this more below = this
one_below n rest look d bound false (suc at) this more below = more at (omega arith)

-- a look is at one of the columns
pub look_below : (columns : List Column) (n at : ℕ) (d : Look) → at < length (looks_from n columns)
    → (get_or (looks_from n columns) at d).column < n + length columns
look_below [] n at d below = absurd (omega arith)
look_below (c ∷ cs) n at d below =
    one_below n (looks_from (n + 1) cs) (record { column = n; form = form_of c.kind }) d (n + suc (length cs))
    (is_of_texts c.kind) at (omega arith)
    (λ k inside. omega (arith, look_below cs (n + 1) k d inside)) below

look_or_texts : (marks : Marks) (text places : List ℕ) (at : ℕ) (c : Column) (cs : List Column) (t : Bool)
    → is_of_texts c.kind ≡ t
    → AreSeen marks text places (cond t (looks_from (at + 1) cs) (record { column = at; form = form_of c.kind } ∷ looks_from (at + 1) cs))
    → IsSome (cell_read marks c.kind (take (get_or places at 0 - start_of places at) (drop (start_of places at) text))) × AreSeen marks text places (looks_from (at + 1) cs)
look_or_texts marks text places at c cs true is seen =
    (texts_readable c.kind (take (get_or places at 0 - start_of places at) (drop (start_of places at) text)) is marks, seen)
look_or_texts marks text places at c cs false is seen = (seen.0 c.kind refl, seen.1)

pub seen_read : (marks : Marks) (text places : List ℕ) (n count : ℕ) (columns : List Column) (at : ℕ)
    → at + length columns ≡ n → n ≤ length places
    → AreInOrder (start_of places at) count (drop at (take n places))
    → AreSeen marks text places (looks_from at columns)
    → AreRead marks (map field_of columns) (cut_before (drop at (take n places)) (start_of places at) (take count text))
seen_read marks text places n count [] at same few order seen = tt
seen_read marks text places n count (c ∷ cs) at same few order seen =
    let to : ℕ = get_or places at 0 in
    let from : ℕ = start_of places at in
    let left : List ℕ = drop (at + 1) (take n places) in
    let first : drop at (take n places) ≡ to ∷ left = place_at places n at to (omega (arith, same)) few refl in
    let ordered : AreInOrder from count (to ∷ left) = subst (λ (ps : List ℕ). AreInOrder from count ps) first order in
    let next : start_of places (at + 1) ≡ to + 1 = ap (start_of places) (add-one at) in
    let parts = look_or_texts marks text places at c cs (is_of_texts c.kind) refl seen in
    let rest : AreRead marks (map field_of cs) (cut_before left (to + 1) (take count text)) =
    subst (λ (f : ℕ). AreRead marks (map field_of cs) (cut_before left f (take count text))) next
    (seen_read marks text places n count cs (at + 1) (omega (arith, same)) few (subst (λ (f : ℕ). AreInOrder f count left) (sym next) ordered.2) parts.1) in
    subst (λ (ps : List ℕ). AreRead marks (map field_of (c ∷ cs)) (cut_before ps from (take count text))) (sym first)
    (subst (λ (r : List ℕ). IsSome (cell_read marks c.kind r)) (sym (within_line text from to count ordered.0 ordered.1)) parts.0, rest)

-- where the cell of a column stands
pub column_bounds : (places : List ℕ) (n count column : ℕ) → AreInOrder 0 count (take n places) → column < n
    → n ≤ length places
    → (start_of places column ≤ get_or places column 0) × (get_or places column 0 ≤ count)
column_bounds places n count column order below few =
    let both = order_at (take n places) 0 count column order (omega (arith, length-take-le n places few)) in
    let last = get_or-take n places column 0 below in
    let start = start_kept places n column below in
    (omega (arith, both.0, last, start), omega (arith, both.1, last))

abbrev pub no_look : Look
no_look = record { column = 0; form = Number }

-- where the cell of a look stands
pub look_stands : (columns : List Column) (looks : List Look) (places : List ℕ) (count at : ℕ) (d : Look)
    → looks ≡ looks_from 0 columns → at < length looks
    → length columns ≤ length places → AreInOrder 0 count (take (length columns) places)
    → ((get_or looks at d).column < length places) × (start_of places (get_or looks at d).column ≤ get_or places (get_or looks at d).column 0)
    × (get_or places (get_or looks at d).column 0 ≤ count)
look_stands columns looks places count at d are below few order =
    let inside : at < length (looks_from 0 columns) = subst (λ (ls : List Look). at < length ls) are below in
    let column : (get_or looks at d).column < length columns =
    subst (λ (ls : List Look). (get_or ls at d).column < length columns) (sym are)
    (omega (arith, look_below columns 0 at d inside)) in
    let both = column_bounds places (length columns) count (get_or looks at d).column order column few in
    (omega (arith, column, few), both.0, both.1)

-- all looks were seen
pub all_seen : (marks : Marks) (text places : List ℕ) (count at : ℕ) (columns : List Column) (looks : List Look)
    → looks ≡ looks_from 0 columns
    → length looks ≤ at → length columns ≤ length places → AreInOrder 0 count (take (length columns) places)
    → (AreSeen marks text places (drop at looks) → AreSeen marks text places looks)
    → AreRead marks (map field_of columns) (cut_before (take (length columns) places) 0 (take count text))
all_seen marks text places count at columns looks are past few order seen =
    let none : AreSeen marks text places (drop at looks) =
    subst (λ (ls : List Look). AreSeen marks text places ls) (sym (drop_all at looks past)) tt in
    seen_read marks text places (length columns) count columns 0 (omega arith) few order
    (subst (λ (ls : List Look). AreSeen marks text places ls) are (seen none))

-- the places of a line follow one another up to its newline
pub line_in_order : (separator : ℕ) (text places : List ℕ) (count : ℕ) → CutsLine separator text places count
    → AreInOrder 0 (line_end places count) (take count places)
line_in_order separator text places count cuts =
    let end : ℕ = position_or_len is_newline text in
    let order : AreInOrder 0 end (places_of (λ b. b == separator) 0 (take end text) ++ end ∷ []) =
    places_in_order (λ b. b == separator) 0 end (take end text)
    (omega (arith, length-take-le end text (omega (arith, cuts.newline)))) in
    subst (λ (e : ℕ). AreInOrder 0 e (take count places)) (sym (end_is separator text places count cuts))
    (subst (λ (ps : List ℕ). AreInOrder 0 end ps) (sym cuts.are) order)
