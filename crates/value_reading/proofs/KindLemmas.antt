-- What is read has the kind by which it is read.
use Rattle.std.proofs.Common.{◌≡◌, ℕ, ◌≤◌, ◌^◌, ◌-◌, Bool, true, false, if◌then◌else◌, List, [], ◌∷◌, Option, None, Some, Result, Ok, Err, length, refl, ap, sym, ◌∙◌, subst, arith, IsTrue}
use Rattle.std.proofs.lemmas.List.{length-drop, take_all}
use Rattle.std.proofs.lemmas.Bool.{false≢true}
use Rattle.std.specs.Result.{IfOk}
use Rattle.std.specs.List.{position_or_len, before_first, slice_split, list_all}
use Rattle.std.specs.Option.{option_map, option_and_then}
use Rattle.std.specs.Str.{bytes_eq}
use Rattle.vast_value.specs.declared.kind.Elem.{Elem}
use Rattle.vast_value.specs.declared.kind.Elem.TheVariants as elem
use Rattle.vast_value.specs.declared.kind.Kind.{Kind}
use Rattle.vast_value.specs.declared.kind.Kind.TheVariants as kind
use Rattle.vast_value.specs.declared.value.Value.{Value}
use Rattle.vast_value.specs.declared.value.Value.TheVariants as value
use Rattle.vast_value.specs.declared.cell.Cell.{Cell}
use Rattle.vast_value.specs.declared.cell.Cell.TheVariants as cell
use Rattle.vast_value.specs.Kinds.{elem_of, elem_eq, is_element, is_lone_unset, are_elements, has_kind}
use Rattle.value_reading.specs.declared.end.CellEnd.{CellEnd}
use Rattle.value_reading.specs.declared.marks.Marks.{Marks}
use Rattle.value_reading.specs.Numbers.{number_up_to, int_of, span_of}
use Rattle.value_reading.specs.Addresses.{address_of, subnet_of}
use Rattle.value_reading.specs.Ports.{port_of}
use Rattle.value_reading.specs.Escapes.{unescaped}
use Rattle.value_reading.specs.Answers.{Gives}
use Rattle.value_reading.specs.Reading.{bool_of, is_text, empty_value, value_read, set_read, element_read, elements_read, container_read, kind_read, cell_read}
use Rattle.value_reading.proofs.CutLemmas.{from_first, other_pieces, split_first}
use Rattle.value_reading.proofs.ElementLemmas.{is_separator}

abbrev IsOf : Elem → Value → Type 0
IsOf e v = elem_eq (elem_of v) e ≡ true

from_map : {X : Type 0} (f : X → Value) (e : Elem) → ((x : X) → IsOf e (f x)) → (o : Option X) (v : Value) → option_map f o ≡ Some v → IsOf e v
from_map f e h None v eq = absurd cc
from_map f e h (Some x) v eq = let p : f x ≡ v = cc in subst (IsOf e) p (h x)

value_kind : (e : Elem) (text : List ℕ) (v : Value) → value_read e text ≡ Some v → IsOf e v
unfolding value_read
value_kind elem.Bool text v eq = from_map value.Bool elem.Bool (λ x. refl) (bool_of text) v eq
value_kind elem.Count text v eq = from_map value.Count elem.Count (λ x. refl) (number_up_to (2 ^ 64 - 1) text) v eq
value_kind elem.Int text v eq = from_map value.Int elem.Int (λ x. refl) (int_of text) v eq
value_kind elem.Time text v eq = from_map value.Time elem.Time (λ x. refl) (span_of text) v eq
value_kind elem.Span text v eq = from_map value.Span elem.Span (λ x. refl) (span_of text) v eq
value_kind elem.Text text v eq = from_map value.Text elem.Text (λ x. refl) (Some text) v eq
value_kind elem.Name text v eq = from_map value.Name elem.Name (λ x. refl) (Some text) v eq
value_kind elem.Addr text v eq = from_map value.Addr elem.Addr (λ x. refl) (address_of text) v eq
value_kind elem.Subnet text v eq = from_map value.Subnet elem.Subnet (λ x. refl) (subnet_of text) v eq
value_kind elem.Port text v eq = from_map (λ p. value.Port p.0 p.1) elem.Port (λ x. refl) (port_of text) v eq

pick_kind : (e : Elem) (t : Bool) (a b : Option Value) (v : Value) → (a ≡ Some v → IsOf e v) → (b ≡ Some v → IsOf e v) → (if t then a else b) ≡ Some v → IsOf e v
pick_kind e true a b v h k eq = h eq
pick_kind e false a b v h k eq = k eq

empty_kind : (e : Elem) (v : Value) → empty_value e ≡ Some v → IsOf e v
empty_kind elem.Text v eq = from_map value.Text elem.Text (λ x. refl) (Some []) v eq
empty_kind elem.Name v eq = from_map value.Name elem.Name (λ x. refl) (Some []) v eq
empty_kind _ v eq = absurd cc

set_kind : (marks : Marks) (e : Elem) (raw : List ℕ) (v : Value) → set_read marks e raw ≡ Some v → IsOf e v
set_kind marks e raw v eq =
    let read : Option Value = value_read e (unescaped raw) in
    pick_kind e (is_text e) (if bytes_eq raw marks.empty then empty_value e else read) read v
    (pick_kind e (bytes_eq raw marks.empty) (empty_value e) read v (empty_kind e v) (value_kind e (unescaped raw) v))
    (value_kind e (unescaped raw) v) eq

-- an element: unset only where its raw bytes are the unset text

element_by : (marks : Marks) (e : Elem) (raw : List ℕ) (t : Bool) (o : Option Value) (x : Option Value) → ((v : Value) → o ≡ Some v → IsOf e v) → (if t then Some None else option_map Some o) ≡ Some x → is_element e x ≡ true
element_by marks e raw true o x h eq = let p : None ≡ x = cc in subst (λ (y : Option Value). is_element e y ≡ true) p refl
element_by marks e raw false None x h eq = absurd cc
element_by marks e raw false (Some v) x h eq = let p : Some v ≡ x = cc in subst (λ (y : Option Value). is_element e y ≡ true) p (h v refl)

element_kind : (marks : Marks) (e : Elem) (raw : List ℕ) (x : Option Value) → element_read marks e raw ≡ Some x → is_element e x ≡ true
element_kind marks e raw x eq = element_by marks e raw (bytes_eq raw marks.unset) (set_read marks e raw) x (set_kind marks e raw) eq

unset_by : (t : Bool) (o : Option Value) → (if t then Some None else option_map Some o) ≡ Some None → t ≡ true
unset_by true o eq = refl
unset_by false None eq = absurd cc
unset_by false (Some v) eq = absurd cc

element_unset : (marks : Marks) (e : Elem) (raw : List ℕ) → element_read marks e raw ≡ Some None → bytes_eq raw marks.unset ≡ true
element_unset marks e raw eq = unset_by (bytes_eq raw marks.unset) (set_read marks e raw) eq

abbrev Items : Type 0
Items = List (Option Value)

abbrev put_front : Option Items → Option Value → Option Items
put_front more x = option_map (λ xs. x ∷ xs) more

elements_by : (e : Elem) (o : Option (Option Value)) (more : Option Items) (xs : Items) → ((x : Option Value) → o ≡ Some x → is_element e x ≡ true) → ((ys : Items) → more ≡ Some ys → list_all (is_element e) ys ≡ true)
    → option_and_then (put_front more) o ≡ Some xs → list_all (is_element e) xs ≡ true
elements_by e None more xs h k eq = absurd cc
elements_by e (Some x) None xs h k eq = absurd cc
elements_by e (Some x) (Some ys) xs h k eq =
    let p : x ∷ ys ≡ xs = cc in
    let all : list_all (is_element e) (x ∷ ys) ≡ true = rw (h x refl) (k ys refl) in
    subst (λ (zs : Items). list_all (is_element e) zs ≡ true) p all

elements_kind : (marks : Marks) (e : Elem) (pieces : List (List ℕ)) (xs : Items) → elements_read marks e pieces ≡ Some xs → list_all (is_element e) xs ≡ true
elements_kind marks e [] xs eq = let p : [] ≡ xs = cc in subst (λ (zs : Items). list_all (is_element e) zs ≡ true) p refl
elements_kind marks e (raw ∷ raws) xs eq =
    elements_by e (element_read marks e raw) (elements_read marks e raws) xs (element_kind marks e raw) (elements_kind marks e raws) eq

-- one piece is the whole text

no_others : (p : ℕ → Bool) (text : List ℕ) → other_pieces p text ≡ [] → text ≡ []
no_others p [] none = refl
no_others p (b ∷ bs) none = let split : before_first p bs ∷ other_pieces p (from_first p bs) ≡ [] = sym (split_first p bs) ∙ none in absurd cc

one_piece : (p : ℕ → Bool) (text piece : List ℕ) → slice_split p text ≡ piece ∷ [] → piece ≡ text
one_piece p text piece eq =
    let split : before_first p text ∷ other_pieces p (from_first p text) ≡ piece ∷ [] = sym (split_first p text) ∙ eq in
    let first : before_first p text ≡ piece = cc in
    let others : other_pieces p (from_first p text) ≡ [] = cc in
    let ended : from_first p text ≡ [] = no_others p (from_first p text) others in
    let long : length (from_first p text) ≡ 0 = ap length ended in
    let past : length text ≤ position_or_len p text = omega (arith, length-drop (position_or_len p text) text) in
    sym first ∙ take_all (position_or_len p text) text past

abbrev is_nil : Items → Bool
is_nil [] = true
is_nil (x ∷ xs) = false

-- Where the whole text is not the unset text, no element alone is unset.

lone_by : (o : Option (Option Value)) (more : Option Items) (xs : Items) → ((ys : Items) → more ≡ Some ys → is_lone_unset (None ∷ ys) ≡ true → o ≡ Some None → false ≡ true) → option_and_then (put_front more) o ≡ Some xs → is_lone_unset xs ≡ false
lone_by None more xs h eq = absurd cc
lone_by (Some x) None xs h eq = absurd cc
lone_by (Some (Some v)) (Some ys) xs h eq = let p : Some v ∷ ys ≡ xs = cc in subst (λ (zs : Items). is_lone_unset zs ≡ false) p refl
lone_by (Some None) (Some []) xs h eq = absurd (false≢true (h [] refl refl refl))
lone_by (Some None) (Some (y ∷ ys)) xs h eq = let p : None ∷ (y ∷ ys) ≡ xs = cc in subst (λ (zs : Items). is_lone_unset zs ≡ false) p refl

-- more than one element
many_by : (o : Option (Option Value)) (more : Option Items) (xs : Items) → ((ys : Items) → more ≡ Some ys → is_nil ys ≡ false) → option_and_then (put_front more) o ≡ Some xs → is_lone_unset xs ≡ false
many_by None more xs h eq = absurd cc
many_by (Some x) None xs h eq = absurd cc
many_by (Some x) (Some []) xs h eq = absurd (false≢true (sym (h [] refl)))
many_by (Some None) (Some (y ∷ ys)) xs h eq = let p : None ∷ (y ∷ ys) ≡ xs = cc in subst (λ (zs : Items). is_lone_unset zs ≡ false) p refl
many_by (Some (Some v)) (Some (y ∷ ys)) xs h eq = let p : Some v ∷ (y ∷ ys) ≡ xs = cc in subst (λ (zs : Items). is_lone_unset zs ≡ false) p refl

some_by : (o : Option (Option Value)) (more : Option Items) (xs : Items) → option_and_then (put_front more) o ≡ Some xs → is_nil xs ≡ false
some_by None more xs eq = absurd cc
some_by (Some x) None xs eq = absurd cc
some_by (Some x) (Some ys) xs eq = let p : x ∷ ys ≡ xs = cc in subst (λ (zs : Items). is_nil zs ≡ false) p refl

not_lone_of : (marks : Marks) (e : Elem) (raw : List ℕ) (pieces : List (List ℕ)) (xs : Items) → slice_split (is_separator marks) raw ≡ pieces → bytes_eq raw marks.unset ≡ false → elements_read marks e pieces ≡ Some xs → is_lone_unset xs ≡ false
not_lone_of marks e raw [] xs split set eq = let p : [] ≡ xs = cc in subst (λ (zs : Items). is_lone_unset zs ≡ false) p refl
not_lone_of marks e raw (piece ∷ []) xs split set eq =
    let whole : piece ≡ raw = one_piece (is_separator marks) raw piece split in
    lone_by (element_read marks e piece) (Some []) xs
    (λ ys is lone unset. sym set ∙ ap (λ r. bytes_eq r marks.unset) (sym whole) ∙ element_unset marks e piece unset) eq
not_lone_of marks e raw (piece ∷ (next ∷ more)) xs split set eq =
    many_by (element_read marks e piece) (elements_read marks e (next ∷ more)) xs
    (λ ys is. some_by (element_read marks e next) (elements_read marks e more) ys is) eq

-- A container has the kinds whose element kind it is read by.

many_kind : (e : Elem) (xs : Items) → is_lone_unset xs ≡ false → list_all (is_element e) xs ≡ true → are_elements e xs ≡ true
many_kind e xs lone all = rw (lone, all) refl

container_by : (marks : Marks) (e : Elem) (raw : List ℕ) (t : Bool) (o : Option Items) (x : Cell) → ((xs : Items) → o ≡ Some xs → are_elements e xs ≡ true) → (if t then Some (cell.Many []) else option_map cell.Many o) ≡ Some x
    → (has_kind x (kind.SetOf e) ≡ true) × (has_kind x (kind.VecOf e) ≡ true)
container_by marks e raw true o x h eq =
    let p : cell.Many [] ≡ x = cc in subst (λ (y : Cell). (has_kind y (kind.SetOf e) ≡ true) × (has_kind y (kind.VecOf e) ≡ true)) p (refl, refl)
container_by marks e raw false None x h eq = absurd cc
container_by marks e raw false (Some xs) x h eq =
    let p : cell.Many xs ≡ x = cc in subst (λ (y : Cell). (has_kind y (kind.SetOf e) ≡ true) × (has_kind y (kind.VecOf e) ≡ true)) p (h xs refl, h xs refl)

container_kind : (marks : Marks) (e : Elem) (raw : List ℕ) (x : Cell) → bytes_eq raw marks.unset ≡ false → container_read marks e raw ≡ Some x → (has_kind x (kind.SetOf e) ≡ true) × (has_kind x (kind.VecOf e) ≡ true)
container_kind marks e raw x set eq =
    let pieces : List (List ℕ) = slice_split (is_separator marks) raw in
    container_by marks e raw (bytes_eq raw marks.empty) (elements_read marks e pieces) x
    (λ xs is. many_kind e xs (not_lone_of marks e raw pieces xs refl set is) (elements_kind marks e pieces xs is)) eq

one_by : (e : Elem) (o : Option Value) (x : Cell) → ((v : Value) → o ≡ Some v → IsOf e v) → option_map cell.One o ≡ Some x → has_kind x (kind.One e) ≡ true
one_by e None x h eq = absurd cc
one_by e (Some v) x h eq = let p : cell.One v ≡ x = cc in subst (λ (y : Cell). has_kind y (kind.One e) ≡ true) p (h v refl)

of_kind : (marks : Marks) (k : Kind) (raw : List ℕ) (x : Cell) → bytes_eq raw marks.unset ≡ false → kind_read marks k raw ≡ Some x → has_kind x k ≡ true
of_kind marks (kind.One e) raw x set eq = one_by e (set_read marks e raw) x (set_kind marks e raw) eq
of_kind marks (kind.SetOf e) raw x set eq = (container_kind marks e raw x set eq).0
of_kind marks (kind.VecOf e) raw x set eq = (container_kind marks e raw x set eq).1

unset_kind : (k : Kind) → has_kind cell.Unset k ≡ true
unset_kind k = refl

cell_by : (k : Kind) (t : Bool) (o : Option Cell) (x : Cell) → (t ≡ false → o ≡ Some x → has_kind x k ≡ true) → (if t then Some cell.Unset else o) ≡ Some x → has_kind x k ≡ true
cell_by k true o x h eq = let p : cell.Unset ≡ x = cc in subst (λ (y : Cell). has_kind y k ≡ true) p (unset_kind k)
cell_by k false o x h eq = h refl eq

pub cell_kind : (marks : Marks) (k : Kind) (raw : List ℕ) (x : Cell) → cell_read marks k raw ≡ Some x → has_kind x k ≡ true
unfolding cell_read
cell_kind marks k raw x eq = cell_by k (bytes_eq raw marks.unset) (kind_read marks k raw) x (of_kind marks k raw x) eq

pub result_kind : (marks : Marks) (k : Kind) (raw : List ℕ) (result : Result Cell CellEnd) → Gives result (cell_read marks k raw) → IfOk result (λ x. IsTrue (has_kind x k))
result_kind marks k raw (Ok x) gives = cell_kind marks k raw x gives
result_kind marks k raw (Err e) gives = tt
