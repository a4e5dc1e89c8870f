-- The elements of a container, read from left to right.
use Rattle.std.proofs.Common.{◌≡◌, ℕ, ◌<◌, ◌≤◌, ◌==◌, Bool, List, [], ◌∷◌, ◌++◌, Option, None, Some, length, take, drop, get_or, refl, ap, sym, ◌∙◌, append_assoc, arith}
use Rattle.std.proofs.lemmas.List.{length-drop, take_all, drop_all, append-nil}
use Rattle.std.specs.List.{position_or_len, before_first, slice_split}
use Rattle.std.specs.Option.{option_map, option_and_then}
use Rattle.vast_value.specs.declared.kind.Elem.{Elem}
use Rattle.vast_value.specs.declared.value.Value.{Value}
use Rattle.value_reading.specs.declared.end.CellEnd.{CellEnd}
use Rattle.value_reading.specs.declared.end.CellEnd.TheVariants.{BadText, Memory}
use Rattle.value_reading.specs.declared.marks.Marks.{Marks}
use Rattle.value_reading.specs.Answers.{Fails}
use Rattle.value_reading.specs.Reading.{element_read, elements_read}
use Rattle.value_reading.proofs.CutLemmas.{from_first, other_pieces, split_first}

abbrev pub Items : Type 0
Items = List (Option Value)

abbrev pub with_front : Items → Option Items → Option Items
with_front items read = option_map (λ more. items ++ more) read

abbrev pub put_front : Option Items → Option Value → Option Items
put_front more x = option_map (λ xs. x ∷ xs) more

abbrev pub put_behind : Items → Option Value → Items
put_behind items x = items ++ x ∷ []

abbrev pub is_separator : Marks → ℕ → Bool
is_separator marks b = b == marks.set_separator

cons_of : (xs more : List ℕ) → 0 < length xs → more ≡ drop 1 xs → xs ≡ get_or xs 0 0 ∷ more
cons_of [] more some e = absurd (omega arith)
cons_of (x ∷ xs) more some e = ap (λ ys. x ∷ ys) (sym e)

-- an element with a separator behind it
pub element_step : (marks : Marks) (elem : Elem) (rest piece behind more : List ℕ) (k : ℕ) → k ≡ position_or_len (is_separator marks) rest → k < length rest → piece ≡ take k rest → behind ≡ drop k rest → more ≡ drop 1 behind
    → elements_read marks elem (slice_split (is_separator marks) rest) ≡ option_and_then (put_front (elements_read marks elem (slice_split (is_separator marks) more))) (element_read marks elem piece)
element_step marks elem rest piece behind more k at below front back rest_is =
    let p : ℕ → Bool = is_separator marks in
    let piece' : before_first p rest ≡ piece = ap (λ j. take j rest) (sym at) ∙ sym front in
    let some : 0 < length behind = rw back (omega (arith, length-drop k rest)) in
    let behind' : from_first p rest ≡ get_or behind 0 0 ∷ more = ap (λ j. drop j rest) (sym at) ∙ sym back ∙ cons_of behind more some rest_is in
    ap (elements_read marks elem) (split_first p rest)
    ∙ ap (λ xs. elements_read marks elem (before_first p rest ∷ other_pieces p xs)) behind'
    ∙ ap (λ xs. option_and_then (put_front (elements_read marks elem (slice_split p more))) (element_read marks elem xs)) piece'

-- the last element
pub element_last : (marks : Marks) (elem : Elem) (rest : List ℕ) (k : ℕ) → k ≡ position_or_len (is_separator marks) rest → length rest ≤ k
    → elements_read marks elem (slice_split (is_separator marks) rest) ≡ option_and_then (put_front (Some [])) (element_read marks elem rest)
element_last marks elem rest k at past =
    let p : ℕ → Bool = is_separator marks in
    let whole : take (position_or_len p rest) rest ≡ rest = take_all (position_or_len p rest) rest (omega arith) in
    let none : drop (position_or_len p rest) rest ≡ [] = drop_all (position_or_len p rest) rest (omega arith) in
    ap (elements_read marks elem) (split_first p rest)
    ∙ ap (λ xs. elements_read marks elem (xs ∷ other_pieces p (from_first p rest))) whole
    ∙ ap (λ xs. elements_read marks elem (rest ∷ other_pieces p xs)) none

-- where an element fails, the container fails
pub fails_by : (end : CellEnd) (items : Items) (element : Option (Option Value)) (more rest whole : Option Items) → Fails end element → rest ≡ option_and_then (put_front more) element → with_front items rest ≡ whole → Fails end whole
fails_by Memory items element more rest whole fails step read = tt
fails_by BadText items element more rest whole fails step read =
    sym read ∙ ap (with_front items) (step ∙ ap (option_and_then (put_front more)) fails)

push_more : (items : Items) (x : Option Value) (more : Option Items) → with_front (put_behind items x) more ≡ with_front items (put_front more x)
push_more items x None = refl
push_more items x (Some xs) = ap Some (append_assoc items (x ∷ []) xs)

-- one more element
pub put_step : (items now : Items) (element : Option (Option Value)) (more rest : Option Items) → option_map (put_behind items) element ≡ Some now → rest ≡ option_and_then (put_front more) element → with_front now more ≡ with_front items rest
put_step items now None more rest put step = absurd cc
put_step items now (Some x) more rest put step =
    let e : put_behind items x ≡ now = cc in
    ap (λ xs. with_front xs more) (sym e) ∙ push_more items x more ∙ ap (with_front items) (sym step)

pub put_last : (items now : Items) (element : Option (Option Value)) (rest : Option Items) → option_map (put_behind items) element ≡ Some now → rest ≡ option_and_then (put_front (Some [])) element → with_front items rest ≡ Some now
put_last items now element rest put step = sym (put_step items now element (Some []) rest put step) ∙ ap Some (append-nil now)
