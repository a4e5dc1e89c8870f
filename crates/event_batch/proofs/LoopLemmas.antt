-- Reading items one after the other, as a loop does.
use Rattle.std.proofs.Common.{◌≡◌, ℕ, suc, ◌-◌, ◌+◌, ◌≤◌, ◌<◌, ◌^◌, Bool, true, false, cond, ◌||◌, ltb, List, [], ◌∷◌, ◌++◌, length, get_or, take, drop, map, Option, None, Some, Result, Ok, Err, refl, sym, ap, ◌∙◌, append_assoc, add-one, arith, drop-cons}
use Rattle.std.specs.Prelude.{IfOk}
use Rattle.std.proofs.lemmas.Grind.{common_steps}
use Rattle.std.proofs.lemmas.Bool.{ltb-false}
use Rattle.std.proofs.lemmas.List.{append-nil, length-take}
use Rattle.std.proofs.lemmas.Option.{same_Some}
use Rattle.vast_value.specs.declared.cell.Cell.{Cell}
use Rattle.vast_value.specs.declared.column.Column.{Column}
use Rattle.vast_value.specs.Headings.{field_of}
use Rattle.event_batch.specs.declared.packed_end.PackedEnd.{PackedEnd}
use Rattle.event_batch.specs.declared.packed_end.PackedEnd.TheVariants as packed_end
use Rattle.event_batch.specs.declared.format.Format.{Format}
use Rattle.event_batch.specs.Answers.{Fails, Gives}
use Rattle.event_batch.specs.Reading.{◌>>=◌, number_at, text_at, reads_as, many_at, cell_at, row_at}

-- what was read before, and what is still read
abbrev pub with_front : {A : Type 0} → List A → Option (List A × List ℕ) → Option (List A × List ℕ)
with_front front read = read >>= λ x. Some (front ++ x.0, x.1)

regroup : {A : Type 0} (front : List A) (n : A) (read : Option (List A × List ℕ)) → with_front front (read >>= λ x. Some (n ∷ x.0, x.1)) ≡ with_front (front ++ n ∷ []) read
regroup {A} front n (Some x) = ap (λ (ns : List A). Some (ns, x.1)) (simp append_assoc)
regroup front n None = refl

pub goes_on : {A : Type 0} (one : List ℕ → Option (A × List ℕ)) (front : List A) (count i : ℕ) (bytes : List ℕ) (n : A) (after : List ℕ) (total : Option (List A × List ℕ)) → i < count → one bytes ≡ Some (n, after)
    → with_front front (many_at one (count - i) bytes) ≡ total → with_front (front ++ n ∷ []) (many_at one (count - (i + 1)) after) ≡ total
unfolding many_at
goes_on one front count i bytes n after total lt h so_far =
    let k : count - i ≡ suc (count - (i + 1)) = omega arith in
    let here : with_front front (many_at one (count - i) bytes) ≡ with_front (front ++ n ∷ []) (many_at one (count - (i + 1)) after) = rw (k, h) (regroup front n (many_at one (count - (i + 1)) after)) in
    sym here ∙ so_far

pub ends : {A : Type 0} (one : List ℕ → Option (A × List ℕ)) (e : PackedEnd) (front : List A) (count i : ℕ) (bytes : List ℕ) (total : Option (List A × List ℕ)) → i < count → Fails e (one bytes)
    → with_front front (many_at one (count - i) bytes) ≡ total → Fails e total
unfolding many_at
ends one packed_end.Memory front count i bytes total lt h so_far = tt
ends one packed_end.NotABatch front count i bytes total lt h so_far =
    let k : count - i ≡ suc (count - (i + 1)) = omega arith in
    let here : with_front front (many_at one (count - i) bytes) ≡ None = rw (k, h) refl in
    sym so_far ∙ here

pub is_done : {A : Type 0} (one : List ℕ → Option (A × List ℕ)) (front : List A) (count i : ℕ) (bytes : List ℕ) (total : Option (List A × List ℕ)) → count ≤ i → with_front front (many_at one (count - i) bytes) ≡ total → total ≡ Some (front, bytes)
unfolding many_at
is_done {A} one front count i bytes total le so_far =
    let k : count - i ≡ 0 = omega arith in
    let here : with_front front (many_at one (count - i) bytes) ≡ Some (front, bytes) = rw k (ap (λ (ns : List A). Some (ns, bytes)) (append-nil front)) in
    sym so_far ∙ here

next_column : (cs : List Column) (i : ℕ) (c : Column) → i < length cs → c ≡ get_or cs i c → map field_of (drop i cs) ≡ field_of c ∷ map field_of (drop (i + 1) cs)
next_column cs i c lt is =
    let parts : drop i cs ≡ get_or cs i c ∷ drop (i + 1) cs = rw add-one (drop-cons cs i c lt) in
    rw (parts, ← is) refl

-- a cell that is put behind those of a row, and what is read behind it
put_next : (read : Option (Cell × List ℕ)) (next : List ℕ → Option (List Cell × List ℕ)) (front new : List Cell) (after : List ℕ) → reads_as (λ x. front ++ x ∷ []) read ≡ Some (new, after)
    → with_front front (read >>= λ first. (next first.1 >>= λ others. Some (first.0 ∷ others.0, others.1))) ≡ with_front new (next after)
put_next None next front new after h = absurd cc
put_next (Some x) next front new after h =
    let same = same_Some (front ++ x.0 ∷ [], x.1) (new, after) h in
    let row : front ++ x.0 ∷ [] ≡ new = ap (λ (p : List Cell × List ℕ). p.0) same in
    let rest : x.1 ≡ after = ap (λ (p : List Cell × List ℕ). p.1) same in
    rw (← row, ← rest) (regroup front x.0 (next x.1))

-- where no cell is put, none is read
not_put : {B : Type 0} (e : PackedEnd) (f : Cell → B) (read : Option (Cell × List ℕ)) → Fails e (reads_as f read) → Fails e read
not_put packed_end.Memory f read h = tt
not_put packed_end.NotABatch f None h = refl
not_put packed_end.NotABatch f (Some x) h = absurd cc

pub row_goes_on : (f : Format) (cs : List Column) (front : List Cell) (i : ℕ) (c : Column) (bytes : List ℕ) (new : List Cell) (after : List ℕ) (total : Option (List Cell × List ℕ)) → i < length cs → c ≡ get_or cs i c
    → reads_as (λ x. front ++ x ∷ []) (cell_at f c.kind bytes) ≡ Some (new, after)
    → with_front front (row_at f (map field_of (drop i cs)) bytes) ≡ total → with_front new (row_at f (map field_of (drop (i + 1) cs)) after) ≡ total
unfolding row_at
row_goes_on f cs front i c bytes new after total lt is h so_far =
    let here : with_front front (row_at f (map field_of (drop i cs)) bytes) ≡ with_front new (row_at f (map field_of (drop (i + 1) cs)) after) = rw (next_column cs i c lt is) (put_next (cell_at f c.kind bytes) (row_at f (map field_of (drop (i + 1) cs))) front new after h) in
    sym here ∙ so_far

pub row_ends : (f : Format) (cs : List Column) (e : PackedEnd) (front : List Cell) (i : ℕ) (c : Column) (bytes : List ℕ) (total : Option (List Cell × List ℕ)) → i < length cs → c ≡ get_or cs i c
    → Fails e (reads_as (λ x. front ++ x ∷ []) (cell_at f c.kind bytes))
    → with_front front (row_at f (map field_of (drop i cs)) bytes) ≡ total → Fails e total
unfolding row_at
row_ends f cs packed_end.Memory front i c bytes total lt is h so_far = tt
row_ends f cs packed_end.NotABatch front i c bytes total lt is h so_far =
    let none = not_put packed_end.NotABatch (λ (x : Cell). front ++ x ∷ []) (cell_at f c.kind bytes) h in
    let here : with_front front (row_at f (map field_of (drop i cs)) bytes) ≡ None = rw (next_column cs i c lt is, none) refl in
    sym so_far ∙ here

nothing_left : (cs : List Column) (i : ℕ) → length cs ≤ i → drop i cs ≡ []
nothing_left cs i le = grind (arith, common_steps)

pub row_is_done : (f : Format) (cs : List Column) (front : List Cell) (i : ℕ) (bytes : List ℕ) (total : Option (List Cell × List ℕ)) → length cs ≤ i → with_front front (row_at f (map field_of (drop i cs)) bytes) ≡ total → total ≡ Some (front, bytes)
unfolding row_at
row_is_done f cs front i bytes total le so_far =
    let here : with_front front (row_at f (map field_of (drop i cs)) bytes) ≡ Some (front, bytes) = rw (nothing_left cs i le) (ap (λ (ns : List Cell). Some (ns, bytes)) (append-nil front)) in
    sym so_far ∙ here

-- a text that is read is short
short : (a b : Bool) (x y : List ℕ × List ℕ) → cond (a || b) None (Some x) ≡ Some y → (a ≡ false) × (x ≡ y)
short true b x y h = absurd cc
short false true x y h = absurd cc
short false false x y h = (refl, cc)

from_number : (n : Option (ℕ × List ℕ)) (y : List ℕ × List ℕ) → (n >>= λ m. cond (ltb (2 ^ 24) m.0 || ltb (length m.1) m.0) None (Some (take m.0 m.1, drop m.0 m.1))) ≡ Some y → length y.0 ≤ 2 ^ 24
from_number None y h = absurd cc
from_number (Some m) y h =
    let parts = short (ltb (2 ^ 24) m.0) (ltb (length m.1) m.0) (take m.0 m.1, drop m.0 m.1) y h in
    let le = ltb-false (2 ^ 24) m.0 parts.0 in
    let text : take m.0 m.1 ≡ y.0 = ap (λ (p : List ℕ × List ℕ). p.0) parts.1 in
    rw (← text) (omega (arith, length-take m.0 m.1))

pub text_is_short : {R : Type 0} (now : R → List ℕ) (r : Result (List ℕ × R) PackedEnd) (bytes : List ℕ) → Gives (λ x. (x.0, now x.1)) r (text_at bytes) → IfOk r (λ x. length x.0 ≤ 2 ^ 24)
unfolding text_at
text_is_short now (Ok x) bytes h = from_number (number_at 4 bytes) (x.0, now x.1) h
text_is_short now (Err e) bytes h = tt
