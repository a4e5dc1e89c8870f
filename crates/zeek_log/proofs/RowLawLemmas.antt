-- A line of the cells of a row, as they are written, is read as this row.
use Rattle.std.proofs.Common.{◌≡◌, ℕ, ◌+◌, ◌==◌, Bool, ◌&&◌, true, false, not, List, [], ◌∷◌, Option, None, Some, Ok, length, map, nat_le, nat_lt, refl, ap, ◌∙◌, arith}
use Rattle.std.specs.Cmp.Derive.{both_true}
use Rattle.std.specs.List.{list_all, join_with_byte}
use Rattle.std.proofs.lemmas.Bool.{and_parts, leb-true, ne_eqb, eq-eqb}
use Rattle.std.proofs.lemmas.List.{length-map}
use Rattle.vast_value.specs.declared.cell.Cell.{Cell}
use Rattle.vast_value.specs.declared.cell.Cell.TheVariants.{Unset, One, Many}
use Rattle.vast_value.specs.declared.value.Value.{Value}
use Rattle.vast_value.specs.Fit.{is_sized, is_ranged, is_ranged_element, is_ranged_cell, is_bounded_element, is_small, most_parts}
use Rattle.vast_value.specs.Headings.{Field, fits_field, fits_fields}
use Rattle.vast_value.specs.Kinds.{has_kind}
use Rattle.vast_value.specs.Layouts.{is_empty}
use Rattle.value_text.specs.declared.Marks.{Marks}
use Rattle.value_text.specs.Writing.{AreUsual, cell_text, is_printable}
use Rattle.value_writing.proofs.WritingCells.{cell_again, cell_printable}
use Rattle.zeek_log.specs.Laws.{lacks, is_plain}
use Rattle.zeek_log.specs.Lines.{pieces_of}
use Rattle.zeek_log.specs.Table.{cells_read, row_read, then_cell}
use Rattle.zeek_log.proofs.LawLemmas.{cut_joined}

-- a cell that fits is in range
ranged_items : (items : List (Option Value)) → list_all is_bounded_element items ≡ true → list_all is_ranged_element items ≡ true
ranged_items [] e = refl
ranged_items (None ∷ items) e = ranged_items items e
ranged_items (Some v ∷ items) e =
    let parts = and_parts (is_sized v && is_ranged v) (list_all is_bounded_element items) e in
    let here : is_ranged v ≡ true = (and_parts (is_sized v) (is_ranged v) parts.0).1 in
    rw here (ranged_items items parts.1)

ranged : (x : Cell) → is_small x ≡ true → is_ranged_cell x ≡ true
ranged Unset e = refl
ranged (One v) e = (and_parts (is_sized v) (is_ranged v) e).1
ranged (Many items) e = ranged_items items (and_parts (nat_le (length items) most_parts) (list_all is_bounded_element items) e).1

-- no printable byte is a tab or a newline
no_blank : (b : ℕ) → is_printable b ≡ true → (not (b == 9) ≡ true) × (not (b == 10) ≡ true)
no_blank b e =
    let low = leb-true 32 b (and_parts (nat_le 32 b) (nat_lt b 127) e).0 in
    (ap not (ne_eqb b 9 (λ same. absurd (omega (arith, same, low)))), ap not (ne_eqb b 10 (λ same. absurd (omega (arith, same, low)))))

pub all_of : {X : Type 0} (p q : X → Bool) → ((x : X) → p x ≡ true → q x ≡ true) → (xs : List X) → list_all p xs ≡ true → list_all q xs ≡ true
all_of p q then [] e = refl
all_of p q then (x ∷ xs) e =
    let parts = and_parts (p x) (list_all p xs) e in
    both_true {s = q x} {t = list_all q xs} (then x parts.0) (all_of p q then xs parts.1)

pub plain_lacks : (x : List ℕ) → is_plain x ≡ true → (lacks 9 x ≡ true) × (lacks 10 x ≡ true)
plain_lacks x e = and_parts (lacks 9 x) (lacks 10 x) e

printable_plain : (x : List ℕ) → list_all is_printable x ≡ true → is_plain x ≡ true
printable_plain x e =
    both_true {s = lacks 9 x} {t = lacks 10 x}
    (all_of is_printable (λ b. not (b == 9)) (λ b p. (no_blank b p).0) x e)
    (all_of is_printable (λ b. not (b == 10)) (λ b p. (no_blank b p).1) x e)

-- the texts of cells hold neither
plain_cells : (row : List Cell) → list_all is_ranged_cell row ≡ true → list_all is_plain (map cell_text row) ≡ true
plain_cells [] e = refl
plain_cells (x ∷ row) e =
    let parts = and_parts (is_ranged_cell x) (list_all is_ranged_cell row) e in
    both_true {s = is_plain (cell_text x)} {t = list_all is_plain (map cell_text row)} (printable_plain (cell_text x) (cell_printable x parts.0)) (plain_cells row parts.1)

pub some_mapped : {X Y : Type 0} (f : X → Y) (xs : List X) → is_empty xs ≡ false → is_empty (map f xs) ≡ false
some_mapped f [] some = cc
some_mapped f (x ∷ xs) some = refl

all_ranged : (fields : List Field) (row : List Cell) → fits_fields fields row ≡ true → list_all is_ranged_cell row ≡ true
all_ranged [] [] fits = refl
all_ranged [] (x ∷ row) fits = absurd cc
all_ranged (f ∷ fields) [] fits = refl
all_ranged (f ∷ fields) (x ∷ row) fits =
    let parts = and_parts (fits_field f x) (fits_fields fields row) fits in
    let here : is_ranged_cell x ≡ true = ranged x (and_parts (has_kind x f.kind) (is_small x) parts.0).1 in
    rw here (all_ranged fields row parts.1)

as_many : (fields : List Field) (row : List Cell) → fits_fields fields row ≡ true → length row ≡ length fields
as_many [] [] fits = refl
as_many [] (x ∷ row) fits = absurd cc
as_many (f ∷ fields) [] fits = absurd cc
as_many (f ∷ fields) (x ∷ row) fits = let rest = as_many fields row (and_parts (fits_field f x) (fits_fields fields row) fits).1 in omega (arith, rest)

cells_again : (marks : Marks) (n : ℕ) (fields : List Field) (row : List Cell) → AreUsual marks → fits_fields fields row ≡ true → cells_read marks n fields (map cell_text row) ≡ Ok row
cells_again marks n [] [] usual fits = refl
cells_again marks n [] (x ∷ row) usual fits = absurd cc
cells_again marks n (f ∷ fields) [] usual fits = absurd cc
cells_again marks n (f ∷ fields) (x ∷ row) usual fits =
    let parts = and_parts (fits_field f x) (fits_fields fields row) fits in
    let here = and_parts (has_kind x f.kind) (is_small x) parts.0 in
    ap (λ (o : Option Cell). then_cell n o (cells_read marks (n + 1) fields (map cell_text row))) (cell_again marks f.kind x usual here.0 (ranged x here.1))
    ∙ ap (then_cell n (Some x)) (cells_again marks (n + 1) fields row usual parts.1)

-- nor do those of a row that fits
pub plain_row : (fields : List Field) (row : List Cell) → fits_fields fields row ≡ true → list_all is_plain (map cell_text row) ≡ true
plain_row fields row fits = plain_cells row (all_ranged fields row fits)

pub tabless : (xs : List (List ℕ)) → list_all is_plain xs ≡ true → list_all (lacks 9) xs ≡ true
tabless xs e = all_of is_plain (lacks 9) (λ x p. (plain_lacks x p).0) xs e

pub row_again : (marks : Marks) (fields : List Field) (row : List Cell) → AreUsual marks → fits_fields fields row ≡ true → is_empty row ≡ false
    → row_read marks fields (pieces_of 9 (join_with_byte 9 (map cell_text row))) ≡ Ok row
row_again marks fields row usual fits some =
    let many : (length (map cell_text row) == length fields) ≡ true = eq-eqb (length (map cell_text row)) (length fields) (length-map row cell_text ∙ as_many fields row fits) in
    let cut : pieces_of 9 (join_with_byte 9 (map cell_text row)) ≡ map cell_text row = cut_joined 9 (map cell_text row) (some_mapped cell_text row some) (tabless (map cell_text row) (plain_row fields row fits)) in
    ap (row_read marks fields) cut ∙ rw many (cells_again marks 1 fields row usual fits)
