-- Texts that are written as they were read.
use Rattle.vast_value.specs.declared.cell.Cell.{Cell}
use Rattle.value_reading.specs.declared.marks.Marks.{Marks}
use Rattle.std.proofs.Common.{◌≡◌, ℕ, ◌<◌, Bool, true, false, not, cond, eqb, List, [], ◌∷◌, Some, length, refl, ap, sym, ◌∙◌, subst, arith, Option}
use Rattle.std.specs.Prelude.{codes}
use Rattle.std.proofs.lemmas.Bool.{and_parts, not-true, cond-true, cond-false}
use Rattle.std.proofs.lemmas.Slice.Eq.{bytes_eq-Decides}
use Rattle.std.specs.List.{list_all}
use Rattle.std.specs.Str.{bytes_eq}
use Rattle.vast_value.specs.declared.kind.Elem.{Elem}
use Rattle.vast_value.specs.declared.kind.Elem.TheVariants as elem
use Rattle.vast_value.specs.declared.kind.Kind.{Kind}
use Rattle.vast_value.specs.declared.kind.Kind.TheVariants as kind
use Rattle.vast_value.specs.declared.value.Value.{Value}
use Rattle.vast_value.specs.declared.value.Value.TheVariants as value
use Rattle.vast_value.specs.declared.cell.Cell.TheVariants as cell
use Rattle.value_reading.specs.Escapes.{unescaped}
use Rattle.value_reading.specs.Reading.{value_read, set_read, kind_read, cell_read}
use Rattle.value_reading.proofs.EscapeLemmas.{plain_stays}
use Rattle.value_writing.specs.declared.place.Place.TheVariants as place
use Rattle.value_writing.specs.Writing.{is_printable, text_text, value_text, cell_text, AreUsual}
use Rattle.value_writing.proofs.WritingBare.{bare_text}
use Rattle.plain_cells.specs.Own.{IsOwnText, stands_bare}
use Rattle.plain_cells.proofs.OwnLemmas.{own_by}
use Rattle.plain_cells.proofs.ReadableLemmas.{has_none}

bare_none : (raw : List ℕ) → list_all stands_bare raw ≡ true → has_none raw
bare_none [] all = refl
bare_none (b ∷ bs) all =
    let both = and_parts (stands_bare b) (list_all stands_bare bs) all in
    let parts = and_parts (is_printable b) (not (eqb b 92)) both.0 in
    rw (not-true (eqb b 92) parts.1, bare_none bs both.1) refl

-- neither of the two texts that stand for no text
text_by : (raw : List ℕ) → list_all stands_bare raw ≡ true → bytes_eq raw (codes "-") ≡ false → bytes_eq raw (codes "(empty)") ≡ false → text_text place.Whole raw ≡ raw
text_by raw all set some = rw (set, some) (bare_text place.Whole raw all)

text_cell : (raw : List ℕ) → 0 < length raw → text_text place.Whole raw ≡ raw → cell_text (cell.One (value.Text raw)) ≡ raw
unfolding cell_text value_text
text_cell [] some is = absurd (omega arith)
text_cell (b ∷ bs) some is = is

name_cell : (raw : List ℕ) → 0 < length raw → text_text place.Whole raw ≡ raw → cell_text (cell.One (value.Name raw)) ≡ raw
unfolding cell_text value_text
name_cell [] some is = absurd (omega arith)
name_cell (b ∷ bs) some is = is

one_by : (t : Bool) (empty given v : Value) (raw : List ℕ) → (t ≡ true → cell_text (cell.One empty) ≡ raw) → (t ≡ false → cell_text (cell.One given) ≡ raw) → cond t (Some empty) (Some given) ≡ Some v → cell_text (cell.One v) ≡ raw
one_by true empty given v raw none some is = let same : empty ≡ v = cc in subst (λ (x : Value). cell_text (cell.One x) ≡ raw) same (none refl)
one_by false empty given v raw none some is = let same : given ≡ v = cc in subst (λ (x : Value). cell_text (cell.One x) ≡ raw) same (some refl)

empty_text_cell : cell_text (cell.One (value.Text [])) ≡ codes "(empty)"
unfolding cell_text
empty_text_cell = refl

empty_name_cell : cell_text (cell.One (value.Name [])) ≡ codes "(empty)"
unfolding cell_text
empty_name_cell = refl

-- the two tests of the marks
is_text : (raw marks text : List ℕ) → marks ≡ text → bytes_eq raw marks ≡ true → text ≡ raw
is_text raw marks text same is = sym ((bytes_eq-Decides raw marks).0 is ∙ same)

is_other : (raw marks text : List ℕ) → marks ≡ text → bytes_eq raw marks ≡ false → bytes_eq raw text ≡ false
is_other raw marks text same is = ap (bytes_eq raw) (sym same) ∙ is

pub text_own : (raw : List ℕ) → 0 < length raw → list_all stands_bare raw ≡ true → IsOwnText (kind.One elem.Text) raw
unfolding cell_read value_read
text_own raw some all marks usual x is =
    let plain : unescaped raw ≡ raw = plain_stays raw (bare_none raw all) in
    own_by (bytes_eq raw marks.unset) (set_read marks elem.Text raw) x raw (λ same. is_text raw marks.unset (codes "-") usual.unset same)
    (λ set v read. one_by (bytes_eq raw marks.empty) (value.Text []) (value.Text (unescaped raw)) v raw
    (λ empty. empty_text_cell ∙ is_text raw marks.empty (codes "(empty)") usual.empty empty)
    (λ full. ap (λ (l : List ℕ). cell_text (cell.One (value.Text l))) plain ∙ text_cell raw some (text_by raw all (is_other raw marks.unset (codes "-") usual.unset set) (is_other raw marks.empty (codes "(empty)") usual.empty full)))
    read) is

pub name_own : (raw : List ℕ) → 0 < length raw → list_all stands_bare raw ≡ true → IsOwnText (kind.One elem.Name) raw
unfolding cell_read value_read
name_own raw some all marks usual x is =
    let plain : unescaped raw ≡ raw = plain_stays raw (bare_none raw all) in
    own_by (bytes_eq raw marks.unset) (set_read marks elem.Name raw) x raw (λ same. is_text raw marks.unset (codes "-") usual.unset same)
    (λ set v read. one_by (bytes_eq raw marks.empty) (value.Name []) (value.Name (unescaped raw)) v raw
    (λ empty. empty_name_cell ∙ is_text raw marks.empty (codes "(empty)") usual.empty empty)
    (λ full. ap (λ (l : List ℕ). cell_text (cell.One (value.Name l))) plain ∙ name_cell raw some (text_by raw all (is_other raw marks.unset (codes "-") usual.unset set) (is_other raw marks.empty (codes "(empty)") usual.empty full)))
    read) is

-- What stands for no value

dash_by : (marks : Marks) (k : Kind) (o : Option Cell) (x : Cell) → AreUsual marks → cond (bytes_eq (codes "-") marks.unset) (Some cell.Unset) o ≡ Some x → cell_text x ≡ codes "-"
unfolding cell_text
dash_by marks k o x usual is =
    let unset : bytes_eq (codes "-") marks.unset ≡ true = ap (bytes_eq (codes "-")) usual.unset in
    let read : Some cell.Unset ≡ Some x = sym (cond-true (bytes_eq (codes "-") marks.unset) (Some cell.Unset) o unset) ∙ is in
    let same : cell.Unset ≡ x = cc in subst (λ (y : Cell). cell_text y ≡ codes "-") same refl

pub dash_own : (k : Kind) → IsOwnText k (codes "-")
unfolding cell_read
dash_own k marks usual x is = dash_by marks k (kind_read marks k (codes "-")) x usual is

empty_by : (marks : Marks) (o : Option Cell) (x : Cell) → AreUsual marks → cond (bytes_eq (codes "(empty)") marks.unset) (Some cell.Unset) (cond (bytes_eq (codes "(empty)") marks.empty) (Some (cell.Many [])) o) ≡ Some x → cell_text x ≡ codes "(empty)"
unfolding cell_text
empty_by marks o x usual is =
    let set : bytes_eq (codes "(empty)") marks.unset ≡ false = ap (bytes_eq (codes "(empty)")) usual.unset in
    let empty : bytes_eq (codes "(empty)") marks.empty ≡ true = ap (bytes_eq (codes "(empty)")) usual.empty in
    let inner : Option Cell = cond (bytes_eq (codes "(empty)") marks.empty) (Some (cell.Many [])) o in
    let read : Some (cell.Many []) ≡ Some x =
    sym (cond-false (bytes_eq (codes "(empty)") marks.unset) (Some cell.Unset) inner set ∙ cond-true (bytes_eq (codes "(empty)") marks.empty) (Some (cell.Many [])) o empty) ∙ is in
    let same : cell.Many [] ≡ x = cc in subst (λ (y : Cell). cell_text y ≡ codes "(empty)") same refl

pub empty_set_own : (e : Elem) → IsOwnText (kind.SetOf e) (codes "(empty)")
unfolding cell_read
empty_set_own e marks usual x is = empty_by marks _ x usual is

pub empty_list_own : (e : Elem) → IsOwnText (kind.VecOf e) (codes "(empty)")
unfolding cell_read
empty_list_own e marks usual x is = empty_by marks _ x usual is
