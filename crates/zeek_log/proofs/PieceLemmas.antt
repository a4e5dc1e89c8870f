-- Pieces of a line, read one by one: what is still to be read stands ahead of what was.
use Rattle.std.proofs.Common.{◌≡◌, ℕ, zero, suc, ◌+◌, ◌<◌, ◌≤◌, ◌^◌, ◌==◌, ◌&&◌, true, false, List, [], ◌∷◌, ◌++◌, Option, None, Some, Result, Ok, Err, length, take, drop, get_or, map, refl, ap, sym, ◌∙◌, add-one, arith, append_assoc, drop-cons, is_some, is_none, IsOkAnd, Bor}
use Rattle.std.specs.Option.{option_copied, option_map}
use Rattle.std.proofs.lemmas.Bool.{and_parts, leb-true, ne_eqb}
use Rattle.std.specs.List.{list_all}
use Rattle.std.proofs.lemmas.List.{append-nil, take_more, length-map}
use Rattle.std.proofs.lemmas.List.Folds.{list_all-append}
use Rattle.vast_value.specs.declared.cell.Cell.{Cell}
use Rattle.vast_value.specs.declared.column.Column.{Column}
use Rattle.vast_value.specs.declared.kind.Kind.{Kind}
use Rattle.vast_value.specs.Fit.{fits_column, fits_columns, is_small}
use Rattle.vast_value.specs.Layouts.{is_empty}
use Rattle.vast_value.specs.Headings.{Field, field_of}
use Rattle.vast_value.proofs.RowLemmas.{fits_push}
use Rattle.value_text.specs.declared.Marks.{Marks}
use Rattle.value_text.specs.Reading.{cell_read}
use Rattle.zeek_log.specs.declared.fault.At.{At}
use Rattle.zeek_log.specs.declared.fault.LineEnd.{LineEnd}
use Rattle.zeek_log.specs.declared.fault.LineEnd.TheVariants.{Bad}
use Rattle.zeek_log.specs.declared.fault.ZeekFault.TheVariants.{CellCount}
use Rattle.zeek_log.specs.Answers.{Answers}
use Rattle.zeek_log.specs.Cuts.{pieces_left}
use Rattle.zeek_log.specs.Heads.{names_fault, kind_read, kinds_read, then_kind}
use Rattle.zeek_log.specs.Lines.{pieces_of}
use Rattle.zeek_log.specs.Naming.{are_named, is_short}
use Rattle.zeek_log.proofs.CutLemmas.{pieces_some}
use Rattle.zeek_log.specs.Table.{cells_read, row_read, then_cell, field_with, fields_made}

abbrev pub ahead : {X : Type 0} → List X → Result (List X) At → Result (List X) At
ahead done (Ok rest) = Ok (done ++ rest)
ahead done (Err at) = Err at

pub ahead-nil : {X : Type 0} (rest : Result (List X) At) → ahead [] rest ≡ rest
ahead-nil (Ok xs) = refl
ahead-nil (Err at) = refl

pub ahead-cons : {X : Type 0} (done : List X) (x : X) (rest : Result (List X) At) → ahead done (ahead (x ∷ []) rest) ≡ ahead (done ++ x ∷ []) rest
ahead-cons done x (Ok xs) = ap Ok (sym (append_assoc done (x ∷ []) xs))
ahead-cons done x (Err at) = refl

-- what a loop over a list has at its place, and what is left behind that
pub item_left : {X : Type 0} (xs : List X) (i : ℕ) (x : X) → i < length xs → x ≡ get_or xs i x → drop i xs ≡ x ∷ drop (i + 1) xs
item_left xs i x below is =
    drop-cons xs i x below ∙ ap (λ (y : _). y ∷ drop (suc i) xs) (sym is) ∙ ap (λ (n : ℕ). x ∷ drop n xs) (sym (add-one i))

pub item_taken : {X : Type 0} (xs : List X) (i : ℕ) (x : X) → i < length xs → x ≡ get_or xs i x → take (i + 1) xs ≡ take i xs ++ x ∷ []
item_taken xs i x below is = take_more xs i x below ∙ ap (λ (y : _). take i xs ++ y ∷ []) (sym is)

-- names

-- columns

made_step : (name : List ℕ) (names : List (List ℕ)) (kind : Kind) (kinds : Result (List Kind) At)
    → fields_made (name ∷ names) (then_kind (Ok kind) kinds) ≡ ahead (field_with name kind ∷ []) (fields_made names kinds)
made_step name names kind (Ok ks) = refl
made_step name names kind (Err at) = refl

pub column_step : (whole : Result (List Field) At) (n : ℕ) (cs new : List Column) (names behind pieces more : List (List ℕ)) (name t : List ℕ) (kind : Result Kind At)
    → whole ≡ ahead (map field_of cs) (fields_made names (kinds_read n pieces)) → names ≡ name ∷ behind → pieces ≡ t ∷ more → kind_read n t ≡ kind
    → IsOkAnd kind (λ k. map field_of new ≡ map field_of cs ++ field_with name k ∷ [])
    → whole ≡ ahead (map field_of new) (fields_made behind (kinds_read (n + 1) more))
column_step whole n cs new names behind pieces more name t (Ok k) is split cut kind put =
    is ∙ ap (λ (ns : List (List ℕ)). ahead (map field_of cs) (fields_made ns (kinds_read n pieces))) split
    ∙ ap (λ (ps : List (List ℕ)). ahead (map field_of cs) (fields_made (name ∷ behind) (kinds_read n ps))) cut
    ∙ ap (λ (r : Result Kind At). ahead (map field_of cs) (fields_made (name ∷ behind) (then_kind r (kinds_read (n + 1) more)))) kind
    ∙ ap (λ (r : Result (List Field) At). ahead (map field_of cs) r) (made_step name behind k (kinds_read (n + 1) more))
    ∙ ahead-cons (map field_of cs) (field_with name k) (fields_made behind (kinds_read (n + 1) more))
    ∙ ap (λ (fs : List Field). ahead fs (fields_made behind (kinds_read (n + 1) more))) (sym put)
column_step whole n cs new names behind pieces more name t (Err at) is split cut kind put = absurd put

-- rows

cell_step : (n : ℕ) (cell : Cell) (rest : Result (List Cell) At) → then_cell n (Some cell) rest ≡ ahead (cell ∷ []) rest
cell_step n cell (Ok xs) = refl
cell_step n cell (Err at) = refl

abbrev fields : List Column → List Field
fields cs = map field_of cs

-- the cell that was put behind others
pub record Put (read : Option Cell) (row new : List Cell) : Type 0 where
  pub cell : Cell
  pub is : read ≡ Some cell
  pub put : new ≡ row ++ cell ∷ []

pub cell_put : (read : Option Cell) (row new : List Cell) → option_map (λ x. row ++ x ∷ []) read ≡ Some new → Put read row new
cell_put None row new put = absurd cc
cell_put (Some x) row new put = record { cell = x; is = refl; put = cc }

pub last_small : (row new : List Cell) (x : Cell) → new ≡ row ++ x ∷ [] → list_all is_small new ≡ true → is_small x ≡ true
last_small row new x put all =
    let both : (list_all is_small row && list_all is_small (x ∷ [])) ≡ true = sym (list_all-append is_small row (x ∷ [])) ∙ ap (list_all is_small) (sym put) ∙ all in
    (and_parts (is_small x) true (and_parts (list_all is_small row) (list_all is_small (x ∷ [])) both).1).0

pub row_step : (m : Marks) (whole : Result (List Cell) At) (n : ℕ) (row new : List Cell) (cs behind : List Column) (c : Column) (pieces more : List (List ℕ)) (raw : List ℕ) (x : Cell)
    → whole ≡ ahead row (cells_read m n (fields cs) pieces) → cs ≡ c ∷ behind → pieces ≡ raw ∷ more → cell_read m c.kind raw ≡ Some x → new ≡ row ++ x ∷ []
    → whole ≡ ahead new (cells_read m (n + 1) (fields behind) more)
row_step m whole n row new cs behind c pieces more raw x is split cut value put =
    is ∙ ap (λ (ds : List Column). ahead row (cells_read m n (fields ds) pieces)) split
    ∙ ap (λ (ps : List (List ℕ)). ahead row (cells_read m n (fields (c ∷ behind)) ps)) cut
    ∙ ap (λ (o : Option Cell). ahead row (then_cell n o (cells_read m (n + 1) (fields behind) more))) value
    ∙ ap (λ (r : Result (List Cell) At). ahead row r) (cell_step n x (cells_read m (n + 1) (fields behind) more))
    ∙ ahead-cons row x (cells_read m (n + 1) (fields behind) more)
    ∙ ap (λ (xs : List Cell). ahead xs (cells_read m (n + 1) (fields behind) more)) (sym put)

pub row_count : (m : Marks) (fs : List Field) (line : List (List ℕ)) → (length line == length fs) ≡ false → row_read m fs line ≡ Err (record { column = 0; what = CellCount })
row_count m fs line other = rw other refl

pub fits_step : (cs : List Column) (i : ℕ) (c : Column) (row new : List Cell) (x : Cell) → i < length cs → c ≡ get_or cs i c
    → fits_columns (take i cs) row ≡ true → fits_column c x ≡ true → new ≡ row ++ x ∷ [] → fits_columns (take (i + 1) cs) new ≡ true
fits_step cs i c row new x below is fits fit put =
    ap (λ (ds : List Column). fits_columns ds new) (item_taken cs i c below is)
    ∙ ap (λ (xs : List Cell). fits_columns (take i cs ++ c ∷ []) xs) put ∙ fits_push (take i cs) row c x fits fit

-- names that are kept

pub names_named : (s : ℕ) (pieces items : List (List ℕ)) (rest : Option (Bor (List ℕ))) → names_fault 1 [] pieces ≡ names_fault (length items + 1) items (pieces_left s (option_copied rest))
    → pieces ≡ items ++ pieces_left s (option_copied rest) → rest ≡ None → list_all is_short items ≡ true → are_named items ≡ true
unfolding are_named
names_named s pieces items rest read all none short =
    let nothing : pieces_left s (option_copied rest) ≡ [] = ap (λ (r : Option (Bor (List ℕ))). pieces_left s (option_copied r)) none in
    let same : pieces ≡ items = all ∙ ap (λ (l : List (List ℕ)). items ++ l) nothing ∙ append-nil items in
    let fine : names_fault 1 [] items ≡ None =
    ap (λ (l : List (List ℕ)). names_fault 1 [] l) (sym same) ∙ read ∙ ap (λ (l : List (List ℕ)). names_fault (length items + 1) items l) nothing in
    rw (fine, short) refl

short_at : (names : List (List ℕ)) (i : ℕ) (x : List ℕ) → list_all is_short names ≡ true → i < length names → x ≡ get_or names i x → length x ≤ 2 ^ 24
short_at [] i x all below is = absurd (omega arith)
short_at (n ∷ ns) zero x all below is =
    leb-true (length x) (2 ^ 24) (ap is_short is ∙ (and_parts (is_short n) (list_all is_short ns) all).0)
short_at (n ∷ ns) (suc i) x all below is = short_at ns i x (and_parts (is_short n) (list_all is_short ns) all).1 (omega arith) is

pub name_short : (names : List (List ℕ)) (i : ℕ) (x : List ℕ) → are_named names ≡ true → i < length names → x ≡ get_or names i x → length x ≤ 2 ^ 24
unfolding are_named
name_short names i x named below is = short_at names i x (and_parts (is_none (names_fault 1 [] names)) (list_all is_short names) named).1 below is

-- a piece is left, but no column
some_length : (xs : List (List ℕ)) → is_empty xs ≡ false → 0 < length xs
some_length [] some = cc
some_length (x ∷ xs) some = omega arith

left_length : (s : ℕ) (rest : Option (Bor (List ℕ))) → is_some rest ≡ true → 0 < length (pieces_left s (option_copied rest))
left_length s None some = cc
left_length s (Some r) some = some_length (pieces_of s r.now) (pieces_some s r.now)

pub row_over : (m : Marks) (s : ℕ) (cs : List Column) (line : List (List ℕ)) (rest : Option (Bor (List ℕ))) (at : ℕ)
    → at + length (pieces_left s (option_copied rest)) ≡ length line → length cs ≤ at → is_some rest ≡ true → row_read m (fields cs) line ≡ Err (record { column = 0; what = CellCount })
row_over m s cs line rest at count low some =
    row_count m (fields cs) line (ne_eqb (length line) (length (fields cs)) (λ same. absurd (omega (arith, same, count, low, length-map cs field_of, left_length s rest some))))

pub as_bad : {X Y : Type 0} (see : X → Y) (e : LineEnd) (at : At) (value : Result Y At) → e ≡ Bad at → value ≡ Err at → Answers see (Err e) value
as_bad see e at value is bad = rw is bad
