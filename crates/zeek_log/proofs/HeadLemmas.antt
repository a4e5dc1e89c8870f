-- Names with which nothing is wrong, and a path, make a layout; and a row that fits its columns fits its heading.
use Rattle.std.proofs.Common.{◌≡◌, ℕ, ◌+◌, ◌==◌, Bool, true, false, List, [], ◌∷◌, ◌++◌, Option, None, Some, Result, Ok, Err, length, map, refl, ap, sym, ◌∙◌, subst, arith, is_none, not, IsTrue, IsSomeAnd}
use Rattle.std.specs.List.{list_any, list_all}
use Rattle.std.specs.Option.{option_or, option_map}
use Rattle.std.specs.Str.{bytes_eq}
use Rattle.std.proofs.lemmas.Bool.{and_parts, eqb-true}
use Rattle.vast_value.specs.declared.cell.Cell.{Cell}
use Rattle.vast_value.specs.declared.column.Column.{Column}
use Rattle.vast_value.specs.declared.kind.Kind.{Kind}
use Rattle.vast_value.specs.declared.layout.BadLayout.{BadLayout}
use Rattle.vast_value.specs.declared.layout.Layout.{Layout}
use Rattle.vast_value.specs.Fit.{fits_columns}
use Rattle.vast_value.specs.Headings.{Field, Heading, field_of, heading_of, field_fault, fields_fault, heading_fault, fits_fields}
use Rattle.vast_value.specs.Layouts.{is_empty, layout_fault, name_fault as bad_name}
use Rattle.vast_value.proofs.HeadingLemmas.{fits_fields-map, heading_fault-map}
use Rattle.zeek_log.specs.declared.fault.At.{At}
use Rattle.zeek_log.specs.declared.fault.ZeekFault.TheVariants.{FieldsTypes}
use Rattle.zeek_log.specs.Heads.{name_fault, names_fault, kind_read, kinds_read}
use Rattle.zeek_log.specs.Laws.{name_of}
use Rattle.zeek_log.specs.Lines.{pieces_of}
use Rattle.zeek_log.specs.Naming.{are_named, is_short}
use Rattle.zeek_log.specs.Table.{fields_with, fields_made, fields_read}
use Rattle.zeek_log.proofs.CutLemmas.{pieces_some}

pub some_none : {X : Type 0} {x : X} {o : Option X} → o ≡ Some x → o ≡ None → ⊥
some_none p q = cc

err_ok : {X : Type 0} {x : X} {at : At} {r : Result X At} → r ≡ Err at → r ≡ Ok x → ⊥
err_ok p q = cc

ok_same : {X : Type 0} {x y : X} {r : Result X At} → r ≡ Ok x → r ≡ Ok y → x ≡ y
ok_same p q = cc

pub both_none : {X : Type 0} (a b : Option X) → option_or a b ≡ None → (a ≡ None) × (b ≡ None)
both_none None b e = (refl, e)
both_none (Some x) b e = absurd (some_none refl e)

pub among-map : (name : List ℕ) (before : List Field) → list_any (λ g. bytes_eq g.name name) before ≡ list_any (λ other. bytes_eq other name) (map name_of before)
among-map name [] = refl
among-map name (f ∷ fs) = grind (arith, among-map name fs)

nothing_mapped : {X Y : Type 0} (f : X → Y) (o : Option X) → option_map f o ≡ None → o ≡ None
nothing_mapped f None e = refl
nothing_mapped f (Some x) e = absurd (some_none refl e)

field_sound : (n : ℕ) (before : List Field) (f : Field) → name_fault n (map name_of before) f.name ≡ None → field_fault n before f ≡ None
field_sound n before f fine =
    ap (bad_name n f.name) (among-map f.name before)
    ∙ nothing_mapped _ (bad_name n f.name (list_any (λ other. bytes_eq other f.name) (map name_of before))) fine

pub map_push : (before : List Field) (f : Field) → map name_of (before ++ f ∷ []) ≡ map name_of before ++ f.name ∷ []
map_push [] f = refl
map_push (b ∷ before) f = grind (arith, map_push before f)

names_sound : (n : ℕ) (before fs : List Field) → names_fault n (map name_of before) (map name_of fs) ≡ None → fields_fault n before fs ≡ None
names_sound n before [] fine = refl
names_sound n before (f ∷ fs) fine =
    let parts = both_none (name_fault n (map name_of before) f.name) (names_fault (n + 1) (map name_of before ++ f.name ∷ []) (map name_of fs)) fine in
    let behind : names_fault (n + 1) (map name_of (before ++ f ∷ [])) (map name_of fs) ≡ None =
    ap (λ (b : List (List ℕ)). names_fault (n + 1) b (map name_of fs)) (map_push before f) ∙ parts.1 in
    ap (λ (o : Option BadLayout). option_or o (fields_fault (n + 1) (before ++ f ∷ []) fs)) (field_sound n before f parts.0)
    ∙ names_sound (n + 1) (before ++ f ∷ []) fs behind

kinds_length : (n : ℕ) (types : List (List ℕ)) (ks : List Kind) → kinds_read n types ≡ Ok ks → length ks ≡ length types
kinds_length n [] ks e = ap length (ok_same e refl)
kinds_length n (t ∷ ts) ks e = by (kind_read n t) refl (kinds_read (n + 1) ts) refl (λ more q. kinds_length (n + 1) ts more q)
  where
    by : (r : Result Kind At) → kind_read n t ≡ r → (rs : Result (List Kind) At) → kinds_read (n + 1) ts ≡ rs
        → ((more : List Kind) → kinds_read (n + 1) ts ≡ Ok more → length more ≡ length ts) → length ks ≡ length (t ∷ ts)
    by (Err a) p rs q behind = let bad : kinds_read n (t ∷ ts) ≡ Err a = rw p refl in absurd (err_ok bad e)
    by (Ok k) p (Err a) q behind = let bad : kinds_read n (t ∷ ts) ≡ Err a = rw (p, q) refl in absurd (err_ok bad e)
    by (Ok k) p (Ok more) q behind =
        let is : kinds_read n (t ∷ ts) ≡ Ok (k ∷ more) = rw (p, q) refl in
        let len : length more ≡ length ts = behind more q in
        omega (arith, ap length (ok_same e is), len)

with_names : (names : List (List ℕ)) (ks : List Kind) → length ks ≡ length names → map name_of (fields_with names ks) ≡ names
with_names [] ks len = refl
with_names (n ∷ ns) [] len = absurd (omega arith)
with_names (n ∷ ns) (k ∷ ks) len = ap (λ (l : List (List ℕ)). n ∷ l) (with_names ns ks (omega arith))

made_names : (names types : List (List ℕ)) (fs : List Field) → length types ≡ length names → (r : Result (List Kind) At) → kinds_read 1 types ≡ r → fields_made names r ≡ Ok fs → map name_of fs ≡ names
made_names names types fs len (Err a) p made = absurd (err_ok {r = fields_made names (Err a)} refl made)
made_names names types fs len (Ok ks) p made =
    ap (map name_of) (ok_same made refl) ∙ with_names names ks (kinds_length 1 types ks p ∙ len)

-- fields that were read have the names, as many as there are types
read_names : (names types : List (List ℕ)) (fs : List Field) → fields_read names types ≡ Ok fs → (map name_of fs ≡ names) × (length types ≡ length names)
read_names names types fs e = by (length types == length names) refl
  where
    by : (b : Bool) → (length types == length names) ≡ b → (map name_of fs ≡ names) × (length types ≡ length names)
    by true p =
        let same : length types ≡ length names = eqb-true (length types) (length names) p in
        let made : fields_made names (kinds_read 1 types) ≡ Ok fs = sym (let is : fields_read names types ≡ fields_made names (kinds_read 1 types) = rw p refl in is) ∙ e in
        (made_names names types fs same (kinds_read 1 types) refl made, same)
    by false p = let bad : fields_read names types ≡ Err (record { column = 0; what = FieldsTypes }) = rw p refl in absurd (err_ok bad e)

some_fields : (fs : List Field) (names types : List (List ℕ)) → map name_of fs ≡ names → length types ≡ length names → is_empty types ≡ false → is_empty fs ≡ false
some_fields (f ∷ fs) names types same len some = refl
some_fields [] names [] same len some = cc
some_fields [] names (t ∷ ts) same len some = absurd (omega (arith, ap length same))

fine_names : (names : List (List ℕ)) → are_named names ≡ true → names_fault 1 [] names ≡ None
unfolding are_named
fine_names names named = by (names_fault 1 [] names) (and_parts (is_none (names_fault 1 [] names)) (list_all is_short names) named).0
  where
    by : (o : Option At) → is_none o ≡ true → o ≡ None
    by None e = refl
    by (Some at) e = cc

abbrev headed : List ℕ → List Field → Heading
headed path fs = record { path = path; fields = fs }

-- nothing is wrong with the layout of a path and the columns that were read
pub columns_sound : (s : ℕ) (path seen text : List ℕ) (names : List (List ℕ)) (cs : List Column) → seen ≡ path → not (is_empty path) ≡ true → are_named names ≡ true
    → fields_read names (pieces_of s text) ≡ Ok (map field_of cs) → layout_fault seen cs ≡ None
columns_sound s path seen text names cs is some named read =
    let same = read_names names (pieces_of s text) (map field_of cs) read in
    let fine : fields_fault 1 [] (map field_of cs) ≡ None =
    names_sound 1 [] (map field_of cs) (ap (λ (l : List (List ℕ)). names_fault 1 [] l) same.0 ∙ fine_names names named) in
    let full : is_empty path ≡ false = not_empty (is_empty path) some in
    let columns : is_empty (map field_of cs) ≡ false = some_fields (map field_of cs) names (pieces_of s text) same.0 same.1 (pieces_some s text) in
    let none : heading_fault (headed path (map field_of cs)) ≡ None = rw (full, columns) fine in
    ap (λ (p : List ℕ). layout_fault p cs) is ∙ sym (heading_fault-map path cs) ∙ none
  where
    not_empty : (b : Bool) → not b ≡ true → b ≡ false
    not_empty true e = cc
    not_empty false e = refl

-- a row that fits a layout's columns fits its heading
pub row_fits : (known : Option Layout) (layout : Layout) (cs : List Column) (row : List Cell) → known ≡ Some layout → cs ≡ layout.columns → fits_columns cs row ≡ true
    → IsSomeAnd (option_map heading_of known) (λ heading. IsTrue (fits_fields heading.fields row))
row_fits known layout cs row is same fits =
    subst (λ (l : Option Layout). IsSomeAnd (option_map heading_of l) (λ heading. IsTrue (fits_fields heading.fields row))) (sym is)
    (fits_fields-map layout.columns row ∙ ap (λ (ds : List Column). fits_columns ds row) (sym same) ∙ fits)
