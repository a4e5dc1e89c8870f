-- How many bytes values, cells and rows have.
use Rattle.std.proofs.Common.{◌≡◌, ℕ, suc, ◌+◌, ◌-◌, ◌*◌, ◌<◌, ◌≤◌, ◌^◌, min, Bool, true, false, leb, List, [], ◌∷◌, ◌++◌, length, get_or, take, map, Option, None, Some, refl, ap, ◌∙◌, arith, mul-suc}
use Rattle.std.specs.Int.{w64, cast_unsigned}
use Rattle.std.specs.List.{list_all, flat_map}
use Rattle.std.proofs.lemmas.Bool.{leb-true}
use Rattle.std.proofs.lemmas.List.{length-append}
use Rattle.std.proofs.lemmas.Grind.{common_steps}
use Rattle.vast_value.specs.declared.value.Value.{Value}
use Rattle.vast_value.specs.declared.value.Value.TheVariants as value
use Rattle.vast_value.specs.declared.cell.Cell.{Cell}
use Rattle.vast_value.specs.declared.cell.Cell.TheVariants.{Unset, One, Many}
use Rattle.vast_value.specs.declared.column.Column.{Column}
use Rattle.vast_value.specs.declared.layout.Layout.{Layout}
use Rattle.vast_value.specs.Fit.{is_bounded, is_bounded_element, is_small, is_short, is_byte, fits_column, fits_columns}
use Rattle.vast_value.specs.Headings.{field_of}
use Rattle.vast_value.specs.Ports.{transport_code}
use Rattle.vast_value.specs.ValueBytes.{number, text, value_bytes}
use Rattle.vast_value.proofs.HeadingLemmas.{fits_fields-map}
use Rattle.event_batch.specs.declared.format.Format.TheVariants.{Second}
use Rattle.event_batch.specs.Spelling.{element_bytes, cell_bytes, row_bytes}
use Rattle.event_batch.proofs.ContentLemmas.{both, few_columns, cells_small}
use Rattle.event_batch.proofs.FieldLemmas.{length_number}

length_text : (t : List ℕ) → length (text t) ≡ 4 + length t
length_text t = omega (arith, length-append (number 4 (length t)) t, length_number 4 (length t))

length_port : (p : ℕ) (code : ℕ) → length (number 2 p ++ code ∷ []) ≡ 3
length_port p code = omega (arith, length-append (number 2 p) (code ∷ []), length_number 2 p)

length_net : (base : ℕ) (bits : ℕ) → length (number 16 base ++ bits ∷ []) ≡ 17
length_net base bits = omega (arith, length-append (number 16 base) (bits ∷ []), length_number 16 base)

abbrev pub value_count : Value → ℕ
value_count (value.Bool b) = 1
value_count (value.Count n) = 8
value_count (value.Int z) = 8
value_count (value.Time z) = 8
value_count (value.Span z) = 8
value_count (value.Text t) = 4 + length t
value_count (value.Name t) = 4 + length t
value_count (value.Addr a) = 16
value_count (value.Subnet n) = 17
value_count (value.Port p over) = 3

pub value_length : (v : Value) → length (value_bytes v) ≡ value_count v
value_length (value.Bool true) = refl
value_length (value.Bool false) = refl
value_length (value.Count n) = length_number 8 n
value_length (value.Int z) = length_number 8 (cast_unsigned w64 z)
value_length (value.Time z) = length_number 8 (cast_unsigned w64 z)
value_length (value.Span z) = length_number 8 (cast_unsigned w64 z)
value_length (value.Text t) = length_text t
value_length (value.Name t) = length_text t
value_length (value.Addr a) = length_number 16 a
value_length (value.Subnet n) = length_net n.base n.bits
value_length (value.Port p over) = length_port p (transport_code over)

abbrev pub cell_count : Cell → ℕ
cell_count Unset = 1
cell_count (One v) = 1 + length (value_bytes v)
cell_count (Many items) = 5 + length (flat_map (element_bytes Second) items)

pub cell_length : (x : Cell) → length (cell_bytes Second x) ≡ cell_count x
cell_length Unset = refl
cell_length (One v) = omega arith
cell_length (Many items) = omega (arith, length-append (number 4 (length items)) (flat_map (element_bytes Second) items), length_number 4 (length items))

taken : {X : Type 0} (f : X → List ℕ) (xs : List X) (i : ℕ) (x : X) → i < length xs → x ≡ get_or xs i x → flat_map f (take (i + 1) xs) ≡ flat_map f (take i xs) ++ f x
taken f xs i x lt is = grind (arith, common_steps)

-- a loop that adds up what the items take
pub next_size : {X : Type 0} (f : X → List ℕ) (xs : List X) (i : ℕ) (x : X) (size part : ℕ) → i < length xs → x ≡ get_or xs i x → size ≡ min (length (flat_map f (take i xs))) (2 ^ 64 - 1) → part ≡ min (length (f x)) (2 ^ 64 - 1)
    → min (size + part) (2 ^ 64 - 1) ≡ min (length (flat_map f (take (i + 1) xs))) (2 ^ 64 - 1)
next_size f xs i x size part lt is p q =
    let whole : length (flat_map f (take (i + 1) xs)) ≡ length (flat_map f (take i xs)) + length (f x) = ap length (taken f xs i x lt is) ∙ length-append (flat_map f (take i xs)) (f x) in
    rw whole (omega arith)

-- items that take at most k bytes each
at_most : {X : Type 0} (f : X → List ℕ) (good : X → Bool) (k : ℕ) → ((x : X) → good x ≡ true → length (f x) ≤ k) → (xs : List X) → list_all good xs ≡ true → length (flat_map f xs) ≤ k * length xs
at_most f good k one [] h = omega arith
at_most f good k one (x ∷ xs) h =
    let parts = both (good x) (list_all good xs) h in
    let here = one x parts.0 in
    let others = at_most f good k one xs parts.1 in
    let sum = length-append (f x) (flat_map f xs) in
    let product : k * length (x ∷ xs) ≡ k * length xs + k = mul-suc k (length xs) in
    omega arith

text_bound : (t : List ℕ) → is_short t ≡ true → length t ≤ 16777216
text_bound t h = leb-true (length t) (2 ^ 24) (both (leb (length t) (2 ^ 24)) (list_all is_byte t) h).0

count_bound : (v : Value) → is_bounded v ≡ true → value_count v ≤ 16777220
count_bound (value.Text t) h = let few = text_bound t h in omega arith
count_bound (value.Name t) h = let few = text_bound t h in omega arith
count_bound (value.Bool b) h = omega arith
count_bound (value.Count n) h = omega arith
count_bound (value.Int z) h = omega arith
count_bound (value.Time z) h = omega arith
count_bound (value.Span z) h = omega arith
count_bound (value.Addr a) h = omega arith
count_bound (value.Subnet n) h = omega arith
count_bound (value.Port p over) h = omega arith

value_bound : (v : Value) → is_bounded v ≡ true → length (value_bytes v) ≤ 16777220
value_bound v h = rw (value_length v) (count_bound v h)

element_bound : (x : Option Value) → is_bounded_element x ≡ true → length (element_bytes Second x) ≤ 16777221
element_bound None h = omega arith
element_bound (Some v) h = let le = value_bound v h in omega arith

cell_bound : (x : Cell) → is_small x ≡ true → length (cell_bytes Second x) ≤ 2 ^ 49
cell_bound Unset h = omega arith
cell_bound (One v) h = let le = value_bound v h in omega arith
cell_bound (Many items) h =
    let parts = both (leb (length items) (2 ^ 24)) (list_all is_bounded_element items) h in
    let few = leb-true (length items) (2 ^ 24) parts.0 in
    let elements = at_most (element_bytes Second) is_bounded_element 16777221 element_bound items parts.1 in
    let whole : length (cell_bytes Second (Many items)) ≡ 5 + length (flat_map (element_bytes Second) items) = cell_length (Many items) in
    omega arith

same_length : (cs : List Column) (xs : List Cell) → fits_columns cs xs ≡ true → length xs ≡ length cs
same_length [] [] h = refl
same_length [] (x ∷ xs) h = absurd cc
same_length (c ∷ cs) [] h = absurd cc
same_length (c ∷ cs) (x ∷ xs) h = ap suc (same_length cs xs (both (fits_column c x) (fits_columns cs xs) h).1)

pub row_bound : (l : Layout) (row : List Cell) → fits_columns l.columns row ≡ true → length (row_bytes Second row) ≤ 2 ^ 57
row_bound l row h =
    let small = cells_small (map field_of l.columns) row (fits_fields-map l.columns row ∙ h) in
    let cells = at_most (cell_bytes Second) is_small (2 ^ 49) cell_bound row small in
    let count = same_length l.columns row h in
    let most = few_columns l in
    omega arith
