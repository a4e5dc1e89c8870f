-- In a spelling the source and the number of rows lie where they are looked for.
use Rattle.std.proofs.Common.{◌≡◌, ℕ, suc, ◌-◌, ◌+◌, ◌<◌, ◌≤◌, ◌^◌, true, false, ◌&&◌, ltb, leb, List, [], ◌∷◌, ◌++◌, length, Option, None, Some, refl, sym, ap, ◌∙◌, append_assoc, arith}
use Rattle.std.specs.Prelude.{is_none}
use Rattle.std.specs.List.{list_all, flat_map}
use Rattle.std.proofs.lemmas.Bool.{leb-true, le-ltb}
use Rattle.std.proofs.lemmas.List.{length-append, drop_at}
use Rattle.vast_value.specs.Headings.{Field, heading_fault}
use Rattle.vast_value.specs.ValueBytes.{number, text}
use Rattle.event_batch.specs.Contents.{Spelled, is_short_field}
use Rattle.event_batch.specs.Spelling.{field_bytes, row_bytes, heading_bytes, spelling}
use Rattle.event_batch.specs.Packings.{said_in, IsSpelled}
use Rattle.event_batch.specs.Reading.{byte_at}
use Rattle.event_batch.specs.Places.{behind_text, behind_field, behind_fields, source_at, row_count_at}
use Rattle.event_batch.proofs.ContentLemmas.{both, few, none_is, Parts, parts_of}
use Rattle.event_batch.proofs.ReadingLemmas.{some_is}
use Rattle.event_batch.proofs.FieldLemmas.{number_again}

text_behind : (t rest : List ℕ) → length t ≤ 2 ^ 24 → behind_text (text t ++ rest) ≡ Some rest
unfolding behind_text
text_behind t rest le =
    let long : ltb (length (t ++ rest)) (length t) ≡ false = le-ltb _ _ (omega (arith, length-append t rest)) in
    let n = number_again 4 (length t) (t ++ rest) (omega arith) in
    rw (append_assoc, n, long, drop_at t rest (length t) refl) refl

field_behind : (f : Field) (rest : List ℕ) → is_short_field f ≡ true → behind_field (field_bytes f ++ rest) ≡ Some rest
unfolding behind_field byte_at
field_behind f rest h = text_behind f.name rest (leb-true (length f.name) (2 ^ 24) h)

fields_behind : (fs : List Field) (rest : List ℕ) → list_all is_short_field fs ≡ true → behind_fields (length fs) (flat_map field_bytes fs ++ rest) ≡ Some rest
unfolding behind_fields
fields_behind [] rest h = refl
fields_behind (f ∷ fs) rest h =
    let parts = both (is_short_field f) (list_all is_short_field fs) h in
    let regrouped : flat_map field_bytes (f ∷ fs) ++ rest ≡ field_bytes f ++ (flat_map field_bytes fs ++ rest) = append_assoc (field_bytes f) (flat_map field_bytes fs) rest in
    ap (behind_fields (suc (length fs))) regrouped ∙ rw (field_behind f (flat_map field_bytes fs ++ rest) parts.0, fields_behind fs rest parts.1) refl

abbrev rows_bytes : Spelled → List ℕ
rows_bytes s = number 4 (length s.content.rows) ++ flat_map (row_bytes s.format) s.content.rows

source_found : (s : Spelled) → Parts s → source_at (spelling s) ≡ Some (s.content.source, heading_bytes s.content.heading ++ rows_bytes s)
unfolding source_at byte_at
source_found s p =
    let lt = p.narrow in
    number_again 4 s.content.source (heading_bytes s.content.heading ++ rows_bytes s) (omega arith)

count_found : (s : Spelled) → Parts s → row_count_at (spelling s) ≡ Some (length s.content.rows, flat_map (row_bytes s.format) s.content.rows)
unfolding row_count_at
count_found s p =
    let c = s.content in
    let most = leb-true (length c.rows) 4096 (both (leb 1 (length c.rows)) (leb (length c.rows) 4096) p.sized).1 in
    let e = both (is_none (heading_fault c.heading)) (leb (length c.heading.path) (2 ^ 24) && list_all is_short_field c.heading.fields) p.heading in
    let f = both (leb (length c.heading.path) (2 ^ 24)) (list_all is_short_field c.heading.fields) e.1 in
    let columns = few c.heading (none_is (heading_fault c.heading) e.0) in
    let fields = flat_map field_bytes c.heading.fields in
    let path = text_behind c.heading.path (number 2 (length c.heading.fields) ++ (fields ++ rows_bytes s)) (leb-true (length c.heading.path) (2 ^ 24) f.0) in
    let n = number_again 2 (length c.heading.fields) (fields ++ rows_bytes s) (omega arith) in
    let behind = fields_behind c.heading.fields (rows_bytes s) f.1 in
    let count = number_again 4 (length c.rows) (flat_map (row_bytes s.format) c.rows) (omega arith) in
    let regrouped : heading_bytes c.heading ++ rows_bytes s ≡ text c.heading.path ++ (number 2 (length c.heading.fields) ++ (fields ++ rows_bytes s)) =
    append_assoc (text c.heading.path) (number 2 (length c.heading.fields) ++ fields) (rows_bytes s) ∙ ap (λ (x : List ℕ). text c.heading.path ++ x) (append_assoc (number 2 (length c.heading.fields)) fields (rows_bytes s)) in
    let found : behind_text (heading_bytes c.heading ++ rows_bytes s) ≡ Some (number 2 (length c.heading.fields) ++ (fields ++ rows_bytes s)) = ap behind_text regrouped ∙ path in
    rw (source_found s p, found, n, behind, count) refl

source_of : (bytes : List ℕ) → IsSpelled bytes → source_at bytes ≡ Some ((said_in bytes).content.source, heading_bytes (said_in bytes).content.heading ++ rows_bytes (said_in bytes))
source_of bytes s = ap source_at s.spelled ∙ source_found (said_in bytes) (parts_of (said_in bytes) s.spellable)

count_of : (bytes : List ℕ) → IsSpelled bytes → row_count_at bytes ≡ Some (length (said_in bytes).content.rows, flat_map (row_bytes (said_in bytes).format) (said_in bytes).content.rows)
count_of bytes s = ap row_count_at s.spelled ∙ count_found (said_in bytes) (parts_of (said_in bytes) s.spellable)

first_is : (o : Option (ℕ × List ℕ)) (x y : ℕ × List ℕ) → o ≡ Some x → Some y ≡ o → y.0 ≡ x.0
first_is o x y p q = ap (λ (z : ℕ × List ℕ). z.0) (some_is y x (q ∙ p))

not_none : (o : Option (ℕ × List ℕ)) (x : ℕ × List ℕ) → o ≡ Some x → None ≡ o → ⊥
not_none o x p q = let e : None ≡ Some x = q ∙ p in cc

pub source_is : (bytes : List ℕ) (y : ℕ × List ℕ) → IsSpelled bytes → Some y ≡ source_at bytes → y.0 ≡ (said_in bytes).content.source
source_is bytes y s e = first_is (source_at bytes) _ y (source_of bytes s) e

pub source_stands : (bytes : List ℕ) → IsSpelled bytes → None ≡ source_at bytes → ⊥
source_stands bytes s e = not_none (source_at bytes) _ (source_of bytes s) e

pub count_is : (bytes : List ℕ) (y : ℕ × List ℕ) → IsSpelled bytes → Some y ≡ row_count_at bytes → y.0 ≡ length (said_in bytes).content.rows
count_is bytes y s e = first_is (row_count_at bytes) _ y (count_of bytes s) e

pub count_stands : (bytes : List ℕ) → IsSpelled bytes → None ≡ row_count_at bytes → ⊥
count_stands bytes s e = not_none (row_count_at bytes) _ (count_of bytes s) e

-- a loop over columns
pub goes_on : (count i : ℕ) (bytes after : List ℕ) (total : Option (List ℕ)) → i < count → behind_field bytes ≡ Some after → behind_fields (count - i) bytes ≡ total → behind_fields (count - (i + 1)) after ≡ total
unfolding behind_fields
goes_on count i bytes after total lt h so_far =
    let k : count - i ≡ suc (count - (i + 1)) = omega arith in
    let here : behind_fields (count - i) bytes ≡ behind_fields (count - (i + 1)) after = rw (k, h) refl in
    sym here ∙ so_far

pub ends : (count i : ℕ) (bytes : List ℕ) (total : Option (List ℕ)) → i < count → behind_field bytes ≡ None → behind_fields (count - i) bytes ≡ total → None ≡ total
unfolding behind_fields
ends count i bytes total lt h so_far =
    let k : count - i ≡ suc (count - (i + 1)) = omega arith in
    let here : behind_fields (count - i) bytes ≡ None = rw (k, h) refl in
    sym here ∙ so_far

pub is_done : (count i : ℕ) (bytes : List ℕ) (total : Option (List ℕ)) → count ≤ i → behind_fields (count - i) bytes ≡ total → Some bytes ≡ total
unfolding behind_fields
is_done count i bytes total le so_far =
    let k : count - i ≡ 0 = omega arith in
    let here : behind_fields (count - i) bytes ≡ Some bytes = rw k refl in
    sym here ∙ so_far
