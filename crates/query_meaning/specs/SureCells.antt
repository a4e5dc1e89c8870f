-- What an index may tell of one cell: whether it surely meets a relation to a literal, and whether it may.
use Rattle.std.specs.Prelude.{ℕ, ℤ, pos, ◌%◌, min, Bool, true, false, not, ◌&&◌, List, Option, None, Some, length, take, nat_eq, nat_le, int_lt, int_le}
use Rattle.std.specs.Int.{int_div_euclid}
use Rattle.std.specs.List.{list_any, sum}
use Rattle.std.specs.Ordering.{int_eq}
use Rattle.std.specs.Str.{bytes_eq}
use Rattle.vast_value.specs.declared.value.Value.{Value}
use Rattle.vast_value.specs.declared.value.Value.TheVariants as value
use Rattle.vast_value.specs.declared.cell.Cell.{Cell}
use Rattle.vast_value.specs.declared.cell.Cell.TheVariants as cell
use Rattle.vast_value.specs.Kinds.{elem_of}
use Rattle.vast_value.specs.Layouts.{is_empty}
use Rattle.vast_value.specs.ValueBytes.{number, value_bytes}
use Rattle.query_meaning.specs.declared.expr.Rel.{Rel}
use Rattle.query_meaning.specs.declared.expr.Rel.TheVariants.{Eq, Ne, Lt, Le, Gt, Ge, Contains}
use Rattle.query_meaning.specs.declared.expr.Literal.{Literal}
use Rattle.query_meaning.specs.declared.expr.Literal.TheVariants.{Nil, Of}
use Rattle.query_meaning.specs.Relations.{goes_with, value_meets, nil_meets}

-- the whole seconds of a time, rounded down
abbrev pub seconds : ℤ → ℤ
seconds t = int_div_euclid t (pos 1000000000)

-- a time by its seconds: it is never known to be equal
abbrev pub sure_time : Rel → ℤ → ℤ → Bool
sure_time Ne literal t = not (int_eq (seconds t) (seconds literal))
sure_time Lt literal t = int_lt (seconds t) (seconds literal)
sure_time Le literal t = int_lt (seconds t) (seconds literal)
sure_time Gt literal t = int_lt (seconds literal) (seconds t)
sure_time Ge literal t = int_lt (seconds literal) (seconds t)
sure_time _ literal t = false

abbrev pub maybe_time : Rel → ℤ → ℤ → Bool
maybe_time Eq literal t = int_eq (seconds t) (seconds literal)
maybe_time Ne literal t = true
maybe_time Lt literal t = int_le (seconds t) (seconds literal)
maybe_time Le literal t = int_le (seconds t) (seconds literal)
maybe_time Gt literal t = int_le (seconds literal) (seconds t)
maybe_time Ge literal t = int_le (seconds literal) (seconds t)
maybe_time _ literal t = false

-- a text's length, as far as 255
abbrev pub known_length : List ℕ → ℕ
known_length text = min (length text) 255

-- the lengths, as far as 255, and the first eight bytes agree
abbrev pub same_front : List ℕ → List ℕ → Bool
same_front literal text = nat_eq (known_length literal) (known_length text) && bytes_eq (take 8 literal) (take 8 text)

-- the same, and there are no bytes but these eight
abbrev pub same_whole : List ℕ → List ℕ → Bool
same_whole literal text = same_front literal text && nat_le (length literal) 8

-- a text by its length and its first eight bytes
abbrev pub sure_text : Rel → List ℕ → List ℕ → Bool
sure_text Eq literal text = same_whole literal text
sure_text Ne literal text = not (same_front literal text)
sure_text Contains needle text = is_empty needle
sure_text _ literal text = false

abbrev pub maybe_text : Rel → List ℕ → List ℕ → Bool
maybe_text Eq literal text = same_front literal text
maybe_text Ne literal text = not (same_whole literal text)
maybe_text Contains needle text = nat_le (known_length needle) (known_length text)
maybe_text _ literal text = false

-- Of times and texts the seconds and the front are known, and all of other values.
abbrev pub sure_value : Rel → Value → Value → Bool
sure_value rel (value.Time c) (value.Time t) = sure_time rel c t
sure_value rel (value.Text s) (value.Text t) = sure_text rel s t
sure_value rel (value.Text s) (value.Name t) = sure_text rel s t
sure_value rel (value.Name s) (value.Text t) = sure_text rel s t
sure_value rel (value.Name s) (value.Name t) = sure_text rel s t
sure_value rel literal v = value_meets rel literal v

abbrev pub maybe_value : Rel → Value → Value → Bool
maybe_value rel (value.Time c) (value.Time t) = maybe_time rel c t
maybe_value rel (value.Text s) (value.Text t) = maybe_text rel s t
maybe_value rel (value.Text s) (value.Name t) = maybe_text rel s t
maybe_value rel (value.Name s) (value.Text t) = maybe_text rel s t
maybe_value rel (value.Name s) (value.Name t) = maybe_text rel s t
maybe_value rel literal v = value_meets rel literal v

-- What an element's bucket is the sum of: a text's own bytes, the two bytes of a port's number, or the bytes of another
-- value as a batch has them.
abbrev pub element_bytes : Value → List ℕ
element_bytes (value.Text t) = t
element_bytes (value.Name t) = t
element_bytes (value.Port p over) = number 2 p
element_bytes v = value_bytes v

-- one of 64 buckets
abbrev pub bucket : Value → ℕ
bucket v = sum (element_bytes v) % 64

-- the element is of a kind that the literal goes with, and in its bucket
abbrev pub maybe_element : Value → Option Value → Bool
maybe_element literal None = false
maybe_element literal (Some v) = goes_with (elem_of literal) (elem_of v) && nat_eq (bucket v) (bucket literal)

-- a container by the buckets that its elements take
abbrev pub maybe_elements : Rel → Value → List (Option Value) → Bool
maybe_elements Contains literal items = list_any (maybe_element literal) items
maybe_elements _ literal items = false

-- A cell surely meets the relation. An unset one and a container never do, but for the nil tests, which are exact.
abbrev pub sure_cell : Rel → Literal → Cell → Bool
sure_cell rel Nil x = nil_meets rel x
sure_cell rel (Of literal) (cell.One v) = sure_value rel literal v
sure_cell rel (Of literal) _ = false

-- A cell may meet the relation.
abbrev pub maybe_cell : Rel → Literal → Cell → Bool
maybe_cell rel Nil x = nil_meets rel x
maybe_cell rel (Of literal) (cell.One v) = maybe_value rel literal v
maybe_cell rel (Of literal) (cell.Many items) = maybe_elements rel literal items
maybe_cell rel (Of literal) cell.Unset = false
