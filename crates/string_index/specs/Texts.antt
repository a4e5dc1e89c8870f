-- What a string index keeps of a text.
use Rattle.std.specs.Prelude.{ℕ, zero, suc, ◌+◌, ◌-◌, ◌*◌, ◌/◌, ◌%◌, ◌<◌, min, Bool, true, ◌&&◌, List, length, take, Option, nat_eq, slice_index}
use Rattle.bits_law.specs.Numbers.{has_bit}
use Rattle.bits_law.specs.Contents.{Contents, HoldsKeys}

-- a text's length, up to 255
abbrev pub short_length : List ℕ → ℕ
short_length text = min (length text) 255

-- what the columns are read from, eight at a time: the length first, then the first eight bytes; a byte past these or past
-- the end is 0
abbrev pub text_unit : ℕ → List ℕ → ℕ
text_unit zero text = short_length text
text_unit (suc at) text = slice_index (take 8 text) at

-- the number that the first `n` of these spell, eight bits each, the first one highest
abbrev pub units : ℕ → List ℕ → ℕ
units zero text = 0
units (suc n) text = units n text * 256 + text_unit n text

-- column j: a bit of unit j / 8, the highest first
abbrev pub text_bit : ℕ → List ℕ → Bool
text_bit j text = has_bit (text_unit (j / 8) text) (7 - j % 8)

-- whether the first `n` bytes agree, where a byte past the end is 0
abbrev pub agree : ℕ → List ℕ → List ℕ → Bool
agree zero a b = true
agree (suc n) a b = agree n a b && nat_eq (slice_index a n) (slice_index b n)

-- whether min(length, 255) and the first eight bytes agree
unfoldable pub same_start : List ℕ → List ℕ → Bool
same_start a b = nat_eq (short_length a) (short_length b) && agree 8 a b

-- a text is a list of bytes
abbrev pub IsText : List ℕ → Type 0
IsText text = (k : ℕ) → slice_index text k < 256

-- the columns are those of the texts
abbrev pub Holds : Contents → List (Option (List ℕ)) → Type 0
Holds table keys = HoldsKeys 72 text_bit IsText table keys
