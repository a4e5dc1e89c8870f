-- The literal that stands for a value in a query.
use Rattle.std.specs.Prelude.{◌≡◌, ℕ, suc, ℤ, pos, negsuc, List, [], ◌∷◌, ◌++◌, Option, None, Some, IsTrue}
use Rattle.std.specs.Fmt.{decimal}
use Rattle.vast_value.specs.declared.value.Value.{Value}
use Rattle.vast_value.specs.declared.value.Value.TheVariants as value
use Rattle.vast_value.specs.Fit.{is_ranged}
use Rattle.value_reading.specs.Ports.{transport_name}
use Rattle.value_writing.specs.Writing.{span_text, address_text, subnet_text}
use Rattle.query_literal.specs.Literals.{literal_read}

-- the digits of a number behind its sign
abbrev pub signed_text : ℤ → List ℕ
signed_text (pos n) = 43 ∷ decimal n
signed_text (negsuc n) = 45 ∷ decimal (suc n)

-- The text of a value with the mark of its kind: a sign before an int, an `s` behind an interval, a slash and the transport
-- behind a port, an `@` before a time. Texts and bools have other literals.
abbrev pub literal_text : Value → Option (List ℕ)
literal_text (value.Bool b) = None
literal_text (value.Count n) = Some (decimal n)
literal_text (value.Int z) = Some (signed_text z)
literal_text (value.Time z) = Some (64 ∷ span_text z)
literal_text (value.Span z) = Some (span_text z ++ 115 ∷ [])
literal_text (value.Text t) = None
literal_text (value.Name t) = None
literal_text (value.Addr a) = Some (address_text a)
literal_text (value.Subnet n) = Some (subnet_text n)
literal_text (value.Port number over) = Some (decimal number ++ 47 ∷ transport_name over)

-- the literal of each value in its type's range reads as that value
abbrev pub ReadsAgain : Type 0
ReadsAgain = (v : Value) (text : List ℕ) → IsTrue (is_ranged v) → literal_text v ≡ Some text → literal_read text ≡ Some v
