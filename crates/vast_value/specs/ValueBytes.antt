-- The bytes of a value, as batches hold them. Numbers are little endian.
use Rattle.std.specs.Prelude.{ℕ, true, false, List, [], ◌∷◌, ◌++◌, length}
use Rattle.std.specs.Int.{w64, cast_unsigned}
use Rattle.byteorder.specs.Endian.{little_bytes}
use Rattle.vast_value.specs.declared.value.Value.{Value}
use Rattle.vast_value.specs.declared.value.Value.TheVariants.{Bool as BoolOf, Count, Int, Time, Span, Text, Name, Addr, Subnet, Port}
use Rattle.vast_value.specs.Ports.{transport_code}

-- the lowest n bytes of a number, the lowest first
unfoldable pub number : ℕ → ℕ → List ℕ
number n x = little_bytes n x

-- a length of four bytes, and that many bytes
abbrev pub text : List ℕ → List ℕ
text t = number 4 (length t) ++ t

-- a port is its number and its transport
abbrev pub value_bytes : Value → List ℕ
value_bytes (BoolOf false) = 0 ∷ []
value_bytes (BoolOf true) = 1 ∷ []
value_bytes (Count n) = number 8 n
value_bytes (Int z) = number 8 (cast_unsigned w64 z)
value_bytes (Time z) = number 8 (cast_unsigned w64 z)
value_bytes (Span z) = number 8 (cast_unsigned w64 z)
value_bytes (Text t) = text t
value_bytes (Name t) = text t
value_bytes (Addr a) = number 16 a
value_bytes (Subnet n) = number 16 n.base ++ n.bits ∷ []
value_bytes (Port p over) = number 2 p ++ transport_code over ∷ []
