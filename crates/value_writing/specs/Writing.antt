-- What values and cells are written as.
use Rattle.std.specs.Prelude.{◌≡◌, ◌<◌, ◌≤◌, ℕ, suc, zero, ℤ, pos, negsuc, ◌+◌, ◌-◌, ◌/◌, ◌%◌, ◌^◌, Bool, true, false, not, ◌&&◌, ◌==◌, if◌then◌else◌, List, [], ◌∷◌, ◌++◌, Option, None, Some, length, take, drop, nat_le, nat_lt, codes}
use Rattle.std.specs.Fmt.{decimal, signed_decimal}
use Rattle.std.specs.List.{flat_map, join_by, list_all, prefix_len}
use Rattle.std.specs.Str.{bytes_eq}
use Rattle.vast_value.specs.declared.net.Net.{Net}
use Rattle.vast_value.specs.declared.value.Value.{Value}
use Rattle.vast_value.specs.declared.value.Value.TheVariants as value
use Rattle.vast_value.specs.declared.cell.Cell.{Cell}
use Rattle.vast_value.specs.declared.cell.Cell.TheVariants as cell
use Rattle.vast_value.specs.declared.transport.Transport.{Transport}
use Rattle.vast_value.specs.declared.transport.Transport.TheVariants.{Unknown, Tcp, Udp, Icmp}
use Rattle.value_reading.specs.declared.marks.Marks.{Marks}
use Rattle.value_reading.specs.Ports.{transport_name}
use Rattle.value_writing.specs.declared.run.Run.{Run}
use Rattle.value_writing.specs.declared.place.Place.{Place}
use Rattle.value_writing.specs.declared.place.Place.TheVariants as place

-- the marks of a log that tells no others: a comma, `(empty)` and `-`
pub record AreUsual (marks : Marks) : Type 0 where
  pub separator : marks.set_separator ≡ 44
  pub empty : marks.empty ≡ codes "(empty)"
  pub unset : marks.unset ≡ codes "-"

-- Texts

-- printable ASCII
abbrev pub is_printable : ℕ → Bool
is_printable b = nat_le 32 b && nat_lt b 127

-- a digit from 0 to 15 in lower case
abbrev pub hexadecimal : ℕ → ℕ
hexadecimal digit = if nat_lt digit 10 then 48 + digit else 87 + digit

-- `\xHH`
abbrev pub byte_escape : ℕ → List ℕ
byte_escape b = 92 ∷ (120 ∷ (hexadecimal (b / 16) ∷ (hexadecimal (b % 16) ∷ [])))

-- A backslash stands twice, and a byte that is no printable character of ASCII is `\xHH`.
abbrev pub escaped_byte : ℕ → List ℕ
escaped_byte b =
    if b == 92 then 92 ∷ (92 ∷ []) else (if is_printable b then b ∷ [] else byte_escape b)

-- the plain escape of a text
abbrev pub escaped_text : List ℕ → List ℕ
escaped_text text = flat_map escaped_byte text

-- a byte that stands for itself
abbrev pub is_bare : Place → ℕ → Bool
is_bare place.Whole b = is_printable b && not (b == 92)
is_bare place.Element b = is_printable b && (not (b == 92) && not (b == 44))

-- between commas a comma is `\x2c` too
abbrev pub byte_text : Place → ℕ → List ℕ
byte_text place.Whole b = escaped_byte b
byte_text place.Element b = if b == 44 then byte_escape b else escaped_byte b

-- A text. One that is exactly an unset or an empty cell's spelling has its first byte escaped.
abbrev pub text_text : Place → List ℕ → List ℕ
text_text place text =
    if bytes_eq text (codes "-") then codes "\\x2d"
    else (if bytes_eq text (codes "(empty)") then codes "\\x28empty)" else flat_map (byte_text place) text)

-- Numbers and times

-- the last so many decimal digits of a number
abbrev pub last_digits : ℕ → ℕ → List ℕ
last_digits zero n = []
last_digits (suc k) n = (48 + n / 10 ^ k % 10) ∷ last_digits k n

-- nanoseconds below a second, in six decimals where they suffice and in nine else
abbrev pub fraction_text : ℕ → List ℕ
fraction_text n = if n % 1000 == 0 then last_digits 6 (n / 1000) else last_digits 9 n

-- nanoseconds, as seconds
abbrev pub seconds_text : ℕ → List ℕ
seconds_text n = decimal (n / 10 ^ 9) ++ 46 ∷ fraction_text (n % 10 ^ 9)

-- nanoseconds with a sign, as seconds; the sign stands also where the whole seconds are 0
unfoldable pub span_text : ℤ → List ℕ
span_text (pos n) = seconds_text n
span_text (negsuc n) = 45 ∷ seconds_text (suc n)

-- Addresses

-- the four octets of an IPv4 address
abbrev pub octets_of : ℕ → List ℕ
octets_of n = n / 2 ^ 24 % 256 ∷ (n / 2 ^ 16 % 256 ∷ (n / 2 ^ 8 % 256 ∷ (n % 256 ∷ [])))

-- four decimal numbers with dots between them
unfoldable pub dotted_text : ℕ → List ℕ
dotted_text n = join_by decimal (46 ∷ []) (octets_of n)

-- the eight groups of an address, 16 bits each
abbrev pub groups_of : ℕ → List ℕ
groups_of a =
    a / 2 ^ 112 % 2 ^ 16 ∷ (a / 2 ^ 96 % 2 ^ 16 ∷ (a / 2 ^ 80 % 2 ^ 16 ∷ (a / 2 ^ 64 % 2 ^ 16 ∷
    (a / 2 ^ 48 % 2 ^ 16 ∷ (a / 2 ^ 32 % 2 ^ 16 ∷ (a / 2 ^ 16 % 2 ^ 16 ∷ (a % 2 ^ 16 ∷ [])))))))

-- a group in hexadecimal digits, without leading zeros
abbrev pub group_text : ℕ → List ℕ
group_text g =
    if nat_lt g 16 then hexadecimal g ∷ []
    else (if nat_lt g 256 then hexadecimal (g / 16) ∷ (hexadecimal (g % 16) ∷ [])
    else (if nat_lt g 4096 then hexadecimal (g / 256) ∷ (hexadecimal (g / 16 % 16) ∷ (hexadecimal (g % 16) ∷ []))
    else hexadecimal (g / 4096) ∷ (hexadecimal (g / 256 % 16) ∷ (hexadecimal (g / 16 % 16) ∷ (hexadecimal (g % 16) ∷ [])))))

-- groups with colons between them
abbrev pub joined_groups : List ℕ → List ℕ
joined_groups groups = join_by group_text (58 ∷ []) groups

abbrev pub longer_run : Run → Run → Run
longer_run first second = if nat_le second.count first.count then first else second

abbrev pub is_zero : ℕ → Bool
is_zero g = g == 0

-- the longest run of zero groups among these, which begin at so much, and the first such one
abbrev pub longest_run : ℕ → List ℕ → Run
longest_run at [] = record { start = at; count = 0 }
longest_run at (g ∷ gs) =
    longer_run (record { start = at; count = prefix_len is_zero (g ∷ gs) }) (longest_run (at + 1) gs)

-- A run as it should be: the zeros that begin where it begins, none longer, and each that begins before it shorter.
pub record IsFirstLongest (groups : List ℕ) (run : Run) : Type 0 where
  pub zeros : prefix_len is_zero (drop run.start groups) ≡ run.count
  pub longest : (k : ℕ) → prefix_len is_zero (drop k groups) ≤ run.count
  pub first : (k : ℕ) → k < run.start → prefix_len is_zero (drop k groups) < run.count

-- groups, where `::` stands for a run of two or more
abbrev pub gapped_text : Run → List ℕ → List ℕ
gapped_text run groups =
    if nat_le 2 run.count
    then joined_groups (take run.start groups) ++ 58 ∷ (58 ∷ joined_groups (drop (run.start + run.count) groups))
    else joined_groups groups

-- an address in groups: the first longest run of two or more zero groups is `::` (RFC 5952, 4.2)
unfoldable pub grouped_text : List ℕ → List ℕ
grouped_text groups = gapped_text (longest_run 0 groups) groups

-- within ::ffff:0:0/96
abbrev pub is_mapped : ℕ → Bool
is_mapped a = a / 2 ^ 32 == 65535

abbrev pub address_text : ℕ → List ℕ
address_text a = if is_mapped a then dotted_text (a % 2 ^ 32) else grouped_text (groups_of a)

-- A subnet within ::ffff:0:0/96 is written as one of IPv4. Fewer than 96 bits are never within it.
abbrev pub subnet_text : Net → List ℕ
subnet_text net =
    if nat_le 96 net.bits && is_mapped net.base then dotted_text (net.base % 2 ^ 32) ++ 47 ∷ decimal (net.bits - 96)
    else grouped_text (groups_of net.base) ++ 47 ∷ decimal net.bits

-- Ports

-- a slash and the transport's name, where it is known
abbrev pub transport_mark : Transport → List ℕ
transport_mark Unknown = []
transport_mark Tcp = 47 ∷ transport_name Tcp
transport_mark Udp = 47 ∷ transport_name Udp
transport_mark Icmp = 47 ∷ transport_name Icmp

abbrev pub port_text : ℕ → Transport → List ℕ
port_text number over = decimal number ++ transport_mark over

-- Values and cells

unfoldable pub value_text : Place → Value → List ℕ
value_text place (value.Bool b) = if b then codes "T" else codes "F"
value_text place (value.Count n) = decimal n
value_text place (value.Int z) = signed_decimal z
value_text place (value.Time z) = span_text z
value_text place (value.Span z) = span_text z
value_text place (value.Text t) = text_text place t
value_text place (value.Name t) = text_text place t
value_text place (value.Addr a) = address_text a
value_text place (value.Subnet n) = subnet_text n
value_text place (value.Port p over) = port_text p over

abbrev pub element_text : Option Value → List ℕ
element_text None = codes "-"
element_text (Some v) = value_text place.Element v

-- an empty text
abbrev pub is_empty_value : Value → Bool
is_empty_value (value.Text []) = true
is_empty_value (value.Name []) = true
is_empty_value _ = false

-- An unset cell is `-`, and an empty container or an empty text `(empty)`. Elements have commas between them.
unfoldable pub cell_text : Cell → List ℕ
cell_text cell.Unset = codes "-"
cell_text (cell.One v) = if is_empty_value v then codes "(empty)" else value_text place.Whole v
cell_text (cell.Many []) = codes "(empty)"
cell_text (cell.Many (x ∷ xs)) = join_by element_text (44 ∷ []) (x ∷ xs)

-- What a call that fails in the middle leaves: the text begins with what it was before.
pub record BeginsWith (now before : List ℕ) : Type 0 where
  pub is : take (length before) now ≡ before
