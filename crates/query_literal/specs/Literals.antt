-- The literals of queries.
use Rattle.std.specs.Prelude.{ℕ, ℤ, pos, ◌+◌, ◌-◌, ◌*◌, ◌^◌, ◌+ℤ◌, ◌*ℤ◌, Bool, true, false, ◌&&◌, ◌==◌, if◌then◌else◌, List, [], ◌∷◌, Option, None, Some, length, take, drop, slice_index, nat_le}
use Rattle.std.specs.Option.{option_map, option_and_then, option_or}
use Rattle.jiff_core.specs.Calendar.{days_in_month, days_from_civil}
use Rattle.vast_value.specs.declared.value.Value.{Value}
use Rattle.vast_value.specs.declared.value.Value.TheVariants as value
use Rattle.vast_value.specs.Fit.{is_i64}
use Rattle.value_reading.specs.Addresses.{address_of, subnet_of}
use Rattle.value_reading.specs.Ports.{marked_port_of}
use Rattle.value_reading.specs.Numbers.{number_of, number_up_to, if_i64, is_point, fraction_of, span_of}

-- what stands behind a first byte
abbrev pub behind_byte : ℕ → List ℕ → Option (List ℕ)
behind_byte byte [] = None
behind_byte byte (b ∷ bs) = if b == byte then Some bs else None

-- what stands before a last byte, which is not 0
abbrev pub before_byte : ℕ → List ℕ → Option (List ℕ)
before_byte byte text =
    if slice_index text (length text - 1) == byte then Some (take (length text - 1) text) else None

-- so many digits from a place on
abbrev pub digits_at : ℕ → ℕ → List ℕ → Option ℕ
digits_at at count text = number_of (take count (drop at text))

abbrev pub is_at : ℕ → ℕ → List ℕ → Bool
is_at byte at text = slice_index text at == byte

-- YYYY-MM-DDTHH:MM:SS, whatever stands for the letters, and what follows
abbrev pub has_moment_marks : List ℕ → Bool
has_moment_marks text = nat_le 19 (length text) && (is_at 45 4 text && (is_at 45 7 text && (is_at 84 10 text && (is_at 58 13 text && is_at 58 16 text))))

-- the calendar has this day
abbrev pub is_date : ℕ → ℕ → ℕ → Bool
is_date year month day = nat_le 1 month && (nat_le month 12 && (nat_le 1 day && nat_le day (days_in_month (pos year) month)))

-- the day has this second
abbrev pub is_clock : ℕ → ℕ → ℕ → Bool
is_clock hour minute second = nat_le hour 23 && (nat_le minute 59 && nat_le second 59)

-- the day number, which is 0 for 1970-01-01
abbrev pub day_of : List ℕ → Option ℤ
day_of text =
    option_and_then (λ year. option_and_then (λ month. option_and_then (λ day. if is_date year month day then Some (days_from_civil (pos year) month day) else None)
    (digits_at 8 2 text)) (digits_at 5 2 text)) (digits_at 0 4 text)

-- the second of the day
abbrev pub second_of : List ℕ → Option ℕ
second_of text =
    option_and_then (λ hour. option_and_then (λ minute. option_and_then (λ second. if is_clock hour minute second then Some (hour * 3600 + minute * 60 + second) else None)
    (digits_at 17 2 text)) (digits_at 14 2 text)) (digits_at 11 2 text)

-- the nanoseconds of the second: nothing, or a point and one to nine digits
abbrev pub part_of : List ℕ → Option ℕ
part_of [] = Some 0
part_of (b ∷ []) = None
part_of (b ∷ (d ∷ ds)) = if is_point b then fraction_of (d ∷ ds) else None

abbrev pub if_i64_range : ℤ → Option ℤ
if_i64_range z = if is_i64 z then Some z else None

abbrev pub nanoseconds : ℤ → ℕ → ℕ → ℤ
nanoseconds day second part = ((day *ℤ pos 86400) +ℤ pos second) *ℤ pos (10 ^ 9) +ℤ pos part

-- YYYY-MM-DDTHH:MM:SS with a point and one to nine digits or without, in nanoseconds since 1970-01-01T00:00:00
abbrev pub plain_moment : List ℕ → Option ℤ
plain_moment text =
    if has_moment_marks text
    then option_and_then (λ day. option_and_then (λ second. option_and_then (λ part. if_i64_range (nanoseconds day second part))
    (part_of (drop 19 text))) (second_of text)) (day_of text)
    else None

-- A moment in UTC, with a `Z` at its end. Its date exists in the Gregorian calendar, and its nanoseconds since
-- 1970-01-01T00:00:00Z are in the range of 64 bits.
unfoldable pub moment_of : List ℕ → Option ℤ
moment_of text = option_and_then plain_moment (before_byte 90 text)

-- digits
abbrev pub count_literal : List ℕ → Option Value
count_literal word = option_map value.Count (number_up_to (2 ^ 64 - 1) word)

-- digits behind a sign
abbrev pub int_literal : List ℕ → Option Value
int_literal word =
    option_map value.Int
    (option_or (option_and_then (if_i64 false) (option_and_then number_of (behind_byte 43 word)))
    (option_and_then (if_i64 true) (option_and_then number_of (behind_byte 45 word))))

-- seconds with an `s` behind them
abbrev pub span_literal : List ℕ → Option Value
span_literal word = option_map value.Span (option_and_then span_of (before_byte 115 word))

-- digits with a transport behind them
abbrev pub port_literal : List ℕ → Option Value
port_literal word = option_map (λ p. value.Port p.0 p.1) (marked_port_of word)

abbrev pub addr_literal : List ℕ → Option Value
addr_literal word = option_map value.Addr (address_of word)

abbrev pub subnet_literal : List ℕ → Option Value
subnet_literal word = option_map value.Subnet (subnet_of word)

-- `@` and seconds or a moment
abbrev pub time_literal : List ℕ → Option Value
time_literal word = option_map value.Time (option_and_then (λ text. option_or (span_of text) (moment_of text)) (behind_byte 64 word))

-- what a word gives in each of the forms
abbrev pub literal_forms : List ℕ → List (Option Value)
literal_forms word =
    count_literal word ∷ (int_literal word ∷ (span_literal word ∷ (port_literal word ∷ (addr_literal word ∷ (subnet_literal word ∷ (time_literal word ∷ []))))))

-- One of the forms. No word has two of them, so their order says nothing.
unfoldable pub literal_read : List ℕ → Option Value
literal_read word =
    option_or (count_literal word) (option_or (int_literal word) (option_or (span_literal word) (option_or (port_literal word)
    (option_or (addr_literal word) (option_or (subnet_literal word) (time_literal word))))))
