-- Octets of a dotted address, as they stand in a text.
use Rattle.std.specs.Prelude.{◌≡◌, ℕ, ◌+◌, ◌-◌, ◌<◌, ◌≤◌, true, List, IsSome, length, take, drop, get_or}
use Rattle.std.specs.List.{list_all}
use Rattle.value_reading.specs.Addresses.{short_number}
use Rattle.value_reading.specs.Numbers.{is_digit}

-- One to three digits of a number of at most 255 stand in a text from one place on and before another.
pub record IsOctet (text : List ℕ) (from to : ℕ) : Type 0 where
  pub some : from < to
  pub few : to ≤ from + 3
  pub digits : list_all is_digit (take (to - from) (drop from text)) ≡ true
  pub number : IsSome (short_number 255 (take (to - from) (drop from text)))

-- Four octets with points between them, at three places, are the first `count` bytes.
pub record AreOctets (text : List ℕ) (a b c count : ℕ) : Type 0 where
  pub within : count ≤ length text
  pub first : IsOctet text 0 a
  pub first_point : get_or text a 0 ≡ 46
  pub second : IsOctet text (a + 1) b
  pub second_point : get_or text b 0 ≡ 46
  pub third : IsOctet text (b + 1) c
  pub third_point : get_or text c 0 ≡ 46
  pub last : IsOctet text (c + 1) count
