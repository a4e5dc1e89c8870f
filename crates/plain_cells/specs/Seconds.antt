-- Seconds, as they stand in a text.
use Rattle.std.specs.Prelude.{◌≡◌, ℕ, ◌+◌, ◌-◌, ◌<◌, ◌≤◌, true, List, length, take, drop, get_or}
use Rattle.std.specs.List.{list_all}
use Rattle.value_reading.specs.Numbers.{is_digit}

-- The first `count` bytes are so many digits, the first of which is below 9 where they are ten, a point, and none to nine
-- digits.
pub record AreSeconds (text : List ℕ) (whole count : ℕ) : Type 0 where
  pub within : count ≤ length text
  pub some : 0 < whole
  pub few : whole ≤ 10
  pub first : whole ≡ 10 → get_or text 0 0 < 57
  pub digits : list_all is_digit (take whole text) ≡ true
  pub more : whole < count
  pub point : get_or text whole 0 ≡ 46
  pub short : count - (whole + 1) ≤ 9
  pub decimals : list_all is_digit (take (count - (whole + 1)) (drop (whole + 1) text)) ≡ true
