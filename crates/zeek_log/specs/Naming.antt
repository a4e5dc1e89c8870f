-- Which names a `#fields` line leaves.
use Rattle.std.specs.Prelude.{ℕ, ◌^◌, Bool, ◌&&◌, List, [], length, nat_le, is_none}
use Rattle.std.specs.List.{list_all}
use Rattle.zeek_log.specs.Heads.{names_fault}

abbrev pub is_short : List ℕ → Bool
is_short name = nat_le (length name) (2 ^ 24)

-- Nothing is wrong with these names. The word stays closed where names are kept.
unfoldable pub are_named : List (List ℕ) → Bool
are_named names = is_none (names_fault 1 [] names) && list_all is_short names
