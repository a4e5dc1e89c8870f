use Rattle.std.proofs.Common.{◌≡◌, ◌+◌, drop}
use Rattle.std.specs.Str.{bytes_eq}
use Rattle.query_meaning.specs.Picks.{full_name}
use Rattle.query_meaning.proofs.picks.stands_at.Given as goal

abbrev pub invariant-loop-i : goal.invariant-loop-i
invariant-loop-i l =
    bytes_eq (drop l.i l.name) (drop (l.at + l.i) (full_name l.path l.column)) ≡ bytes_eq l.name (drop l.at (full_name l.path l.column))
