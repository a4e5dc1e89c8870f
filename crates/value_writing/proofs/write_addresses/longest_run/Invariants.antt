use Rattle.std.proofs.Common.{◌≡◌, ◌≤◌, ◌+◌, ◌-◌, length, drop}
use Rattle.std.specs.List.{prefix_len}
use Rattle.value_writing.specs.Writing.{longest_run, is_zero}
use Rattle.value_writing.proofs.write_addresses.longest_run.Given as goal

abbrev pub invariant-loop-behind : goal.invariant-loop-behind
invariant-loop-behind l =
    (l.longest ≡ longest_run (length l.groups - l.behind) (drop (length l.groups - l.behind) l.groups))
    × (l.zeros ≡ prefix_len is_zero (drop (length l.groups - l.behind) l.groups))
    × (l.zeros ≤ l.behind)
    × (l.longest.start + l.longest.count ≤ length l.groups)
