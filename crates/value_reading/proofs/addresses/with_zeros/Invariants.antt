use Rattle.std.proofs.Common.{◌≡◌, ◌-◌, replicate}
use Rattle.value_reading.specs.Places.{groups_behind}
use Rattle.value_reading.proofs.addresses.with_zeros.Given as goal

abbrev pub invariant-loop : goal.invariant-loop
invariant-loop l =
    groups_behind l.groups.number l.groups.count (replicate (l.zeros - l.counter) 0) ≡ groups_behind l.fn.start.number l.fn.start.count (replicate l.zeros 0)
