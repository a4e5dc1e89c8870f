use Rattle.std.proofs.Common.{◌≡◌, length}
use Rattle.std.specs.List.{position_or_len, slice_split}
use Rattle.value_reading.specs.Addresses.{is_colon}
use Rattle.value_reading.specs.Places.{groups_read, groups_in}
use Rattle.value_reading.proofs.GroupLemmas.{groups_of}
use Rattle.value_reading.proofs.addresses.with_text.Given as goal

abbrev pub invariant-loop-at : goal.invariant-loop-at
invariant-loop-at l =
    (groups_read l.groups.number l.groups.count (groups_of l.dotted (slice_split is_colon l.rest)) ≡ groups_read l.fn.start.number l.fn.start.count (groups_in l.dotted l.text))
    × (l.at ≡ position_or_len is_colon l.rest)

abbrev pub decreases-loop-at : goal.decreases-loop-at
decreases-loop-at l = length l.rest
