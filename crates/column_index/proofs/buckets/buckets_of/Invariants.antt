use Rattle.std.proofs.Common.{◌≡◌, take}
use Rattle.column_index.specs.Columns.{buckets_of}
use Rattle.column_index.proofs.buckets.buckets_of.Given as goal

abbrev pub invariant-loop-item : goal.invariant-loop-item
invariant-loop-item l = l.buckets ≡ buckets_of (take l.item-index l.items)
