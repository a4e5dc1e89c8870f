use Rattle.std.proofs.Common.{◌≡◌, ◌-◌, ◌^◌, min, length, take}
use Rattle.std.specs.List.{flat_map}
use Rattle.event_batch.specs.declared.format.Format.TheVariants.{Second}
use Rattle.event_batch.specs.Spelling.{element_bytes}
use Rattle.event_batch.proofs.size.elements_size.Given as goal

abbrev pub invariant-loop-item : goal.invariant-loop-item
invariant-loop-item l = l.size ≡ min (length (flat_map (element_bytes Second) (take l.item-index l.items))) (2 ^ 64 - 1)
