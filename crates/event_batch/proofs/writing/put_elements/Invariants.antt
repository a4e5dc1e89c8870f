use Rattle.std.proofs.Common.{◌≡◌, ◌++◌, take}
use Rattle.std.specs.List.{flat_map}
use Rattle.event_batch.specs.declared.format.Format.TheVariants.{Second}
use Rattle.event_batch.specs.Spelling.{element_bytes}
use Rattle.event_batch.proofs.writing.put_elements.Given as goal

abbrev pub invariant-loop-item : goal.invariant-loop-item
invariant-loop-item l = l.out.items ≡ l.initial.out.items ++ flat_map (element_bytes Second) (take l.item-index l.items)
