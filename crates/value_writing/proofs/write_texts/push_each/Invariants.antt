use Rattle.std.proofs.Common.{◌≡◌, ◌++◌, take}
use Rattle.std.specs.List.{flat_map}
use Rattle.value_writing.specs.Writing.{byte_text}
use Rattle.value_writing.proofs.write_texts.push_each.Given as goal

abbrev pub invariant-loop-byte : goal.invariant-loop-byte
invariant-loop-byte l = l.out ≡ l.initial.out ++ flat_map (byte_text l.place) (take l.byte-index l.text)
