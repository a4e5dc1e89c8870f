use Rattle.std.proofs.Common.{◌≡◌, ◌++◌, map, take}
use Rattle.std.specs.List.{flat_map}
use Rattle.exporter.specs.Founds.{found_of}
use Rattle.script_desk.specs.Texts.{found_text}
use Rattle.script_desk.proofs.page_text.push_founds.Given as goal

abbrev pub invariant-loop-found : goal.invariant-loop-found
invariant-loop-found l = l.out ≡ l.initial.out ++ flat_map found_text (map found_of (take l.found-index l.founds))
