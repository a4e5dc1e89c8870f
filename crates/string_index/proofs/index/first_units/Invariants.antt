use Rattle.std.proofs.Common.{◌≡◌, ◌*◌, ◌^◌, ◌<◌}
use Rattle.string_index.specs.Texts.{units}
use Rattle.string_index.proofs.index.first_units.Given as goal

-- the units so far
abbrev pub invariant-loop-at : goal.invariant-loop-at
invariant-loop-at l = record {
  word : l.word ≡ units l.at l.text;
  small : l.word < 2 ^ (8 * l.at);
}
