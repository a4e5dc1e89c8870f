use Rattle.std.proofs.Common.{◌≡◌, ◌*◌, ◌≤◌, take}
use Rattle.digit_index.specs.Digits.{width}
use Rattle.digit_index.proofs.coding.width.Given as goal

abbrev pub invariant-loop-j : goal.invariant-loop-j
invariant-loop-j l = record {
  columns : l.columns ≡ width l.coding (take l.j l.bases);
  few : l.columns ≤ 256 * l.j;
}
