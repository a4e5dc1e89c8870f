use Rattle.std.proofs.Common.{◌≡◌, drop}
use Rattle.digit_index.specs.Digits.{digit_bit}
use Rattle.digit_index.proofs.coding.digit_bit.Given as goal

-- the column, among those of the digits that are left
abbrev pub invariant-loop-j : goal.invariant-loop-j
invariant-loop-j l = digit_bit l.coding (drop l.j l.bases) l.column l.rest ≡ digit_bit l.coding l.bases l.initial.column l.key
