use Rattle.std.proofs.Common.{◌≡◌, ◌+◌, ◌-◌, ◌++◌, length}
use Rattle.bits_law.specs.Bitwise.{bits_below}
use Rattle.bits_law.proofs.bits.Bits.push_word.Given as goal

-- the bits that are left make up the word's
abbrev pub invariant-loop : goal.invariant-loop
invariant-loop g l = record {
  whole : g.Self.Bits.bits l.self ++ bits_below l.rest (l.n - l.counter) ≡ g.Self.Bits.bits l.initial.self ++ bits_below l.word l.n;
  long : length (g.Self.Bits.bits l.self) ≡ length (g.Self.Bits.bits l.initial.self) + l.counter;
}
