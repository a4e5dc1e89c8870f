use Rattle.std.proofs.Common.{◌≡◌, length}
use Rattle.bits_law.specs.Packed.{AreHeads, Begins}
use Rattle.bits_law.proofs.packed.add_heads.Given as goal

-- the heads of the parts so far are added
abbrev pub invariant-loop-part : goal.invariant-loop-part
invariant-loop-part l = record {
  size : length l.column ≡ 64;
  heads : AreHeads l.initial.heads.items l.heads.items l.words.items l.keys l.n l.part l.taken;
  words : Begins l.initial.words.items l.words.items;
}
