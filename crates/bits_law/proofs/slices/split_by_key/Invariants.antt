use Rattle.std.proofs.Common.{◌-◌, ◌/◌, ◌^◌, take, map, nat_lt, nat_eq}
use Rattle.bits_law.specs.Numbers.{number_at, IsAnswer}
use Rattle.bits_law.proofs.slices.split_by_key.Given as goal

-- the numbers that the slices so far spell, against the key's first bits
abbrev pub invariant-loop-j : goal.invariant-loop-j
invariant-loop-j g l =
    let bits = g.B.Bits.bits in
    record {
      below : IsAnswer (bits l.split.below) (bits l.present) (λ row. nat_lt (number_at (take l.j (map bits l.slices)) row) (l.key / 2 ^ (l.count - l.j)));
      equal : IsAnswer (bits l.split.equal) (bits l.present) (λ row. nat_eq (number_at (take l.j (map bits l.slices)) row) (l.key / 2 ^ (l.count - l.j)));
    }
