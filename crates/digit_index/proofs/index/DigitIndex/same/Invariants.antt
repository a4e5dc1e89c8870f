use Rattle.std.proofs.Common.{◌≡◌, ℕ, ◌/◌, ◌%◌, List, Option, length, take, nat_eq}
use Rattle.bits_law.specs.Keys.{answers}
use Rattle.digit_index.specs.Digits.{product, width, Holds}
use Rattle.digit_index.proofs.index.DigitIndex.same.Given as goal

-- the rows whose digits so far are those of the key
abbrev pub invariant-loop-j : goal.invariant-loop-j
invariant-loop-j g l =
    let bits = g.B.Bits.bits in
    record {
      from : l.from ≡ width l.self.coding (take l.j l.bases);
      rest : l.rest ≡ l.key / product (take l.j l.bases);
      even : length (bits l.rows) ≡ length l.self.table.present;
      keys : (keys : List (Option ℕ)) → Holds l.self.coding l.self.bases l.self.table keys → bits l.rows ≡ answers (λ k. nat_eq (k % product (take l.j l.bases)) (l.key % product (take l.j l.bases))) keys;
    }
