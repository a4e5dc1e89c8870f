use Rattle.std.proofs.Common.{◌≡◌, ℕ, List, Option, length, take, drop, nat_lt}
use Rattle.bits_law.specs.Keys.{answers}
use Rattle.digit_index.specs.Digits.{HoldsDigit}
use Rattle.digit_index.specs.declared.coding.Coding.TheVariants.{Equality}
use Rattle.digit_index.proofs.digits.any_of.Given as goal

-- the rows of the values so far
abbrev pub invariant-loop-j : goal.invariant-loop-j
invariant-loop-j g l =
    let bits = g.B.Bits.bits in
    record {
      even : length (bits l.rows) ≡ length (bits l.present);
      keys : (keys : List (Option ℕ)) (digit : ℕ → ℕ) → HoldsDigit Equality l.base digit (bits l.present) (take l.base (drop l.from l.table.columns)) keys → bits l.rows ≡ answers (λ key. nat_lt (digit key) l.j) keys;
    }
