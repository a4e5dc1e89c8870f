use Rattle.std.proofs.Common.{◌≡◌, ℕ, ◌+◌, ◌<◌, ◌≤◌, ◌++◌, length, get_or, reverse, vec_capacity}
use Rattle.round_robin.specs.Dealing.{dealt, share}
use Rattle.round_robin.proofs.dealing.collect.Given as goal

abbrev pub invariant-loop-at : goal.invariant-loop-at
invariant-loop-at g l = record {
  counted : length l.out.items + l.at ≡ l.count;
  room : l.count ≤ vec_capacity l.out;
  shares : (w : ℕ) (d : _) → w < length l.hands → length (get_or l.hands w d).items ≡ share l.number w l.at;
  dealt : (w : ℕ) (d : _) → w < length l.hands → (get_or l.hands w d).items ++ dealt l.number w l.at (reverse l.out.items) ≡ (get_or l.fn.hands w d).items;
}
