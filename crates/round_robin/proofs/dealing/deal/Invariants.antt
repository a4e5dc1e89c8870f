use Rattle.std.proofs.Common.{◌≡◌, ℕ, ◌+◌, ◌<◌, ◌≤◌, ◌++◌, length, get_or, reverse, vec_capacity}
use Rattle.round_robin.specs.Dealing.{dealt, share}
use Rattle.round_robin.proofs.dealing.deal.Given as goal

abbrev pub invariant-loop-item : goal.invariant-loop-item
invariant-loop-item g l = record {
  counted : l.at + length l.items.items ≡ length l.fn.items.items;
  room : (w : ℕ) (d : _) → w < length l.hands → share l.number w (length l.fn.items.items) ≤ vec_capacity (get_or l.hands w d);
  dealt : (w : ℕ) (d : _) → w < length l.hands → (get_or l.hands w d).items ++ dealt l.number w l.at (reverse l.items.items) ≡ dealt l.number w 0 l.fn.items.items;
}

abbrev pub decreases-loop-item : goal.decreases-loop-item
decreases-loop-item g l = length l.items.items
