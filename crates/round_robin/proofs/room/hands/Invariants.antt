use Rattle.std.proofs.Common.{◌≡◌, ℕ, ◌<◌, ◌≤◌, [], length, get_or, vec_capacity}
use Rattle.round_robin.specs.Dealing.{share}
use Rattle.round_robin.proofs.room.hands.Given as goal

abbrev pub invariant-loop-hand : goal.invariant-loop-hand
invariant-loop-hand g l = record {
  made : length l.made.items ≡ l.hand;
  reserved : l.hands ≤ vec_capacity l.made;
  empty : (w : ℕ) (d : _) → w < l.hand → (get_or l.made.items w d).items ≡ [];
  room : (w : ℕ) (d : _) → w < l.hand → share l.hands w l.count ≤ vec_capacity (get_or l.made.items w d);
}
