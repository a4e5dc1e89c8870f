use Rattle.std.proofs.Common.{◌≡◌, ℕ, ◌+◌, ◌-◌, ◌≤◌, vec_len, vec_capacity}
use Rattle.history_core.specs.Stores.{seal_at}
use Rattle.history_core.proofs.store.groups.grow.Given as goal

abbrev pub invariant-loop-at : goal.invariant-loop-at
invariant-loop-at l =
    (vec_len l.seals ≡ l._at)
    × (vec_len l.seals + (l.count - l._at) ≤ vec_capacity l.seals)
    × ((k : ℕ) → seal_at l.seals.items k ≡ seal_at l.fn.seals.items k)
