use Rattle.std.proofs.Common.{◌≡◌, ◌==◌, ◌<◌, false, slice_index_or, ℕ}
use Rattle.history_core.specs.declared.answers.Claim.{Claim}
use Rattle.script_desk.proofs.claims.claim_on.Given as goal

abbrev pub invariant-loop-at : goal.invariant-loop-at
invariant-loop-at l = (i : ℕ) (c : Claim) → i < l.at → c ≡ slice_index_or l.claims i c → (c.batch == l.batch) ≡ false
