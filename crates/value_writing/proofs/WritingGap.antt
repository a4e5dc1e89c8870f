-- The run that an address leaves out is the first of the longest runs of zero groups.
use Rattle.std.proofs.Common.{◌≡◌, ℕ, zero, suc, ◌+◌, ◌<◌, ◌≤◌, Bool, true, false, cond, leb, List, [], ◌∷◌, drop, refl, ap, sym, ◌∙◌, arith}
use Rattle.std.specs.List.{prefix_len}
use Rattle.std.proofs.lemmas.Bool.{leb-true, leb-false}
use Rattle.value_writing.specs.declared.run.Run.{Run}
use Rattle.value_writing.specs.Writing.{is_zero, longest_run, IsFirstLongest}

abbrev zeros_at : ℕ → List ℕ → ℕ
zeros_at k groups = prefix_len is_zero (drop k groups)

-- the same of groups that begin at so much
record FirstFrom (at : ℕ) (groups : List ℕ) (run : Run) : Type 0 where
  before : ℕ
  start : run.start ≡ at + before
  zeros : zeros_at before groups ≡ run.count
  longest : (k : ℕ) → zeros_at k groups ≤ run.count
  first : (k : ℕ) → k < before → zeros_at k groups < run.count

none_at : (k : ℕ) → zeros_at k [] ≡ 0
none_at zero = refl
none_at (suc k) = refl

here_longest : (g : ℕ) (gs : List ℕ) (most : ℕ) → ((k : ℕ) → zeros_at k gs ≤ most) → most ≤ zeros_at 0 (g ∷ gs) → (k : ℕ) → zeros_at k (g ∷ gs) ≤ zeros_at 0 (g ∷ gs)
here_longest g gs most h le zero = omega arith
here_longest g gs most h le (suc k) = let below : zeros_at k gs ≤ most = h k in omega (arith, below, le)

behind_longest : (g : ℕ) (gs : List ℕ) (most : ℕ) → ((k : ℕ) → zeros_at k gs ≤ most) → zeros_at 0 (g ∷ gs) < most → (k : ℕ) → zeros_at k (g ∷ gs) ≤ most
behind_longest g gs most h lt zero = omega (arith, lt)
behind_longest g gs most h lt (suc k) = h k

behind_first : (g : ℕ) (gs : List ℕ) (most before : ℕ) → ((k : ℕ) → k < before → zeros_at k gs < most) → zeros_at 0 (g ∷ gs) < most → (k : ℕ) → k < suc before → zeros_at k (g ∷ gs) < most
behind_first g gs most before h lt zero small = lt
behind_first g gs most before h lt (suc k) small = h k (omega arith)

pick : (at g : ℕ) (gs : List ℕ) (run : Run) → FirstFrom (at + 1) gs run → (t : Bool) → leb run.count (zeros_at 0 (g ∷ gs)) ≡ t
    → FirstFrom at (g ∷ gs) (cond t (record { start = at; count = prefix_len is_zero (g ∷ gs) }) run)
pick at g gs run h true e = record {
  before = 0;
  start = omega arith;
  zeros = refl;
  longest = here_longest g gs run.count h.longest (leb-true run.count (zeros_at 0 (g ∷ gs)) e);
  first = λ k small. absurd (omega arith);
}
pick at g gs run h false e =
    let lt = leb-false run.count (zeros_at 0 (g ∷ gs)) e in
    record {
      before = suc h.before;
      start = omega (arith, h.start);
      zeros = h.zeros;
      longest = behind_longest g gs run.count h.longest lt;
      first = behind_first g gs run.count h.before h.first lt;
    }

from : (at : ℕ) (gs : List ℕ) → FirstFrom at gs (longest_run at gs)
from at [] = record {
  before = 0;
  start = omega arith;
  zeros = refl;
  longest = λ k. omega (arith, none_at k);
  first = λ k small. absurd (omega arith);
}
from at (g ∷ gs) = pick at g gs (longest_run (at + 1) gs) (from (at + 1) gs) _ refl

pub first_longest : (groups : List ℕ) → IsFirstLongest groups (longest_run 0 groups)
first_longest groups =
    let h = from 0 groups in
    let same : h.before ≡ (longest_run 0 groups).start = omega (arith, h.start) in
    record {
      zeros = ap (λ (k : ℕ). zeros_at k groups) (sym same) ∙ h.zeros;
      longest = h.longest;
      first = λ k small. h.first k (omega (arith, same, small));
    }
