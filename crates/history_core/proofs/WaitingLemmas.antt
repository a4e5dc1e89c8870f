-- How many batches begin at an id or behind it.
use Rattle.std.proofs.Common.{◌≡◌, ℕ, zero, suc, ◌+◌, ◌-◌, ◌<◌, ◌≤◌, Bool, true, false, if◌then◌else◌, List, refl, ap, sym, ◌∙◌, arith, inl, inr, nat_le}
use Rattle.std.proofs.lemmas.Bool.Decides.{eqb_tells}
use Rattle.event_history.specs.declared.entry.Entry.{Entry}
use Rattle.event_history.specs.Histories.{batch_count, first_of}
use Rattle.event_history.proofs.AnswerLemmas.{le_false, le_true}
use Rattle.history_core.specs.Waiting.{batches_from, count_upto}

counts_none : (test : ℕ → Bool) (n : ℕ) → ((b : ℕ) → b < n → test b ≡ false) → count_upto test n ≡ 0
counts_none test zero none = refl
counts_none test (suc n) none =
    ap (λ (b : Bool). count_upto test n + (if b then 1 else 0)) (none n (omega arith))
    ∙ omega (arith, counts_none test n (λ b h. none b (omega (arith, h))))

counts : (test : ℕ → Bool) (n from : ℕ) → from ≤ n → ((b : ℕ) → b < from → test b ≡ false) → ((b : ℕ) → from ≤ b → b < n → test b ≡ true)
    → count_upto test n ≡ n - from
counts test zero from h none all = omega (arith, h)
counts test (suc n) from h none all =
    elim (eqb_tells from (suc n)) as (λ _. count_upto test (suc n) ≡ suc n - from) [
      | inl e ↦ counts_none test (suc n) (λ b k. none b (omega (arith, k, e.1))) ∙ omega (arith, e.1)
      | inr e ↦
          (let less : from ≤ n = omega (arith, h, e.1) in
          ap (λ (b : Bool). count_upto test n + (if b then 1 else 0)) (all n less (omega arith))
          ∙ omega (arith, less, counts test n from less none (λ b k j. all b k (omega (arith, j)))))
    ]

pub counted : (before : List Entry) (id n place : ℕ) → n ≡ batch_count before → place ≤ batch_count before → ((b : ℕ) → b < place → first_of b before < id)
    → ((b : ℕ) → place ≤ b → b < batch_count before → id ≤ first_of b before) → n - place ≡ batches_from id before
counted before id n place count within front rest =
    ap (λ (m : ℕ). m - place) count
    ∙ sym (counts (λ b. nat_le id (first_of b before)) (batch_count before) place within
    (λ b h. le_false id (first_of b before) (front b h)) (λ b h k. le_true id (first_of b before) (rest b h k)))
