-- What a legal history rules out.
use Rattle.std.proofs.Common.{◌≡◌, ◌≢◌, ℕ, zero, suc, ◌<◌, ◌≤◌, Bool, true, false, ◌||◌, ◌==◌, inl, inr, if◌then◌else◌, List, [], ◌∷◌, Option, None, Some, refl, ap, sym, ◌∙◌, arith}
use Rattle.std.specs.Option.{option_or}
use Rattle.std.proofs.lemmas.Bool.Decides.{eqb_tells}
use Rattle.event_history.specs.declared.entry.Deed.{Deed}
use Rattle.event_history.specs.declared.entry.Deed.TheVariants.{Accept, Claim, Unclaim, Index, Seal, Register, Take, Leave}
use Rattle.event_history.specs.declared.entry.Entry.{Entry}
use Rattle.event_history.specs.declared.entry.Limits.{Limits}
use Rattle.event_history.specs.Choices.{is_free, least, some_if}
use Rattle.event_history.specs.Histories.{batch_count, is_indexed, is_marked}
use Rattle.event_history.specs.Legal.{Allowed, Legal}

chosen_within : (first : Option ℕ) (pass : Bool) (n b : ℕ) → ((c : ℕ) → first ≡ Some c → c < n) → option_or first (some_if pass n) ≡ Some b → b < suc n
chosen_within (Some c) pass n b h e = let low : b < n = h b e in omega arith
chosen_within None true n b h e = let same : n ≡ b = cc in omega arith
chosen_within None false n b h e = absurd cc

pub least_within : (test : ℕ → Bool) (n b : ℕ) → least test n ≡ Some b → b < n
least_within test zero b e = absurd cc
least_within test (suc n) b e = chosen_within (least test n) (test n) n b (λ c. least_within test n c) e

pub other : (n b : ℕ) → n ≢ b → (n == b) ≡ false
other n b h = elim (eqb_tells n b) as (λ _. (n == b) ≡ false) [ inl k ↦ absurd (h k.1) | inr k ↦ k.0 ]

abbrev Unnamed : ℕ → List Entry → Type 0
Unnamed b before = (is_indexed b before ≡ false) × (is_marked b before ≡ false)

unnamed_by : (limits : Limits) (before : List Entry) (d : Deed) (b : ℕ) → Allowed limits before d → batch_count before ≤ b → Unnamed b before
    → Unnamed b (record { seat = 0; deed = d } ∷ before)
unnamed_by limits before (Accept packed) b a h u = u
unnamed_by limits before (Claim c) b a h u =
    let there : c < batch_count before = least_within (is_free before) (batch_count before) c a in
    (u.0, ap (λ (x : Bool). if x then true else is_marked b before) (other c b (λ same. omega arith)) ∙ u.1)
unnamed_by limits before (Unclaim c) b a h u =
    (u.0, ap (λ (x : Bool). if x then false else is_marked b before) (other c b (λ same. omega (arith, a))) ∙ u.1)
unnamed_by limits before (Index c) b a h u =
    (ap (λ (x : Bool). x || is_indexed b before) (other c b (λ same. omega (arith, a.0))) ∙ u.0, u.1)
unnamed_by limits before (Seal k) b a h u = u
unnamed_by limits before (Register q mode expr) b a h u = u
unnamed_by limits before (Take q past_to live_to) b a h u = u
unnamed_by limits before (Leave q) b a h u = u

count_before : (d : Deed) (before : List Entry) (b : ℕ) → batch_count (record { seat = 0; deed = d } ∷ before) ≤ b → batch_count before ≤ b
count_before (Accept packed) before b h = omega (arith, h)
count_before (Claim c) before b h = h
count_before (Unclaim c) before b h = h
count_before (Index c) before b h = h
count_before (Seal k) before b h = h
count_before (Register q mode expr) before b h = h
count_before (Take q past_to live_to) before b h = h
count_before (Leave q) before b h = h

-- a batch that isn't accepted is neither indexed nor claimed
pub unnamed : (limits : Limits) (before : List Entry) (b : ℕ) → Legal limits before → batch_count before ≤ b → Unnamed b before
unnamed limits [] b legal h = (refl, refl)
unnamed limits (e ∷ before) b legal h =
    unnamed_by limits before e.deed b legal.1 (count_before e.deed before b h) (unnamed limits before b legal.0 (count_before e.deed before b h))

-- Searches.
none_here : (first : Option ℕ) (pass : Bool) (n : ℕ) → first ≡ None → pass ≡ false → option_or first (some_if pass n) ≡ None
none_here first pass n e f = ap (λ (o : Option ℕ). option_or o (some_if pass n)) e ∙ ap (λ (b : Bool). some_if b n) f

pub least_none : (test : ℕ → Bool) (n : ℕ) → ((b : ℕ) → b < n → test b ≡ false) → least test n ≡ None
least_none test zero h = refl
least_none test (suc n) h = none_here (least test n) (test n) n (least_none test n (λ b k. h b (omega arith))) (h n (omega arith))

least_step : (test : ℕ → Bool) (n at : ℕ) → test at ≡ true → ((b : ℕ) → b < at → test b ≡ false) → (at < n → least test n ≡ Some at)
    → at < suc n → least test (suc n) ≡ Some at
least_step test n at pass before below h =
    elim (eqb_tells at n) as (λ _. least test (suc n) ≡ Some at) [
      | inl e ↦
          ap (λ (o : Option ℕ). option_or o (some_if (test n) n)) (least_none test n (λ b k. before b (omega (arith, e.1))))
          ∙ ap (λ (b : Bool). some_if b n) (ap test (sym e.1) ∙ pass) ∙ ap (λ (m : ℕ). Some m) (sym e.1)
      | inr e ↦ ap (λ (o : Option ℕ). option_or o (some_if (test n) n)) (below (omega (arith, e.1)))
    ]

pub least_is : (test : ℕ → Bool) (n at : ℕ) → test at ≡ true → ((b : ℕ) → b < at → test b ≡ false) → at < n → least test n ≡ Some at
least_is test zero at pass before h = absurd (omega (arith, h))
least_is test (suc n) at pass before h = least_step test n at pass before (least_is test n at pass before) h
