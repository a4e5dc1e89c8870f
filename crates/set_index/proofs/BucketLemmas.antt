-- What a bucket answers.
use Rattle.std.proofs.Common.{◌≡◌, ℕ, ◌-◌, ◌<◌, Bool, true, ltb, ◌&&◌, List, [], get_or, Option, Result, Ok, Err, IfOk, ap, ◌∙◌, arith}
use Rattle.std.proofs.lemmas.Bool.Decides.{nat_tests}
use Rattle.bits_law.specs.Keys.{answers}
use Rattle.bits_law.specs.Contents.{Contents}
use Rattle.set_index.specs.Buckets.{takes, Holds}

-- a column of the 64
pub within : (j : ℕ) (b : Bool) → j < 64 → (ltb j 64 && b) ≡ b
within j b l = let yes_less : ltb j 64 ≡ true = grind (arith, nat_tests) in ap (λ x. x && b) yes_less

pub taken_ok : {B E : Type 0} (bits : B → List Bool) (table : Contents) (bucket : ℕ) (result : Result B E) → bucket < 64 → IfOk result (λ b. bits b ≡ get_or table.columns (63 - bucket) []) → IfOk result (λ b. (keys : List (Option ℕ)) → Holds table keys → bits b ≡ answers (takes bucket) keys)
taken_ok bits table bucket (Ok b) l e = λ keys h.
    let back : 63 - (63 - bucket) ≡ bucket = omega arith in
    e ∙ h.stands.column (63 - bucket) (omega arith) ∙ ap (λ i. answers (takes i) keys) back
taken_ok bits table bucket (Err x) l e = tt
