-- The claims that are held.
use Rattle.std.proofs.Common.{◌≡◌, ℕ, zero, suc, Bool, true, false, ◌||◌, ◌==◌, if◌then◌else◌, List, [], ◌∷◌, map, refl, ap, sym, ◌∙◌, arith}
use Rattle.std.specs.List.{list_any, remove}
use Rattle.std.proofs.lemmas.Bool.Decides.{nat_tests}
use Rattle.history_core.specs.declared.answers.Claim.{Claim}
use Rattle.script_desk.specs.Desks.{without_first}
use Rattle.script_desk.specs.Kept.{IsFirstOn, NoneOn}

abbrev pub numbers : List Claim → List ℕ
numbers claims = map (λ c. c.batch) claims

behind : (c : Claim) (claims : List Claim) (b at : ℕ) → IsFirstOn (c ∷ claims) b (suc at) → IsFirstOn claims b at
behind c claims b at f = record {
  there = omega (arith, f.there);
  here = f.here;
  first = λ i d h e. f.first (suc i) d (omega (arith, h)) e;
}

itself : (n : ℕ) → (n == n) ≡ true
itself n = grind (arith, nat_tests)

pub first_removed : (claims : List Claim) (b at : ℕ) → IsFirstOn claims b at → numbers (remove claims at) ≡ without_first b (numbers claims)
first_removed [] b at f = absurd (omega (arith, f.there))
first_removed (c ∷ claims) b zero f =
    sym (ap (λ (t : Bool). if t then numbers claims else c.batch ∷ without_first b (numbers claims)) (ap (λ (n : ℕ). n == b) (f.here c refl) ∙ itself b))
first_removed (c ∷ claims) b (suc at) f =
    ap (λ (ns : List ℕ). c.batch ∷ ns) (first_removed claims b at (behind c claims b at f))
    ∙ sym (ap (λ (t : Bool). if t then numbers claims else c.batch ∷ without_first b (numbers claims)) (f.first zero c (omega arith) refl))

or_true : (b : Bool) → (b || true) ≡ true
or_true true = refl
or_true false = refl

pub first_held : (claims : List Claim) (b at : ℕ) → IsFirstOn claims b at → list_any (λ n. n == b) (numbers claims) ≡ true
first_held [] b at f = absurd (omega (arith, f.there))
first_held (c ∷ claims) b zero f = ap (λ (t : Bool). t || list_any (λ n. n == b) (numbers claims)) (ap (λ (n : ℕ). n == b) (f.here c refl) ∙ itself b)
first_held (c ∷ claims) b (suc at) f =
    ap (λ (t : Bool). (c.batch == b) || t) (first_held claims b at (behind c claims b at f)) ∙ or_true (c.batch == b)

none_behind : (c : Claim) (claims : List Claim) (b : ℕ) → NoneOn (c ∷ claims) b → NoneOn claims b
none_behind c claims b none i d h e = none (suc i) d (omega (arith, h)) e

pub none_held : (claims : List Claim) (b : ℕ) → NoneOn claims b → list_any (λ n. n == b) (numbers claims) ≡ false
none_held [] b none = refl
none_held (c ∷ claims) b none =
    ap (λ (t : Bool). t || list_any (λ n. n == b) (numbers claims)) (none zero c (omega arith) refl) ∙ none_held claims b (none_behind c claims b none)

pub none_removed : (claims : List Claim) (b : ℕ) → NoneOn claims b → without_first b (numbers claims) ≡ numbers claims
none_removed [] b none = refl
none_removed (c ∷ claims) b none =
    ap (λ (t : Bool). if t then numbers claims else c.batch ∷ without_first b (numbers claims)) (none zero c (omega arith) refl)
    ∙ ap (λ (ns : List ℕ). c.batch ∷ ns) (none_removed claims b (none_behind c claims b none))
