-- What a text begins with after a piece was put behind it.
use Rattle.std.proofs.Common.{◌≡◌, ℕ, List, ◌++◌, ◌≤◌, length, take, refl, ap, ◌∙◌, sym, arith}
use Rattle.std.proofs.lemmas.List.{take_all, take_at, take-take, length-append}
use Rattle.value_writing.specs.Writing.{BeginsWith}

pub front_same : (a b : List ℕ) → b ≡ a → BeginsWith b a
front_same a b e = record { is = ap (take (length a)) e ∙ take_all (length a) a (omega arith) }

pub front_behind : (a b c x : List ℕ) → b ≡ a ++ x → BeginsWith c b → BeginsWith c a
front_behind a b c x e h =
    let short : length a ≤ length b = omega (arith, ap length e, length-append a x) in
    record { is = sym (take-take (length a) (length b) c short) ∙ (ap (take (length a)) h.is ∙ (ap (take (length a)) e ∙ take_at a x (length a) refl)) }

pub ruleset fronts = (front_same, front_behind)

pub front_behind_two : (a b c d x y : List ℕ) → b ≡ a ++ x → c ≡ b ++ y → BeginsWith d c → BeginsWith d a
front_behind_two a b c d x y e f h = front_behind a b d x e (front_behind b c d y f h)
