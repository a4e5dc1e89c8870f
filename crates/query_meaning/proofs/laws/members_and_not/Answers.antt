use Rattle.std.proofs.Common.{◌≡◌, Bool, ◌||◌, List, [], ◌∷◌, map, refl, ap, ◌∙◌}
use Rattle.std.specs.List.{list_any}
use Rattle.std.proofs.lemmas.List.Folds.{list_all-map}
use Rattle.query_meaning.specs.declared.expr.Expr.{Expr}
use Rattle.query_meaning.specs.declared.expr.Expr.TheFolds.{fold-roll-Expr}
use Rattle.query_meaning.specs.declared.expr.Expr.TheOpen as level
use Rattle.query_meaning.specs.Meaning.{holds, level_holds}
use Rattle.query_meaning.proofs.laws.members_and_not.Goals as goal

any_map : (f : Expr → Bool) (members : List Expr) → list_any (λ b. b) (map f members) ≡ list_any f members
any_map f [] = refl
any_map f (x ∷ xs) = ap (λ (b : Bool). f x || b) (any_map f xs)

pub returns-clause-lists : goal.returns-clause-lists
returns-clause-lists c = λ heading cells. (
  fold-roll-Expr Bool (level_holds heading cells) (level.And c.args.members.now)
      ∙ list_all-map (λ b. b) (holds heading cells) c.args.members.now,
  fold-roll-Expr Bool (level_holds heading cells) (level.Or c.args.members.now) ∙ any_map (holds heading cells) c.args.members.now,
)
