-- What the parser's functions ask of its words.
use Rattle.std.proofs.Common.{◌≡◌, ℕ, suc, ◌+◌, List, [], ◌∷◌, ◌++◌, Option, Some, refl, ap, arith}
use Rattle.std.specs.Option.{option_map}
use Rattle.query_meaning.specs.declared.expr.Expr.{Expr, roll-Expr}
use Rattle.query_meaning.specs.declared.expr.Expr.TheOpen as level
use Rattle.query_parse.specs.declared.parser.Group.{Group}
use Rattle.query_parse.specs.Parsing.{negated, split_last}

-- one more `!`
pub negated_more : (n : ℕ) (e : Expr) → negated (n + 1) e ≡ roll-Expr (level.Not (negated n e))
negated_more n e = let more : n + 1 ≡ suc n = omega arith in ap (λ (k : ℕ). negated k e) more

-- the last of groups is the one that was put behind the others
pub last_group : (outer : List Group) (g : Group) → split_last (outer ++ g ∷ []) ≡ Some (outer, g)
last_group [] g = refl
last_group (x ∷ []) g = refl
last_group (x ∷ (y ∷ more)) g = ap (λ (s : Option (List Group × Group)). option_map (λ s. (x ∷ s.0, s.1)) s) (last_group (y ∷ more) g)
