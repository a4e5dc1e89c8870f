use Rattle.std.proofs.Common.{◌≡◌, refl, ap}
use Rattle.query_meaning.specs.declared.expr.Expr.{roll-Expr}
use Rattle.query_meaning.specs.declared.expr.Expr.TheOpen as level
use Rattle.query_meaning.specs.declared.expr.Rel.{Rel}
use Rattle.query_meaning.specs.declared.expr.Rel.TheVariants.{Eq, Ne, Lt, Le, Gt, Ge, Within, Contains}
use Rattle.query_parse.specs.Grammar.{turned, test_of}
use Rattle.query_parse.proofs.laws.reversed_is_turned.Goals as goal

twice : (rel : Rel) → turned (turned rel) ≡ rel
twice Eq = refl
twice Ne = refl
twice Lt = refl
twice Le = refl
twice Gt = refl
twice Ge = refl
twice Within = refl
twice Contains = refl

pub returns : goal.returns
returns c = λ pick rel literal. (refl, ap (λ (r : Rel). roll-Expr (level.Test (test_of pick r literal))) (twice rel))
