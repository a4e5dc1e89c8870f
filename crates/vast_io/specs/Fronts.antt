-- A source behind a text.
use Rattle.std.specs.Prelude.{ℕ, List}

-- what is still to be given of the text, and the source that stands behind it
pub record Fronted (S : Type 0) : Type 0 where
  pub front : List ℕ
  pub rest : S
