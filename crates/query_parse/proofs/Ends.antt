-- The end of a text is one token, the last.
use Rattle.std.proofs.Common.{◌≡◌, true, false, List, [], ◌∷◌}
use Rattle.query_parse.specs.Parsing.{is_end}
use Rattle.query_parse.specs.Tokens.{Token}

abbrev pub EndsOnce : List Token → Type 0
EndsOnce [] = ⊥
EndsOnce (t ∷ []) = is_end t.lexeme ≡ true
EndsOnce (t ∷ (u ∷ ts)) = (is_end t.lexeme ≡ false) × EndsOnce (u ∷ ts)
