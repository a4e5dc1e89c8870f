-- What the definitions give at chosen places.
use Rattle.std.proofs.Common.{◌≡◌, [], ◌∷◌, None, Some, Ok, refl, lit≤, arith}
use Rattle.source_block.specs.Holding.{hold}
use Rattle.source_block.specs.Taking.{Stops, Counts}
use Rattle.source_block.specs.declared.stop.Stop.TheVariants.{AtEnd, Failed, AtBound}
use Rattle.source_block.specs.declared.stop.Took.TheVariants.{Enough, Stopped}

-- the bytes from the second to the third of four are held
between : hold (1 ∷ (2 ∷ (3 ∷ (4 ∷ [])))) 1 3 9 ≡ record { bytes = 2 ∷ (3 ∷ []); taken = 9; kept = 4 }
between = refl

-- the bound is met at 2^36 bytes, and not one before
bound : Stops AtBound None 68719476736
bound = refl

before_bound : Stops AtBound None 68719476735 → ⊥
before_bound e = omega arith

-- a source that still has a byte isn't at its end
not_at_end : Stops AtEnd (Some (7 ∷ [])) 1 → ⊥
not_at_end e = let left = e.0 in cc

-- a failed read counts a fault, and nothing else does
one_more : Counts (Ok (Stopped Failed)) 3 4
one_more = lit≤ tt

none_more : Counts (Ok (Stopped Failed)) 3 3 → ⊥
none_more e = omega arith

kept_at_end : Counts (Ok (Stopped AtEnd)) 3 3
kept_at_end = refl

kept_by_bytes : Counts (Ok Enough) 3 3
kept_by_bytes = refl
