-- Bytes that were taken, and then others.
use Rattle.std.proofs.Common.{◌≡◌, ℕ, Option, Some, None, List, [], ◌++◌, refl, sym, ap, ◌∙◌, arith, append_assoc, length-append}
use Rattle.std.proofs.lemmas.List.{append-nil}
use Rattle.std.specs.Io.KnownBytes.{prepend_known}
use Rattle.source_block.specs.Holding.{Hold}
use Rattle.source_block.specs.Taking.{Takes}

-- nothing, and one list behind another, in front of what is known
pub prepend_nothing : (known : Option (List ℕ)) → prepend_known [] known ≡ known
prepend_nothing None = refl
prepend_nothing (Some xs) = refl

pub prepend_twice : (a b : List ℕ) (known : Option (List ℕ)) → prepend_known a (prepend_known b known) ≡ prepend_known (a ++ b) known
prepend_twice a b None = refl
prepend_twice a b (Some xs) = ap Some (sym (append_assoc a b xs))

-- nothing was taken
pub takes_nothing : (old new : Hold) (before : Option (List ℕ)) → new.bytes ≡ old.bytes → new.taken ≡ old.taken → Takes old new before before
takes_nothing old new before same count = record {
  took = [];
  left = sym (prepend_nothing before);
  count = omega (arith, count);
  held = same ∙ sym (append-nil old.bytes);
}

-- some bytes were taken, and then others
pub takes_more : (a b c : Hold) (x y z : Option (List ℕ)) → Takes a b x y → Takes b c y z → Takes a c x z
takes_more a b c x y z one two = record {
  took = one.took ++ two.took;
  left = one.left ∙ ap (prepend_known one.took) two.left ∙ prepend_twice one.took two.took z;
  count = omega (arith, one.count, two.count, length-append one.took two.took);
  held = two.held ∙ ap (λ (xs : List ℕ). xs ++ two.took) one.held ∙ append_assoc a.bytes one.took two.took;
}
