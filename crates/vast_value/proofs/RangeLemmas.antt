-- What is in its type's range is bounded where it is not too long.
use Rattle.std.proofs.Common.{◌≡◌, Bool, true, false, ◌&&◌, refl}
use Rattle.vast_value.specs.declared.value.Value.{Value}
use Rattle.vast_value.specs.Fit.{is_ranged, is_sized, is_bounded}

and_true : (a b : Bool) → b ≡ true → a ≡ (a && b)
and_true true true h = refl
and_true true false h = absurd cc
and_true false b h = refl

pub sized_is_bounded : (v : Value) → is_ranged v ≡ true → is_sized v ≡ is_bounded v
sized_is_bounded v h = and_true (is_sized v) (is_ranged v) h
