-- Kinds that compare as equal are one kind.
use Rattle.std.proofs.Common.{◌≡◌, true, refl}
use Rattle.vast_value.specs.declared.kind.Elem.{Elem}
use Rattle.vast_value.specs.declared.kind.Elem.TheVariants as elem
use Rattle.vast_value.specs.Kinds.{elem_eq}

pub elem_is : (a b : Elem) → elem_eq a b ≡ true → a ≡ b
elem_is elem.Bool elem.Bool h = refl
elem_is elem.Count elem.Count h = refl
elem_is elem.Int elem.Int h = refl
elem_is elem.Time elem.Time h = refl
elem_is elem.Span elem.Span h = refl
elem_is elem.Text elem.Text h = refl
elem_is elem.Name elem.Name h = refl
elem_is elem.Addr elem.Addr h = refl
elem_is elem.Subnet elem.Subnet h = refl
elem_is elem.Port elem.Port h = refl
elem_is _ _ h = absurd cc
