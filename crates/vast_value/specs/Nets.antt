-- The subnet of a base and bits.
use Rattle.std.specs.Prelude.{◌≡◌, ℕ, ◌-◌, ◌%◌, ◌^◌, ◌==◌, Bool, true, Option, None, Some, nat_le, refl}
use Rattle.std.proofs.lemmas.Bool.{leb-true, eqb-true}
use Rattle.vast_value.specs.declared.net.Net.{Net}

abbrev pub net_by : (base bits : ℕ) (a b : Bool) → nat_le bits 128 ≡ a → (base % 2 ^ (128 - bits) == 0) ≡ b → Option Net
net_by base bits true true n m = Some (record { base = base; bits = bits; narrow = leb-true bits 128 n; masked = eqb-true (base % 2 ^ (128 - bits)) 0 m })
net_by base bits _ _ n m = None

-- None where there are more than 128 bits or the base has bits past them
unfoldable pub net_of : ℕ → ℕ → Option Net
net_of base bits = net_by base bits (nat_le bits 128) (base % 2 ^ (128 - bits) == 0) refl refl
