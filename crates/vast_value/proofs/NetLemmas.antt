-- Two subnets with the same base and bits are one: the facts that a subnet keeps have one proof each.
use Rattle.std.proofs.Common.{◌≡◌, ℕ, ◌≤◌, ◌-◌, ◌%◌, ◌^◌, Bool, true, false, leb, eqb, Some, refl, ap, ◌∙◌, subst}
use Rattle.std.proofs.lemmas.Bool.{le-leb, eq-eqb}
use Rattle.std.specs.Coded.{le_prop, Coded-set, coded_ℕ}
use Rattle.vast_value.specs.declared.net.Net.{Net}
use Rattle.vast_value.specs.Nets.{net_of, net_by}

abbrev IsMasked : ℕ → ℕ → Type 0
IsMasked base bits = base % 2 ^ (128 - bits) ≡ 0

abbrev net : (base bits : ℕ) → bits ≤ 128 → IsMasked base bits → Net
net base bits n m = record { base = base; bits = bits; narrow = n; masked = m }

net_irrelevant : (base bits : ℕ) (n n' : bits ≤ 128) (m m' : IsMasked base bits) → net base bits n m ≡ net base bits n' m'
net_irrelevant base bits n n' m m' =
    ap (λ (h : bits ≤ 128). net base bits h m) (le_prop n n')
    ∙ ap (λ (h : IsMasked base bits). net base bits n' h) (Coded-set coded_ℕ (base % 2 ^ (128 - bits)) 0 m m')

abbrev SameAs : Net → ℕ → ℕ → Type 0
SameAs a base bits = (n : bits ≤ 128) (m : IsMasked base bits) → a ≡ net base bits n m

pub net_equal : (a b : Net) → a.base ≡ b.base → a.bits ≡ b.bits → a ≡ b
net_equal a b p q =
    let same : SameAs a a.base a.bits = λ n m. net_irrelevant a.base a.bits a.narrow n a.masked m in
    let at_base : SameAs a b.base a.bits = subst (λ (base : ℕ). SameAs a base a.bits) p same in
    let at_bits : SameAs a b.base b.bits = subst (λ (bits : ℕ). SameAs a b.base bits) q at_base in
    at_bits b.narrow b.masked

net_is : (n : Net) (a b : Bool) (p : leb n.bits 128 ≡ a) (q : eqb (n.base % 2 ^ (128 - n.bits)) 0 ≡ b) → a ≡ true → b ≡ true → net_by n.base n.bits a b p q ≡ Some n
net_is n true true p q ha hb = ap (λ (m : Net). Some m) (net_equal _ _ refl refl)
net_is n true false p q ha hb = absurd cc
net_is n false b p q ha hb = absurd cc

-- a subnet is the subnet of its base and bits
pub net_of_itself : (n : Net) → net_of n.base n.bits ≡ Some n
unfolding net_of
net_of_itself n = net_is n _ _ refl refl (le-leb n.bits 128 n.narrow) (eq-eqb _ 0 n.masked)
