-- Subnets that hold addresses and subnets.
use Rattle.std.proofs.Common.{◌≡◌, ℕ, ◌+◌, ◌-◌, ◌*◌, ◌/◌, ◌^◌, ◌≤◌, Bool, true, false, ◌&&◌, refl, ap, sym, ◌∙◌, arith}
use Rattle.std.proofs.lemmas.Bool.{eq-eqb, eqb-true, leb-true, le-leb}
use Rattle.std.proofs.lemmas.Nat.{pow-add}
use Rattle.std.proofs.Math.Nat.{div-div-eq-div-mul}
use Rattle.vast_value.specs.declared.net.Net.{Net}
use Rattle.vast_value.specs.declared.value.Value.{Value}
use Rattle.vast_value.specs.declared.value.Value.TheVariants as value
use Rattle.query_meaning.specs.Relations.{holds_address, holds_net}
use Rattle.query_meaning.specs.Laws.{InItself, GoesOver, HoldsAll}
use Rattle.query_meaning.proofs.TextLemmas.{agree_in_none}

both : (a b : Bool) → (a && b) ≡ true → (a ≡ true) × (b ≡ true)
both true true h = (refl, refl)
both true false h = absurd cc
both false b h = absurd cc

joined : (a b : Bool) → a ≡ true → b ≡ true → (a && b) ≡ true
joined true true h k = refl
joined true false h k = absurd cc
joined false b h k = absurd cc

-- what agrees in more bits agrees in fewer
fewer_bits : (x y outer inner : ℕ) → outer ≤ inner → inner ≤ 128 → x / 2 ^ (128 - inner) ≡ y / 2 ^ (128 - inner) → x / 2 ^ (128 - outer) ≡ y / 2 ^ (128 - outer)
fewer_bits x y outer inner le most e =
    let low : 128 - outer ≡ (128 - inner) + (inner - outer) = omega arith in
    let power : 2 ^ (128 - outer) ≡ 2 ^ (128 - inner) * 2 ^ (inner - outer) = ap (λ (n : ℕ). 2 ^ n) low ∙ pow-add 2 (128 - inner) (inner - outer) in
    let first : x / 2 ^ (128 - outer) ≡ x / 2 ^ (128 - inner) / 2 ^ (inner - outer) = ap (λ (n : ℕ). x / n) power ∙ sym (div-div-eq-div-mul x (2 ^ (128 - inner)) (2 ^ (inner - outer))) in
    let second : y / 2 ^ (128 - outer) ≡ y / 2 ^ (128 - inner) / 2 ^ (inner - outer) = ap (λ (n : ℕ). y / n) power ∙ sym (div-div-eq-div-mul y (2 ^ (128 - inner)) (2 ^ (inner - outer))) in
    first ∙ (ap (λ (n : ℕ). n / 2 ^ (inner - outer)) e ∙ sym second)

-- an address of a subnet within another is an address of that
address_over : (outer inner : Net) (address : ℕ) → holds_net outer inner ≡ true → holds_address inner address ≡ true → holds_address outer address ≡ true
address_over outer inner address h k =
    let bits = both _ _ h in
    let most = inner.narrow in
    let le : outer.bits ≤ inner.bits = leb-true outer.bits inner.bits bits.0 in
    let base : inner.base / 2 ^ (128 - outer.bits) ≡ outer.base / 2 ^ (128 - outer.bits) = eqb-true (inner.base / 2 ^ (128 - outer.bits)) (outer.base / 2 ^ (128 - outer.bits)) bits.1 in
    let here : address / 2 ^ (128 - inner.bits) ≡ inner.base / 2 ^ (128 - inner.bits) = eqb-true (address / 2 ^ (128 - inner.bits)) (inner.base / 2 ^ (128 - inner.bits)) k in
    eq-eqb (address / 2 ^ (128 - outer.bits)) (outer.base / 2 ^ (128 - outer.bits)) (fewer_bits address inner.base outer.bits inner.bits le most here ∙ base)

net_over : (outer inner net : Net) → holds_net outer inner ≡ true → holds_net inner net ≡ true → holds_net outer net ≡ true
net_over outer inner net h k =
    let first = both _ _ h in
    let second = both _ _ k in
    let le : outer.bits ≤ inner.bits = leb-true outer.bits inner.bits first.0 in
    let more : inner.bits ≤ net.bits = leb-true inner.bits net.bits second.0 in
    joined _ _ (le-leb outer.bits net.bits (omega arith)) (address_over outer inner net.base h second.1)

pub in_itself : (net : Net) → InItself net
in_itself net = joined _ _ (le-leb net.bits net.bits (omega arith)) (eq-eqb (net.base / 2 ^ (128 - net.bits)) (net.base / 2 ^ (128 - net.bits)) refl)

pub goes_over : (outer inner : Net) (v : Value) → GoesOver outer inner v
goes_over outer inner (value.Addr address) h k = address_over outer inner address h k
goes_over outer inner (value.Subnet net) h k = net_over outer inner net h k
goes_over outer inner _ h k = absurd cc

pub holds_all : (net : Net) (address : ℕ) → HoldsAll net address
holds_all net address none small few = sym (agree_in_none address net.base net.bits none few small)
