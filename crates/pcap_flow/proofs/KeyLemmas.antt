-- `same_key` is equality.
use Rattle.std.proofs.Common.{◌≡◌, ℕ, Bool, true, false, ◌&&◌, refl, sym, ap, subst, ◌∙◌, inl, inr, eqb, arith}
use Rattle.std.proofs.lemmas.Bool.{eqb-true, eq-eqb}
use Rattle.std.proofs.lemmas.Bool.Decides.{nat_tests}
use Rattle.pcap_flow.specs.Keys.{same_endpoint, same_key, endpoint_before, key_between}
use Rattle.pcap_flow.specs.Sightings.{key_of}
use Rattle.pcap_flow.specs.Laws.{ShareEnds, KeyIsEnds}
use Rattle.pcap_flow.specs.declared.sighting.Sighting.{Sighting}
use Rattle.pcap_flow.specs.declared.key.Endpoint.{Endpoint}
use Rattle.pcap_flow.specs.declared.key.FlowKey.{FlowKey}
use Rattle.pcap_flow.proofs.FlowLemmas.{and_parts, and_both}

pub same_end_refl : (a : Endpoint) → same_endpoint a a ≡ true
same_end_refl a = and_both _ _ (eq-eqb a.address a.address refl) (eq-eqb a.port a.port refl)

same_end_eq : (a b : Endpoint) → same_endpoint a b ≡ true → a ≡ b
same_end_eq a b h =
    let both = and_parts (eqb a.address b.address) (eqb a.port b.port) h in
    let address : a.address ≡ b.address = eqb-true a.address b.address both.0 in
    let port : a.port ≡ b.port = eqb-true a.port b.port both.1 in
    (λ i. record { address = address i; port = port i })

pub same_key_refl : (k : FlowKey) → same_key k k ≡ true
same_key_refl k = and_both _ _ (same_end_refl k.low) (and_both _ _ (same_end_refl k.high) (eq-eqb k.protocol k.protocol refl))

pub same_key_eq : (k l : FlowKey) → same_key k l ≡ true → k ≡ l
same_key_eq k l h =
    let both = and_parts (same_endpoint k.low l.low) (same_endpoint k.high l.high && eqb k.protocol l.protocol) h in
    let rest = and_parts (same_endpoint k.high l.high) (eqb k.protocol l.protocol) both.1 in
    let low : k.low ≡ l.low = same_end_eq k.low l.low both.0 in
    let high : k.high ≡ l.high = same_end_eq k.high l.high rest.0 in
    let protocol : k.protocol ≡ l.protocol = eqb-true k.protocol l.protocol rest.1 in
    (λ i. record { low = low i; high = high i; protocol = protocol i })

pub same_key_comm : (k l : FlowKey) → same_key k l ≡ same_key l k
same_key_comm k l = by (same_key k l) refl (same_key l k) refl
  where
    by : (a : Bool) → same_key k l ≡ a → (b : Bool) → same_key l k ≡ b → same_key k l ≡ same_key l k
    by true e true e' = e ∙ sym e'
    by false e false e' = e ∙ sym e'
    by true e false e' = let back = ap (λ (x : FlowKey). same_key x k) (same_key_eq k l e) in let t = same_key_refl k in cc
    by false e true e' = let back = ap (λ (x : FlowKey). same_key x l) (same_key_eq l k e') in let t = same_key_refl l in cc

-- no end is before another both ways, and two that are neither way are one
before_once : (a b : Endpoint) → endpoint_before a b ≡ true → endpoint_before b a ≡ true → ⊥
before_once a b h k = grind (arith, nat_tests)

before_none : (a b : Endpoint) → endpoint_before a b ≡ false → endpoint_before b a ≡ false → a ≡ b
before_none a b h k =
    let address : a.address ≡ b.address = grind (arith, nat_tests) in
    let port : a.port ≡ b.port = grind (arith, nat_tests) in
    (λ i. record { address = address i; port = port i })

-- the order of the ends doesn't matter
key_turned : (a b : Endpoint) (p : ℕ) → key_between a b p ≡ key_between b a p
key_turned a b p = by (endpoint_before a b) refl (endpoint_before b a) refl
  where
    by : (x : Bool) → endpoint_before a b ≡ x → (y : Bool) → endpoint_before b a ≡ y → key_between a b p ≡ key_between b a p
    by true e true e' = absurd (before_once a b e e')
    by true e false e' = rw (e, e') refl
    by false e true e' = rw (e, e') refl
    by false e false e' = let same = before_none a b e e' in (λ i. key_between (same i) (sym same i) p)

-- the ends of a key are those of its packet
key_ends : (s t : Sighting) → key_of s ≡ key_of t → ShareEnds s t
key_ends s t h = by (endpoint_before s.target s.source) refl (endpoint_before t.target t.source) refl
  where
    by : (x : Bool) → endpoint_before s.target s.source ≡ x → (y : Bool) → endpoint_before t.target t.source ≡ y → ShareEnds s t
    by true e true e' = let k : record { low = s.target; high = s.source; protocol = s.protocol } ≡ record { low = t.target; high = t.source; protocol = t.protocol } = rw (e, e') at h in
        (ap (λ (k : FlowKey). k.protocol) k, inl (ap (λ (k : FlowKey). k.high) k, ap (λ (k : FlowKey). k.low) k))
    by true e false e' = let k = rw (e, e') at h in (ap (λ (k : FlowKey). k.protocol) k, inr (ap (λ (k : FlowKey). k.high) k, ap (λ (k : FlowKey). k.low) k))
    by false e true e' = let k = rw (e, e') at h in (ap (λ (k : FlowKey). k.protocol) k, inr (ap (λ (k : FlowKey). k.low) k, ap (λ (k : FlowKey). k.high) k))
    by false e false e' = let k = rw (e, e') at h in (ap (λ (k : FlowKey). k.protocol) k, inl (ap (λ (k : FlowKey). k.low) k, ap (λ (k : FlowKey). k.high) k))

ends_key : (s t : Sighting) → ShareEnds s t → key_of t ≡ key_of s
ends_key s t h = elim h.1 [ inl p ↦ (λ i. key_between (sym p.0 i) (sym p.1 i) (sym h.0 i)) | inr p ↦ key_turned t.source t.target t.protocol ∙ (λ i. key_between (sym p.0 i) (sym p.1 i) (sym h.0 i)) ]

pub key_is_ends : KeyIsEnds
key_is_ends s t = (
  λ h. key_ends s t (sym (same_key_eq (key_of t) (key_of s) h)),
  λ h. subst (λ (k : FlowKey). same_key k (key_of s) ≡ true) (sym (ends_key s t h)) (same_key_refl (key_of s)),
)
