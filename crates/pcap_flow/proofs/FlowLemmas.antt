-- One flow.
use Rattle.std.proofs.Common.{◌≡◌, ◌<◌, ◌≤◌, ◌+◌, ◌^◌, ℕ, zero, suc, List, [], ◌∷◌, ◌++◌, set, Result, Ok, Err, is_err, OnOk, Bool, true, false, arith, refl, ◌&&◌}
use Rattle.std.proofs.lemmas.Bool.Decides.{nat_tests}
use Rattle.std.specs.List.{list_all}
use Rattle.pcap_flow.specs.Keys.{same_endpoint}
use Rattle.pcap_flow.specs.Steps.{flow_key, begun, joined, is_bounded, is_timed}
use Rattle.pcap_flow.specs.declared.flow.Flow.{Flow}
use Rattle.pcap_flow.specs.declared.sighting.Sighting.{Sighting}

-- the two sides of `&&`
pub and_parts : (a b : Bool) → (a && b) ≡ true → (a ≡ true) × (b ≡ true)
and_parts true b h = (refl, h)
and_parts false b h = let e : false ≡ true = h in cc

pub and_both : (a b : Bool) → a ≡ true → b ≡ true → (a && b) ≡ true
and_both a b h k = rw (h, k) refl

-- a further packet leaves the ends and the protocol
pub key_joined : (s : Sighting) (f : Flow) → flow_key (joined s f) ≡ flow_key f
key_joined s f = by (same_endpoint s.source f.source) refl
  where
    by : (b : Bool) → same_endpoint s.source f.source ≡ b → flow_key (joined s f) ≡ flow_key f
    by true e = rw e refl
    by false e = rw e refl

-- more packets allow as much
pub bounded_more : (n m : ℕ) (f : Flow) → n ≤ m → is_bounded n f ≡ true → is_bounded m f ≡ true
bounded_more n m f le h = grind (arith, nat_tests)

pub bounded_begun : (n : ℕ) (s : Sighting) → s.time < 2 ^ 63 → s.original < 2 ^ 32 → is_bounded (n + 1) (begun s) ≡ true
bounded_begun n s t o = grind (arith, nat_tests)

pub bounded_joined : (n : ℕ) (s : Sighting) (f : Flow) → s.time < 2 ^ 63 → s.original < 2 ^ 32 → is_bounded n f ≡ true → is_bounded (n + 1) (joined s f) ≡ true
bounded_joined n s f t o h = by (same_endpoint s.source f.source) refl
  where
    by : (b : Bool) → same_endpoint s.source f.source ≡ b → is_bounded (n + 1) (joined s f) ≡ true
    by true e = rw e (grind (arith, nat_tests))
    by false e = rw e (grind (arith, nat_tests))

-- the same of every flow of a list
pub all_bounded : (n : ℕ) (fs : List Flow) → list_all (is_bounded n) fs ≡ true → list_all (is_bounded (n + 1)) fs ≡ true
all_bounded n [] h = refl
all_bounded n (f ∷ fs) h =
    let both = and_parts (is_bounded n f) (list_all (is_bounded n) fs) h in
    and_both _ _ (bounded_more n (n + 1) f (omega arith) both.0) (all_bounded n fs both.1)

pub all_bounded_push : (n : ℕ) (fs : List Flow) (f : Flow) → list_all (is_bounded n) fs ≡ true → is_bounded n f ≡ true → list_all (is_bounded n) (fs ++ f ∷ []) ≡ true
all_bounded_push n [] f h one = and_both _ _ one refl
all_bounded_push n (g ∷ fs) f h one =
    let both = and_parts (is_bounded n g) (list_all (is_bounded n) fs) h in
    and_both _ _ both.0 (all_bounded_push n fs f both.1 one)

pub all_bounded_set : (n : ℕ) (fs : List Flow) (i : ℕ) (f : Flow) → list_all (is_bounded n) fs ≡ true → is_bounded n f ≡ true → list_all (is_bounded n) (set fs i f) ≡ true
all_bounded_set n [] i f h one = refl
all_bounded_set n (g ∷ fs) zero f h one =
    let both = and_parts (is_bounded n g) (list_all (is_bounded n) fs) h in
    and_both _ _ one both.1
all_bounded_set n (g ∷ fs) (suc i) f h one =
    let both = and_parts (is_bounded n g) (list_all (is_bounded n) fs) h in
    and_both _ _ both.0 (all_bounded_set n fs i f both.1 one)

-- what an answer that is no error says
pub on_ok : {T E : Type 0} (r : Result T E) {P : Type 0} → is_err r ≡ false → OnOk r P → P
on_ok (Ok x) h p = p
on_ok (Err e) h p = cc

timed_if_bounded : (n : ℕ) (f : Flow) → is_bounded n f ≡ true → is_timed f ≡ true
timed_if_bounded n f h = grind (arith, nat_tests)

-- the times of flows
pub all_timed : (n : ℕ) (fs : List Flow) → list_all (is_bounded n) fs ≡ true → list_all is_timed fs ≡ true
all_timed n [] h = refl
all_timed n (f ∷ fs) h =
    let both = and_parts (is_bounded n f) (list_all (is_bounded n) fs) h in
    and_both _ _ (timed_if_bounded n f both.0) (all_timed n fs both.1)
