-- Where the latest flow of a key stands.
use Rattle.std.proofs.Common.{◌≡◌, ◌<◌, ◌+◌, ℕ, zero, suc, Bool, true, false, List, [], ◌∷◌, ◌++◌, length, Option, Some, None, IsSomeAnd, slice_get, set, arith, refl, sym, ap, ◌∙◌, if◌then◌else◌}
use Rattle.pcap_flow.specs.Keys.{same_key}
use Rattle.pcap_flow.specs.Sightings.{key_of}
use Rattle.pcap_flow.specs.Steps.{flow_key, begun, joined, is_over, latest_flow, join_latest, with_sighting}
use Rattle.pcap_flow.specs.Tracked.{latest_place, place_from}
use Rattle.pcap_flow.specs.declared.key.FlowKey.{FlowKey}
use Rattle.pcap_flow.specs.declared.flow.Flow.{Flow}
use Rattle.pcap_flow.specs.declared.sighting.Sighting.{Sighting}

-- where no flow of the key stands, there is none
pub latest_none : (k : FlowKey) (fs : List Flow) → latest_place k fs ≡ None → latest_flow k fs ≡ None
unfolding latest_flow latest_place
latest_none k [] h = refl
latest_none k (f ∷ fs) h = by (latest_none k fs) (latest_place k fs) refl (same_key (flow_key f) k) refl
  where
    by : (latest_place k fs ≡ None → latest_flow k fs ≡ None) → (p : Option ℕ) → latest_place k fs ≡ p → (b : Bool) → same_key (flow_key f) k ≡ b → latest_flow k (f ∷ fs) ≡ None
    by ih (Some i) e b e' = let e0 : latest_place k (f ∷ fs) ≡ Some (suc i) = rw e refl in cc
    by ih None e true e' = let e0 : latest_place k (f ∷ fs) ≡ Some 0 = rw (e, e') refl in cc
    by ih None e false e' = rw (ih e, e') refl

-- the latest flow is the one at the latest place
pub latest_some : (k : FlowKey) (fs : List Flow) (i : ℕ) → latest_place k fs ≡ Some i → (f : Flow) → slice_get fs i ≡ Some f → latest_flow k fs ≡ Some f
unfolding latest_flow latest_place
latest_some k [] i h g at = cc
latest_some k (f ∷ fs) i h g at = by (λ i h at. latest_some k fs i h g at) (latest_place k fs) refl (same_key (flow_key f) k) refl i h at
  where
    by : ((i : ℕ) → latest_place k fs ≡ Some i → slice_get fs i ≡ Some g → latest_flow k fs ≡ Some g) → (p : Option ℕ) → latest_place k fs ≡ p → (b : Bool) → same_key (flow_key f) k ≡ b
        → (i : ℕ) → latest_place k (f ∷ fs) ≡ Some i → slice_get (f ∷ fs) i ≡ Some g → latest_flow k (f ∷ fs) ≡ Some g
    by ih (Some j) e b e' zero h at = let e0 : latest_place k (f ∷ fs) ≡ Some (suc j) = rw e refl in cc
    by ih (Some j) e b e' (suc i) h at =
        let e0 : latest_place k (f ∷ fs) ≡ Some (suc j) = rw e refl in
        let same : Some (suc j) ≡ Some (suc i) = cc in
        let e1 : latest_place k fs ≡ Some i = cc in
        rw (ih i e1 at) refl
    by ih None e true e' zero h at = rw (latest_none k fs e, e') at
    by ih None e true e' (suc i) h at = let e0 : latest_place k (f ∷ fs) ≡ Some 0 = rw (e, e') refl in cc
    by ih None e false e' i h at = let e0 : latest_place k (f ∷ fs) ≡ None = rw (e, e') refl in cc

-- the latest place is one of the list's
pub latest_within : (k : FlowKey) (fs : List Flow) (i : ℕ) → latest_place k fs ≡ Some i → i < length fs
unfolding latest_place
latest_within k [] i h = cc
latest_within k (f ∷ fs) i h = by (latest_within k fs) (latest_place k fs) refl (same_key (flow_key f) k) refl i h
  where
    by : ((i : ℕ) → latest_place k fs ≡ Some i → i < length fs) → (p : Option ℕ) → latest_place k fs ≡ p → (b : Bool) → same_key (flow_key f) k ≡ b
        → (i : ℕ) → latest_place k (f ∷ fs) ≡ Some i → i < length (f ∷ fs)
    by ih p e b e' zero h = omega arith
    by ih (Some j) e b e' (suc i) h =
        let e0 : latest_place k (f ∷ fs) ≡ Some (suc j) = rw e refl in
        let same : Some (suc j) ≡ Some (suc i) = cc in
        let e1 : latest_place k fs ≡ Some i = cc in
        let le = ih i e1 in
        omega arith
    by ih None e true e' (suc i) h = let e0 : latest_place k (f ∷ fs) ≡ Some 0 = rw (e, e') refl in cc
    by ih None e false e' (suc i) h = let e0 : latest_place k (f ∷ fs) ≡ None = rw (e, e') refl in cc

-- a packet is put to the flow at the latest place
pub join_set : (s : Sighting) (fs : List Flow) (i : ℕ) → latest_place (key_of s) fs ≡ Some i → (f : Flow) → slice_get fs i ≡ Some f → join_latest s fs ≡ set fs i (joined s f)
unfolding latest_flow latest_place join_latest
join_set s [] i h g at = cc
join_set s (f ∷ fs) i h g at = by (λ i h at. join_set s fs i h g at) (latest_place (key_of s) fs) refl (same_key (flow_key f) (key_of s)) refl i h at
  where
    by : ((i : ℕ) → latest_place (key_of s) fs ≡ Some i → slice_get fs i ≡ Some g → join_latest s fs ≡ set fs i (joined s g)) → (p : Option ℕ) → latest_place (key_of s) fs ≡ p → (b : Bool) → same_key (flow_key f) (key_of s) ≡ b
        → (i : ℕ) → latest_place (key_of s) (f ∷ fs) ≡ Some i → slice_get (f ∷ fs) i ≡ Some g → join_latest s (f ∷ fs) ≡ set (f ∷ fs) i (joined s g)
    by ih (Some j) e b e' zero h at = let e0 : latest_place (key_of s) (f ∷ fs) ≡ Some (suc j) = rw e refl in cc
    by ih (Some j) e b e' (suc i) h at =
        let e0 : latest_place (key_of s) (f ∷ fs) ≡ Some (suc j) = rw e refl in
        let same : Some (suc j) ≡ Some (suc i) = cc in
        let e1 : latest_place (key_of s) fs ≡ Some i = cc in
        rw (latest_some (key_of s) fs i e1 g at, ih i e1 at) refl
    by ih None e true e' zero h at =
        let same : Some f ≡ Some g = at in
        let one : f ≡ g = cc in
        rw (latest_none (key_of s) fs e, e', one) refl
    by ih None e true e' (suc i) h at = let e0 : latest_place (key_of s) (f ∷ fs) ≡ Some 0 = rw (e, e') refl in cc
    by ih None e false e' i h at = let e0 : latest_place (key_of s) (f ∷ fs) ≡ None = rw (e, e') refl in cc

-- a new flow is the latest of its key, and of no other
pub place_push : (k : FlowKey) (fs : List Flow) (f : Flow) → latest_place k (fs ++ f ∷ []) ≡ (if same_key (flow_key f) k then Some (length fs) else latest_place k fs)
unfolding latest_place
place_push k [] f = by (same_key (flow_key f) k) refl
  where
    by : (b : Bool) → same_key (flow_key f) k ≡ b → latest_place k (f ∷ []) ≡ (if same_key (flow_key f) k then Some 0 else None)
    by true e = rw e refl
    by false e = rw e refl
place_push k (g ∷ fs) f = by (place_push k fs f) (same_key (flow_key f) k) refl
  where
    by : (latest_place k (fs ++ f ∷ []) ≡ (if same_key (flow_key f) k then Some (length fs) else latest_place k fs)) → (b : Bool) → same_key (flow_key f) k ≡ b → latest_place k ((g ∷ fs) ++ f ∷ []) ≡ (if same_key (flow_key f) k then Some (length (g ∷ fs)) else latest_place k (g ∷ fs))
    by ih true e = let one : length fs + 1 ≡ suc (length fs) = omega arith in rw (ih, e) refl
    by ih false e = rw (ih, e) refl

-- a flow of the same key in a flow's place leaves the latest places
pub place_set : (k : FlowKey) (fs : List Flow) (i : ℕ) (f g : Flow) → slice_get fs i ≡ Some f → flow_key g ≡ flow_key f → latest_place k (set fs i g) ≡ latest_place k fs
unfolding latest_place
place_set k [] i f g at same = cc
place_set k (x ∷ fs) zero f g at same =
    let one : x ≡ f = cc in
    let key : flow_key g ≡ flow_key x = same ∙ ap flow_key (sym one) in
    ap (λ (l : FlowKey). place_from (latest_place k fs) (same_key l k)) key
place_set k (x ∷ fs) (suc i) f g at same = rw (place_set k fs i f g at same) refl

-- the same, where the flow in that place has the key
pub place_kept : (fs : List Flow) (i : ℕ) (g : Flow) → IsSomeAnd (slice_get fs i) (λ f. flow_key g ≡ flow_key f) → (k : FlowKey) → latest_place k (set fs i g) ≡ latest_place k fs
place_kept fs i g h k = by (slice_get fs i) refl h
  where
    by : (o : Option Flow) → slice_get fs i ≡ o → IsSomeAnd o (λ f. flow_key g ≡ flow_key f) → latest_place k (set fs i g) ≡ latest_place k fs
    by None e h = elim h [ ]
    by (Some f) e h = place_set k fs i f g e h

-- what a step does, by the latest place
pub step_none : (s : Sighting) (fs : List Flow) → latest_place (key_of s) fs ≡ None → with_sighting fs s ≡ fs ++ begun s ∷ []
step_none s fs h = rw (latest_none (key_of s) fs h) refl

pub step_over : (s : Sighting) (fs : List Flow) (i : ℕ) (f : Flow) → latest_place (key_of s) fs ≡ Some i → slice_get fs i ≡ Some f → is_over s.time f ≡ true
    → with_sighting fs s ≡ fs ++ begun s ∷ []
step_over s fs i f h at over = rw (latest_some (key_of s) fs i h f at, over) refl

pub step_joined : (s : Sighting) (fs : List Flow) (i : ℕ) (f : Flow) → latest_place (key_of s) fs ≡ Some i → slice_get fs i ≡ Some f → is_over s.time f ≡ false
    → with_sighting fs s ≡ set fs i (joined s f)
step_joined s fs i f h at open_yet = rw (latest_some (key_of s) fs i h f at, open_yet) (join_set s fs i h f at)
