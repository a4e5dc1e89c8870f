-- The flows of a list of packets with one packet more.
use Rattle.std.proofs.Common.{◌≡◌, ◌≤◌, ◌+◌, ℕ, Bool, true, false, not, ◌&&◌, ◌||◌, max, nat_lt, List, [], ◌∷◌, ◌++◌, map, Option, Some, None, is_some, arith, refl, sym, ap, subst, ◌∙◌, if◌then◌else◌, append_assoc, append-nil, add-zero, zero-add}
use Rattle.std.specs.Prelude.{fold, filter_map, sum_by}
use Rattle.std.specs.List.{list_all}
use Rattle.std.specs.Option.{option_map, option_map_or, option_or}
use Rattle.std.proofs.lemmas.Bool.{ltb-true}
use Rattle.std.proofs.lemmas.Bool.Decides.{nat_tests}
use Rattle.std.proofs.lemmas.List.Sums.{sum_by-append, fold-append}
use Rattle.std.proofs.lemmas.List.Folds.{list_all-append}
use Rattle.pcap_flow.specs.Keys.{same_endpoint, same_key}
use Rattle.pcap_flow.specs.Sightings.{sighting_of, key_of, has_key}
use Rattle.pcap_flow.specs.Groups.{begins, members, groups_after, flow_of, bytes_if, idle_timeout}
use Rattle.pcap_flow.specs.Steps.{flow_key, begun, joined, is_over, latest_flow, join_latest, with_sighting, with_packet}
use Rattle.pcap_flow.specs.Laws.{StepsGiveFlows}
use Rattle.pcap_flow.specs.declared.packet.Packet.{Packet}
use Rattle.pcap_flow.specs.declared.key.FlowKey.{FlowKey}
use Rattle.pcap_flow.specs.declared.flow.Flow.{Flow}
use Rattle.pcap_flow.specs.declared.sighting.Sighting.{Sighting}
use Rattle.pcap_flow.proofs.FlowLemmas.{key_joined, and_parts, and_both}
use Rattle.pcap_flow.proofs.KeyLemmas.{same_end_refl, same_key_eq, same_key_comm}

-- the flows that begin in what follows `earlier`
abbrev pub flows_after : List Sighting → List Sighting → List Flow
flows_after earlier rest = map flow_of (groups_after earlier rest)

-- one element more in a sum
sum_push : {X : Type 0} (f : X → ℕ) (xs : List X) (x : X) → sum_by f (xs ++ x ∷ []) ≡ sum_by f xs + f x
sum_push f xs x = let e = sum_by-append f xs (x ∷ []) in let z : sum_by f xs + (0 + f x) ≡ sum_by f xs + f x = omega arith in e ∙ z

-- the greatest time with one packet more
last_push : (m : ℕ) (ms : List Sighting) (q : Sighting)
    → fold (λ (greatest : ℕ) (s : Sighting). max greatest s.time) m (ms ++ q ∷ []) ≡ max (fold (λ (greatest : ℕ) (s : Sighting). max greatest s.time) m ms) q.time
last_push m ms q = fold-append (λ (greatest : ℕ) (s : Sighting). max greatest s.time) m ms (q ∷ [])

-- a flow with one packet more
flow_push : (x q : Sighting) (ms : List Sighting) → flow_of (record { first = x; others = ms ++ q ∷ [] }) ≡ joined q (flow_of (record { first = x; others = ms }))
flow_push x q ms = by (same_endpoint q.source x.source) refl
  where
    by : (b : Bool) → same_endpoint q.source x.source ≡ b → flow_of (record { first = x; others = ms ++ q ∷ [] }) ≡ joined q (flow_of (record { first = x; others = ms }))
    by true e =
        let sent = sum_push (λ (s : Sighting). if same_endpoint s.source x.source then 1 else 0) (x ∷ ms) q in
        let sent_bytes = sum_push (λ (s : Sighting). bytes_if (same_endpoint s.source x.source) s) (x ∷ ms) q in
        let got = sum_push (λ (s : Sighting). if not (same_endpoint s.source x.source) then 1 else 0) (x ∷ ms) q in
        let got_bytes = sum_push (λ (s : Sighting). bytes_if (not (same_endpoint s.source x.source)) s) (x ∷ ms) q in
        rw (last_push x.time ms q, sent, sent_bytes, got, got_bytes, e) (simp add-zero)
    by false e =
        let sent = sum_push (λ (s : Sighting). if same_endpoint s.source x.source then 1 else 0) (x ∷ ms) q in
        let sent_bytes = sum_push (λ (s : Sighting). bytes_if (same_endpoint s.source x.source) s) (x ∷ ms) q in
        let got = sum_push (λ (s : Sighting). if not (same_endpoint s.source x.source) then 1 else 0) (x ∷ ms) q in
        let got_bytes = sum_push (λ (s : Sighting). bytes_if (not (same_endpoint s.source x.source)) s) (x ∷ ms) q in
        rw (last_push x.time ms q, sent, sent_bytes, got, got_bytes, e) (simp add-zero)

-- a flow of one packet
flow_one : (q : Sighting) → flow_of (record { first = q; others = [] }) ≡ begun q
flow_one q = let e = same_end_refl q.source in rw e (simp zero-add)

-- the latest flow after one more
latest_push : (k : FlowKey) (fs : List Flow) (f : Flow) → latest_flow k (fs ++ f ∷ []) ≡ (if same_key (flow_key f) k then Some f else latest_flow k fs)
unfolding latest_flow
latest_push k [] f = refl
latest_push k (g ∷ fs) f = by (latest_push k fs f) (same_key (flow_key f) k) refl
  where
    by : (latest_flow k (fs ++ f ∷ []) ≡ (if same_key (flow_key f) k then Some f else latest_flow k fs)) → (b : Bool) → same_key (flow_key f) k ≡ b
        → latest_flow k ((g ∷ fs) ++ f ∷ []) ≡ (if same_key (flow_key f) k then Some f else latest_flow k (g ∷ fs))
    by ih true e = rw (ih, e) refl
    by ih false e = rw (ih, e) refl

-- the latest flow of the key that got a packet
latest_join : (s : Sighting) (fs : List Flow) → latest_flow (key_of s) (join_latest s fs) ≡ option_map (joined s) (latest_flow (key_of s) fs)
unfolding latest_flow join_latest
latest_join s [] = refl
latest_join s (f ∷ fs) = by (latest_join s fs) (latest_flow (key_of s) fs) refl (same_key (flow_key f) (key_of s)) refl
  where
    by : (latest_flow (key_of s) (join_latest s fs) ≡ option_map (joined s) (latest_flow (key_of s) fs)) → (o : Option Flow) → latest_flow (key_of s) fs ≡ o
        → (b : Bool) → same_key (flow_key f) (key_of s) ≡ b → latest_flow (key_of s) (join_latest s (f ∷ fs)) ≡ option_map (joined s) (latest_flow (key_of s) (f ∷ fs))
    by ih (Some g) e b e' = let now = ih ∙ ap (option_map (joined s)) e in rw (e, now) refl
    by ih None e true e' = let key = ap (λ (k : FlowKey). same_key k (key_of s)) (key_joined s f) ∙ e' in rw (e, e', e, key) refl
    by ih None e false e' = rw (e, e', e, e') refl

-- and of another key
latest_join_other : (k : FlowKey) (s : Sighting) → same_key (key_of s) k ≡ false → (fs : List Flow) → latest_flow k (join_latest s fs) ≡ latest_flow k fs
unfolding latest_flow join_latest
latest_join_other k s h [] = refl
latest_join_other k s h (f ∷ fs) = by (latest_join_other k s h fs) (latest_flow (key_of s) fs) refl (same_key (flow_key f) (key_of s)) refl
  where
    by : latest_flow k (join_latest s fs) ≡ latest_flow k fs → (o : Option Flow) → latest_flow (key_of s) fs ≡ o
        → (b : Bool) → same_key (flow_key f) (key_of s) ≡ b → latest_flow k (join_latest s (f ∷ fs)) ≡ latest_flow k (f ∷ fs)
    by ih (Some g) e b e' = rw (e, ih) refl
    by ih None e true e' =
        let key = ap (λ (l : FlowKey). same_key l k) (same_key_eq (flow_key f) (key_of s) e') ∙ h in
        let now = ap (λ (l : FlowKey). same_key l k) (key_joined s f) ∙ key in
        rw (e, e', now, key) refl
    by ih None e false e' = rw (e, e') refl

-- where no flow has the key, a packet is put to none
join_none : (s : Sighting) (fs : List Flow) → latest_flow (key_of s) fs ≡ None → join_latest s fs ≡ fs
unfolding latest_flow join_latest
join_none s [] h = refl
join_none s (f ∷ fs) h = by (latest_flow (key_of s) fs) refl (same_key (flow_key f) (key_of s)) refl
  where
    by : (o : Option Flow) → latest_flow (key_of s) fs ≡ o → (b : Bool) → same_key (flow_key f) (key_of s) ≡ b → join_latest s (f ∷ fs) ≡ f ∷ fs
    by (Some g) e b e' = let e0 : latest_flow (key_of s) (f ∷ fs) ≡ Some g = rw e refl in cc
    by None e true e' = let e0 : latest_flow (key_of s) (f ∷ fs) ≡ Some f = rw (e, e') refl in cc
    by None e false e' = rw (e, e') refl

-- the flow of a packet with nothing behind it
flow_start : (q : Sighting) (earlier : List Sighting) → flow_of (record { first = q; others = members (earlier ++ q ∷ []) (key_of q) [] }) ≡ begun q
unfolding members
flow_start q earlier = flow_one q

none_some : {X : Type 0} {x : X} → Some x ≡ None → ⊥
none_some h = cc

-- what follows `earlier` and one more
moved : (earlier : List Sighting) (x : Sighting) (rest : List Sighting) → (earlier ++ x ∷ []) ++ rest ≡ earlier ++ x ∷ rest
moved earlier x rest = append_assoc earlier (x ∷ []) rest

-- a packet that begins a flow is a member of none that began before
members_begun : (k : FlowKey) (q : Sighting) (rest earlier : List Sighting) → begins (earlier ++ rest) q ≡ true → members earlier k (rest ++ q ∷ []) ≡ members earlier k rest
unfolding members
members_begun k q [] earlier h = by (has_key k q) refl
  where
    at_once : begins earlier q ≡ true
    at_once = subst (λ (xs : List Sighting). begins xs q ≡ true) (append-nil earlier) h

    by : (b : Bool) → has_key k q ≡ b → members earlier k (q ∷ []) ≡ []
    by true e = rw (e, at_once) refl
    by false e = rw e refl
members_begun k q (x ∷ rest) earlier h = by (members_begun k q rest (earlier ++ x ∷ []) (ap (λ (xs : List Sighting). begins xs q) (moved earlier x rest) ∙ h)) (has_key k x) refl (begins earlier x) refl
  where
    by : members (earlier ++ x ∷ []) k (rest ++ q ∷ []) ≡ members (earlier ++ x ∷ []) k rest
        → (b : Bool) → has_key k x ≡ b → (a : Bool) → begins earlier x ≡ a → members earlier k ((x ∷ rest) ++ q ∷ []) ≡ members earlier k (x ∷ rest)
    by ih true e true a = rw (e, a) refl
    by ih true e false a = rw (e, a, ih) refl
    by ih false e a e' = rw (e, ih) refl

-- nor is one of another key
members_other : (k : FlowKey) (q : Sighting) → has_key k q ≡ false → (rest earlier : List Sighting) → members earlier k (rest ++ q ∷ []) ≡ members earlier k rest
unfolding members
members_other k q h [] earlier = rw h refl
members_other k q h (x ∷ rest) earlier = by (members_other k q h rest (earlier ++ x ∷ [])) (has_key k x) refl (begins earlier x) refl
  where
    by : members (earlier ++ x ∷ []) k (rest ++ q ∷ []) ≡ members (earlier ++ x ∷ []) k rest
        → (b : Bool) → has_key k x ≡ b → (a : Bool) → begins earlier x ≡ a → members earlier k ((x ∷ rest) ++ q ∷ []) ≡ members earlier k (x ∷ rest)
    by ih true e true a = rw (e, a) refl
    by ih true e false a = rw (e, a, ih) refl
    by ih false e a e' = rw (e, ih) refl

-- the latest of the flows that begin in what follows, with a packet in front
latest_cons : (k : FlowKey) (x : Sighting) (rest earlier : List Sighting) → begins earlier x ≡ true
    → latest_flow k (flows_after earlier (x ∷ rest))
    ≡ option_or (latest_flow k (flows_after (earlier ++ x ∷ []) rest)) (if same_key (key_of x) k then Some (flow_of (record { first = x; others = members (earlier ++ x ∷ []) (key_of x) rest })) else None)
unfolding latest_flow groups_after
latest_cons k x rest earlier h = rw h refl

latest_skip : (k : FlowKey) (x : Sighting) (rest earlier : List Sighting) → begins earlier x ≡ false
    → latest_flow k (flows_after earlier (x ∷ rest)) ≡ latest_flow k (flows_after (earlier ++ x ∷ []) rest)
unfolding groups_after
latest_skip k x rest earlier h = rw h refl

-- where a later flow of the key begins, the members before it stay
members_closed : (k : FlowKey) (q : Sighting) (rest earlier : List Sighting) → is_some (latest_flow k (flows_after earlier rest)) ≡ true
    → members earlier k (rest ++ q ∷ []) ≡ members earlier k rest
unfolding members latest_flow groups_after
members_closed k q [] earlier h = let e : false ≡ true = h in cc
members_closed k q (x ∷ rest) earlier h = by (members_closed k q rest (earlier ++ x ∷ [])) (has_key k x) refl (begins earlier x) refl
  where
    by : (is_some (latest_flow k (flows_after (earlier ++ x ∷ []) rest)) ≡ true → members (earlier ++ x ∷ []) k (rest ++ q ∷ []) ≡ members (earlier ++ x ∷ []) k rest)
        → (b : Bool) → has_key k x ≡ b → (a : Bool) → begins earlier x ≡ a → members earlier k ((x ∷ rest) ++ q ∷ []) ≡ members earlier k (x ∷ rest)
    by ih true e true a = rw (e, a) refl
    by ih true e false a = let now = ap is_some (sym (latest_skip k x rest earlier a)) ∙ h in rw (e, a, ih now) refl
    by ih false e false a = let now = ap is_some (sym (latest_skip k x rest earlier a)) ∙ h in rw (e, ih now) refl
    by ih false e true a = inner (latest_flow k (flows_after (earlier ++ x ∷ []) rest)) refl
      where
        inner : (o : Option Flow) → latest_flow k (flows_after (earlier ++ x ∷ []) rest) ≡ o → members earlier k ((x ∷ rest) ++ q ∷ []) ≡ members earlier k (x ∷ rest)
        inner (Some f) o = rw (e, ih (ap is_some o)) refl
        inner None o =
            let none : latest_flow k (flows_after earlier (x ∷ rest)) ≡ None = rw (latest_cons k x rest earlier a, o, e) refl in
            let f : false ≡ true = ap is_some (sym none) ∙ h in
            absurd (cc)

-- else one of the key that begins no flow is the last of them
members_joined : (k : FlowKey) (q : Sighting) → has_key k q ≡ true → (rest earlier : List Sighting) → begins (earlier ++ rest) q ≡ false
    → latest_flow k (flows_after earlier rest) ≡ None → members earlier k (rest ++ q ∷ []) ≡ members earlier k rest ++ q ∷ []
unfolding members latest_flow groups_after
members_joined k q own [] earlier h none =
    let at_once = subst (λ (xs : List Sighting). begins xs q ≡ false) (append-nil earlier) h in
    rw (own, at_once) refl
members_joined k q own (x ∷ rest) earlier h none = by (members_joined k q own rest (earlier ++ x ∷ []) (ap (λ (xs : List Sighting). begins xs q) (moved earlier x rest) ∙ h)) (has_key k x) refl (begins earlier x) refl
  where
    by : (latest_flow k (flows_after (earlier ++ x ∷ []) rest) ≡ None → members (earlier ++ x ∷ []) k (rest ++ q ∷ []) ≡ members (earlier ++ x ∷ []) k rest ++ q ∷ [])
        → (b : Bool) → has_key k x ≡ b → (a : Bool) → begins earlier x ≡ a → members earlier k ((x ∷ rest) ++ q ∷ []) ≡ members earlier k (x ∷ rest) ++ q ∷ []
    by ih b e false a = let now = sym (latest_skip k x rest earlier a) ∙ none in both b e
      where
        both : (b : Bool) → has_key k x ≡ b → members earlier k ((x ∷ rest) ++ q ∷ []) ≡ members earlier k (x ∷ rest) ++ q ∷ []
        both true e = rw (e, a, ih (sym (latest_skip k x rest earlier a) ∙ none)) refl
        both false e = rw (e, ih (sym (latest_skip k x rest earlier a) ∙ none)) refl
    by ih b e true a = inner (latest_flow k (flows_after (earlier ++ x ∷ []) rest)) refl b e
      where
        inner : (o : Option Flow) → latest_flow k (flows_after (earlier ++ x ∷ []) rest) ≡ o → (b : Bool) → has_key k x ≡ b
            → members earlier k ((x ∷ rest) ++ q ∷ []) ≡ members earlier k (x ∷ rest) ++ q ∷ []
        inner (Some f) o b e =
            let some : latest_flow k (flows_after earlier (x ∷ rest)) ≡ Some f = rw (latest_cons k x rest earlier a, o) refl in
            absurd (none_some (sym some ∙ none))
        inner None o true e =
            let some : latest_flow k (flows_after earlier (x ∷ rest)) ≡ Some (flow_of (record { first = x; others = members (earlier ++ x ∷ []) (key_of x) rest })) = rw (latest_cons k x rest earlier a, o, e) refl in
            absurd (none_some (sym some ∙ none))
        inner None o false e = rw (e, ih o) refl

-- a packet that begins a flow
flows_begun : (q : Sighting) (rest earlier : List Sighting) → begins (earlier ++ rest) q ≡ true → flows_after earlier (rest ++ q ∷ []) ≡ flows_after earlier rest ++ begun q ∷ []
unfolding groups_after
flows_begun q [] earlier h =
    let at_once = subst (λ (xs : List Sighting). begins xs q ≡ true) (append-nil earlier) h in
    rw at_once (ap (λ (f : Flow). f ∷ []) (flow_start q earlier))
flows_begun q (x ∷ rest) earlier h = by (flows_begun q rest (earlier ++ x ∷ []) later) (begins earlier x) refl
  where
    later : begins ((earlier ++ x ∷ []) ++ rest) q ≡ true
    later = ap (λ (xs : List Sighting). begins xs q) (moved earlier x rest) ∙ h

    by : flows_after (earlier ++ x ∷ []) (rest ++ q ∷ []) ≡ flows_after (earlier ++ x ∷ []) rest ++ begun q ∷ []
        → (b : Bool) → begins earlier x ≡ b → flows_after earlier ((x ∷ rest) ++ q ∷ []) ≡ flows_after earlier (x ∷ rest) ++ begun q ∷ []
    by ih true e = rw (e, members_begun (key_of x) q rest (earlier ++ x ∷ []) later, ih) refl
    by ih false e = rw (e, ih) refl

-- a packet that begins none
flows_joined : (q : Sighting) (rest earlier : List Sighting) → begins (earlier ++ rest) q ≡ false → flows_after earlier (rest ++ q ∷ []) ≡ join_latest q (flows_after earlier rest)
unfolding groups_after join_latest
flows_joined q [] earlier h =
    let at_once = subst (λ (xs : List Sighting). begins xs q ≡ false) (append-nil earlier) h in
    rw at_once refl
flows_joined q (x ∷ rest) earlier h = by (flows_joined q rest (earlier ++ x ∷ []) later) (begins earlier x) refl
  where
    later : begins ((earlier ++ x ∷ []) ++ rest) q ≡ false
    later = ap (λ (xs : List Sighting). begins xs q) (moved earlier x rest) ∙ h

    Joins : Type 0
    Joins = flows_after earlier ((x ∷ rest) ++ q ∷ []) ≡ join_latest q (flows_after earlier (x ∷ rest))

    -- a flow of another key
    other : (b : Bool) → same_key (key_of x) (key_of q) ≡ false → has_key (key_of x) q ≡ false
    other b e = same_key_comm (key_of q) (key_of x) ∙ e

    own : same_key (key_of x) (key_of q) ≡ true → has_key (key_of x) q ≡ true
    own e = same_key_comm (key_of q) (key_of x) ∙ e

    by : flows_after (earlier ++ x ∷ []) (rest ++ q ∷ []) ≡ join_latest q (flows_after (earlier ++ x ∷ []) rest)
        → (b : Bool) → begins earlier x ≡ b → flows_after earlier ((x ∷ rest) ++ q ∷ []) ≡ join_latest q (flows_after earlier (x ∷ rest))
    by ih false e = rw (e, ih) refl
    by ih true e = inner (latest_flow (key_of q) (flows_after (earlier ++ x ∷ []) rest)) refl (same_key (key_of x) (key_of q)) refl
      where
        inner : (o : Option Flow) → latest_flow (key_of q) (flows_after (earlier ++ x ∷ []) rest) ≡ o → (b : Bool) → same_key (key_of x) (key_of q) ≡ b
            → flows_after earlier ((x ∷ rest) ++ q ∷ []) ≡ join_latest q (flows_after earlier (x ∷ rest))
        inner (Some f) o true s =
            let key = same_key_eq (key_of x) (key_of q) s in
            let there = ap (λ (k : FlowKey). is_some (latest_flow k (flows_after (earlier ++ x ∷ []) rest))) key ∙ ap is_some o in
            rw (e, members_closed (key_of x) q rest (earlier ++ x ∷ []) there, ih, o) refl
        inner (Some f) o false s = rw (e, members_other (key_of x) q (other false s) rest (earlier ++ x ∷ []), ih, o) refl
        inner None o true s =
            let key = same_key_eq (key_of x) (key_of q) s in
            let none = ap (λ (k : FlowKey). latest_flow k (flows_after (earlier ++ x ∷ []) rest)) key ∙ o in
            let whole = members_joined (key_of x) q (own s) rest (earlier ++ x ∷ []) later none in
            rw (e, whole, ih, join_none q (flows_after (earlier ++ x ∷ []) rest) o, o, s)
            (ap (λ (f : Flow). f ∷ flows_after (earlier ++ x ∷ []) rest) (flow_push x q (members (earlier ++ x ∷ []) (key_of x) rest)))
        inner None o false s = rw (e, members_other (key_of x) q (other false s) rest (earlier ++ x ∷ []), ih, join_none q (flows_after (earlier ++ x ∷ []) rest) o, o, s) refl

-- whether a packet begins a flow, by the latest flow of its key
abbrev Tells : List Sighting → Type 0
Tells xs = (q : Sighting) → begins xs q ≡ option_map_or (is_over q.time) (latest_flow (key_of q) (flows_after [] xs)) true

and_true : (b : Bool) → (b && true) ≡ b
and_true true = refl
and_true false = refl

later_still : (a b c : ℕ) → nat_lt a b ≡ true → b ≤ c → nat_lt a c ≡ true
later_still a b c h le = grind (arith, nat_tests)

not_before : (a p t : ℕ) → nat_lt (a + p) t ≡ true → a ≤ t
not_before a p t h = let lt = ltb-true (a + p) t h in omega arith

and_false : (b : Bool) → (b && false) ≡ false
and_false true = refl
and_false false = refl

-- a time past two times is past the greater
past_both : (a b p t : ℕ) → (nat_lt (a + p) t && nat_lt (b + p) t) ≡ nat_lt (max a b + p) t
past_both a b p t = grind (arith, nat_tests)

-- the test with one packet more
begins_push : (xs : List Sighting) (x q : Sighting) → begins (xs ++ x ∷ []) q ≡ (begins xs q && (not (same_key (key_of x) (key_of q)) || nat_lt (x.time + idle_timeout) q.time))
unfolding begins
begins_push xs x q = list_all-append (λ (e : Sighting). not (has_key (key_of q) e) || nat_lt (e.time + idle_timeout) q.time) xs (x ∷ [])
    ∙ ap (λ (b : Bool). list_all (λ (e : Sighting). not (has_key (key_of q) e) || nat_lt (e.time + idle_timeout) q.time) xs && b) (and_true (not (same_key (key_of x) (key_of q)) || nat_lt (x.time + idle_timeout) q.time))

-- who comes after a packet that begins a flow begins one, if the packet isn't near
begins_later : (xs : List Sighting) (x q : Sighting) → begins xs x ≡ true → key_of x ≡ key_of q → x.time ≤ q.time → begins xs q ≡ true
unfolding begins
begins_later [] x q h same le = refl
begins_later (e ∷ xs) x q h same le = and_both _ _ (by (has_key (key_of q) e) refl) (begins_later xs x q both.1 same le)
  where
    both : ((not (has_key (key_of x) e) || nat_lt (e.time + idle_timeout) x.time) ≡ true) × (begins xs x ≡ true)
    both = and_parts (not (has_key (key_of x) e) || nat_lt (e.time + idle_timeout) x.time) (begins xs x) h

    by : (b : Bool) → has_key (key_of q) e ≡ b → (not (has_key (key_of q) e) || nat_lt (e.time + idle_timeout) q.time) ≡ true
    by false k = rw k refl
    by true k =
        let own : has_key (key_of x) e ≡ true = ap (λ (l : FlowKey). has_key l e) same ∙ k in
        let near : nat_lt (e.time + idle_timeout) x.time ≡ true = rw own at both.0 in
        rw k (later_still (e.time + idle_timeout) x.time q.time near le)

-- the last time of a flow that got a packet
last_joined : (s : Sighting) (f : Flow) → (joined s f).last ≡ max f.last s.time
last_joined s f = by (same_endpoint s.source f.source) refl
  where
    by : (b : Bool) → same_endpoint s.source f.source ≡ b → (joined s f).last ≡ max f.last s.time
    by true e = rw e refl
    by false e = rw e refl

-- what the latest flow tells stays so with one packet more
tells_push : (xs : List Sighting) (x : Sighting) → Tells xs → Tells (xs ++ x ∷ [])
tells_push xs x tells q = by (begins xs x) refl (same_key (key_of x) (key_of q)) refl
  where
    near : Bool
    near = nat_lt (x.time + idle_timeout) q.time

    by : (a : Bool) → begins xs x ≡ a → (b : Bool) → same_key (key_of x) (key_of q) ≡ b
        → begins (xs ++ x ∷ []) q ≡ option_map_or (is_over q.time) (latest_flow (key_of q) (flows_after [] (xs ++ x ∷ []))) true
    by true a false b =
        let test : begins (xs ++ x ∷ []) q ≡ begins xs q = begins_push xs x q ∙ rw b (and_true (begins xs q)) in
        let latest : latest_flow (key_of q) (flows_after [] (xs ++ x ∷ [])) ≡ latest_flow (key_of q) (flows_after [] xs) =
        ap (latest_flow (key_of q)) (flows_begun x xs [] a) ∙ latest_push (key_of q) (flows_after [] xs) (begun x) ∙ rw b refl in
        rw latest (test ∙ tells q)
    by false a false b =
        let test : begins (xs ++ x ∷ []) q ≡ begins xs q = begins_push xs x q ∙ rw b (and_true (begins xs q)) in
        let latest : latest_flow (key_of q) (flows_after [] (xs ++ x ∷ [])) ≡ latest_flow (key_of q) (flows_after [] xs) =
        ap (latest_flow (key_of q)) (flows_joined x xs [] a) ∙ latest_join_other (key_of q) x b (flows_after [] xs) in
        rw latest (test ∙ tells q)
    by true a true b =
        let latest : latest_flow (key_of q) (flows_after [] (xs ++ x ∷ [])) ≡ Some (begun x) =
        ap (latest_flow (key_of q)) (flows_begun x xs [] a) ∙ latest_push (key_of q) (flows_after [] xs) (begun x) ∙ rw b refl in
        rw latest (begins_push xs x q ∙ rw b (after (nat_lt (x.time + idle_timeout) q.time) refl))
      where
        after : (c : Bool) → nat_lt (x.time + idle_timeout) q.time ≡ c → (begins xs q && nat_lt (x.time + idle_timeout) q.time) ≡ nat_lt (x.time + idle_timeout) q.time
        after true c = rw (c, begins_later xs x q a (same_key_eq (key_of x) (key_of q) b) (not_before x.time idle_timeout q.time c)) refl
        after false c = rw c (and_false (begins xs q))
    by false a true b =
        let key = same_key_eq (key_of x) (key_of q) b in
        let latest : latest_flow (key_of q) (flows_after [] (xs ++ x ∷ [])) ≡ option_map (joined x) (latest_flow (key_of q) (flows_after [] xs)) =
        ap (latest_flow (key_of q)) (flows_joined x xs [] a) ∙ subst (λ (k : FlowKey). latest_flow k (join_latest x (flows_after [] xs)) ≡ option_map (joined x) (latest_flow k (flows_after [] xs))) key (latest_join x (flows_after [] xs)) in
        rw latest (begins_push xs x q ∙ rw b (inner (latest_flow (key_of q) (flows_after [] xs)) refl))
      where
        inner : (o : Option Flow) → latest_flow (key_of q) (flows_after [] xs) ≡ o
            → (begins xs q && nat_lt (x.time + idle_timeout) q.time) ≡ option_map_or (is_over q.time) (option_map (joined x) (latest_flow (key_of q) (flows_after [] xs))) true
        inner None o =
            let own = ap (λ (k : FlowKey). latest_flow k (flows_after [] xs)) (same_key_eq (key_of x) (key_of q) b) ∙ o in
            let f : false ≡ true = sym a ∙ tells x ∙ rw own refl in
            absurd (cc)
        inner (Some f) o =
            let early : begins xs q ≡ nat_lt (f.last + idle_timeout) q.time = tells q ∙ rw o refl in
            rw (o, early, last_joined x f) (past_both f.last x.time idle_timeout q.time)

tells_all : (rest xs : List Sighting) → Tells xs → Tells (xs ++ rest)
tells_all [] xs tells = subst Tells (sym (append-nil xs)) tells
tells_all (x ∷ rest) xs tells = subst Tells (moved xs x rest) (tells_all rest (xs ++ x ∷ []) (tells_push xs x tells))

tells_none : Tells []
unfolding begins latest_flow groups_after
tells_none q = refl

-- one step is one packet more
step_is : (xs : List Sighting) (q : Sighting) → with_sighting (flows_after [] xs) q ≡ flows_after [] (xs ++ q ∷ [])
step_is xs q = by (begins xs q) refl
  where
    tells : begins xs q ≡ option_map_or (is_over q.time) (latest_flow (key_of q) (flows_after [] xs)) true
    tells = tells_all xs [] tells_none q

    by : (b : Bool) → begins xs q ≡ b → with_sighting (flows_after [] xs) q ≡ flows_after [] (xs ++ q ∷ [])
    by true e = rw (sym tells ∙ e) (sym (flows_begun q xs [] e))
    by false e = rw (sym tells ∙ e) (sym (flows_joined q xs [] e))

-- the steps from the flows of some packets give those of all
steps_are : (rest xs : List Sighting) → fold with_sighting (flows_after [] xs) rest ≡ flows_after [] (xs ++ rest)
steps_are [] xs = ap (flows_after []) (sym (append-nil xs))
steps_are (x ∷ rest) xs =
    ap (λ (fs : List Flow). fold with_sighting fs rest) (step_is xs x) ∙ steps_are rest (xs ++ x ∷ []) ∙ ap (flows_after []) (moved xs x rest)

-- a packet without all its parts is passed over
packets_are : (packets : List Packet) (fs : List Flow) → fold with_packet fs packets ≡ fold with_sighting fs (filter_map sighting_of packets)
packets_are [] fs = refl
packets_are (p ∷ packets) fs = by (packets_are packets) (sighting_of p) refl
  where
    by : ((fs : List Flow) → fold with_packet fs packets ≡ fold with_sighting fs (filter_map sighting_of packets)) → (o : Option Sighting) → sighting_of p ≡ o
        → fold with_packet fs (p ∷ packets) ≡ fold with_sighting fs (filter_map sighting_of (p ∷ packets))
    by ih None e = rw e (ih fs)
    by ih (Some s) e = rw e (ih (with_sighting fs s))

pub steps_give_flows : StepsGiveFlows
unfolding groups_after
steps_give_flows packets = packets_are packets [] ∙ steps_are (filter_map sighting_of packets) []
