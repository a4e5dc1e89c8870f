-- The tickets of all views, when one view changes.
use Rattle.std.proofs.Common.{◌≡◌, ◌≢◌, ℕ, zero, suc, ◌+◌, ◌%◌, ◌<◌, ◌≤◌, List, [], ◌∷◌, ◌++◌, length, set, sym, refl, ap, subst, ◌∙◌, length-set, length-append, arith}
use mathlib.Core.Option as m
use mathlib.Core.Option.{some-injective, some-ne-none}
use Rattle.turn_book.specs.declared.view.Stage.{Stage}
use Rattle.turn_book.specs.declared.view.Stage.TheVariants.{Idle, Waits, Holds, Left}
use Rattle.turn_book.specs.declared.view.View.{View}
use Rattle.turn_book.specs.Turns.{ring, ticket_of, weight, IsHolding, Stands, At, holders, Line}
use Rattle.turn_book.proofs.Lists.{each, pairs, each_end, pairs_end}

weight_le_one : (s : Stage) → weight s ≤ 1
weight_le_one Idle = omega arith
weight_le_one (Waits t) = omega arith
weight_le_one (Holds t) = omega arith
weight_le_one (Left t) = omega arith

-- how far a ticket is from the one that is served
pub rank_of : (now count t : ℕ) (s : Stage) → now < ring → Stands now count s → ticket_of s ≡ m.some t → (k : ℕ) × (k < count) × (t ≡ (now + k) % ring)
rank_of now count t Idle small st e = absurd (some-ne-none t (sym e))
rank_of now count t (Waits u) small st e = (st.0, st.1, sym (some-injective u t e) ∙ st.2)
rank_of now count t (Holds u) small st e = let is : now ≡ (now + 0) % ring = omega arith in (0, st.0, sym (some-injective u t e) ∙ st.1 ∙ is)
rank_of now count t (Left u) small st e = let is : now ≡ (now + 0) % ring = omega arith in (0, st.0, sym (some-injective u t e) ∙ st.1 ∙ is)

-- a ticket stays among more of them
wider : (now count : ℕ) (s : Stage) → Stands now count s → Stands now (count + 1) s
wider now count Idle st = tt
wider now count (Waits t) st = let lt = st.1 in (st.0, omega arith, st.2)
wider now count (Holds t) st = let lt = st.0 in (omega arith, st.1)
wider now count (Left t) st = let lt = st.0 in (omega arith, st.1)

fewer_waits : (now n t k : ℕ) → now < ring → n ≤ 4294967296 → k < n + 1 → t ≡ (now + k) % ring → (m.some t ≢ m.some now) → Stands ((now + 1) % ring) n (Waits t)
fewer_waits now n t zero small few lt e not = let is : (now + 0) % ring ≡ now = omega arith in absurd (not (ap m.some (e ∙ is)))
fewer_waits now n t (suc k) small few lt e not = (k, omega arith, omega arith)

-- the others stay where the ticket that was served goes
fewer : (now n : ℕ) → now < ring → n ≤ 4294967296 → (s : Stage) → Stands now (n + 1) s → (ticket_of s ≢ m.some now) → Stands ((now + 1) % ring) n s
fewer now n small few Idle st not = tt
fewer now n small few (Waits t) st not = fewer_waits now n t st.0 small few st.1 st.2 not
fewer now n small few (Holds t) st not = absurd (not (ap m.some st.1))
fewer now n small few (Left t) st not = absurd (not (ap m.some st.1))

module _ (E F : Type 0) where
  abbrev V : Type 0
  V = View E F

  holders-set : (views : List V) (id : ℕ) (v w : V) → At views id v → holders (set views id w) + weight v.stage ≡ holders views + weight w.stage
  holders-set [] id v w e = absurd (some-ne-none v (sym e))
  holders-set (x ∷ xs) zero v w e = let same : weight x.stage ≡ weight v.stage = ap (λ (u : V). weight u.stage) (some-injective x v e) in omega arith
  holders-set (x ∷ xs) (suc id) v w e = let h = holders-set xs id v w e in omega arith

  holders-end : (views : List V) (w : V) → holders (views ++ w ∷ []) ≡ holders views + weight w.stage
  holders-end [] w = omega arith
  holders-end (x ∷ xs) w = let h = holders-end xs w in omega arith

  holders-le-length : (views : List V) → holders views ≤ length views
  holders-le-length [] = omega arith
  holders-le-length (x ∷ xs) = let h = holders-le-length xs in let one = weight_le_one x.stage in omega arith

  -- two views have one ticket
  abbrev Same : V → V → Type 0
  Same v u = (t : ℕ) × (ticket_of v.stage ≡ m.some t) × (ticket_of u.stage ≡ m.some t)

  -- a view draws the next ticket
  pub draws : (now count : ℕ) (views : List V) → Line now count views → (id : ℕ) (v w : V) → At views id v → v.stage ≡ Idle → w.stage ≡ Waits ((now + count) % ring) → Line now (count + 1) (set views id w)
  draws now count views r id v w at was is = let few = r.few in let small = r.small in let counted = r.counted in let len = length-set views id w in
      let sum = holders-set views id v w at in let w0 : weight v.stage ≡ 0 = ap weight was in let w1 : weight w.stage ≡ 1 = ap weight is in let most = holders-le-length (set views id w) in
      let new : ticket_of w.stage ≡ m.some ((now + count) % ring) = ap ticket_of is in
      let room : count < 4294967296 = omega arith in
      let clash : (j : ℕ) (u : V) → At views j u → (t : ℕ) → ticket_of w.stage ≡ m.some t → ticket_of u.stage ≡ m.some t → ⊥ = λ j u a t p q. let rank = rank_of now count t u.stage small (r.stands j u a) q in
      let k : ℕ = rank.0 in let lt : k < count = rank.1 in let e : t ≡ (now + k) % ring = rank.2 in let f : (now + count) % ring ≡ t = some-injective _ t (sym new ∙ p) in omega arith in
      record {
        small = small;
        few = omega arith;
        counted = omega arith;
        stands = each V (λ j u. Stands now (count + 1) u.stage) views id w (subst (Stands now (count + 1)) (sym is) (count, omega arith, refl)) (λ j u ne a. wider now count u.stage (r.stands j u a));
        apart = λ i j t u x a b p q. pairs V Same views id w (λ i j v u a b s. r.apart i j s.0 v u a b s.1 s.2)
            (λ j u _ a s. clash j u a s.0 s.1 s.2) (λ j u _ a s. clash j u a s.0 s.2 s.1) i j u x a b (t, p, q);
      }

  -- a view keeps its ticket
  pub stays : (now count : ℕ) (views : List V) → Line now count views → (id : ℕ) (v w : V) → At views id v → ticket_of w.stage ≡ ticket_of v.stage → weight w.stage ≡ weight v.stage → Stands now count w.stage → Line now count (set views id w)
  stays now count views r id v w at ticket heavy st = let few = r.few in let counted = r.counted in let len = length-set views id w in let sum = holders-set views id v w at in record {
    small = r.small;
    few = omega arith;
    counted = omega arith;
    stands = each V (λ j u. Stands now count u.stage) views id w st (λ j u ne a. r.stands j u a);
    apart = λ i j t u x a b p q. pairs V Same views id w (λ i j v u a b s. r.apart i j s.0 v u a b s.1 s.2)
        (λ j u ne a s. ne (sym (r.apart id j s.0 v u at a (sym ticket ∙ s.1) s.2))) (λ j u ne a s. ne (r.apart j id s.0 u v a at s.1 (sym ticket ∙ s.2))) i j u x a b (t, p, q);
  }

  -- a further view comes, with no ticket
  pub comes : (now count : ℕ) (views : List V) → Line now count views → (w : V) → w.stage ≡ Idle → length views < 4294967296 → Line now count (views ++ w ∷ [])
  comes now count views r w is room = let counted = r.counted in let len = length-append views (w ∷ []) in let sum = holders-end views w in let w0 : weight w.stage ≡ 0 = ap weight is in
      let none : (u : ℕ) → ticket_of w.stage ≢ m.some u = λ u e. some-ne-none u (sym e ∙ ap ticket_of is) in record {
        small = r.small;
        few = omega arith;
        counted = omega arith;
        stands = each_end V (λ j u. Stands now count u.stage) views w (subst (Stands now count) (sym is) tt) r.stands;
        apart = λ i j t u x a b p q. pairs_end V Same views w (λ i j v u a b s. r.apart i j s.0 v u a b s.1 s.2)
            (λ j u a s. none s.0 s.1) (λ j u a s. none s.0 s.2) i j u x a b (t, p, q);
      }

  -- the view that was served passes the turn on
  pub passes : (now count : ℕ) (views : List V) → Line now count views → (id : ℕ) (v w : V) (t : ℕ) → At views id v → v.stage ≡ Left t → w.stage ≡ Idle
      → (n : ℕ) × (count ≡ n + 1) × (t ≡ now) × Line ((now + 1) % ring) n (set views id w)
  passes now count views r id v w t at was is = let few = r.few in let counted = r.counted in let most = holders-le-length views in
      let sum = holders-set views id v w at in let w1 : weight v.stage ≡ 1 = ap weight was in let w0 : weight w.stage ≡ 0 = ap weight is in let len = length-set views id w in
      let st = subst (Stands now count) was (r.stands id v at) in let mine : ticket_of v.stage ≡ m.some t = ap ticket_of was in let n : ℕ = holders (set views id w) in let up : count ≡ n + 1 = omega arith in let small = r.small in
      let none : (u : ℕ) → ticket_of w.stage ≢ m.some u = λ u e. some-ne-none u (sym e ∙ ap ticket_of is) in (
        n,
        up,
        st.1,
        record {
          small = omega arith;
          few = omega arith;
          counted = refl;
          stands = each V (λ j u. Stands ((now + 1) % ring) n u.stage) views id w (subst (Stands ((now + 1) % ring) n) (sym is) tt)
              (λ j u ne a. fewer now n small (omega arith) u.stage (subst (λ k. Stands now k u.stage) up (r.stands j u a)) (λ e. ne (r.apart j id t u v a at (e ∙ ap m.some (sym st.1)) mine)));
          apart = λ i j t u x a b p q. pairs V Same views id w (λ i j v u a b s. r.apart i j s.0 v u a b s.1 s.2)
              (λ j u _ a s. none s.0 s.1) (λ j u _ a s. none s.0 s.2) i j u x a b (t, p, q);
        },
      )

  -- the ticket of a seat that is served
  held_ticket : (now count : ℕ) (s : Stage) → Stands now count s → IsHolding s → ticket_of s ≡ m.some now
  held_ticket now count Idle st h = absurd h
  held_ticket now count (Waits t) st h = absurd h
  held_ticket now count (Holds t) st h = ap m.some st.1
  held_ticket now count (Left t) st h = absurd h

  -- who has the ticket that is served is the one that holds the state, if any does
  pub one_holder : (now count : ℕ) (views : List V) → Line now count views → (i j : ℕ) (v u : V) → At views i v → At views j u → ticket_of v.stage ≡ m.some now → IsHolding u.stage → i ≡ j
  one_holder now count views r i j v u a b mine h = r.apart i j now v u a b mine (held_ticket now count u.stage (r.stands j u b) h)
