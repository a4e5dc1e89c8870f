-- The values of a seat in the course of one turn.
use Rattle.std.proofs.Common.{◌≡◌, ℕ, ◌+◌, ◌-◌, ◌<◌, List, [], ◌∷◌, ◌++◌, length, All, Contains, Some, None, slice_get, sym, refl, ap, subst, ◌∙◌, length-append, arith}
use Rattle.std.proofs.lemmas.List.Elements.{All-weaker}
use Rattle.turn_book.specs.declared.view.Stage.TheVariants.{Idle, Waits, Holds, Left}
use Rattle.turn_book.specs.declared.view.View.{View}
use Rattle.turn_book.specs.Histories.{Outside, own_of}
use Rattle.turn_book.specs.Standings.{standing_of, NeedHolds, Turned}
use Rattle.turn_book.specs.Steps.{Mine, Found, Serves, Gives, IsAtRest, rested}
use Rattle.turn_book.specs.Turns.{ring, staged, held, left}
use Rattle.turn_book.proofs.Keeps.{carried_same}
use Rattle.turn_book.proofs.Owned.{own-turn}
use Rattle.turn_book.proofs.Splitting.{some_of}

-- the first of a list is in it
pub first_named : (n : ℕ) (l : List ℕ) → slice_get l 0 ≡ Some n → Contains l n
first_named n [] e = absurd cc
first_named n (x ∷ xs) e = (0, omega arith, let h : x ≡ n = cc in h)

module _ (E F S : Type 0) where
  pub serves_along : (history : S → List E) (frame : S → F) (maker : E → ℕ) (t : ℕ) (m n w : Mine E F S) → m ≡ n → Serves history frame maker t m w → Serves history frame maker t n w
  serves_along history frame maker t m n w e h = subst (λ (x : Mine E F S). Serves history frame maker t x w) e h

  module _ (history : S → List E) (frame : S → F) (maker : E → ℕ) where
    -- the seat has taken the state x out
    pub record Opened (t : ℕ) (m : Mine E F S) (x : S) (w : Mine E F S) : Type 0 where
      pub found : Found history frame maker m.0 x
      pub view : w ≡ (held m.0 t (history x), (0, None) ∷ [])

    pub opened : (t : ℕ) (m drawn served taken : Mine E F S) (x : S) → drawn ≡ (staged m.0 (Waits t), m.1) → Serves history frame maker t drawn served → served.1 ≡ (0, Some x) ∷ [] → taken ≡ (served.0, (0, None) ∷ []) → Opened t m x taken
    opened t m drawn served taken x d s has took = let y = s.0 in let same : y ≡ x = carried_same y x drawn.1 [] (sym (ap (λ (w : Mine E F S). w.1) s.2) ∙ has) in record {
      found = subst (λ (p : Mine E F S × S). Found history frame maker p.0.0 p.1) (λ i. (d i, same i)) s.1;
      view = took ∙ ap (λ (v : View E F). (v, (0, None) ∷ [])) (ap (λ (w : Mine E F S). w.0) s.2 ∙ (λ i. held (d i).0 t (history (same i))));
    }

    -- the seat has left the state, and its turn isn't passed on
    pub leaves_it : (t : ℕ) (m : Mine E F S) (x y : S) (w laid told : Mine E F S) → Opened t m x w → laid ≡ (w.0, (0, Some y) ∷ [])
        → ((k : ℕ) (z : S) → laid.0.stage ≡ Holds k → laid.1 ≡ (0, Some z) ∷ [] → told ≡ (left laid.0 k (history z), [])) → told.0.stage ≡ Left t
    leaves_it t m x y w laid told o lays tells = let held_by = lays ∙ ap (λ (n : Mine E F S). (n.0, (0, Some y) ∷ [])) o.view in
        ap (λ (n : Mine E F S). n.0.stage) (tells t y (ap (λ (n : Mine E F S). n.0.stage) held_by) (ap (λ (n : Mine E F S). n.1) held_by))

    module _ (M A : Type 0) (needs : M → F → List E → Type 0) (does : M → F → ℕ → List E → A → List E → Type 0) where
      -- what the act of a move ensures
      abbrev pub Acts : M → ℕ → S → S → A → Type 0
      Acts step seat x y answer = (new : List E) × (history y ≡ history x ++ new) × does step (frame x) seat (history x) answer new × All (λ e. maker e ≡ seat) new × (frame y ≡ frame x)

      -- entries of others keep the need
      abbrev pub Keeps : Type 0
      Keeps = (m : M) (f : F) (names : List ℕ) (h rest : List E) → needs m f h → Outside maker names rest → needs m f (h ++ rest)

      pub needed : (number t : ℕ) (m : Mine E F S) (x : S) (w : Mine E F S) (step : M) → IsAtRest number m → Keeps → ((f : F) → m.0.frame ≡ Some f → needs step f m.0.seen) → Opened t m x w → needs step (frame x) (history x)
      needed number t m x w step rest kept need o = let f = some_of F m.0.frame rest.framed in let g = o.found.0 in
          subst (λ (p : F × List E). needs step p.0 p.1) (λ i. (sym (o.found.1 f.0 f.1) i, sym g.1 i)) (kept step f.0 m.0.names m.0.seen g.0 (need f.0 f.1) g.2)

      pub gives_back : (number t before after : ℕ) (m : Mine E F S) (x y : S) (w laid : Mine E F S) (step : M) (answer : A) → IsAtRest number m → Opened t m x w → Acts step number x y answer
          → laid ≡ (w.0, (0, Some y) ∷ []) → before ≡ length (history x) → after ≡ length (history y) → after < ring
          → (k : ℕ) × (z : S) × (laid.0.stage ≡ Holds k) × (laid.1 ≡ (0, Some z) ∷ []) × Gives history frame maker laid.0 z (after - before)
      gives_back number t before after m x y w laid step answer rest o acts lays b a small = let held_by = lays ∙ ap (λ (n : Mine E F S). (n.0, (0, Some y) ∷ [])) o.view in
          let f = some_of F m.0.frame rest.framed in let len : length (history y) ≡ length (history x) + length acts.0 = ap length acts.1 ∙ length-append (history x) acts.0 in
          subst (λ (n : Mine E F S). (k : ℕ) × (z : S) × (n.0.stage ≡ Holds k) × (n.1 ≡ (0, Some z) ∷ []) × Gives history frame maker n.0 z (after - before)) (sym held_by) (
            t,
            y,
            refl,
            refl,
            record {
              new = acts.0;
              longer = acts.1;
              own = All-weaker (λ e. maker e ≡ number) (λ e. maker e ≡ m.0.seat) (λ e is. is ∙ sym rest.seated) acts.0 acts.3;
              named = subst (Contains m.0.names) (sym rest.seated) (first_named number m.0.names rest.named);
              framed = f.1 ∙ ap Some (sym (o.found.1 f.0 f.1) ∙ sym acts.4);
              told = omega arith;
              fits = omega arith;
            },
          )

      pub turned : (number t : ℕ) (m : Mine E F S) (x y : S) (w laid told end : Mine E F S) (step : M) (answer : A) → IsAtRest number m → Keeps → NeedHolds needs step (standing_of m.0) → Opened t m x w → Acts step number x y answer
          → laid ≡ (w.0, (0, Some y) ∷ []) → ((k : ℕ) (z : S) → laid.0.stage ≡ Holds k → laid.1 ≡ (0, Some z) ∷ [] → told ≡ (left laid.0 k (history z), [])) → end ≡ (staged told.0 Idle, told.1)
          → (end ≡ (rested m.0 end.0.seen, [])) × Turned maker needs does step (standing_of m.0) (standing_of end.0) answer
      turned number t m x y w laid told end step answer rest kept need o acts lays tells ends = let held_by = lays ∙ ap (λ (n : Mine E F S). (n.0, (0, Some y) ∷ [])) o.view in
          let f = some_of F m.0.frame rest.framed in let g = o.found.0 in let same = o.found.1 f.0 f.1 in
          let gone = tells t y (ap (λ (n : Mine E F S). n.0.stage) held_by) (ap (λ (n : Mine E F S). n.1) held_by) in
          let last : end ≡ (rested m.0 (history y), []) = ends ∙ (ap (λ (n : Mine E F S). (staged n.0 Idle, n.1)) gone ∙ ap (λ (n : Mine E F S). (staged (left n.0 t (history y)) Idle, [])) held_by) in
          let own : All (λ e. maker e ≡ m.0.seat) acts.0 = All-weaker (λ e. maker e ≡ number) (λ e. maker e ≡ m.0.seat) (λ e is. is ∙ sym rest.seated) acts.0 acts.3 in
          let named : Contains m.0.names m.0.seat = subst (Contains m.0.names) (sym rest.seated) (first_named number m.0.names rest.named) in (
            last ∙ ap (λ (h : List E). (rested m.0 h, [])) (sym (ap (λ (n : Mine E F S). n.0.seen) last)),
            subst (λ (n : Mine E F S). Turned maker needs does step (standing_of m.0) (standing_of n.0) answer) (sym last) record {
              since = g.0;
              found = history x;
              new = acts.0;
              frame = f.0;
              framed = f.1;
              begins = g.1;
              others = g.2;
              needed = subst (λ (k : F). needs step k (history x)) same (needed number t m x w step rest kept need o);
              did = subst (λ (p : F × ℕ). does step p.0 p.1 (history x) answer acts.0) (λ i. (same i, sym rest.seated i)) acts.2;
              own = own;
              leaves = ap (λ (h : List E). record (standing_of m.0) { seen = h }) acts.1;
              mine = ap (own_of maker m.0.names) (acts.1 ∙ ap (λ l. l ++ acts.0) g.1) ∙ own-turn E maker m.0.names m.0.seen g.0 acts.0 g.2 (All-weaker (λ e. maker e ≡ m.0.seat) (λ e. Contains m.0.names (maker e)) (λ e is. subst (Contains m.0.names) (sym is) named) acts.0 own);
            },
          )
