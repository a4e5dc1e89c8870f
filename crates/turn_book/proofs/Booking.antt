-- What the calls of a book owe and learn, over the values of their seats.
use Rattle.std.proofs.Common.{◌≡◌, ℕ, ◌+◌, ◌-◌, ◌<◌, List, [], ◌∷◌, ◌++◌, length, get_or, All, Contains, IsSome, Option, Some, slice_get, sym, refl, ap, subst, ◌∙◌, length-append, arith}
use lib.ListN.{get_elem?}
use mathlib.Core.Option as m
use Rattle.atomic_table.specs.Table.{Final, Seen, opening}
use Rattle.turn_book.specs.declared.view.Stage.TheVariants.{Idle}
use Rattle.turn_book.specs.declared.view.View.{View}
use Rattle.turn_book.specs.Histories.{GrowsByOthers, own_of}
use Rattle.turn_book.specs.Steps.{Mine, newcomer, joined, Learnt}
use Rattle.turn_book.specs.Turns.{Turns, root_view}
use Rattle.turn_book.proofs.Names.{single, longer_not_shorter}
use Rattle.turn_book.proofs.Owned.{own-others}
use Rattle.turn_book.proofs.Splitting.{some_same, opens, Closes, closes}

none_left : (l : List ℕ) → length l ≡ 0 → l ≡ []
none_left [] e = refl
none_left (x ∷ xs) e = absurd (omega arith)

first_append : (n : ℕ) (l k : List ℕ) → slice_get l 0 ≡ Some n → slice_get (l ++ k) 0 ≡ Some n
first_append n [] k e = absurd cc
first_append n (x ∷ xs) k e = e

module _ (E F S : Type 0) where
  pub idle_along : (a b : Mine E F S) (k : ℕ) → a ≡ b → b.0.stage ≡ Idle → b.0.made < k → (a.0.stage ≡ Idle) × (a.0.made < k)
  idle_along a b k e idle lt = subst (λ (x : Mine E F S). (x.0.stage ≡ Idle) × (x.0.made < k)) (sym e) (idle, lt)

  -- a new seat has made nothing
  nothing_made : (maker : E → ℕ) (v : View E F) → Learnt maker v → own_of maker ((v.made + 1) ∷ []) v.seen ≡ []
  nothing_made maker v h = own-others E maker ((v.made + 1) ∷ []) v.seen (λ i d lt c. let low = h.below i d lt in let is : maker (get_or v.seen i d) ≡ v.made + 1 = single (v.made + 1) _ c in omega arith)

  pub pass_made_nothing : (maker : E → ℕ) (a b r : Mine E F S) → b ≡ a → r ≡ (newcomer b.0, []) → Learnt maker a.0 → own_of maker r.0.names r.0.seen ≡ []
  pass_made_nothing maker a b r e f h = subst (λ (x : Mine E F S). own_of maker x.0.names x.0.seen ≡ []) (sym (f ∙ ap (λ (x : Mine E F S). (newcomer x.0, [])) e)) (nothing_made maker a.0 h)

  -- the root once it has taken in a pass
  pub joined_root : (maker : E → ℕ) (v w : View E F) (number out : ℕ) (a b : Mine E F S) → a ≡ b → b ≡ (joined v w, []) → Learnt maker b.0 → w.names ≡ number ∷ [] → v.stage ≡ Idle → v.seat ≡ 0 → slice_get v.names 0 ≡ Some 0 → IsSome v.frame → length v.names + out ≡ v.made + 1
      → (a.0.stage ≡ Idle) × (a.1 ≡ []) × (a.0.seat ≡ 0) × (slice_get a.0.names 0 ≡ Some 0) × IsSome a.0.frame × (a.0.made ≡ v.made) × (length a.0.away ≡ out - 1) × (length a.0.names + (out - 1) ≡ v.made + 1)
  joined_root maker v w number out a b e f learnt named idle seat first live shared = let g = subst (λ (x : Mine E F S). Learnt maker x.0) f learnt in let all = g.shared in
      let long : length (v.names ++ w.names) ≡ length v.names + 1 = length-append v.names w.names ∙ ap (λ (l : List ℕ). length v.names + length l) named in
      subst (λ (x : Mine E F S). (x.0.stage ≡ Idle) × (x.1 ≡ []) × (x.0.seat ≡ 0) × (slice_get x.0.names 0 ≡ Some 0) × IsSome x.0.frame × (x.0.made ≡ v.made) × (length x.0.away ≡ out - 1) × (length x.0.names + (out - 1) ≡ v.made + 1))
      (sym (e ∙ f)) (idle, refl, seat, first_append 0 v.names w.names first, live, refl, omega arith, omega arith)

  pub joined_grows : (maker : E → ℕ) (v w : View E F) (c : List (ℕ × Option S)) (a b : Mine E F S) → a ≡ b → b ≡ (joined v w, c) → Learnt maker b.0 → GrowsByOthers maker v.names v.seen a.0.seen × GrowsByOthers maker w.names w.seen a.0.seen
  joined_grows maker v w c a b e f learnt = let g = subst (λ (x : Mine E F S). Learnt maker x.0) f learnt in let le = longer_not_shorter E maker v.seen w.seen in
      subst (λ (x : Mine E F S). GrowsByOthers maker v.names v.seen x.0.seen × GrowsByOthers maker w.names w.seen x.0.seen) (sym (e ∙ f)) (g.mine le.0, g.theirs le.1)

  module _ (history : S → List E) (frame : S → F) (maker : E → ℕ) where
    -- the table of a new book
    pub opens_with : (x y : S) (xs : List (Option S)) → history x ≡ [] → y ≡ x → xs ≡ Some x ∷ [] → Turns history frame maker (frame y) (opening (0 ∷ 0 ∷ 0 ∷ []) xs (root_view (frame y)))
    opens_with x y xs none is slots = subst (λ (l : List (Option S)). Turns history frame maker (frame y) (opening (0 ∷ 0 ∷ 0 ∷ []) l (root_view (frame y)))) (sym slots)
        (opens E F S history frame maker (frame y) x none (ap frame (sym is)))

  module _ (history : S → List E) (frame : S → F) (maker : E → ℕ) (fr : F) where
    pub last_state : (ws : List ℕ) (xs : List (Option S)) (id : ℕ) (v : View E F) (y : Option S) → id ≡ 0 → v.stage ≡ Idle → length v.away ≡ 0 → IsSome v.frame → Final (Seen (Turns history frame maker fr) id v) ws xs → get_elem? xs 0 ≡ m.some y → Closes E F S history frame maker fr v y
    last_state ws xs id v y is was none live f found = closes E F S history frame maker fr ws xs id v y is was (none_left v.away none) live f found

    -- the state that is given back
    pub given : (v : View E F) (y : Option S) (x : S) → Closes E F S history frame maker fr v y → y ≡ Some x → (history x ≡ v.seen) × (v.frame ≡ Some (frame x)) × All (λ e. Contains v.names (maker e)) (history x)
    given v y x c e = let same : c.state ≡ x = some_same c.state x (sym c.there ∙ e) in
        subst (λ (z : S). (history z ≡ v.seen) × (v.frame ≡ Some (frame z)) × All (λ e. Contains v.names (maker e)) (history z)) same (c.seen, c.framed, c.made)
