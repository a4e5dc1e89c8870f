-- Split, join and the root's look keep the rule. The first state meets it, and the last one tells what `close` gives.
use Rattle.std.proofs.Common.{◌≡◌, ◌≢◌, ℕ, ◌+◌, ◌<◌, ◌⊎◌, List, [], ◌∷◌, ◌++◌, length, get_or, set, All, Contains, IsSome, Option, Some, None, sym, refl, ap, subst, ◌∙◌, inl, inr, ⊎_elim, append-nil, length-set, length-append, lt_of_not-le, arith}
use mathlib.Core.Option as m
use mathlib.Core.Option.{some-injective, some-ne-none}
use lib.ListN.{get_elem?}
use native.Mathlib.Decide.{dec_le, ℕ_discrete}
use Rattle.std.proofs.lemmas.List.{set_comm}
use Rattle.std.proofs.lemmas.List.Elements.{All-nil, All-weaker, Contains-append_left, Contains-append_right, Contains-append_cases}
use Rattle.atomic_table.proofs.Lists.{at_set, at_longer, set_here, set_else}
use Rattle.atomic_table.specs.Table.{State, keeps, step, Allows, Splits, Joins, opening, Final, Seen}
use Rattle.turn_book.specs.declared.view.Stage.TheVariants.{Idle}
use Rattle.turn_book.specs.declared.view.View.{View}
use Rattle.turn_book.specs.Histories.{Outside, GrowsByOthers, longer}
use Rattle.turn_book.specs.Steps.{Mine, root_after, newcomer, joined, spent, without, learnt}
use Rattle.turn_book.specs.Turns.{ticket_of, weight, IsHolding, Stands, At, root_view, Knows, Rooted, Lies, Turns}
use Rattle.turn_book.proofs.Lists.{each, pairs, each_end, pairs_end, at_end, index_below, left_part, right_part, none_of}
use Rattle.turn_book.proofs.Lines.{stays, comes}
use Rattle.turn_book.proofs.Keeps.{Goes, same_keeps, lies_on, below_on, grows_none, grows_all}
use Rattle.turn_book.proofs.Names.{none_named, single, named_first, without_keeps, length-without, between_grows, longer_grows}

-- the frame of a view that isn't spent
abbrev pub or_else : {F : Type 0} → F → Option F → F
or_else d None = d
or_else d (Some f) = f

pub some_same : {F : Type 0} (a b : F) → Some a ≡ Some b → a ≡ b
some_same a b e = ap (or_else a) e

pub some_of : (F : Type 0) (o : Option F) → IsSome o → (f : F) × (o ≡ Some f)
some_of F None h = absurd (let none : IsSome {T = F} None = h in cc)
some_of F (Some f) h = (f, refl)

module _ (E F S : Type 0) (history : S → List E) (frame : S → F) (maker : E → ℕ) (fr : F) where
  abbrev V : Type 0
  V = View E F

  abbrev St : Type 0
  St = State (Option S) V

  abbrev Rule : St → Type 0
  Rule = Turns history frame maker fr

  abbrev with_views : St → List V → St
  with_views s vs = record { words = s.words; homes = s.homes; views = vs }

  lies_come : (views : List V) (log : List E) (homes : List (m.Option (Option S))) (w : V) → ¬ IsHolding w.stage → Lies history frame fr views log homes → Lies history frame fr (views ++ w ∷ []) log homes
  lies_come views log [] w is h = absurd h
  lies_come views log (m.none ∷ []) w is h = (h.0, h.1, at_longer views (w ∷ []) h.0 h.1 h.2, h.3)
  lies_come views log (m.some None ∷ []) w is h = absurd h
  lies_come views log (m.some (Some x) ∷ []) w is h = (each_end V (λ j u. ¬ IsHolding u.stage) views w is h.0, h.1, h.2)
  lies_come views log (a ∷ b ∷ hs) w is h = absurd h

  pub split_keeps : (id : ℕ) (v : V) → id ≡ 0 → v.stage ≡ Idle → v.made < 4294967295 → Splits Rule id v (root_after v) (newcomer v)
  split_keeps id v is was few s r at = let w = root_after v in let n = newcomer v in let vs = set s.views id w in let mine = r.knows id v at in
      let rooted = r.ranks.rooted v (subst (λ k. At s.views k v) is at) in let made = rooted.made in let shared = rooted.shared in let len = length-set s.views id w in let long = length-append vs (n ∷ []) in
      let not : ¬ IsHolding v.stage = λ h. subst IsHolding was h in
      let last : length vs ≡ v.made + 1 = omega arith in
      let low : (j : ℕ) (u : V) → At vs j u → (k : ℕ) → Contains u.names k → k < length s.views = each V (λ j u. (k : ℕ) → Contains u.names k → k < length s.views) s.views id w (λ k c. r.ranks.below id k v at c) (λ j u ne a k c. r.ranks.below j k u a c) in
      let low' : (j : ℕ) (u : V) → At vs j u → (k : ℕ) → Contains u.names k → Contains n.names k → ⊥ = λ j u a k c d. let lt = low j u a k c in let e : k ≡ v.made + 1 = single (v.made + 1) k d in omega arith in
      let aways = Contains-append_right v.away ((v.made + 1) ∷ []) (v.made + 1) (named_first (v.made + 1) []) in
      let la = length-append v.away ((v.made + 1) ∷ []) in
      record {
        now = r.now;
        count = r.count;
        log = r.log;
        words = r.words;
        line = comes E F r.now r.count vs (stays E F r.now r.count s.views r.line id v w at refl refl (r.line.stands id v at)) n refl (omega arith);
        lies = lies_come vs r.log s.homes n (λ h. h) (lies_on E F S history frame fr s.views r.log s.homes id v w at not not r.lies);
        knows = each_end V (Knows maker fr r.log) vs n
            record {
              sees = (mine.sees.0, mine.sees.1, apart (v.made + 1) (mine.sees.0) (subst (λ k. All (λ e. maker e < k) mine.sees.0) (sym made) (right s r id v at)));
              framed = λ f has. ((mine.framed f has).0, sym last);
              whole = λ h. absurd h;
              live = λ h. absurd h;
              mine = grows_all maker r.log;
              theirs = grows_all maker r.log;
              mine_within = λ k c. absurd (none_named k c);
              theirs_within = λ k c. absurd (none_named k c);
            }
            (each V (Knows maker fr r.log) s.views id w
            record { sees = mine.sees; framed = mine.framed; whole = mine.whole; live = mine.live; mine = mine.mine; theirs = mine.theirs; mine_within = mine.mine_within; theirs_within = mine.theirs_within }
            (λ j u ne a. r.knows j u a));
        ranks = record {
          alone = λ i j k x y a b p q. pairs_end V (λ x y. (k : ℕ) × Contains x.names k × Contains y.names k) vs n
              (λ i j x y a b t. pairs V (λ x y. (k : ℕ) × Contains x.names k × Contains y.names k) s.views id w (λ i j x y a b t. r.ranks.alone i j t.0 x y a b t.1 t.2)
              (λ j u ne a t. ne (sym (r.ranks.alone id j t.0 v u at a t.1 t.2))) (λ j u ne a t. ne (r.ranks.alone j id t.0 u v a at t.1 t.2)) i j x y a b t)
              (λ j u a t. low' j u a t.0 t.2 t.1) (λ j u a t. low' j u a t.0 t.1 t.2) i j x y a b (k, p, q);
          below = λ j k u a c. each_end V (λ j u. (k : ℕ) → Contains u.names k → k < length (vs ++ n ∷ [])) vs n
              (λ k c. let e : k ≡ v.made + 1 = single (v.made + 1) k c in omega arith) (λ j u a k c. let lt = low j u a k c in omega arith) j u a k c;
          rooted = λ u a. subst (Rooted (vs ++ n ∷ [])) (some-injective w u (sym (at_longer vs (n ∷ []) 0 w (subst (λ k. At (set s.views k w) 0 w) (sym is) (set_here s.views 0 w (omega arith)))) ∙ a)) record {
            made = omega arith;
            shared = omega arith;
            each = λ k lt. ⊎_elim (λ (t : k < length s.views). ⊎_elim (λ (c : Contains v.names k). inl c) (λ (c : Contains v.away k). inr (Contains-append_left v.away ((v.made + 1) ∷ []) k c)) (rooted.each k t))
                (λ (t : k ≡ v.made + 1). inr (subst (Contains (v.away ++ (v.made + 1) ∷ [])) (sym t) aways)) (below_or k (length s.views) (v.made + 1) (sym made) (omega arith));
            out = λ j x b lt some. ⊎_elim
                (λ (t : At vs j x). Contains-append_left v.away ((v.made + 1) ∷ []) j (⊎_elim
                (λ (q : (j ≡ id) × (w ≡ x)). let e = q.0 in absurd (omega arith))
                (λ (q : (j ≢ id) × (At s.views j x)). rooted.out j x q.1 lt some) (at_set s.views id j w x t)))
                (λ (t : (j ≡ length vs) × (n ≡ x)). subst (Contains (v.away ++ (v.made + 1) ∷ [])) (sym (t.0 ∙ last)) aways) (at_end V vs n j x b);
          };
        };
        below = All-weaker (λ e. maker e < length vs) (λ e. maker e < length (vs ++ n ∷ [])) (λ e lt. omega arith) r.log (below_on E F maker s.views r.log id w r.below);
      }
    where
      apart : (k : ℕ) (l : List E) → All (λ e. maker e < k) l → Outside maker (k ∷ []) l
      apart k l h i d lt c = let a = h i d lt in let e : maker (get_or l i d) ≡ k = single k _ c in omega arith

      right : (s : St) (r : Rule s) (id : ℕ) (v : V) (at : At s.views id v) → All (λ e. maker e < length s.views) (r.knows id v at).sees.0
      right s r id v at = let g = (r.knows id v at).sees in right_part E (λ e. maker e < length s.views) v.seen g.0 (subst (All (λ e. maker e < length s.views)) g.1 r.below)

      below_or : (k n x : ℕ) → n ≡ x → k < n + 1 → (k < n) ⊎ (k ≡ x)
      below_or k n x e lt = elim (dec_le n k) [ yes d ↦ inr (omega arith) | no ne ↦ inl (lt_of_not-le ne) ]

  -- a view is spent
  spend_keeps : (s : St) (r : Rule s) (other : ℕ) (w : V) → other ≢ 0 → At s.views other w → w.stage ≡ Idle → (q : Rule (with_views s (set s.views other (spent E F)))) × (q.log ≡ r.log)
  spend_keeps s r other w ne at was = let p = spent E F in let len = length-set s.views other p in let ns : (j : ℕ) → ¬ Contains [] j = none_named in (
    record {
      now = r.now;
      count = r.count;
      log = r.log;
      words = r.words;
      line = stays E F r.now r.count s.views r.line other w p at (sym (ap ticket_of was)) (sym (ap weight was)) tt;
      lies = lies_on E F S history frame fr s.views r.log s.homes other w p at (λ h. subst IsHolding was h) (λ h. h) r.lies;
      knows = each V (Knows maker fr r.log) s.views other p
          record { sees = grows_all maker r.log; framed = λ f e. absurd (none_some f e); whole = λ h. absurd h; live = λ h. absurd h; mine = grows_all maker r.log; theirs = grows_all maker r.log; mine_within = λ k c. c; theirs_within = λ k c. c }
          (λ j u ne a. r.knows j u a);
      ranks = record {
        alone = λ i j k x y a b c d. pairs V (λ x y. (k : ℕ) × Contains x.names k × Contains y.names k) s.views other p (λ i j x y a b t. r.ranks.alone i j t.0 x y a b t.1 t.2)
            (λ j u ne a t. ns t.0 t.1) (λ j u ne a t. ns t.0 t.2) i j x y a b (k, c, d);
        below = λ j k u a c. let lt : k < length s.views = each V (λ j u. Contains u.names k → k < length s.views) s.views other p (λ c. absurd (ns k c)) (λ j u ne a. r.ranks.below j k u a) j u a c in omega arith;
        rooted = λ u a. ⊎_elim
            (λ (t : (0 ≡ other) × (p ≡ u)). absurd (ne (sym t.0)))
            (λ (t : (0 ≢ other) × (At s.views 0 u)). let q = r.ranks.rooted u t.1 in let made = q.made in let shared = q.shared in record {
              made = omega arith;
              shared = omega arith;
              each = λ k lt. q.each k (omega arith);
              out = λ j x b lt some. ⊎_elim (λ (z : (j ≡ other) × (p ≡ x)). absurd (spent_none (subst (λ (y : V). IsSome y.frame) (sym z.1) some))) (λ (z : (j ≢ other) × (At s.views j x)). q.out j x z.1 lt some) (at_set s.views other j p x b);
            })
            (at_set s.views other 0 p u a);
      };
      below = below_on E F maker s.views r.log other p r.below;
    },
    refl,
  )
    where
      none_some : (f : F) → None ≡ Some f → ⊥
      none_some f e = cc

      spent_none : IsSome {T = F} None → ⊥
      spent_none h = cc

  -- the root's view takes in one name, and what was seen under it
  abbrev took : V → ℕ → List E → V
  took v k seen = record v { names = v.names ++ k ∷ []; seen = longer v.seen seen; away = without k v.away; mine = record { names = v.names; seen = v.seen }; theirs = record { names = k ∷ []; seen = seen } }

  take_keeps : (s : St) (r : Rule s) (v : V) → At s.views 0 v → v.stage ≡ Idle → (k : ℕ) (seen : List E) → GrowsByOthers maker (k ∷ []) seen r.log → ((j : ℕ) (u : V) → At s.views j u → ¬ Contains u.names k)
      → k < length s.views → Contains v.away k → ((u : V) → At s.views k u → ¬ IsSome u.frame) → Rule (with_views s (set s.views 0 (took v k seen)))
  take_keeps s r v at was k seen grows fresh lt away gone = let w = took v k seen in let vs = set s.views 0 w in let len = length-set s.views 0 w in let mine = r.knows 0 v at in let not : ¬ IsHolding v.stage = λ h. subst IsHolding was h in
      let q = r.ranks.rooted v at in let made = q.made in let shared = q.shared in let long = length-append v.names (k ∷ []) in let less = length-without k v.away away in
      let cases : (n : ℕ) → Contains w.names n → Contains v.names n ⊎ (n ≡ k) = λ n c. ⊎_elim (λ (t : Contains v.names n). inl t) (λ (t : Contains (k ∷ []) n). inr (single k n t)) (Contains-append_cases v.names (k ∷ []) n c) in
      let clash : (j : ℕ) (u : V) → j ≢ 0 → At s.views j u → (n : ℕ) → Contains w.names n → Contains u.names n → ⊥ = λ j u ne a n c d. ⊎_elim
      (λ (t : Contains v.names n). ne (sym (r.ranks.alone 0 j n v u at a t d))) (λ (t : n ≡ k). fresh j u a (subst (Contains u.names) t d)) (cases n c) in
      record {
        now = r.now;
        count = r.count;
        log = r.log;
        words = r.words;
        line = stays E F r.now r.count s.views r.line 0 v w at refl refl (r.line.stands 0 v at);
        lies = lies_on E F S history frame fr s.views r.log s.homes 0 v w at not not r.lies;
        knows = each V (Knows maker fr r.log) s.views 0 w
            record {
              sees = longer_grows E maker v.names (k ∷ []) v.seen seen r.log mine.sees grows;
              framed = mine.framed;
              whole = λ h. absurd (not h);
              live = λ h. absurd (not h);
              mine = mine.sees;
              theirs = grows;
              mine_within = λ n c. Contains-append_left v.names (k ∷ []) n c;
              theirs_within = λ n c. Contains-append_right v.names (k ∷ []) n c;
            }
            (λ j u ne a. r.knows j u a);
        ranks = record {
          alone = λ i j n x y a b c d. pairs V (λ x y. (n : ℕ) × Contains x.names n × Contains y.names n) s.views 0 w (λ i j x y a b t. r.ranks.alone i j t.0 x y a b t.1 t.2)
              (λ j u ne a t. clash j u ne a t.0 t.1 t.2) (λ j u ne a t. clash j u ne a t.0 t.2 t.1) i j x y a b (n, c, d);
          below = λ j n u a c. let less : n < length s.views = each V (λ j u. Contains u.names n → n < length s.views) s.views 0 w
              (λ c. ⊎_elim (λ (t : Contains v.names n). r.ranks.below 0 n v at t) (λ (t : n ≡ k). omega arith) (cases n c)) (λ j u ne a. r.ranks.below j n u a) j u a c in omega arith;
          rooted = λ u a. ⊎_elim
              (λ (t : (0 ≡ 0) × (w ≡ u)). subst (Rooted vs) t.1 record {
                made = omega arith;
                shared = omega arith;
                each = λ n less. ⊎_elim (λ (c : Contains v.names n). inl (Contains-append_left v.names (k ∷ []) n c))
                    (λ (c : Contains v.away n). elim (ℕ_discrete n k) [ yes e ↦ inl (subst (Contains w.names) (sym e) (Contains-append_right v.names (k ∷ []) k (named_first k []))) | no ne ↦ inr (without_keeps k n v.away ne c) ])
                    (q.each n (omega arith));
                out = λ j x b low some. ⊎_elim (λ (z : (j ≡ 0) × (w ≡ x)). let e = z.0 in absurd (omega arith))
                    (λ (z : (j ≢ 0) × (At s.views j x)). without_keeps k j v.away (λ e. gone x (subst (λ i. At s.views i x) e z.1) some) (q.out j x z.1 low some)) (at_set s.views 0 j w x b);
              })
              (λ (t : (0 ≢ 0) × (At s.views 0 u)). absurd (t.0 refl))
              (at_set s.views 0 0 w u a);
        };
        below = below_on E F maker s.views r.log 0 w r.below;
      }

  pub join_keeps : (id : ℕ) (v : V) (other : ℕ) (w : V) → id ≡ 0 → v.stage ≡ Idle → w.stage ≡ Idle → IsSome w.frame → w.names ≡ w.seat ∷ []
      → Joins Rule id v other w (joined v w) (spent E F)
  join_keeps id v other w is was idle live named s r at ne there = let p = spent E F in let ne0 : other ≢ 0 = λ e. ne (e ∙ sym is) in
      let at0 : At s.views 0 v = subst (λ k. At s.views k v) is at in let at1 : At s.views other w = sym (set_else s.views id other (joined v w) ne) ∙ there in
      let frames = some_of F w.frame live in let knows = r.knows other w at1 in let seat : w.seat ≡ other = (knows.framed frames.0 frames.1).1 in
      let gone = spend_keeps s r other w ne0 at1 idle in let vs = set s.views other p in let len = length-set s.views other p in let low = index_below V s.views other w at1 in
      let rest : At vs 0 v = set_else s.views other 0 p (λ e. ne0 (sym e)) ∙ at0 in
      let here : At vs other p = set_here s.views other p low in
      let taken = take_keeps (with_views s vs) gone.0 v rest was w.seat w.seen
      (subst (GrowsByOthers maker (w.seat ∷ []) w.seen) (sym gone.1) (subst (λ ns. GrowsByOthers maker ns w.seen r.log) named knows.sees))
      (each V (λ j u. ¬ Contains u.names w.seat) s.views other p (none_named w.seat) (λ j u nj a c. nj (sym (r.ranks.alone other j w.seat w u at1 a (subst (λ ns. Contains ns w.seat) (sym named) (named_first w.seat [])) c))))
      (omega arith)
      (subst (Contains v.away) (sym seat) ((r.ranks.rooted v at0).out other w at1 (omega arith) live))
      (λ u a some. spent_none (subst (λ (y : V). IsSome y.frame) (sym (some-injective p u (sym here ∙ subst (λ k. At vs k u) seat a))) some)) in
      let same : took v w.seat w.seen ≡ joined v w = ap (λ ns. record v { names = v.names ++ ns; seen = longer v.seen w.seen; away = without w.seat v.away; mine = record { names = v.names; seen = v.seen }; theirs = record { names = ns; seen = w.seen } }) (sym named) in
      let first : set vs 0 (joined v w) ≡ set (set s.views 0 (joined v w)) other p = set_comm s.views other 0 p (joined v w) ne0 in
      subst (λ i. Rule (with_views s (set (set s.views i (joined v w)) other p))) (sym is)
      (subst (λ l. Rule (with_views s l)) first (subst (λ (u : V). Rule (with_views s (set vs 0 u))) same taken))
    where
      spent_none : IsSome {T = F} None → ⊥
      spent_none h = cc

  pub learn_keeps : (slots id : ℕ) (me : Mine E F S) → id ≡ 0 → Allows Rule slots id me 0 (λ n. n) (learnt maker (step slots 0 0 0 m.none) me)
  learn_keeps slots id me is s r _ at _ = let v = me.0 in let mine = r.knows id v at in let q = r.ranks.rooted v (subst (λ k. At s.views k v) is at) in let made = q.made in let shared = q.shared in
      subst (Goes E F S history frame maker fr s id me 0 (λ n. n) (learnt maker (step slots 0 0 0 m.none) me)) (sym r.words) (
        v,
        keeps,
        tt,
        same_keeps E F S history frame maker fr s r id v at,
        (
          refl,
          record {
            shared = omega arith;
            below = All-weaker (λ e. maker e < length s.views) (λ e. maker e < v.made + 1) (λ e lt. omega arith) v.seen (left_part E (λ e. maker e < length s.views) v.seen mine.sees.0 (subst (All (λ e. maker e < length s.views)) mine.sees.1 r.below));
            mine = λ le. between_grows E maker v.mine.names v.mine.seen v.seen r.log mine.sees.0 mine.mine mine.sees.1 le;
            theirs = λ le. between_grows E maker v.theirs.names v.theirs.seen v.seen r.log mine.sees.0 mine.theirs mine.sees.1 le;
          },
        ),
      )

  pub opens : (x : S) → history x ≡ [] → frame x ≡ fr → Rule (opening (0 ∷ 0 ∷ 0 ∷ []) (Some x ∷ []) (root_view fr))
  opens x none is = let v : V = root_view fr in
      let one : (P : ℕ → V → Type 0) → P 0 v → (j : ℕ) (u : V) → At (v ∷ []) j u → P j u = λ P h. each_end V P [] v h (λ j u a. absurd (some-ne-none u (sym a))) in record {
        now = 0;
        count = 0;
        log = [];
        words = refl;
        line = record { small = omega arith; few = omega arith; counted = refl; stands = one (λ j u. Stands 0 0 u.stage) tt; apart = λ i j t x y a b p q. absurd (one (λ j u. ticket_of u.stage ≢ m.some t) (λ e. some-ne-none t (sym e)) i x a p) };
        lies = (one (λ j u. ¬ IsHolding u.stage) (λ h. h), none, is);
        knows = one (Knows maker fr []) record {
          sees = grows_none maker (0 ∷ []) [];
          framed = λ f e. (sym (some_same fr f e), refl);
          whole = λ h. absurd h;
          live = λ h. absurd h;
          mine = grows_all maker [];
          theirs = grows_all maker [];
          mine_within = λ k c. absurd (none_named k c);
          theirs_within = λ k c. absurd (none_named k c);
        };
        ranks = record {
          alone = λ i j k x y a b c d. one (λ i x. i ≡ 0) refl i x a ∙ sym (one (λ j y. j ≡ 0) refl j y b);
          below = λ j k u a c. one (λ j u. Contains u.names k → k < 1) (λ c. let e : k ≡ 0 = single 0 k c in omega arith) j u a c;
          rooted = λ u a. one (λ j u. Rooted (v ∷ []) u) record {
            made = refl;
            shared = refl;
            each = λ k lt. inl (let e : k ≡ 0 = omega arith in subst (Contains (0 ∷ [])) (sym e) (named_first 0 []));
            out = λ j x b lt some. let e : j ≡ 0 = one (λ j x. j ≡ 0) refl j x b in absurd (omega arith);
          } 0 u a;
        };
        below = All-nil _;
      }

  -- what is known of the last state where no pass is out
  pub record Closes (v : V) (y : Option S) : Type 0 where
    pub state : S
    pub there : y ≡ Some state
    pub seen : history state ≡ v.seen
    pub framed : v.frame ≡ Some (frame state)
    pub made : All (λ e. Contains v.names (maker e)) (history state)

  home_of : (s : St) (r : Rule s) (v : V) → At s.views 0 v → v.stage ≡ Idle → v.away ≡ [] → (homes : List (m.Option (Option S))) → Lies history frame fr s.views r.log homes → (x : S) × (homes ≡ m.some (Some x) ∷ []) × (history x ≡ r.log) × (frame x ≡ fr)
  home_of s r v at was none [] h = absurd h
  home_of s r v at was none (m.none ∷ []) h = absurd (elim (ℕ_discrete h.0 0) [
    | yes e ↦ subst IsHolding was (subst (λ (x : V). IsHolding x.stage) (some-injective h.1 v (sym h.2 ∙ subst (λ k. At s.views k v) (sym e) at)) h.3)
    | no ne ↦ none_named h.0 (subst (λ l. Contains l h.0) none ((r.ranks.rooted v at).out h.0 h.1 h.2 (omega arith) ((r.knows h.0 h.1 h.2).live h.3)))
  ])
  home_of s r v at was none (m.some None ∷ []) h = absurd h
  home_of s r v at was none (m.some (Some x) ∷ []) h = (x, refl, h.1, h.2)
  home_of s r v at was none (a ∷ b ∷ hs) h = absurd h

  pub closes : (ws : List ℕ) (xs : List (Option S)) (id : ℕ) (v : V) (y : Option S) → id ≡ 0 → v.stage ≡ Idle → v.away ≡ [] → IsSome v.frame → Final (Seen Rule id v) ws xs → get_elem? xs 0 ≡ m.some y → Closes v y
  closes ws xs id v y is was none live f found = let s = f.0 in let r = f.1.0 in let at : At s.views 0 v = subst (λ k. At s.views k v) is f.1.1 in let home = home_of s r v at was none s.homes r.lies in let x = home.0 in
      let mine = r.knows 0 v at in let frames = some_of F v.frame live in let rooted = r.ranks.rooted v at in
      let all : All (λ e. Contains v.names (maker e)) r.log = All-weaker (λ e. maker e < length s.views) (λ e. Contains v.names (maker e))
      (λ e lt. ⊎_elim (λ (c : Contains v.names (maker e)). c) (λ (c : Contains v.away (maker e)). absurd (none_named (maker e) (subst (λ l. Contains l (maker e)) none c))) (rooted.each (maker e) lt)) r.log r.below in
      let nobody : mine.sees.0 ≡ [] = none_of E mine.sees.0 (λ i d lt. mine.sees.2 i d lt (right_part E (λ e. Contains v.names (maker e)) v.seen mine.sees.0 (subst (All (λ e. Contains v.names (maker e))) mine.sees.1 all) i d lt)) in record {
        state = x;
        there = some-injective y (Some x) (sym found ∙ f.4 0 (Some x) (ap (λ (hs : List (m.Option (Option S))). get_elem? hs 0) home.1));
        seen = home.2 ∙ (mine.sees.1 ∙ (ap (λ l. v.seen ++ l) nobody ∙ append-nil v.seen));
        framed = frames.1 ∙ ap Some ((mine.framed frames.0 frames.1).0 ∙ sym home.3);
        made = subst (All (λ e. Contains v.names (maker e))) (sym home.2) all;
      }
