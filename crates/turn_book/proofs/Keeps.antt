-- Each step of a turn keeps the rule.
use Rattle.std.proofs.Common.{◌≡◌, ◌≢◌, ℕ, ◌+◌, ◌%◌, ◌<◌, ◌⊎◌, List, [], ◌∷◌, ◌++◌, length, get_or, set, All, Contains, IsSome, Option, Some, None, sym, refl, ap, subst, ◌∙◌, ⊎_elim, append_assoc, append-nil, length-set, arith}
use mathlib.Core.Option as m
use mathlib.Core.Option.{some-injective, some-ne-none}
use native.Mathlib.Decide.{ℕ_discrete}
use lib.ListN.{get_elem?}
use Rattle.std.proofs.lemmas.List.Elements.{All-nil, All-append, All-weaker}
use Rattle.atomic_table.proofs.Lists.{at_set, set_here, set_else, set_again}
use Rattle.atomic_table.specs.Table.{State, Act, keeps, takes, gives, step, carried_after, homes_after, Valid, Allows}
use Rattle.turn_book.specs.declared.view.Stage.{Stage}
use Rattle.turn_book.specs.declared.view.Stage.TheVariants.{Idle, Waits, Holds, Left}
use Rattle.turn_book.specs.declared.view.View.{View}
use Rattle.turn_book.specs.Histories.{Outside, GrowsByOthers}
use Rattle.turn_book.specs.Steps.{Mine, drew, passed, looked, tallied, Gives}
use Rattle.turn_book.specs.Turns.{ring, ticket_of, weight, IsHolding, Stands, At, staged, held, left, Line, NoneHolds, Knows, Rooted, Ranks, Lies, Turns}
use Rattle.turn_book.proofs.Lists.{each, pairs, index_below}
use Rattle.turn_book.proofs.Lines.{draws, stays, passes, one_holder}

-- a history that others made longer, and one more entry list of others
pub grows_more : {E : Type 0} (maker : E → ℕ) (names : List ℕ) (seen log log' new : List E) → log' ≡ log ++ new → Outside maker names new → GrowsByOthers maker names seen log → GrowsByOthers maker names seen log'
grows_more maker names seen log log' new grown others g = (
  g.0 ++ new,
  grown ∙ (ap (λ l. l ++ new) g.1 ∙ append_assoc seen g.0 new),
  All-append (λ e. ¬ Contains names (maker e)) g.0 new g.2 others,
)

-- a history that was seen whole
pub grows_none : {E : Type 0} (maker : E → ℕ) (names : List ℕ) (log : List E) → GrowsByOthers maker names log log
grows_none maker names log = ([], sym (append-nil log), All-nil _)

-- nobody made anything past nothing
pub grows_all : {E : Type 0} (maker : E → ℕ) (log : List E) → GrowsByOthers maker [] [] log
grows_all maker log = (log, refl, λ k d lt c. let none : c.0 < 0 = c.1 in omega arith)

module _ (E F : Type 0) where
  abbrev V : Type 0
  V = View E F

  rooted_on : (views : List V) (id : ℕ) (v w : V) → At views id v → w.frame ≡ v.frame → (a b : V) → b.made ≡ a.made → b.names ≡ a.names → b.away ≡ a.away → Rooted views a → Rooted (set views id w) b
  rooted_on views id v w at fr a b em en ea q = let len = length-set views id w in let made = q.made in let shared = q.shared in
      let ln : length b.names ≡ length a.names = ap length en in let la : length b.away ≡ length a.away = ap length ea in record {
        made = omega arith;
        shared = omega arith;
        each = λ n lt. subst (λ (p : List ℕ × List ℕ). Contains p.0 n ⊎ Contains p.1 n) (λ i. (sym en i, sym ea i)) (q.each n (omega arith));
        out = λ j u at' lt some. subst (λ l. Contains l j) (sym ea) (⊎_elim
            (λ (t : (j ≡ id) × (w ≡ u)). let old : IsSome v.frame = subst IsSome (ap (λ (x : V). x.frame) (sym t.1) ∙ fr) some in q.out j v (subst (λ k. At views k v) (sym t.0) at) lt old)
            (λ (t : (j ≢ id) × (At views j u)). q.out j u t.1 lt some)
            (at_set views id j w u at'));
      }

  -- names and frames stay as they are
  pub ranks_on : (views : List V) → Ranks views → (id : ℕ) (v w : V) → At views id v → w.frame ≡ v.frame → w.made ≡ v.made → w.names ≡ v.names → w.away ≡ v.away → Ranks (set views id w)
  ranks_on views r id v w at fr em en ea = let len = length-set views id w in record {
    alone = λ i j n x y a b p q. pairs V (λ x y. (n : ℕ) × Contains x.names n × Contains y.names n) views id w (λ i j x y a b s. r.alone i j s.0 x y a b s.1 s.2)
        (λ j u ne a s. ne (sym (r.alone id j s.0 v u at a (subst (λ l. Contains l s.0) en s.1) s.2)))
        (λ j u ne a s. ne (r.alone j id s.0 u v a at s.1 (subst (λ l. Contains l s.0) en s.2))) i j x y a b (n, p, q);
    below = λ j n u a c. let old : n < length views = each V (λ j u. Contains u.names n → n < length views) views id w (λ c. r.below id n v at (subst (λ l. Contains l n) en c)) (λ j u ne a. r.below j n u a) j u a c in omega arith;
    rooted = λ u a. ⊎_elim
        (λ (t : (0 ≡ id) × (w ≡ u)). subst (Rooted (set views id w)) t.1 (rooted_on views id v w at fr v w em en ea (r.rooted v (subst (λ k. At views k v) (sym t.0) at))))
        (λ (t : (0 ≢ id) × (At views 0 u)). rooted_on views id v w at fr u u refl refl refl (r.rooted u t.1))
        (at_set views id 0 w u a);
  }

  pub below_on : (maker : E → ℕ) (views : List V) (log : List E) (id : ℕ) (w : V) → All (λ e. maker e < length views) log → All (λ e. maker e < length (set views id w)) log
  below_on maker views log id w h = subst (λ n. All (λ e. maker e < n) log) (sym (length-set views id w)) h

  pub none_holds : (views : List V) (id : ℕ) (w : V) → ¬ IsHolding w.stage → NoneHolds views → NoneHolds (set views id w)
  none_holds views id w not h = each V (λ j u. ¬ IsHolding u.stage) views id w not (λ j u ne a. h j u a)

  module _ (S : Type 0) (history : S → List E) (frame : S → F) (fr : F) where
    -- a seat that doesn't hold the state, before or after
    pub lies_on : (views : List V) (log : List E) (homes : List (m.Option (Option S))) (id : ℕ) (v w : V) → At views id v → ¬ IsHolding v.stage → ¬ IsHolding w.stage
        → Lies history frame fr views log homes → Lies history frame fr (set views id w) log homes
    lies_on views log [] id v w at was is h = absurd h
    lies_on views log (m.none ∷ []) id v w at was is h = let ne : h.0 ≢ id = λ e. was (subst (λ (x : V). IsHolding x.stage) (some-injective h.1 v (sym h.2 ∙ subst (λ k. At views k v) (sym e) at)) h.3) in
        (h.0, h.1, set_else views id h.0 w ne ∙ h.2, h.3)
    lies_on views log (m.some None ∷ []) id v w at was is h = absurd h
    lies_on views log (m.some (Some x) ∷ []) id v w at was is h = (none_holds views id w is h.0, h.1, h.2)
    lies_on views log (a ∷ b ∷ hs) id v w at was is h = absurd h

    -- the state is at home where a seat that waits is served
    found_home : (views : List V) (log : List E) (homes : List (m.Option (Option S))) (now count : ℕ) → Line now count views → (id : ℕ) (v : V) → At views id v → v.stage ≡ Waits now
        → Lies history frame fr views log homes → (x : S) × (homes ≡ m.some (Some x) ∷ []) × NoneHolds views × (history x ≡ log) × (frame x ≡ fr)
    found_home views log [] now count r id v at was h = absurd h
    found_home views log (m.none ∷ []) now count r id v at was h = let e : id ≡ h.0 = one_holder E F now count views r id h.0 v h.1 at h.2 (ap ticket_of was) h.3 in
        absurd (subst IsHolding was (subst (λ (x : V). IsHolding x.stage) (some-injective h.1 v (sym h.2 ∙ subst (λ k. At views k v) e at)) h.3))
    found_home views log (m.some None ∷ []) now count r id v at was h = absurd h
    found_home views log (m.some (Some x) ∷ []) now count r id v at was h = (x, refl, h.0, h.1, h.2)
    found_home views log (a ∷ b ∷ hs) now count r id v at was h = absurd h

    -- the slot is empty where a seat holds the state
    found_out : (views : List V) (log : List E) (homes : List (m.Option (Option S))) (id : ℕ) (v : V) → At views id v → IsHolding v.stage → Lies history frame fr views log homes → homes ≡ m.none ∷ []
    found_out views log [] id v at was h = absurd h
    found_out views log (m.none ∷ []) id v at was h = refl
    found_out views log (m.some None ∷ []) id v at was h = absurd h
    found_out views log (m.some (Some x) ∷ []) id v at was h = absurd (h.0 id v at was)
    found_out views log (a ∷ b ∷ hs) id v at was h = absurd h

  -- a seat moves on that doesn't hold the state afterwards, and has seen what it had seen
  pub knows_on : (maker : E → ℕ) (fr : F) (views : List V) (log : List E) → ((j : ℕ) (v : V) → At views j v → Knows maker fr log j v) → (id : ℕ) (v : V) (st : Stage) → At views id v → ¬ IsHolding st
      → (j : ℕ) (u : V) → At (set views id (staged v st)) j u → Knows maker fr log j u
  knows_on maker fr views log k id v st at not = let q = k id v at in each V (Knows maker fr log) views id (staged v st)
      record { sees = q.sees; framed = q.framed; whole = λ h. absurd (not h); live = λ h. absurd (not h); mine = q.mine; theirs = q.theirs; mine_within = q.mine_within; theirs_within = q.theirs_within }
      (λ j u ne a. k j u a)

pub holds_same : (t u : ℕ) → Holds t ≡ Holds u → t ≡ u
holds_same t u e = some-injective t u (ap ticket_of e)

pub waits_same : (t u : ℕ) → Waits t ≡ Waits u → t ≡ u
waits_same t u e = some-injective t u (ap ticket_of e)

-- what the first slot holds
abbrev pub first_held : {S : Type 0} → S → List (ℕ × Option S) → S
first_held d [] = d
first_held d (p ∷ c) = elim p.1 [ None ↦ d | Some x ↦ x ]

pub carried_same : {S : Type 0} (x y : S) (c d : List (ℕ × Option S)) → (0, Some x) ∷ c ≡ (0, Some y) ∷ d → x ≡ y
carried_same x y c d e = ap (first_held x) e

module _ (E F S : Type 0) (history : S → List E) (frame : S → F) (maker : E → ℕ) (fr : F) where
  abbrev pub St : Type 0
  St = State (Option S) (View E F)

  abbrev pub Rule : St → Type 0
  Rule = Turns history frame maker fr

  -- what a step owes, at these words
  abbrev pub Goes : St → ℕ → Mine E F S → ℕ → (ℕ → ℕ) → (ℕ → Mine E F S → Type 0) → List ℕ → Type 0
  Goes s id me i f then ws = (w : View E F) × (a : Act (Option S)) × Valid s.homes me.1 a
      × Rule record { words = set ws i (f (get_or ws i 0)); homes = homes_after s.homes me.1 a; views = set s.views id w } × then (get_or ws i 0) (w, carried_after me.1 a)

  -- a look that changes nothing
  pub same_keeps : (s : St) (r : Rule s) (id : ℕ) (v : View E F) → At s.views id v → Rule record { words = (r.now + r.count) % ring ∷ r.now ∷ length r.log ∷ []; homes = s.homes; views = set s.views id v }
  same_keeps s r id v at = subst (λ (vs : List (View E F)). Rule record { words = (r.now + r.count) % ring ∷ r.now ∷ length r.log ∷ []; homes = s.homes; views = vs }) (sym (set_again s.views id v at))
      record { now = r.now; count = r.count; log = r.log; words = refl; line = r.line; lies = r.lies; knows = r.knows; ranks = r.ranks; below = r.below }

  pub draw_keeps : (slots id : ℕ) (me : Mine E F S) → me.0.stage ≡ Idle → Allows Rule slots id me 0 (λ n. (n + 1) % ring) (drew (step slots 0 1 0 m.none) me)
  draw_keeps slots id me was s r _ at _ = let v = me.0 in let t : ℕ = (r.now + r.count) % ring in let w = staged v (Waits t) in let small = r.line.small in
      let not : ¬ IsHolding v.stage = λ h. subst IsHolding was h in
      subst (Goes s id me 0 (λ n. (n + 1) % ring) (drew (step slots 0 1 0 m.none) me)) (sym r.words) (
        w,
        keeps,
        tt,
        record {
          now = r.now;
          count = r.count + 1;
          log = r.log;
          words = ap (λ (k : ℕ). k ∷ r.now ∷ length r.log ∷ []) (let e : ((r.now + r.count) % ring + 1) % ring ≡ (r.now + (r.count + 1)) % ring = omega arith in e);
          line = draws E F r.now r.count s.views r.line id v w at was refl;
          lies = lies_on E F S history frame fr s.views r.log s.homes id v w at not (λ h. h) r.lies;
          knows = knows_on E F maker fr s.views r.log r.knows id v (Waits t) at (λ h. h);
          ranks = ranks_on E F s.views r.ranks id v w at refl refl refl refl;
          below = below_on E F maker s.views r.log id w r.below;
        },
        (refl, refl),
      )

  pub look_keeps : (slots id t : ℕ) (me : Mine E F S) → me.0.stage ≡ Waits t → IsSome me.0.frame → Allows Rule slots id me 1 (λ n. n) (looked history frame maker (step slots 1 0 0 m.none) me)
  look_keeps slots id t me was live s r _ at _ = subst (Goes s id me 1 (λ n. n) (looked history frame maker (step slots 1 0 0 m.none) me)) (sym r.words) (elim (ℕ_discrete r.now t) [
    | no ne ↦ (
      me.0,
      keeps,
      tt,
      same_keeps s r id me.0 at,
      λ u is. (λ _. refl, λ e. absurd (ne (e ∙ waits_same u t (sym is ∙ was)))),
    )
    | yes e ↦ let v = me.0 in let mine = r.knows id v at in let home = found_home E F S history frame fr s.views r.log s.homes r.now r.count r.line id v at (was ∙ ap Waits (sym e)) r.lies in
        let x = home.0 in let w = held v t (history x) in let st = subst (Stands r.now r.count) was (r.line.stands id v at) in let lt = st.1 in
        let rest : (r.log ≡ history x ++ []) = sym home.3 ∙ sym (append-nil (history x)) in (
          w,
          takes 0 (Some x),
          ap (λ (hs : List (m.Option (Option S))). get_elem? hs 0) home.1,
          record {
            now = r.now;
            count = r.count;
            log = r.log;
            words = refl;
            line = stays E F r.now r.count s.views r.line id v w at (sym (ap ticket_of was)) (sym (ap weight was)) (omega arith, sym e);
            lies = subst (λ (hs : List (m.Option (Option S))). Lies history frame fr (set s.views id w) r.log (set hs 0 m.none)) (sym home.1)
                (id, w, set_here s.views id w (index_below (View E F) s.views id v at), tt);
            knows = each (View E F) (Knows maker fr r.log) s.views id w
                record { sees = ([], rest, All-nil _); framed = mine.framed; whole = λ _. sym home.3; live = λ _. live; mine = mine.mine; theirs = mine.theirs; mine_within = mine.mine_within; theirs_within = mine.theirs_within }
                (λ j u ne a. r.knows j u a);
            ranks = ranks_on E F s.views r.ranks id v w at refl refl refl refl;
            below = below_on E F maker s.views r.log id w r.below;
          },
          λ u is. let same : t ≡ u = waits_same t u (sym was ∙ is) in (
            λ ne. absurd (ne (e ∙ same)),
            λ _. (
              x,
              (subst (GrowsByOthers maker v.names v.seen) (sym home.3) mine.sees, λ f has. home.4 ∙ sym (mine.framed f has).0),
              ap (λ k. held v k (history x)) same,
              refl,
            ),
          ),
        )
  ])

  pub tally_keeps : (slots id t k : ℕ) (me : Mine E F S) (x : S) → me.0.stage ≡ Holds t → me.1 ≡ (0, Some x) ∷ [] → Gives history frame maker me.0 x k → Allows Rule slots id me 2 (λ n. (n + k) % ring) (tallied history (step slots 2 k 0 m.none) me)
  tally_keeps slots id t k me x was has g s r _ at _ = let v = me.0 in let w = left v t (history x) in let h = subst IsHolding (sym was) tt in let mine = r.knows id v at in let all : r.log ≡ v.seen = mine.whole h in
      let st = subst (Stands r.now r.count) was (r.line.stands id v at) in let front : ticket_of v.stage ≡ m.some r.now = ap ticket_of was ∙ ap m.some st.1 in
      let others : (j : ℕ) (u : View E F) → j ≢ id → At s.views j u → ¬ IsHolding u.stage = λ j u ne a hold. ne (sym (one_holder E F r.now r.count s.views r.line id j v u at a front hold)) in
      let seat : v.seat ≡ id = (mine.framed (frame x) g.framed).1 in let log : List E = history x in let grown : log ≡ r.log ++ g.new = g.longer ∙ ap (λ l. l ++ g.new) (sym all) in let told = g.told in let fits = g.fits in let len : length r.log ≡ length v.seen = ap length all in
      let apart : (j : ℕ) (u : View E F) → j ≢ id → At s.views j u → ¬ Contains u.names v.seat = λ j u ne a c. ne (r.ranks.alone j id v.seat u v a at c g.named) in
      let outside : (names : List ℕ) → ¬ Contains names v.seat → Outside maker names g.new = λ names not. All-weaker (λ e. maker e ≡ v.seat) (λ e. ¬ Contains names (maker e)) (λ e is c. not (subst (Contains names) is c)) g.new g.own in
      subst (Goes s id me 2 (λ n. (n + k) % ring) (tallied history (step slots 2 k 0 m.none) me)) (sym r.words) (
        w,
        gives,
        tt,
        record {
          now = r.now;
          count = r.count;
          log = log;
          words = ap (λ (n : ℕ). (r.now + r.count) % ring ∷ r.now ∷ n ∷ []) (let e : (length r.log + k) % ring ≡ length log = omega arith in e);
          line = stays E F r.now r.count s.views r.line id v w at (sym (ap ticket_of was)) (sym (ap weight was)) st;
          lies = subst (λ (p : List (m.Option (Option S)) × List (ℕ × Option S)). Lies history frame fr (set s.views id w) log (homes_after p.0 p.1 gives))
              (λ i. (sym (found_out E F S history frame fr s.views r.log s.homes id v at h r.lies) i, sym has i))
              (each (View E F) (λ j u. ¬ IsHolding u.stage) s.views id w (λ h. h) others, refl, (mine.framed (frame x) g.framed).0);
          knows = each (View E F) (Knows maker fr log) s.views id w
              record {
                sees = grows_none maker v.names log;
                framed = mine.framed;
                whole = λ h. absurd h;
                live = λ h. absurd h;
                mine = grows_all maker log;
                theirs = grows_all maker log;
                mine_within = λ n c. absurd (let none : c.0 < 0 = c.1 in omega arith);
                theirs_within = λ n c. absurd (let none : c.0 < 0 = c.1 in omega arith);
              }
              (λ j u ne a. let q = r.knows j u a in let not = apart j u ne a in record {
                sees = grows_more maker u.names u.seen r.log log g.new grown (outside u.names not) q.sees;
                framed = q.framed;
                whole = λ h. absurd (others j u ne a h);
                live = λ h. absurd (others j u ne a h);
                mine = grows_more maker u.mine.names u.mine.seen r.log log g.new grown (outside u.mine.names (λ c. not (q.mine_within v.seat c))) q.mine;
                theirs = grows_more maker u.theirs.names u.theirs.seen r.log log g.new grown (outside u.theirs.names (λ c. not (q.theirs_within v.seat c))) q.theirs;
                mine_within = q.mine_within;
                theirs_within = q.theirs_within;
              });
          ranks = ranks_on E F s.views r.ranks id v w at refl refl refl refl;
          below = subst (λ l. All (λ e. maker e < length (set s.views id w)) l) (sym grown) (All-append (λ e. maker e < length (set s.views id w)) r.log g.new (below_on E F maker s.views r.log id w r.below)
              (All-weaker (λ e. maker e ≡ v.seat) (λ e. maker e < length (set s.views id w)) (λ e is. let len = length-set s.views id w in let i = index_below (View E F) s.views id v at in omega arith) g.new g.own));
        },
        λ u y now here. let e : t ≡ u = holds_same t u (sym was ∙ now) in let d : x ≡ y = carried_same x y [] [] (sym has ∙ here) in
            (subst (λ (p : ℕ × S). w ≡ left v p.0 (history p.1)) (λ i. (e i, d i)) refl, subst (λ (c : List (ℕ × Option S)). carried_after c gives ≡ []) (sym has) refl),
      )

  pub pass_keeps : (slots id : ℕ) (me : Mine E F S) (t : ℕ) → me.0.stage ≡ Left t → Allows Rule slots id me 1 (λ n. (n + 1) % ring) (passed (step slots 1 1 0 m.none) me)
  pass_keeps slots id me t was s r _ at _ = let v = me.0 in let w = staged v Idle in let small = r.line.small in let p = passes E F r.now r.count s.views r.line id v w t at was refl in let up = p.1 in let n : ℕ = p.0 in
      let not : ¬ IsHolding v.stage = λ h. subst IsHolding was h in
      subst (Goes s id me 1 (λ n. (n + 1) % ring) (passed (step slots 1 1 0 m.none) me)) (sym r.words) (
        w,
        keeps,
        tt,
        record {
          now = (r.now + 1) % ring;
          count = n;
          log = r.log;
          words = ap (λ (k : ℕ). k ∷ (r.now + 1) % ring ∷ length r.log ∷ []) (let t : (r.now + r.count) % ring ≡ ((r.now + 1) % ring + n) % ring = omega arith in t);
          line = p.3;
          lies = lies_on E F S history frame fr s.views r.log s.homes id v w at not (λ h. h) r.lies;
          knows = knows_on E F maker fr s.views r.log r.knows id v Idle at (λ h. h);
          ranks = ranks_on E F s.views r.ranks id v w at refl refl refl refl;
          below = below_on E F maker s.views r.log id w r.below;
        },
        (refl, refl),
      )
