-- A worker's turns, one after another.
use Rattle.std.proofs.Common.{◌≡◌, ℕ, zero, suc, ◌<◌, Bool, true, false, List, [], ◌∷◌, ◌++◌, Option, None, Some, Result, Ok, Err, All, Contains, length, map, ap, refl, sym, subst, ◌∙◌, arith, inl, inr, ◌⊎◌}
use Rattle.std.specs.declared.alloc.AllocError.{AllocError}
use Rattle.std.proofs.lemmas.List.Elements.{All-cons, All-head, All-nil, All-tail, Contains-append_left, Contains-append_right, Contains-push}
use Rattle.archive_cache.specs.Caches.{Caching}
use Rattle.event_history.specs.Histories.{past}
use Rattle.exporter.specs.Stores.{IsCacheOf}
use Rattle.importer.specs.declared.ends.How.TheVariants as how
use Rattle.query_meaning.specs.declared.expr.Expr.{Expr}
use Rattle.step_script.specs.Feeds.{Outward}
use Rattle.worker_pool.specs.declared.feeding.Feed.{Feed}
use Rattle.worker_pool.specs.declared.registering.Query.{Query}
use Rattle.worker_pool.specs.Feeding.{HasEnded}
use Rattle.worker_pool.specs.Finishing.{IsSound}
use Rattle.worker_pool.specs.Registering.{AreAskable, IsUnasked, exprs}
use Rattle.worker_pool.specs.Running.{Breaks, EndsAll, Fails, Follow, Made, Makes, Point, Rests, Runs}
use Rattle.worker_pool.specs.Turning.{GoesOn, Stops, Turns}

pub ends_first : {S : Type 0} (first : Feed S) (rest feeds : List (Feed S)) → feeds ≡ first ∷ rest → first.how ≡ how.Unread → EndsAll false feeds
ends_first first rest feeds whole unread =
    (first, subst (λ l. Contains l first) (sym whole) (Contains-append_left (first ∷ []) rest first (Contains-push [] first)), unread)

ends_by : {S : Type 0} (b : Bool) (first : Feed S) (rest : List (Feed S)) → HasEnded first → EndsAll b rest → EndsAll b (first ∷ rest)
ends_by true first rest ended all = All-cons HasEnded first rest ended all
ends_by false first rest ended (f, there, unread) = (f, Contains-append_right (first ∷ []) rest f there, unread)

pub ends_behind : {S : Type 0} (b : Bool) (first : Feed S) (rest feeds : List (Feed S)) → feeds ≡ first ∷ rest → HasEnded first → EndsAll b rest → EndsAll b feeds
ends_behind b first rest feeds whole ended all = subst (λ l. EndsAll b l) (sym whole) (ends_by b first rest ended all)

-- one turn more
pub follow_then : {S : Type 0} (out : Outward S) (turns : List (Made S)) (p q r : Point S) (claimed : Bool) → Follow out turns p q → Makes out (Ok claimed) q r → Follow out (turns ++ record { claimed = claimed; left = r } ∷ []) p r
follow_then out [] p q r claimed same makes = (subst (λ x. Makes out (Ok claimed) x r) same makes, refl)
follow_then out (turn ∷ turns) p q r claimed follow makes = (follow.0, follow_then out turns turn.left q r claimed follow.1 makes)

-- a turn that was made whole goes on
pub made_whole : {S : Type 0} (out : Outward S) (claimed : Bool) (p q : Point S) → Stops out (Ok claimed) p.feeds q.feeds p.queries q.queries p.stands q.stands ⊎ Makes out (Ok claimed) p q → Makes out (Ok claimed) p q
made_whole out claimed p q (inl stops) = absurd stops
made_whole out claimed p q (inr makes) = makes

no_some : {X : Type 0} (x : X) → None ≡ Some x → ⊥
no_some x e = absurd cc

none_is : {X : Type 0} (x : X) (o : Option X) → o ≡ None → o ≡ Some x → ⊥
none_is x o none some = no_some x (sym none ∙ some)

-- what is registered has nothing to be registered with
pub unasked_registered : (queries : List Query) → All (λ (left : Option Expr). left ≡ None) (exprs queries) → All IsUnasked queries
unasked_registered [] none = All-nil IsUnasked
unasked_registered (q ∷ queries) none =
    All-cons IsUnasked q queries (λ e is. absurd (none_is e q.expr (All-head (λ (left : Option Expr). left ≡ None) q.expr (exprs queries) none) is))
    (unasked_registered queries (All-tail (λ (left : Option Expr). left ≡ None) q.expr (exprs queries) none))

-- ---- the loop of turns

-- Whole turns were made from here to there, and a further one may be made.
pub record Between {S : Type 0} (out : Outward S) (p q : Point S) (cache : Caching) : Type 0 where
  pub sound : IsSound q.stands
  pub askable : AreAskable q.stands q.queries
  pub unasked : All IsUnasked q.queries
  pub kept : IsCacheOf (past q.stands.seen) cache
  pub turns : List (Made S)
  pub follow : Follow out turns p q

pub between_start : {S : Type 0} (out : Outward S) (p : Point S) (cache : Caching) → IsSound p.stands → AreAskable p.stands p.queries → All IsUnasked p.queries → IsCacheOf (past p.stands.seen) cache → Between out p p cache
between_start out p cache sound askable unasked kept = record { sound = sound; askable = askable; unasked = unasked; kept = kept; turns = []; follow = refl }

module _ {S : Type 0} (out : Outward S) (p q : Point S) (cache cache_now : Caching) (between : Between out p q cache) (r : Point S) where
  pub between_then : (claimed : Bool) → Turns out (Ok claimed) q.feeds r.feeds q.queries r.queries cache_now q.stands r.stands → Between out p r cache_now
  between_then claimed turn = record {
    sound = turn.sound;
    askable = turn.askable;
    unasked = unasked_registered r.queries turn.registered;
    kept = turn.kept;
    turns = between.turns ++ record { claimed = claimed; left = r } ∷ [];
    follow = follow_then out between.turns p q r claimed between.follow (made_whole out claimed q r turn.is);
  }

  pub rests : (claimed : Bool) → claimed ≡ false → Turns out (Ok claimed) q.feeds r.feeds q.queries r.queries cache_now q.stands r.stands → All HasEnded r.feeds → Rests out p r
  rests claimed none turn ended = record {
    turns = between.turns;
    before = q;
    follow = between.follow;
    last = subst (λ (c : Bool). Makes out (Ok c) q r) none (made_whole out claimed q r turn.is);
    ended = ended;
  }

  pub fails : (e : AllocError) → Turns out (Err e) q.feeds r.feeds q.queries r.queries cache_now q.stands r.stands → Fails out e p r
  fails e turn = record { turns = between.turns; before = q; follow = between.follow; last = turn.is }
