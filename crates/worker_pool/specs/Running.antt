-- What comes of a worker's turns, one after another.
use Rattle.std.specs.Prelude.{◌≡◌, Bool, true, false, List, [], ◌∷◌, ◌++◌, Result, Ok, Err, All, Contains, ◌⊎◌}
use Rattle.std.specs.declared.alloc.AllocError.{AllocError}
use Rattle.importer.specs.declared.ends.How.TheVariants as how
use Rattle.shared_store.specs.Turns.{Stands}
use Rattle.step_script.specs.Feeds.{Outward}
use Rattle.worker_pool.specs.declared.feeding.Feed.{Feed}
use Rattle.worker_pool.specs.declared.registering.Query.{Query}
use Rattle.worker_pool.specs.Feeding.{HasEnded}
use Rattle.worker_pool.specs.Turning.{GoesOn, Stops}

-- a worker between two turns: its sources, its queries, and how its pass stands
pub record Point (S : Type 0) : Type 0 where
  pub feeds : List (Feed S)
  pub queries : List Query
  pub stands : Stands

-- a turn that was made whole, and what it left
pub record Made (S : Type 0) : Type 0 where
  pub claimed : Bool
  pub left : Point S

-- one turn, from here to there
abbrev pub Makes : {S : Type 0} → Outward S → Result Bool AllocError → Point S → Point S → Type 0
Makes out result p q = GoesOn out result p.feeds q.feeds p.queries q.queries p.stands q.stands

abbrev pub Breaks : {S : Type 0} → Outward S → AllocError → Point S → Point S → Type 0
Breaks out e p q = Stops out (Err e) p.feeds q.feeds p.queries q.queries p.stands q.stands

-- turns that follow each other
abbrev pub Follow : {S : Type 0} → Outward S → List (Made S) → Point S → Point S → Type 0
Follow out [] p q = q ≡ p
Follow out (turn ∷ turns) p q = Makes out (Ok turn.claimed) p turn.left × Follow out turns turn.left q

abbrev pub EndsAll : {S : Type 0} → Bool → List (Feed S) → Type 0
EndsAll true feeds = All HasEnded feeds
EndsAll {S} false feeds = (f : Feed S) × Contains feeds f × (f.how ≡ how.Unread)

-- Turns were made up to one that found no batch to claim and left no source to be read; or up to one for which memory was
-- wanting.
pub record Rests {S : Type 0} (out : Outward S) (p q : Point S) : Type 0 where
  pub turns : List (Made S)
  pub before : Point S
  pub follow : Follow out turns p before
  pub last : Makes out (Ok false) before q
  pub ended : All HasEnded q.feeds

pub record Fails {S : Type 0} (out : Outward S) (e : AllocError) (p q : Point S) : Type 0 where
  pub turns : List (Made S)
  pub before : Point S
  pub follow : Follow out turns p before
  pub last : Breaks out e before q ⊎ Makes out (Err e) before q

abbrev pub Runs : {S : Type 0} → Outward S → Result (Unit {0}) AllocError → Point S → Point S → Type 0
Runs out (Ok u) p q = Rests out p q
Runs out (Err e) p q = Fails out e p q
