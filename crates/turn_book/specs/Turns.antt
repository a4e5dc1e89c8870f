-- The rule of the lock: what holds of its words, its slot and all views between any two steps.
-- The words are ticket, serving and tally.
use Rattle.std.specs.Prelude.{◌≡◌, ℕ, ◌+◌, ◌%◌, ◌<◌, ◌≤◌, ◌⊎◌, List, [], ◌∷◌, length, All, Contains, IsSome, Option, Some, None}
use mathlib.Core.Option as m
use lib.ListN.{get_elem?}
use Rattle.atomic_table.specs.Table.{State}
use Rattle.turn_book.specs.declared.view.Known.{Known}
use Rattle.turn_book.specs.declared.view.Stage.{Stage}
use Rattle.turn_book.specs.declared.view.Stage.TheVariants.{Idle, Waits, Holds, Left}
use Rattle.turn_book.specs.declared.view.View.{View}
use Rattle.turn_book.specs.Histories.{GrowsByOthers}

-- the numbers of a word
abbrev pub ring : ℕ
ring = 18446744073709551616

abbrev pub ticket_of : Stage → m.Option ℕ
ticket_of Idle = m.none
ticket_of (Waits t) = m.some t
ticket_of (Holds t) = m.some t
ticket_of (Left t) = m.some t

-- how many tickets a view holds
abbrev pub weight : Stage → ℕ
weight Idle = 0
weight (Waits t) = 1
weight (Holds t) = 1
weight (Left t) = 1

abbrev pub IsHolding : Stage → Type 0
IsHolding Idle = ⊥
IsHolding (Waits t) = ⊥
IsHolding (Holds t) = Unit {0}
IsHolding (Left t) = ⊥

-- the ticket is one of those from `now` on, and a seat that is served has `now`
abbrev pub Stands : ℕ → ℕ → Stage → Type 0
Stands now count Idle = Unit {0}
Stands now count (Waits t) = (k : ℕ) × (k < count) × (t ≡ (now + k) % ring)
Stands now count (Holds t) = (0 < count) × (t ≡ now)
Stands now count (Left t) = (0 < count) × (t ≡ now)

-- the view at index j
abbrev pub At : {V : Type 0} → List V → ℕ → V → Type 0
At views j v = get_elem? views j ≡ m.some v

abbrev pub nothing_known : {E : Type 0} → Known E
nothing_known = record { names = []; seen = [] }

module _ {E F : Type 0} where
  abbrev pub staged : View E F → Stage → View E F
  staged v st = record v { stage = st }

  -- the seat is served, and has seen the history that it found
  abbrev pub held : View E F → ℕ → List E → View E F
  held v t h = record v { stage = Holds t; seen = h }

  -- the state is back, and the seat has seen the history that it left
  abbrev pub left : View E F → ℕ → List E → View E F
  left v t h = record v { stage = Left t; seen = h; mine = nothing_known; theirs = nothing_known }

  abbrev pub root_view : F → View E F
  root_view f = record { stage = Idle; seat = 0; names = 0 ∷ []; seen = []; frame = Some f; made = 0; away = []; mine = nothing_known; theirs = nothing_known }

  -- how many views hold a ticket
  abbrev pub holders : List (View E F) → ℕ
  holders [] = 0
  holders (v ∷ vs) = weight v.stage + holders vs

  -- the tickets are those from `now` on, each once
  pub record Line (now count : ℕ) (views : List (View E F)) : Type 0 where
    pub small : now < ring
    pub few : length views ≤ 4294967296
    pub counted : count ≡ holders views
    pub stands : (j : ℕ) (v : View E F) → At views j v → Stands now count v.stage
    pub apart : (i j t : ℕ) (v w : View E F) → At views i v → At views j w → ticket_of v.stage ≡ m.some t → ticket_of w.stage ≡ m.some t → i ≡ j

  abbrev pub NoneHolds : List (View E F) → Type 0
  NoneHolds views = (j : ℕ) (v : View E F) → At views j v → ¬ IsHolding v.stage

  -- what the view at index j has seen: the history begins with it, and what came since was made by others
  pub record Knows (maker : E → ℕ) (fr : F) (log : List E) (j : ℕ) (v : View E F) : Type 0 where
    pub sees : GrowsByOthers maker v.names v.seen log
    pub framed : (f : F) → v.frame ≡ Some f → (f ≡ fr) × (v.seat ≡ j)
    pub whole : IsHolding v.stage → log ≡ v.seen
    pub live : IsHolding v.stage → IsSome v.frame
    pub mine : GrowsByOthers maker v.mine.names v.mine.seen log
    pub theirs : GrowsByOthers maker v.theirs.names v.theirs.seen log
    pub mine_within : (n : ℕ) → Contains v.mine.names n → Contains v.names n
    pub theirs_within : (n : ℕ) → Contains v.theirs.names n → Contains v.names n

  -- the root's view: how many seats were made, and which are out
  pub record Rooted (views : List (View E F)) (v : View E F) : Type 0 where
    pub made : v.made + 1 ≡ length views
    pub shared : length v.names + length v.away ≡ length views
    pub each : (n : ℕ) → n < length views → Contains v.names n ⊎ Contains v.away n
    pub out : (j : ℕ) (u : View E F) → At views j u → 0 < j → IsSome u.frame → Contains v.away j

  -- each name is of one view
  pub record Ranks (views : List (View E F)) : Type 0 where
    pub alone : (i j n : ℕ) (v w : View E F) → At views i v → At views j w → Contains v.names n → Contains w.names n → i ≡ j
    pub below : (j n : ℕ) (v : View E F) → At views j v → Contains v.names n → n < length views
    pub rooted : (v : View E F) → At views 0 v → Rooted views v

-- the slot has the state, or the state is out with the one seat that holds it
abbrev pub Lies : {E F S : Type 0} → (S → List E) → (S → F) → F → List (View E F) → List E → List (m.Option (Option S)) → Type 0
Lies history frame fr views log [] = ⊥
Lies {E} {F} history frame fr views log (m.none ∷ []) = (j : ℕ) × (v : View E F) × At views j v × IsHolding v.stage
Lies history frame fr views log (m.some None ∷ []) = ⊥
Lies history frame fr views log (m.some (Some x) ∷ []) = NoneHolds views × (history x ≡ log) × (frame x ≡ fr)
Lies history frame fr views log (h ∷ i ∷ hs) = ⊥

-- `log` is the history that the served seat found, up to its tally, and the one that it leaves from there on
pub record Turns {E F S : Type 0} (history : S → List E) (frame : S → F) (maker : E → ℕ) (fr : F) (s : State (Option S) (View E F)) : Type 0 where
  pub now : ℕ
  pub count : ℕ
  pub log : List E
  pub words : s.words ≡ (now + count) % ring ∷ now ∷ length log ∷ []
  pub line : Line now count s.views
  pub lies : Lies history frame fr s.views log s.homes
  pub knows : (j : ℕ) (v : View E F) → At s.views j v → Knows maker fr log j v
  pub ranks : Ranks s.views
  pub below : All (λ e. maker e < length s.views) log
