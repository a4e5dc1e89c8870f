-- What each step of the lock tells the seat that makes it.
use Rattle.std.specs.Prelude.{◌≡◌, ◌≢◌, ℕ, ◌+◌, ◌≤◌, ◌<◌, ◌==◌, List, [], ◌∷◌, ◌++◌, length, if◌then◌else◌, All, Contains, IsSome, Option, Some, None, slice_get}
use Rattle.atomic_table.specs.Table.{Step, Me}
use Rattle.turn_book.specs.declared.view.Stage.TheVariants.{Idle, Waits, Holds}
use Rattle.turn_book.specs.declared.view.View.{View}
use Rattle.turn_book.specs.Histories.{GrowsByOthers, longer}
use Rattle.turn_book.specs.Turns.{ring, staged, held, left, nothing_known}

-- a seat's view, and the slots that it holds
abbrev pub Mine : Type 0 → Type 0 → Type 0 → Type 0
Mine E F S = Me (Option S) (View E F)

module _ {E F S : Type 0} where
  abbrev pub drew : Step (Option S) → Mine E F S → ℕ → Mine E F S → Type 0
  drew st m r w = (w.0 ≡ staged m.0 (Waits r)) × (w.1 ≡ m.1)

  abbrev pub passed : Step (Option S) → Mine E F S → ℕ → Mine E F S → Type 0
  passed st m r w = (w.0 ≡ staged m.0 Idle) × (w.1 ≡ m.1)

  -- the state that was found: its history begins with what was seen, and what came since was made by others
  abbrev pub Found : (S → List E) → (S → F) → (E → ℕ) → View E F → S → Type 0
  Found history frame maker v x = GrowsByOthers maker v.names v.seen (history x) × ((f : F) → v.frame ≡ Some f → frame x ≡ f)

  abbrev pub looked : (S → List E) → (S → F) → (E → ℕ) → Step (Option S) → Mine E F S → ℕ → Mine E F S → Type 0
  looked history frame maker st m r w = (t : ℕ) → m.0.stage ≡ Waits t → (r ≢ t → w ≡ m) × (r ≡ t → (x : S) × Found history frame maker m.0 x × (w.0 ≡ held m.0 t (history x)) × (w.1 ≡ (0, Some x) ∷ m.1))

  abbrev pub tallied : (S → List E) → Step (Option S) → Mine E F S → ℕ → Mine E F S → Type 0
  tallied history st m r w = (t : ℕ) (x : S) → m.0.stage ≡ Holds t → m.1 ≡ (0, Some x) ∷ [] → (w.0 ≡ left m.0 t (history x)) × (w.1 ≡ [])

  -- the seat is served, and holds the state that it found
  abbrev pub Serves : (S → List E) → (S → F) → (E → ℕ) → ℕ → Mine E F S → Mine E F S → Type 0
  Serves history frame maker t m w = (x : S) × Found history frame maker m.0 x × (w ≡ (held m.0 t (history x), (0, Some x) ∷ m.1))

  -- what a seat needs to give a state back
  pub record Gives (history : S → List E) (frame : S → F) (maker : E → ℕ) (v : View E F) (x : S) (k : ℕ) : Type 0 where
    pub new : List E
    pub longer : history x ≡ v.seen ++ new
    pub own : All (λ e. maker e ≡ v.seat) new
    pub named : Contains v.names v.seat
    pub framed : v.frame ≡ Some (frame x)
    pub told : length v.seen + k ≡ length (history x)
    pub fits : length (history x) < ring

-- the list with one k less
abbrev pub without : ℕ → List ℕ → List ℕ
without k [] = []
without k (x ∷ xs) = if x == k then xs else (x ∷ without k xs)

module _ {E F : Type 0} where
  -- the root's view when it has made a further seat
  abbrev pub root_after : View E F → View E F
  root_after v = record v { made = v.made + 1; away = v.away ++ (v.made + 1) ∷ [] }

  -- a pass that has seen what the root has seen
  abbrev pub newcomer : View E F → View E F
  newcomer v = record { stage = Idle; seat = v.made + 1; names = (v.made + 1) ∷ []; seen = v.seen; frame = v.frame; made = 0; away = []; mine = nothing_known; theirs = nothing_known }

  -- the root's view when it has taken in a pass
  abbrev pub joined : View E F → View E F → View E F
  joined v w = record v { names = v.names ++ w.names; seen = longer v.seen w.seen; away = without w.seat v.away; mine = record { names = v.names; seen = v.seen }; theirs = record { names = w.names; seen = w.seen } }

abbrev pub spent : (E F : Type 0) → View E F
spent E F = record { stage = Idle; seat = 0; names = []; seen = []; frame = None; made = 0; away = []; mine = nothing_known; theirs = nothing_known }

-- the view after a turn, which has seen this history
abbrev pub rested : {E F : Type 0} → View E F → List E → View E F
rested v h = record v { stage = Idle; seen = h; mine = nothing_known; theirs = nothing_known }

-- what the root learns of its own view by a look
pub record Learnt {E F : Type 0} (maker : E → ℕ) (v : View E F) : Type 0 where
  pub shared : length v.names + length v.away ≡ v.made + 1
  pub below : All (λ e. maker e < v.made + 1) v.seen
  pub mine : length v.mine.seen ≤ length v.seen → GrowsByOthers maker v.mine.names v.mine.seen v.seen
  pub theirs : length v.theirs.seen ≤ length v.seen → GrowsByOthers maker v.theirs.names v.theirs.seen v.seen

abbrev pub learnt : {E F S : Type 0} → (E → ℕ) → Step (Option S) → Mine E F S → ℕ → Mine E F S → Type 0
learnt maker st m r w = (w ≡ m) × Learnt maker m.0

-- the seat has this number, and is in no turn
pub record IsAtRest {E F S : Type 0} (number : ℕ) (m : Mine E F S) : Type 0 where
  pub idle : m.0.stage ≡ Idle
  pub empty : m.1 ≡ []
  pub seated : m.0.seat ≡ number
  pub named : slice_get m.0.names 0 ≡ Some number
  pub framed : IsSome m.0.frame
