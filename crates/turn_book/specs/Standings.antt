-- What contracts see of a root and of a pass, and what a turn does.
use Rattle.std.specs.Prelude.{◌≡◌, ℕ, List, [], ◌∷◌, ◌++◌, length, All, Option, Some}
use Rattle.atomic_table.specs.Seated.{TableId}
use Rattle.turn_book.specs.declared.view.View.{View}
use Rattle.turn_book.specs.Histories.{Outside, own_of}

-- which book it is
abbrev pub BookId : Type 0
BookId = TableId

-- The seat's number, the seats whose entries are its own, the history that it has seen, and the frame of its book.
-- Of the root also how many seats were made, and how many of them are out.
pub record Standing (E F : Type 0) : Type 0 where
  pub seat : ℕ
  pub names : List ℕ
  pub seen : List E
  pub frame : Option F
  pub made : ℕ
  pub out : ℕ

module _ {E F : Type 0} where
  -- how the root of a new book stands
  abbrev pub first_standing : F → Standing E F
  first_standing f = record { seat = 0; names = 0 ∷ []; seen = []; frame = Some f; made = 0; out = 0 }

  -- a pass with a new seat, which has seen this
  abbrev pub new_standing : ℕ → List E → Option F → Standing E F
  new_standing seat seen frame = record { seat = seat; names = seat ∷ []; seen = seen; frame = frame; made = 0; out = 0 }

  abbrev pub standing_of : View E F → Standing E F
  standing_of v = record { seat = v.seat; names = v.names; seen = v.seen; frame = v.frame; made = v.made; out = length v.away }

-- the move's need holds of the frame and of what was seen
abbrev pub NeedHolds : {E F M : Type 0} → (M → F → List E → Type 0) → M → Standing E F → Type 0
NeedHolds {E} {F} needs step s = (f : F) → s.frame ≡ Some f → needs step f s.seen

-- What a turn has done. The state that it found had the history `found`, which begins with all that was seen and goes on with entries of others.
-- There the move's need held, and of these the move gave its answer and the new entries, each made by the pass's seat. They are all that came.
-- Then the pass has seen the history that it left, and nothing else of it has changed. Of its own entries just the new ones came.
pub record Turned {E F M A : Type 0} (maker : E → ℕ) (needs : M → F → List E → Type 0) (does : M → F → ℕ → List E → A → List E → Type 0) (step : M) (before after : Standing E F) (answer : A) : Type 0 where
  pub since : List E
  pub found : List E
  pub new : List E
  pub frame : F
  pub framed : before.frame ≡ Some frame
  pub begins : found ≡ before.seen ++ since
  pub others : Outside maker before.names since
  pub needed : needs step frame found
  pub did : does step frame before.seat found answer new
  pub own : All (λ e. maker e ≡ before.seat) new
  pub leaves : after ≡ record before { seen = found ++ new }
  pub mine : own_of maker before.names after.seen ≡ own_of maker before.names before.seen ++ new
