-- How an import takes one step.
use Rattle.std.specs.Prelude.{◌≡◌, ℕ, ◌+◌, ◌<◌, ◌≤◌, Bool, true, false, List, [], ◌∷◌, ◌++◌, Option, None, Some, IsSomeAnd, length}
use Rattle.std.specs.List.{list_all}
use Rattle.vast_value.specs.declared.cell.Cell.{Cell}
use Rattle.vast_value.specs.Headings.{Heading, fits_fields, heading_of}
use Rattle.event_batch.specs.Sizes.{rows_fit}
use Rattle.importer.specs.declared.ends.ImportEnd.{ImportEnd}
use Rattle.importer.specs.declared.import.Turn.{Turn}
use Rattle.importer.specs.declared.import.Turn.TheVariants as turn
use Rattle.importer.specs.Coming.{Importing, Standing, Ended, Goes, IsLost, batches_behind, batches_to_come, steps_left}
use Rattle.importer.specs.Cutting.{batch_of, bounds_of, cell_bytes_of, is_full, most_cell_bytes, pieces_since}
use Rattle.importer.specs.Ending.{ahead}

-- These are the rows since the last cut, whatever rows follow.
abbrev pub AreSince : (List (List Cell) → Bool) → List (List Cell) → Type 0
AreSince full held = (more : List (List Cell)) → pieces_since full [] (held ++ more) ≡ pieces_since full held more

abbrev pub HeldFit : Option Heading → List (List Cell) → Type 0
HeldFit None held = held ≡ []
HeldFit (Some heading) held = list_all (fits_fields heading.fields) held ≡ true

-- rows of a batch that isn't closed yet
pub record AreHeld (import : Importing) (held : List (List Cell)) : Type 0 where
  pub since : AreSince (is_full (bounds_of import.rows)) held
  pub below : length held < import.rows
  pub few : length (cell_bytes_of held) < most_cell_bytes
  pub fit : HeldFit import.heading held

-- what was to come with the rows held is what is to come now, behind the batch that was closed, if one was
abbrev pub TurnGoes : Turn → Importing → Importing → List (List Cell) → List (List Cell) → Option (List ℕ) → Option (List ℕ) → Type 0
TurnGoes turn.Goes old new held held_now before now =
    Goes old.standing new.standing (batches_behind old held) (batches_behind new held_now) (ahead []) before now
TurnGoes (turn.Closes layout) old new held held_now before now =
    Goes old.standing new.standing (batches_behind old held) (batches_to_come new) (ahead (batch_of old.number (heading_of layout) held_now ∷ [])) before now
TurnGoes (turn.Ends end) old new held held_now before now =
    Goes old.standing new.standing (batches_behind old held) (batches_to_come new) (ahead []) before now

-- the rows held, or those of a batch of this layout, or the end
abbrev pub TurnHolds : Turn → Importing → List (List Cell) → Type 0
TurnHolds turn.Goes new held = AreHeld new held
TurnHolds (turn.Closes layout) new held =
    (rows_fit layout held ≡ true) × (1 ≤ length held) × (length held ≤ new.rows) × ¬ IsLost new.standing
TurnHolds (turn.Ends end) new held = new.standing ≡ Ended end

-- a step was taken, so memory wasn't wanting
abbrev pub TurnGoing : Turn → Standing → Type 0
TurnGoing turn.Goes new = ¬ IsLost new
TurnGoing _ new = Unit {0}

abbrev pub TurnLess : Turn → Standing → Standing → List (List Cell) → List (List Cell) → Type 0
TurnLess turn.Goes old new held held_now = (length held_now + steps_left new ≤ length held + steps_left old) × (steps_left new < steps_left old)
TurnLess (turn.Closes layout) old new held held_now = steps_left new < length held + steps_left old
TurnLess (turn.Ends end) old new held held_now = Unit {0}

abbrev pub TurnStays : {V : Type 0} → Turn → Standing → V → V → List (List Cell) → Type 0
TurnStays result at old new held = (end : Option ImportEnd) → at ≡ Ended end → held ≡ [] → (result ≡ turn.Ends end) × (new ≡ old)

-- at a head the rows held are closed, if there are any
abbrev pub HeadTurn : Turn → Option Heading → List (List Cell) → Type 0
HeadTurn turn.Goes heading held = held ≡ []
HeadTurn (turn.Closes layout) heading held = (heading ≡ Some (heading_of layout)) × (held ≡ [] → ⊥)
HeadTurn (turn.Ends end) heading held = ⊥

-- behind a row the rows held are closed, if they are full
abbrev pub LineTurn : Turn → Option Heading → ℕ → List (List Cell) → Type 0
LineTurn turn.Goes heading rows held = is_full (bounds_of rows) held ≡ false
LineTurn (turn.Closes layout) heading rows held = (is_full (bounds_of rows) held ≡ true) × (heading ≡ Some (heading_of layout))
LineTurn (turn.Ends end) heading rows held = ⊥

abbrev pub IsMemory : Option ImportEnd → Type 0
IsMemory end = IsLost (Ended end)

-- at an end the rows held are closed, if there are any and memory isn't wanting
abbrev pub EndTurn : Turn → Option ImportEnd → Option Heading → List (List Cell) → Type 0
EndTurn turn.Goes end heading held = ⊥
EndTurn (turn.Closes layout) end heading held = (heading ≡ Some (heading_of layout)) × (held ≡ [] → ⊥) × ¬ IsMemory end
EndTurn (turn.Ends e) end heading held = (e ≡ end) × (¬ IsMemory end → held ≡ [])

-- rows are held only behind a head
abbrev pub HasLayout : Option Heading → List (List Cell) → Type 0
HasLayout None held = held ≡ []
HasLayout (Some heading) held = Unit {0}

-- the row fits the layout
abbrev pub RowFits : Option Heading → List Cell → Type 0
RowFits heading row = IsSomeAnd heading (λ h. fits_fields h.fields row ≡ true)
