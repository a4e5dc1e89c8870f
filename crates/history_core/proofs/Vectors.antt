-- Values that the definitions have on one history, computed by the prover. Each is false where its definition is wrong.
use Rattle.std.proofs.Common.{◌≡◌, ℕ, true, false, List, [], ◌∷◌, None, Some, codes, map, refl}
use Rattle.vast_value.specs.declared.cell.Cell.{Cell}
use Rattle.vast_value.specs.Headings.{Heading}
use Rattle.query_meaning.specs.declared.expr.Expr.{Expr}
use Rattle.event_batch.specs.declared.format.Format.TheVariants.{Second}
use Rattle.event_batch.specs.Contents.{Spelled}
use Rattle.event_history.specs.declared.entry.Deed.{Deed}
use Rattle.event_history.specs.declared.entry.Deed.TheVariants.{Accept, Register, Take}
use Rattle.event_history.specs.declared.entry.Entry.{Entry}
use Rattle.event_history.specs.declared.entry.Mode.TheVariants.{Past, Both}
use Rattle.event_history.specs.Histories.{accepted, batch_count, batches_after, event_count, events_after, first_of, row_count, with_accepted}
use Rattle.event_history.specs.Modes.{live_end, past_begin}
use Rattle.event_history.specs.Pieces.{Held}
use Rattle.event_history.specs.Queries.{position, position_after, queries_after, query_count, registration, registration_after}
use Rattle.history_core.specs.Replies.{is_registered}
use Rattle.history_core.specs.Snapshots.{packed_of}
use Rattle.history_core.specs.Waiting.{batches_from, count_upto, waiting_for, waiting_in}

abbrev heading : Heading
heading = record { path = codes "t"; fields = [] }

abbrev batch : List (List Cell) → Spelled
batch rows = record { format = Second; content = record { source = 1; heading = heading; rows = rows } }

-- three events, one, and two
abbrev first_batch : Spelled
first_batch = batch ([] ∷ [] ∷ [] ∷ [])

abbrev second_batch : Spelled
second_batch = batch ([] ∷ [])

abbrev third_batch : Spelled
third_batch = batch ([] ∷ [] ∷ [])

abbrev did : Deed → Entry
did deed = record { seat = 0; deed = deed }

module _ (expr : Expr) where
  -- Query 1 takes after the first batch, and two more come. Query 2 has no live part.
  abbrev before : List Entry
  before =
      did (Accept third_batch) ∷ did (Accept second_batch) ∷ did (Take 1 0 3) ∷ did (Register 2 Past expr) ∷ did (Register 1 Both expr)
      ∷ did (Accept first_batch) ∷ []

  two_came : batches_from 3 before ≡ 2
  two_came = refl

  room_for_two : waiting_in 2 before 1 (registration 1 before) ≡ Some 2
  room_for_two = refl

  no_room_in_one : waiting_in 1 before 1 (registration 1 before) ≡ None
  no_room_in_one = refl

  none_for_the_past : waiting_in 1 before 2 (registration 2 before) ≡ Some 0
  none_for_the_past = refl

  two_are_registered : map (is_registered before) (0 ∷ 1 ∷ 2 ∷ 3 ∷ []) ≡ false ∷ true ∷ true ∷ false ∷ []
  two_are_registered = refl

-- batches by their numbers
abbrev held : List Held
held = record { no = 4; first = 9; packed = first_batch } ∷ record { no = 5; first = 12; packed = second_batch } ∷ []

by_number : map (λ (b : ℕ). packed_of b held) (3 ∷ 4 ∷ 5 ∷ 9 ∷ []) ≡ None ∷ Some first_batch ∷ Some second_batch ∷ None ∷ []
by_number = refl
