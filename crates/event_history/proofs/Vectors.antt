-- Values that the definitions have on one history, computed by the prover. Each is false where its definition is wrong.
use Rattle.std.proofs.Common.{◌≡◌, ℕ, Bool, true, false, List, [], ◌∷◌, None, Some, codes, map, flat_map, take, refl, nat_eq, lit≤, lit<}
use Rattle.vast_value.specs.declared.kind.Elem.TheVariants as elem
use Rattle.vast_value.specs.declared.kind.Kind.TheVariants as kind
use Rattle.vast_value.specs.declared.value.Value.TheVariants as value
use Rattle.vast_value.specs.declared.cell.Cell.{Cell}
use Rattle.vast_value.specs.declared.cell.Cell.TheVariants as cell
use Rattle.vast_value.specs.Headings.{Heading}
use Rattle.query_meaning.specs.declared.expr.Expr.{Expr, roll-Expr}
use Rattle.query_meaning.specs.declared.expr.Expr.TheOpen as level
use Rattle.query_meaning.specs.declared.expr.Expr.TheFolds.{fold-roll-Expr}
use Rattle.query_meaning.specs.declared.expr.Pick.TheVariants.{Named}
use Rattle.query_meaning.specs.declared.expr.Rel.TheVariants.{Eq}
use Rattle.query_meaning.specs.declared.expr.Literal.TheVariants.{Of}
use Rattle.query_meaning.specs.declared.expr.Test.{Test}
use Rattle.query_meaning.specs.Meaning.{level_holds}
use Rattle.event_batch.specs.declared.format.Format.TheVariants.{Second}
use Rattle.event_batch.specs.Contents.{Spelled}
use Rattle.event_history.specs.declared.entry.Deed.{Deed}
use Rattle.event_history.specs.declared.entry.Deed.TheVariants.{Accept, Claim, Unclaim, Index, Seal, Register, Take, Leave}
use Rattle.event_history.specs.declared.entry.Entry.{Entry}
use Rattle.event_history.specs.declared.entry.Limits.{Limits}
use Rattle.event_history.specs.declared.entry.Mode.{Mode}
use Rattle.event_history.specs.declared.entry.Mode.TheVariants.{Past, Coming, Both, Since}
use Rattle.event_history.specs.Choices.{again_of, holds_up, is_free, is_waiting, least, next_claim, next_group, reaches, some_if, stop_at, taking_at}
use Rattle.event_history.specs.Delivered.{delivered, is_below, told_after, told_between}
use Rattle.event_history.specs.Events.{Event, answer, chosen, event_of, events_in, events_of, is_within, matches, numbered, ranged}
use Rattle.event_history.specs.Histories.{accepted, all_below, batch_count, batches_after, content, event_count, events, events_after, first_of, indexes, is_full, is_indexed, is_marked, is_sealed, mark_after, past, row_count, seals, with_accepted}
use Rattle.event_history.specs.Laws.{is_due, told_as}
use Rattle.event_history.specs.Legal.{Legal}
use Rattle.event_history.specs.Pieces.{AreAdjacent, Held, Piece, batch_answer, group_parts, group_piece, group_reaches, held_at, held_in, held_of, held_upto, joined, one_if, parts_of, parts_upto, piece_events, piece_in, reached}
use Rattle.event_history.specs.Modes.{live_end, past_begin}
use Rattle.event_history.specs.Queries.{has_left, leaves, position, position_after, queries_after, query_count, registration, registration_after}
use Rattle.event_history.specs.Steps.{Reply, Step, claim_of, claim_step, does, group_pieces, group_reply, replies, step, take_step, taken_step}
use Rattle.event_history.specs.Steps as s

abbrev heading : Heading
heading = record { path = codes "t"; fields = record { name = codes "n"; kind = kind.One elem.Count } ∷ [] }

abbrev row : ℕ → List Cell
row n = cell.One (value.Count n) ∷ []

-- an event whose `n` is this number
abbrev event : ℕ → Event
event n = event_of heading (row n)

abbrev batch : List (List Cell) → Spelled
batch rows = record { format = Second; content = record { source = 1; heading = heading; rows = rows } }

-- three events, two, and one
abbrev first_batch : Spelled
first_batch = batch (row 1 ∷ row 2 ∷ row 1 ∷ [])

abbrev second_batch : Spelled
second_batch = batch (row 1 ∷ row 3 ∷ [])

abbrev third_batch : Spelled
third_batch = batch (row 1 ∷ [])

-- n == 1
abbrev test : Test
test = record { pick = Named (codes "n"); rel = Eq; literal = Of (value.Count 1) }

abbrev ones : Expr
ones = roll-Expr (level.Test test)

abbrev did : ℕ → Deed → Entry
did seat deed = record { seat = seat; deed = deed }

abbrev limits : Limits
limits = record { rows = 6; queries = 2; group = 2; inbox = 1 }

-- Query 1 is registered between the batches, and takes before its past part is indexed and afterwards. Query 2 is told
-- of events since 1, and leaves.
abbrev history : List Entry
history =
    did 0 (Accept first_batch)
    ∷ did 1 (Register 1 Both ones)
    ∷ did 1 (Take 1 0 3)
    ∷ did 0 (Accept second_batch)
    ∷ did 2 (Claim 0)
    ∷ did 2 (Index 0)
    ∷ did 1 (Take 1 3 5)
    ∷ did 0 (Register 2 (Since 1) ones)
    ∷ did 2 (Claim 1)
    ∷ did 2 (Unclaim 1)
    ∷ did 2 (Index 1)
    ∷ did 0 (Seal 0)
    ∷ did 0 (Take 2 5 5)
    ∷ did 0 (Accept third_batch)
    ∷ did 0 (Leave 2)
    ∷ []

-- the past when so many entries were made
abbrev at : ℕ → List Entry
at n = past (take n history)

newest_first : past (did 0 (Index 0) ∷ did 1 (Index 1) ∷ []) ≡ did 1 (Index 1) ∷ did 0 (Index 0) ∷ []
newest_first = refl

-- Events.
numbered_from : numbered 7 (event 1 ∷ event 2 ∷ []) ≡ (7, event 1) ∷ (8, event 2) ∷ []
numbered_from = refl

of_range : ranged 1 3 (events (at 15)) ≡ (1, event 2) ∷ (2, event 1) ∷ []
of_range = refl

of_batches : events_in (content first_batch ∷ content second_batch ∷ []) ≡ event 1 ∷ event 2 ∷ event 1 ∷ event 1 ∷ event 3 ∷ []
of_batches = refl

of_batch : events_of (content second_batch) ≡ event 1 ∷ event 3 ∷ []
of_batch = refl

range_bounds : map (λ (id : ℕ). is_within 2 4 (id, event 1)) (1 ∷ 2 ∷ 3 ∷ 4 ∷ []) ≡ false ∷ true ∷ true ∷ false ∷ []
range_bounds = refl

matches_one : matches ones (event 1) ≡ true
unfolding matches
matches_one = fold-roll-Expr Bool (level_holds heading (row 1)) (level.Test test)

matches_not_two : matches ones (event 2) ≡ false
unfolding matches
matches_not_two = fold-roll-Expr Bool (level_holds heading (row 2)) (level.Test test)

matches_not_three : matches ones (event 3) ≡ false
unfolding matches
matches_not_three = fold-roll-Expr Bool (level_holds heading (row 3)) (level.Test test)

answers : answer ones (events (at 15)) 1 5 ≡ (2, event 1) ∷ (3, event 1) ∷ []
answers = simp (matches_one, matches_not_two, matches_not_three)

chosen_of : chosen (λ x. true) 4 6 (events (at 15)) ≡ (4, event 3) ∷ (5, event 1) ∷ []
chosen_of = refl

-- Batches.
accepted_are : accepted (at 15) ≡ first_batch ∷ second_batch ∷ third_batch ∷ []
accepted_are = refl

counts : flat_map (λ (n : ℕ). batch_count (at n) ∷ event_count (at n) ∷ []) (0 ∷ 1 ∷ 3 ∷ 4 ∷ 15 ∷ []) ≡ 0 ∷ 0 ∷ 1 ∷ 3 ∷ 1 ∷ 3 ∷ 2 ∷ 5 ∷ 3 ∷ 6 ∷ []
counts = refl

firsts : map (λ (b : ℕ). first_of b (at 15)) (0 ∷ 1 ∷ 2 ∷ 3 ∷ 4 ∷ []) ≡ 0 ∷ 3 ∷ 5 ∷ 6 ∷ 6 ∷ []
firsts = refl

row_counts : row_count second_batch ≡ 2
row_counts = refl

after_accept : batches_after (Accept third_batch) 2 ∷ events_after (Accept third_batch) 5 ∷ [] ≡ 3 ∷ 6 ∷ []
after_accept = refl

accepted_last : with_accepted (Accept third_batch) (first_batch ∷ []) ≡ first_batch ∷ third_batch ∷ []
accepted_last = refl

indexed : flat_map (λ (n : ℕ). is_indexed 0 (at n) ∷ is_indexed 1 (at n) ∷ []) (5 ∷ 6 ∷ 10 ∷ 11 ∷ []) ≡ false ∷ false ∷ true ∷ false ∷ true ∷ false ∷ true ∷ true ∷ []
indexed = refl

indexes_its_own : indexes 1 (Index 1) ∷ indexes 1 (Index 0) ∷ indexes 1 (Claim 1) ∷ []
    ≡ true ∷ false ∷ false ∷ []
indexes_its_own = refl

marked : flat_map (λ (n : ℕ). is_marked 0 (at n) ∷ is_marked 1 (at n) ∷ []) (4 ∷ 5 ∷ 9 ∷ 10 ∷ []) ≡ false ∷ false ∷ true ∷ false ∷ true ∷ true ∷ true ∷ false ∷ []
marked = refl

marks : mark_after 1 (Claim 1) false ∷ mark_after 1 (Claim 0) false ∷ mark_after 1 (Unclaim 1) true ∷ mark_after 1 (Unclaim 0) true ∷ mark_after 1 (Index 1) true ∷ []
    ≡ true ∷ false ∷ false ∷ true ∷ true ∷ []
marks = refl

sealed : flat_map (λ (n : ℕ). is_sealed 0 (at n) ∷ is_sealed 1 (at n) ∷ []) (11 ∷ 12 ∷ []) ≡ false ∷ false ∷ true ∷ false ∷ []
sealed = refl

seals_its_own : seals 1 (Seal 1) ∷ seals 1 (Seal 0) ∷ seals 1 (Index 1) ∷ []
    ≡ true ∷ false ∷ false ∷ []
seals_its_own = refl

full : is_full 2 0 (at 10) ∷ is_full 2 0 (at 11) ∷ is_full 2 1 (at 15) ∷ is_full 1 1 (at 11) ∷ []
    ≡ false ∷ true ∷ false ∷ true ∷ []
full = refl

below : all_below (nat_eq 0) 1 ∷ all_below (nat_eq 0) 2 ∷ all_below (nat_eq 5) 0 ∷ []
    ≡ true ∷ false ∷ true ∷ []
below = refl

-- Queries.
registered : registration 1 (at 15) ∷ registration 2 (at 15) ∷ registration 3 (at 15) ∷ registration 2 (at 7) ∷ []
    ≡ Some (record { mode = Both; expr = ones; from = 3 }) ∷ Some (record { mode = Since 1; expr = ones; from = 5 }) ∷ None ∷ None ∷ []
registered = refl

registers_its_own : registration_after 2 (Register 2 Past ones) 4 None ∷ registration_after 1 (Register 2 Past ones) 4 None ∷ []
    ≡ Some (record { mode = Past; expr = ones; from = 4 }) ∷ None ∷ []
registers_its_own = refl

query_counts : query_count (at 1) ∷ query_count (at 2) ∷ query_count (at 15) ∷ queries_after (Leave 1) 2 ∷ []
    ≡ 0 ∷ 1 ∷ 2 ∷ 2 ∷ []
query_counts = refl

begins : map (λ (mode : Mode). past_begin mode 5) (Past ∷ Coming ∷ Both ∷ Since 2 ∷ []) ≡ 0 ∷ 5 ∷ 0 ∷ 2 ∷ []
begins = refl

ends : map (λ (mode : Mode). live_end mode 5 9) (Past ∷ Coming ∷ Both ∷ Since 2 ∷ []) ≡ 5 ∷ 9 ∷ 9 ∷ 9 ∷ []
ends = refl

positions : map (λ (n : ℕ). position 1 (at n)) (2 ∷ 3 ∷ 6 ∷ 7 ∷ 15 ∷ []) ≡ (0, 3) ∷ (0, 3) ∷ (0, 3) ∷ (3, 5) ∷ (3, 5) ∷ []
positions = refl

since_position : position 2 (at 8) ∷ position 2 (at 13) ∷ []
    ≡ (1, 5) ∷ (5, 5) ∷ []
since_position = refl

moves : position_after 1 (Take 1 2 7) 9 (0, 0) ∷ position_after 1 (Take 2 2 7) 9 (0, 0) ∷ position_after 1 (Register 1 Coming ones) 9 (0, 0) ∷ []
    ≡ (2, 7) ∷ (0, 0) ∷ (9, 9) ∷ []
moves = refl

left : has_left 2 (at 14) ∷ has_left 2 (at 15) ∷ has_left 1 (at 15) ∷ leaves 2 (Leave 2) ∷ leaves 2 (Leave 1) ∷ []
    ≡ false ∷ true ∷ false ∷ true ∷ false ∷ []
left = refl

-- Choices.
leasts : least (nat_eq 2) 5 ∷ least (nat_eq 2) 2 ∷ least (λ n. true) 3 ∷ some_if true 4 ∷ some_if false 4 ∷ []
    ≡ Some 2 ∷ None ∷ Some 0 ∷ Some 4 ∷ None ∷ []
leasts = refl

claims : map (λ (n : ℕ). next_claim (at n)) (0 ∷ 1 ∷ 5 ∷ 9 ∷ 10 ∷ 11 ∷ 15 ∷ []) ≡ None ∷ Some 0 ∷ Some 1 ∷ None ∷ Some 1 ∷ None ∷ Some 2 ∷ []
claims = refl

free : is_free (at 4) 0 ∷ is_free (at 5) 0 ∷ is_free (at 6) 0 ∷ []
    ≡ true ∷ false ∷ false ∷ []
free = refl

groups : map (λ (n : ℕ). next_group 2 (at n)) (10 ∷ 11 ∷ 12 ∷ []) ≡ None ∷ Some 0 ∷ None ∷ []
groups = refl

waiting : is_waiting 2 (at 11) 0 ∷ is_waiting 2 (at 12) 0 ∷ is_waiting 2 (at 15) 1 ∷ []
    ≡ true ∷ false ∷ false ∷ []
waiting = refl

reaching : map (λ (b : ℕ). reaches 2 5 (at 15) b) (0 ∷ 1 ∷ 2 ∷ 3 ∷ []) ≡ true ∷ true ∷ false ∷ false ∷ []
reaching = refl

reaching_none : reaches 3 3 (at 15) 1 ∷ reaches 3 5 (at 15) 0 ∷ reaches 5 6 (at 15) 2 ∷ []
    ≡ false ∷ false ∷ true ∷ []
reaching_none = refl

again : again_of 0 3 (at 5) ∷ again_of 0 3 (at 6) ∷ again_of 1 5 (at 8) ∷ again_of 1 6 (at 14) ∷ again_of 0 5 (at 14) ∷ []
    ≡ Some 0 ∷ None ∷ Some 1 ∷ Some 2 ∷ None ∷ []
again = refl

held_up : holds_up 0 3 (at 5) 0 ∷ holds_up 0 3 (at 6) 0 ∷ holds_up 0 3 (at 5) 1 ∷ []
    ≡ true ∷ false ∷ false ∷ []
held_up = refl

stops : stop_at 1 5 (at 15) None ∷ stop_at 1 5 (at 15) (Some 0) ∷ stop_at 1 5 (at 15) (Some 1) ∷ []
    ≡ 5 ∷ 1 ∷ 3 ∷ []
stops = refl

taking : taking_at (record { mode = Since 1; expr = ones; from = 5 }) (1, 5) (at 8) ≡ record { expr = ones; past_from = 1; past_to = 3; live_from = 5; live_to = 5; again = Some 1 }
taking = refl

-- Pieces.
abbrev whole : Spelled → ℕ → ℕ → Piece
whole packed b first = record { batch = b; first = first; contents = content packed ∷ [] }

abbrev pair : Piece
pair = record { batch = 0; first = 0; contents = content first_batch ∷ content second_batch ∷ [] }

pieces : piece_in (at 15) 1 ∷ group_piece 2 0 (at 15) ∷ piece_in (at 15) 9 ∷ [] ≡ whole second_batch 1 3 ∷ pair ∷ record { batch = 9; first = 6; contents = [] } ∷ []
pieces = refl

parts : parts_of 2 0 6 (at 11) ∷ parts_of 2 0 6 (at 15) ∷ parts_of 2 5 6 (at 15) ∷ parts_of 2 4 4 (at 15) ∷ []
    ≡ (whole first_batch 0 0 ∷ whole second_batch 1 3 ∷ []) ∷ (pair ∷ whole third_batch 2 5 ∷ []) ∷ (whole third_batch 2 5 ∷ []) ∷ [] ∷ []
parts = refl

parts_so_far : parts_upto 2 0 6 (at 15) 1 ∷ group_parts 2 3 4 (at 11) 0 ∷ reached 0 4 (at 15) 1 2 ∷ one_if true pair ∷ one_if false pair ∷ []
    ≡ (pair ∷ []) ∷ (whole second_batch 1 3 ∷ []) ∷ (whole second_batch 1 3 ∷ []) ∷ (pair ∷ []) ∷ [] ∷ []
parts_so_far = refl

joined_pieces : joined (whole first_batch 0 0 ∷ whole second_batch 1 3 ∷ []) ≡ pair
joined_pieces = refl

adjacent : AreAdjacent (whole first_batch 0 0 ∷ whole second_batch 1 3 ∷ whole third_batch 2 5 ∷ [])
adjacent = (refl, refl, (refl, refl, tt))

events_of_piece : piece_events pair ≡ event 1 ∷ event 2 ∷ event 1 ∷ event 1 ∷ event 3 ∷ []
events_of_piece = refl

group_reach : group_reaches 2 4 5 (at 15) 0 ∷ group_reaches 2 5 6 (at 15) 0 ∷ []
    ≡ true ∷ false ∷ []
group_reach = refl

abbrev held : Spelled → ℕ → ℕ → Held
held packed b first = record { no = b; first = first; packed = packed }

batches_held : held_of 2 4 (at 15) ∷ held_of 5 9 (at 15) ∷ held_upto 0 9 (at 15) 1 ∷ held_at true (at 15) 1 ∷ held_at false (at 15) 1 ∷ held_in (at 15) 1 None ∷ []
    ≡ (held first_batch 0 0 ∷ held second_batch 1 3 ∷ []) ∷ (held third_batch 2 5 ∷ []) ∷ (held first_batch 0 0 ∷ []) ∷ (held second_batch 1 3 ∷ []) ∷ [] ∷ [] ∷ []
batches_held = refl

answers_of_batch : batch_answer (matches ones) 1 4 (held first_batch 0 0) ≡ (2, event 1) ∷ []
answers_of_batch = simp (matches_one, matches_not_two, matches_not_three)

-- What the queries were told.
told : delivered 1 (at 2) ∷ delivered 1 (at 3) ∷ delivered 1 (at 15) ∷ []
    ≡ [] ∷ [] ∷ ((0, event 1) ∷ (2, event 1) ∷ (3, event 1) ∷ []) ∷ []
told = simp (matches_one, matches_not_two, matches_not_three)

told_since : delivered 2 (at 15) ≡ (2, event 1) ∷ (3, event 1) ∷ []
told_since = simp (matches_one, matches_not_two, matches_not_three)

told_twice_over : told_between (events (at 15)) (0, 5) (1, 6) (Some (record { mode = Both; expr = ones; from = 5 })) ≡ (0, event 1) ∷ (5, event 1) ∷ []
told_twice_over = simp matches_one

told_to_another : told_after 2 (Take 1 3 5) (at 6) [] ≡ []
told_to_another = refl

below_it : is_below 3 (2, event 1) ∷ is_below 3 (3, event 1) ∷ []
    ≡ true ∷ false ∷ []
below_it = refl

due : map (is_due (record { mode = Since 1; expr = ones; from = 5 }) (3, 7)) (0 ∷ 1 ∷ 2 ∷ 3 ∷ 4 ∷ 5 ∷ 6 ∷ 7 ∷ []) ≡ false ∷ true ∷ true ∷ false ∷ false ∷ true ∷ true ∷ false ∷ []
due = refl

told_by_id : told_as (λ x. true) 4 (Some (event 3)) ∷ told_as (λ x. false) 4 (Some (event 3)) ∷ told_as (λ x. true) 4 None ∷ []
    ≡ ((4, event 3) ∷ []) ∷ [] ∷ [] ∷ []
told_by_id = refl

-- The history is legal: each entry meets its rule.
is_legal : Legal limits (at 15)
is_legal = (
  (
    (
      (
        (
          (
            (
              (
                (
                  (
                    (
                      (
                        (
                          (
                            (
                              tt,
                              lit≤ tt,
                            ),
                            (refl, lit≤ tt, lit≤ tt),
                          ),
                          (refl, (refl, refl)),
                        ),
                        lit≤ tt,
                      ),
                      refl,
                    ),
                    (lit< tt, refl),
                  ),
                  (refl, (refl, refl)),
                ),
                (refl, lit≤ tt, lit≤ tt),
              ),
              refl,
            ),
            lit< tt,
          ),
          (lit< tt, refl),
        ),
        (refl, refl),
      ),
      (refl, (refl, refl)),
    ),
    lit≤ tt,
  ),
  (refl, refl),
)

-- Steps.
accepts : step limits (at 13) (s.Accept third_batch) ∷ step limits (at 15) (s.Accept third_batch) ∷ []
    ≡ does (s.Accepted 2 5) (Accept third_batch) ∷ replies (s.Full 6 6) ∷ []
accepts = refl

claim_steps : step limits (at 4) s.Claim ∷ step limits (at 11) s.Claim ∷ step limits (at 15) (s.ClaimFor 1) ∷ step limits (at 15) (s.Unclaim 1) ∷ []
    ≡ does (s.Claimed 0 0 first_batch) (Claim 0) ∷ replies s.NoneFree ∷ replies (s.Claimed 1 3 second_batch) ∷ does s.Done (Unclaim 1) ∷ []
claim_steps = refl

publishes : step limits (at 5) (s.Publish 0) ∷ step limits (at 6) (s.Publish 0) ∷ []
    ≡ does s.Done (Index 0) ∷ replies (s.Already 0) ∷ []
publishes = refl

group_steps : step limits (at 11) s.ClaimGroup ∷ step limits (at 12) s.ClaimGroup ∷ step limits (at 11) (s.PublishGroup 0) ∷ step limits (at 12) (s.PublishGroup 0) ∷ []
    ≡ replies (s.GroupClaimed 0 (whole first_batch 0 0 ∷ whole second_batch 1 3 ∷ [])) ∷ replies s.NoGroup ∷ does s.Done (Seal 0) ∷ replies (s.AlreadySealed 0) ∷ []
group_steps = refl

registrations : step limits (at 1) (s.Register Both ones) ∷ step limits (at 7) (s.Register (Since 6) ones) ∷ step limits (at 7) (s.Register (Since 5) ones) ∷ step limits (at 8) (s.Register (Since 6) ones) ∷ []
    ≡ does (s.Registered 1 3 Both) (Register 1 Both ones) ∷ replies (s.Ahead 6 5) ∷ does (s.Registered 2 5 (Since 5)) (Register 2 (Since 5) ones) ∷ replies (s.TooMany 2) ∷ []
registrations = refl

takes : step limits (at 12) (s.Take 2)
    ≡ does (s.Taken (record { expr = ones; past_from = 1; past_to = 5; live_from = 5; live_to = 5; again = None }) (pair ∷ []) (held first_batch 0 0 ∷ held second_batch 1 3 ∷ []) [])
    (Take 2 5 5)
takes = refl

live_takes : step limits (at 4) (s.Take 1)
    ≡ does (s.Taken (record { expr = ones; past_from = 0; past_to = 0; live_from = 3; live_to = 5; again = Some 0 }) [] [] (held second_batch 1 3 ∷ []))
    (Take 1 0 5)
live_takes = refl

leavings : step limits (at 14) (s.Leave 2) ∷ step limits (at 15) (s.Leave 2) ∷ step limits (at 15) (s.Take 2) ∷ step limits (at 15) (s.Leave 1) ∷ []
    ≡ does s.Done (Leave 2) ∷ replies (s.Left 2) ∷ replies (s.Left 2) ∷ does s.Done (Leave 1) ∷ []
leavings = refl
