-- The indexes of a group's batches follow each other.
use Rattle.std.proofs.Common.{◌≡◌, ℕ, zero, suc, ◌+◌, ◌*◌, ◌<◌, ◌≤◌, List, [], ◌∷◌, ◌++◌, length, map, flat_map, take, slice_get, refl, ap, sym, ◌∙◌, subst, arith}
use Rattle.std.specs.Option.{option_to_list}
use Rattle.std.proofs.lemmas.Grind.{flat_map-append}
use Rattle.std.proofs.lemmas.List.{length-append, length-map, take-map}
use Rattle.event_batch.specs.Contents.{Content}
use Rattle.event_history.specs.declared.entry.Entry.{Entry}
use Rattle.event_history.specs.Events.{events_in, events_of}
use Rattle.event_history.specs.Histories.{accepted, batch_count, content, first_of}
use Rattle.event_history.specs.Pieces.{AreAdjacent, Follow, Piece, piece_events, piece_in}
use Rattle.event_history.specs.Steps.{group_pieces}
use Rattle.event_history.proofs.SnapshotLemmas.{batches_counted, rows_before}
use Rattle.partition.specs.Merged.{all_events}
use Rattle.partition.proofs.MergeLemmas.{follow_more, pushed_flat}
use Rattle.history_core.proofs.GroupLemmas.{front_wider, pieces_counted}

one_there : {X : Type 0} (xs : List X) (b : ℕ) → b < length xs → length (option_to_list (slice_get xs b)) ≡ 1
one_there [] b h = absurd (omega (arith, h))
one_there (x ∷ xs) zero h = refl
one_there (x ∷ xs) (suc b) h = one_there xs b (omega (arith, h))

one_content : (before : List Entry) (b : ℕ) → b < batch_count before → length ((piece_in before b).contents) ≡ 1
one_content before b h =
    one_there (map content (accepted before)) b (omega (arith, h, length-map (accepted before) content, batches_counted before))

-- where a batch begins, by the events of those before it
begins : (before : List Entry) (b : ℕ) → first_of b before ≡ length (events_in (take b (map content (accepted before))))
begins before b =
    sym (rows_before (take b (accepted before)))
    ∙ ap (λ (xs : List Content). length (events_in xs)) (sym (take-map content b (accepted before)))

next_begins : (before : List Entry) (b : ℕ) → first_of (suc b) before ≡ first_of b before + length (piece_events (piece_in before b))
next_begins before b =
    begins before (suc b)
    ∙ ap (λ (xs : List Content). length (events_in xs)) (front_wider (map content (accepted before)) b)
    ∙ ap (λ (es : List _). length es) (flat_map-append events_of (take b (map content (accepted before))) (option_to_list (slice_get (map content (accepted before)) b)))
    ∙ length-append (events_in (take b (map content (accepted before)))) (piece_events (piece_in before b))
    ∙ ap (λ (n : ℕ). n + length (piece_events (piece_in before b))) (sym (begins before b))

batches_in : (before : List Entry) (b n : ℕ) → b + n ≤ batch_count before → length (flat_map (λ q. q.contents) (group_pieces before b n)) ≡ n
batches_in before b zero h = refl
batches_in before b (suc n) h =
    pushed_flat (λ q. q.contents) (group_pieces before b n) (piece_in before (b + n))
    ∙ omega (arith, batches_in before b n (omega (arith, h)), one_content before (b + n) (omega (arith, h)))

events_there : (before : List Entry) (b n : ℕ) → first_of (b + n) before ≡ first_of b before + length (all_events (group_pieces before b n))
events_there before b zero =
    let same : b + zero ≡ b = omega arith in
    let none : first_of b before ≡ first_of b before + 0 = omega arith in
    ap (λ (i : ℕ). first_of i before) same ∙ none
events_there before b (suc n) =
    let same : b + suc n ≡ suc (b + n) = omega arith in
    ap (λ (i : ℕ). first_of i before) same
    ∙ next_begins before (b + n)
    ∙ omega (arith, events_there before b n, pushed_flat piece_events (group_pieces before b n) (piece_in before (b + n)))

run_follows : (before : List Entry) (b n : ℕ) → b + n ≤ batch_count before → Follow b (first_of b before) (group_pieces before b n)
run_follows before b zero h = tt
run_follows before b (suc n) h =
    follow_more b (first_of b before) (group_pieces before b n) (piece_in before (b + n)) (run_follows before b n (omega (arith, h)))
    (ap (λ (i : ℕ). b + i) (sym (batches_in before b n (omega (arith, h)))))
    (events_there before b n)

adjacent_by : (batch first : ℕ) (ps : List Piece) → Follow batch first ps → AreAdjacent ps
adjacent_by batch first [] f = tt
adjacent_by batch first (q ∷ qs) f =
    subst (λ (n : ℕ). Follow n (q.first + length (piece_events q)) qs) (ap (λ (n : ℕ). n + length q.contents) (sym f.0))
    (subst (λ (n : ℕ). Follow (batch + length q.contents) n qs) (ap (λ (n : ℕ). n + length (piece_events q)) (sym f.1)) f.2)

pub group_adjacent : (before : List Entry) (b n : ℕ) → b + n ≤ batch_count before → AreAdjacent (group_pieces before b n)
group_adjacent before b n h = adjacent_by b (first_of b before) (group_pieces before b n) (run_follows before b n h)
