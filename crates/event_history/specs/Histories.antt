-- What a history says of batches. It is read as its past: the newest entry first, so that what stands behind an entry is
-- the history before it.
use Rattle.std.specs.Prelude.{ℕ, zero, suc, ◌+◌, ◌*◌, Bool, true, false, ◌&&◌, ◌||◌, ◌==◌, if◌then◌else◌, List, [], ◌∷◌, ◌++◌, length, reverse, map, take, sum_by}
use Rattle.event_batch.specs.Contents.{Content, Spelled}
use Rattle.event_history.specs.declared.entry.Deed.{Deed}
use Rattle.event_history.specs.declared.entry.Deed.TheVariants.{Accept, Claim, Unclaim, Index, Seal}
use Rattle.event_history.specs.declared.entry.Entry.{Entry}
use Rattle.event_history.specs.Events.{Event, events_in}

abbrev pub past : List Entry → List Entry
past history = reverse history

abbrev pub with_accepted : Deed → List Spelled → List Spelled
with_accepted (Accept packed) batches = batches ++ packed ∷ []
with_accepted _ batches = batches

-- the accepted batches, in order
abbrev pub accepted : List Entry → List Spelled
accepted [] = []
accepted (e ∷ before) = with_accepted e.deed (accepted before)

abbrev pub batches_after : Deed → ℕ → ℕ
batches_after (Accept packed) n = n + 1
batches_after _ n = n

-- how many batches were accepted
abbrev pub batch_count : List Entry → ℕ
batch_count [] = 0
batch_count (e ∷ before) = batches_after e.deed (batch_count before)

abbrev pub events_after : Deed → ℕ → ℕ
events_after (Accept packed) n = n + length packed.content.rows
events_after _ n = n

-- how many events were accepted
abbrev pub event_count : List Entry → ℕ
event_count [] = 0
event_count (e ∷ before) = events_after e.deed (event_count before)

abbrev pub content : Spelled → Content
content packed = packed.content

-- the events, in order: an event's id is its place
abbrev pub events : List Entry → List Event
events before = events_in (map content (accepted before))

abbrev pub row_count : Spelled → ℕ
row_count packed = length packed.content.rows

-- how many events stand before a batch: the id of its first one
abbrev pub first_of : ℕ → List Entry → ℕ
first_of b before = sum_by row_count (take b (accepted before))

abbrev pub indexes : ℕ → Deed → Bool
indexes b (Index c) = c == b
indexes b _ = false

-- the batch's index was published
abbrev pub is_indexed : ℕ → List Entry → Bool
is_indexed b [] = false
is_indexed b (e ∷ before) = indexes b e.deed || is_indexed b before

abbrev pub mark_after : ℕ → Deed → Bool → Bool
mark_after b (Claim c) marked = if c == b then true else marked
mark_after b (Unclaim c) marked = if c == b then false else marked
mark_after b _ marked = marked

-- the last claim or return of the batch is a claim
abbrev pub is_marked : ℕ → List Entry → Bool
is_marked b [] = false
is_marked b (e ∷ before) = mark_after b e.deed (is_marked b before)

abbrev pub seals : ℕ → Deed → Bool
seals k (Seal g) = g == k
seals k _ = false

-- the group's merged index was published
abbrev pub is_sealed : ℕ → List Entry → Bool
is_sealed k [] = false
is_sealed k (e ∷ before) = seals k e.deed || is_sealed k before

abbrev pub all_below : (ℕ → Bool) → ℕ → Bool
all_below test zero = true
all_below test (suc n) = all_below test n && test n

-- all batches of a group are indexed: group k has the batches from k * size on, `size` of them
abbrev pub is_full : ℕ → ℕ → List Entry → Bool
is_full size k before = all_below (λ i. is_indexed (k * size + i) before) size
