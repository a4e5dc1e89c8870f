-- Small histories, and what is said of them.
use Rattle.std.proofs.Common.{◌≡◌, ℕ, true, false, List, [], ◌∷◌, refl}
use Rattle.event_batch.specs.Contents.{Content}
use Rattle.event_history.specs.declared.entry.Deed.{Deed}
use Rattle.event_history.specs.declared.entry.Deed.TheVariants as deed
use Rattle.event_history.specs.declared.entry.Entry.{Entry}
use Rattle.worker_pool.specs.Feeding as f
use Rattle.worker_pool.specs.Feeding.{contents_of, rows_fed}
use Rattle.worker_pool.specs.Paging.{Told, pages_by}
use Rattle.worker_pool.specs.Takes.{is_take}

abbrev one : ℕ → Deed → Entry
one seat d = record { seat = seat; deed = d }

-- query 7 was taken by seat 1, by seat 2, and again by seat 1, which also took query 8; the newest entry is the first
abbrev history : List Entry
history = one 1 (deed.Take 7 4 9) ∷ one 2 (deed.Take 7 3 6) ∷ one 1 (deed.Take 8 0 5) ∷ one 1 (deed.Take 7 2 2) ∷ []

abbrev nothing_between : ℕ → ℕ → Told
nothing_between past_to live_to = record { past_to = past_to; live_to = live_to; found = [] }

-- the takes of seat 1 alone, oldest first, and of no other query
seat_1_told_7 : pages_by (1 ∷ []) 7 history ≡ nothing_between 2 2 ∷ nothing_between 4 9 ∷ []
seat_1_told_7 = refl

seat_2_told_7 : pages_by (2 ∷ []) 7 history ≡ nothing_between 3 6 ∷ []
seat_2_told_7 = refl

both_told_8 : pages_by (1 ∷ 2 ∷ []) 8 history ≡ nothing_between 0 5 ∷ []
both_told_8 = refl

takes_of_7 : is_take 7 (deed.Take 7 4 9) ≡ true
takes_of_7 = refl

no_take_of_7 : is_take 7 (deed.Take 8 0 5) ≡ false
no_take_of_7 = refl

-- two rows of source 3
abbrev content : Content
content = record { source = 3; heading = record { path = []; fields = [] }; rows = [] ∷ [] ∷ [] }

accepted_rows : rows_fed (f.Accepted content) ≡ 2
accepted_rows = refl

refused_rows : rows_fed (f.Refused content 9 10) ≡ 0
refused_rows = refl

refused_is_not_accepted : contents_of (f.Refused content 9 10) ≡ []
refused_is_not_accepted = refl
