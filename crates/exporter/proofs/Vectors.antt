-- Small examples of asks and of rows in a range.
use Rattle.std.proofs.Common.{◌≡◌, ℕ, Bool, true, false, not, ◌&&◌, List, [], ◌∷◌, refl, ap, ◌∙◌}
use Rattle.vast_value.specs.declared.cell.Cell.{Cell}
use Rattle.vast_value.specs.Headings.{Heading}
use Rattle.query_meaning.specs.declared.expr.Expr.{Expr}
use Rattle.query_meaning.specs.Sure.{maybe, sure}
use Rattle.event_batch.specs.declared.format.Format.TheVariants.{Second}
use Rattle.event_batch.specs.Contents.{Content}
use Rattle.event_history.specs.Events.{Event, event_of, events_of}
use Rattle.event_history.specs.Pieces.{Held}
use Rattle.archive_cache.specs.Caches.{Caching, Kept}
use Rattle.exporter.specs.Asks.{after_run, asks_of, loads_in, together}
use Rattle.exporter.specs.Pages.{is_unsure}
use Rattle.exporter.specs.Rows.{in_range, rows_between}

module _ (c d : Content) where
  abbrev cache_of : ℕ → List Kept → Caching
  cache_of size entries = record { size = size; entries = entries }

  -- the batches 0, 1 and 0, asked of a cache of two and of a cache of one
  two_kept : loads_in ((0, c) ∷ (1, d) ∷ (0, c) ∷ []) (cache_of 2 []) ≡ 2
  two_kept = refl

  one_kept : loads_in ((0, c) ∷ (1, d) ∷ (0, c) ∷ []) (cache_of 1 []) ≡ 3
  one_kept = refl

  left_after : after_run ((0, c) ∷ (1, d) ∷ (0, c) ∷ []) (cache_of 2 []) ≡ cache_of 2 ((0, c) ∷ (1, d) ∷ [])
  left_after = refl

  first_in_front : after_run ((0, c) ∷ (1, d) ∷ []) (cache_of 1 []) ≡ cache_of 1 ((1, d) ∷ [])
  first_in_front = refl

  -- the batch 1 is kept and asked for again, the batch 0 is not kept
  two_together : together ((0, c) ∷ (1, d) ∷ []) (cache_of 2 ((1, d) ∷ [])) ≡ 2
  two_together = refl

-- of three events from id 5 on
module _ (heading : Heading) (a b c : List Cell) where
  abbrev three : Content
  three = record { source = 1; heading = heading; rows = a ∷ b ∷ c ∷ [] }

  abbrev held_at_5 : Held
  held_at_5 = record { no = 2; first = 5; packed = record { format = Second; content = three } }

  asked : asks_of (held_at_5 ∷ []) ≡ (2, three) ∷ []
  asked = refl

  one_in_range : in_range 6 7 held_at_5 ≡ (6, event_of heading b) ∷ []
  one_in_range = refl

  behind_the_range : in_range 0 5 held_at_5 ≡ []
  behind_the_range = refl

  from_the_second : rows_between 5 1 3 (events_of three) ≡ (6, event_of heading b) ∷ (7, event_of heading c) ∷ []
  from_the_second = refl

-- what is sure is not looked at, and neither is what can't be
module _ (expr : Expr) (e : Event) where
  looked_at : maybe e.heading e.row expr ≡ true → sure e.heading e.row expr ≡ false → is_unsure expr e ≡ true
  looked_at h k = ap (λ (x : Bool). x && not (sure e.heading e.row expr)) h ∙ ap (λ (x : Bool). not x) k

  not_looked_at : maybe e.heading e.row expr ≡ true → sure e.heading e.row expr ≡ true → is_unsure expr e ≡ false
  not_looked_at h k = ap (λ (x : Bool). x && not (sure e.heading e.row expr)) h ∙ ap (λ (x : Bool). not x) k
