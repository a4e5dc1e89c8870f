-- How a page grows, batch by batch.
use Rattle.std.specs.Prelude.{ℕ, ◌+◌, ◌-◌, ◌^◌, Bool, true, List, [], ◌∷◌, ◌++◌, if◌then◌else◌, length, min}
use Rattle.query_meaning.specs.declared.expr.Expr.{Expr}
use Rattle.event_history.specs.Events.{Event, matches}
use Rattle.event_history.specs.Pieces.{Held, batch_answer}
use Rattle.archive_cache.specs.Caches.{Caching, after_ask, decodings}
use Rattle.exporter.specs.declared.tally.Tally.{Tally}
use Rattle.exporter.specs.Pages.{is_touched, unsure_in}
use Rattle.exporter.specs.Rows.{in_range}

-- what was found and counted so far, what the cache keeps, and the steps that were taken
pub record Gathered : Type 0 where
  pub found : List (ℕ × Event)
  pub checked : ℕ
  pub touched : ℕ
  pub loads : ℕ
  pub cache : Caching
  pub steps : ℕ

abbrev pub gathered : Tally → Caching → ℕ → Gathered
gathered tally cache steps = record { found = tally.found; checked = tally.checked; touched = tally.touched; loads = tally.loads; cache = cache; steps = steps }

-- a count stands still at its type's end
abbrev pub capped : ℕ → ℕ
capped n = min n (2 ^ 64 - 1)

-- a batch was asked of the cache
abbrev pub asked : Held → Gathered → Gathered
asked h g = record {
  found = g.found;
  checked = g.checked;
  touched = capped (g.touched + 1);
  loads = capped (g.loads + decodings h.no g.cache);
  cache = after_ask h.no h.packed.content g.cache;
  steps = g.steps + decodings h.no g.cache;
}

-- what a batch has: whether it is read, how many of its events are looked at, and which match
pub record Reading : Type 0 where
  pub touched : Bool
  pub checked : ℕ
  pub found : List (ℕ × Event)

abbrev pub past_reading : Expr → ℕ → ℕ → Held → Reading
past_reading expr from to h = record {
  touched = is_touched expr from to h;
  checked = unsure_in expr from to h;
  found = batch_answer (matches expr) from to h;
}

abbrev pub live_reading : Expr → ℕ → ℕ → Held → Reading
live_reading expr from to h = record {
  touched = true;
  checked = length (in_range from to h);
  found = batch_answer (matches expr) from to h;
}

abbrev pub one_of : Bool → ℕ
one_of touched = if touched then 1 else 0

abbrev pub decoded : Bool → Held → Caching → ℕ
decoded touched h cache = if touched then decodings h.no cache else 0

-- a batch more
abbrev pub with_batch : Reading → Held → Gathered → Gathered
with_batch r h g = record {
  found = g.found ++ r.found;
  checked = capped (g.checked + r.checked);
  touched = capped (g.touched + one_of r.touched);
  loads = capped (g.loads + decoded r.touched h g.cache);
  cache = if r.touched then after_ask h.no h.packed.content g.cache else g.cache;
  steps = g.steps + decoded r.touched h g.cache;
}

-- batches more, in order
abbrev pub walk : (Held → Reading) → List Held → Gathered → Gathered
walk reading [] g = g
walk reading (h ∷ held) g = walk reading held (with_batch (reading h) h g)

-- how many of them are read
abbrev pub reads : (Held → Reading) → List Held → ℕ
reads reading [] = 0
reads reading (h ∷ held) = one_of (reading h).touched + reads reading held
