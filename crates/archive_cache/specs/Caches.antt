-- A cache of decoded batches, and what an ask for a batch makes of it.
use Rattle.std.specs.Prelude.{◌≡◌, ℕ, ◌≤◌, ◌∷◌, List, Option, take, length, nat_eq, is_some, IfSome, cond}
use Rattle.std.specs.List.{IsDistinct}
use Rattle.std.specs.Map.{keys_of, lookup, remove_entry}
use Rattle.event_batch.specs.Contents.{Content}

-- a batch's number and what it says
abbrev pub Kept : Type 0
Kept = ℕ × Content

-- how many batches are kept at most, and those that are, the one asked for last in front
pub record Caching : Type 0 where
  pub size : ℕ
  pub entries : List Kept

-- each batch is kept once, and no more of them than the size
pub record IsCache (cache : Caching) : Type 0 where
  pub once : IsDistinct nat_eq (keys_of cache.entries)
  pub bounded : length cache.entries ≤ cache.size
  pub some : 1 ≤ cache.size

-- what is kept under the number
abbrev pub kept_as : ℕ → Caching → Option Content
kept_as number cache = lookup (nat_eq number) cache.entries

-- what is kept under the number, if anything, is this content
abbrev pub Agrees : ℕ → Content → Caching → Type 0
Agrees number content cache = IfSome (kept_as number cache) (λ kept. kept ≡ content)

-- A batch that was asked for stands in front of the others, of which the last is gone where there are too many.
abbrev pub after_ask : ℕ → Content → Caching → Caching
after_ask number content cache = record {
  size = cache.size;
  entries = take cache.size ((number, content) ∷ remove_entry (nat_eq number) cache.entries);
}

-- an ask decodes what isn't kept
abbrev pub decodings : ℕ → Caching → ℕ
decodings number cache = cond (is_some (kept_as number cache)) 0 1
