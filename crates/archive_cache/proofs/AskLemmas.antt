-- What an ask makes of a cache, by what it makes of the entries.
use Rattle.std.proofs.Common.{◌≡◌, ℕ, zero, suc, ◌+◌, ◌-◌, ◌<◌, ◌≤◌, cond, List, [], ◌∷◌, map, take, length, nat_eq, Option, None, Some, is_some, IfSome, option_map, refl, ap, sym, ◌∙◌, subst, arith, Bor}
use Rattle.std.specs.Arc.{arc_value}
use Rattle.std.specs.List.{IsDistinct, take-map}
use Rattle.std.specs.Option.{option_map_or}
use Rattle.std.specs.Map.{lookup, remove_entry}
use Rattle.std.specs.declared.alloc.Global.{Global}
use Rattle.std.specs.declared.sync.Arc.{Arc}
use Rattle.std.proofs.lemmas.Map.Made.{lookup-map_values}
use Rattle.event_batch.specs.declared.batch.Batch.{Batch}
use Rattle.event_batch.specs.Contents.{Content, content_of}
use Rattle.lru.specs.LruCache.{LruCache, lru_cache, IsValid, promoted, put_entries}
use Rattle.archive_cache.specs.Caches.{Kept, Caching, IsCache, kept_as, Agrees, after_ask, decodings}
use Rattle.archive_cache.specs.Contents.{kept_of, caching_of}
use Rattle.archive_cache.proofs.EntryLemmas.{keys_told, length_told, remove_told, found_entry, absent_entry, absent_removed, found_removed}

abbrev pub Shared : Type 0
Shared = Arc Batch Global

abbrev said : Shared → Content
said batch = content_of (arc_value batch)

pub is_cache : (c : LruCache ℕ Shared) → IsValid nat_eq c → IsCache (caching_of c)
is_cache c valid = record {
  once = subst (IsDistinct nat_eq) (sym (keys_told said c.entries)) valid.0;
  bounded = rw (length_told said c.entries) valid.1;
  some = omega (arith, valid.2);
}

kept_as_found : (c : LruCache ℕ Shared) (n : ℕ) (b : Option Shared) → lookup (nat_eq n) c.entries ≡ b
    → kept_as n (caching_of c) ≡ option_map said b
kept_as_found c n b e = lookup-map_values said (nat_eq n) c.entries ∙ ap (option_map said) e

-- a batch that is kept counts nothing
pub found_counts : (c : LruCache ℕ Shared) (n : ℕ) (b : Shared) → lookup (nat_eq n) c.entries ≡ Some b
    → (steps : ℕ) → steps ≡ steps + decodings n (caching_of c)
found_counts c n b e steps =
    let none : decodings n (caching_of c) ≡ 0 = ap (λ o. cond (is_some o) 0 1) (kept_as_found c n (Some b) e) in
    omega (arith, none)

-- another counts one step
pub absent_counts : (c : LruCache ℕ Shared) (n : ℕ) → lookup (nat_eq n) c.entries ≡ None → (steps : ℕ)
    → steps + 1 ≡ steps + decodings n (caching_of c)
absent_counts c n e steps =
    let one : decodings n (caching_of c) ≡ 1 = ap (λ o. cond (is_some o) 0 1) (kept_as_found c n None e) in
    omega (arith, one)

-- what is kept is the batch's content
pub found_agrees : (c : LruCache ℕ Shared) (n : ℕ) (x : Content) (b : Shared)
    → lookup (nat_eq n) c.entries ≡ Some b → Agrees n x (caching_of c) → said b ≡ x
found_agrees c n x b e agrees =
    let kept = kept_as_found c n (Some b) e in
    subst (λ (o : Option Content). IfSome o (λ content. content ≡ x)) kept agrees

-- a batch is kept where a look-up finds it
pub copied_some : (o : Option (Bor Shared)) → is_some o ≡ is_some (option_map (λ (x : Bor Shared). x.now) o)
copied_some None = refl
copied_some (Some x) = refl

kept_by : (c : LruCache ℕ Shared) (n : ℕ) (o : Option Shared) → lookup (nat_eq n) c.entries ≡ o → is_some o ≡ is_some (kept_as n (caching_of c))
kept_by c n None e = sym (ap (λ (x : Option Content). is_some x) (kept_as_found c n None e))
kept_by c n (Some b) e = sym (ap (λ (x : Option Content). is_some x) (kept_as_found c n (Some b) e))

pub kept_where : (c : LruCache ℕ Shared) (n : ℕ) → is_some (lookup (nat_eq n) c.entries) ≡ is_some (kept_as n (caching_of c))
kept_where c n = kept_by c n (lookup (nat_eq n) c.entries) refl

take_whole : {X : Type 0} (n : ℕ) (xs : List X) → length xs ≤ n → take n xs ≡ xs
take_whole zero [] h = refl
take_whole (suc n) [] h = refl
take_whole zero (x ∷ xs) h = absurd (omega (arith, h))
take_whole (suc n) (x ∷ xs) h = ap (λ rest. x ∷ rest) (take_whole n xs (omega (arith, h)))

take_front : {X : Type 0} (n : ℕ) (x : X) (xs : List X) → 0 < n → take n (x ∷ xs) ≡ x ∷ take (n - 1) xs
take_front zero x xs h = absurd (omega (arith, h))
take_front (suc n) x xs h = let e : suc n - 1 ≡ n = omega arith in rw e refl

abbrev cache_of : ℕ → List Kept → Caching
cache_of size entries = record { size = size; entries = entries }

module _ (c : LruCache ℕ Shared) (n : ℕ) (x : Content) (b : Shared) where
  abbrev others : List (ℕ × Shared)
  others = remove_entry (nat_eq n) c.entries

  -- the list that is cut to the size
  abbrev asked : List Kept
  asked = (n, x) ∷ remove_entry (nat_eq n) (map kept_of c.entries)

  pub found_ask : lookup (nat_eq n) c.entries ≡ Some b → said b ≡ x → IsValid nat_eq c
      → caching_of (lru_cache (promoted (nat_eq n) c.entries) c.cap) ≡ after_ask n x (caching_of c)
  found_ask e s valid =
      let found = found_entry n c.entries b e in
      let moved = ap (λ o. option_map_or (λ entry. entry ∷ others) o c.entries) found in
      let told : map kept_of ((n, b) ∷ others) ≡ asked = rw (s, remove_told said n c.entries) refl in
      let removed = found_removed n c.entries b e in
      let short : length ((n, x) ∷ map kept_of others) ≤ c.cap =
      omega (arith, valid.1, length_told said others, removed) in
      let whole : take c.cap asked ≡ asked =
      rw (remove_told said n c.entries) (take_whole c.cap ((n, x) ∷ map kept_of others) short) in
      ap (cache_of c.cap) (ap (map kept_of) moved ∙ told ∙ sym whole)

  -- the entries that stay behind one that is new
  abbrev kept_on : List (ℕ × Shared)
  kept_on = take (c.cap - 1) c.entries

  pub absent_ask : lookup (nat_eq n) c.entries ≡ None → said b ≡ x → IsValid nat_eq c
      → caching_of (lru_cache (put_entries nat_eq c n b) c.cap) ≡ after_ask n x (caching_of c)
  absent_ask e s valid =
      let absent = absent_entry n c.entries e in
      let put = ap (λ o. option_map_or (λ entry. (entry.0, b) ∷ others) o ((n, b) ∷ kept_on)) absent in
      let told : map kept_of ((n, b) ∷ kept_on) ≡ (n, x) ∷ take (c.cap - 1) (map kept_of c.entries) =
      rw (s, take-map kept_of (c.cap - 1) c.entries) refl in
      let all = remove_told said n c.entries ∙ ap (map kept_of) (absent_removed n c.entries e) in
      let front : take c.cap asked ≡ (n, x) ∷ take (c.cap - 1) (map kept_of c.entries) =
      rw all (take_front c.cap (n, x) (map kept_of c.entries) valid.2) in
      ap (cache_of c.cap) (ap (map kept_of) put ∙ told ∙ sym front)
