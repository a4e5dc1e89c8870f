-- What asks make of a cache.
use Rattle.std.proofs.Common.{◌≡◌, ◌≢◌, ◌⊎◌, ℕ, zero, suc, ◌+◌, ◌≤◌, Bool, true, false, not, cond, List, [], ◌∷◌, ◌++◌, Option, None, Some, IfSome, is_none, is_some, length, take, nat_eq, refl, ap, sym, ◌∙◌, subst, arith, inl, inr, get_or, slice_index_or}
use Rattle.std.specs.List.{Contains, count_by}
use Rattle.std.specs.Map.{lookup, remove_entry}
use Rattle.std.proofs.lemmas.List.{length-map, length-take, take_all}
use Rattle.std.proofs.lemmas.List.Elements.{All-contains_itself}
use Rattle.std.proofs.lemmas.List.Sums.{sum_by-append}
use Rattle.std.proofs.lemmas.Bool.Decides.{eqb_tells}
use Rattle.event_batch.specs.Contents.{Content}
use Rattle.event_history.specs.Pieces.{Held}
use Rattle.archive_cache.specs.Caches.{Agrees, Caching, Kept, after_ask, kept_as}
use Rattle.archive_cache.proofs.EntryLemmas.{absent_removed, found_removed}
use Rattle.exporter.specs.Asks.{AgreesWith, KeepsOnly, KeptAreNotLoaded, after_run, asks_of, together}

-- Look-ups.
taken_found : (n size : ℕ) (es : List Kept) (x : Content) → lookup (nat_eq n) (take size es) ≡ Some x → lookup (nat_eq n) es ≡ Some x
taken_found n zero es x h = absurd cc
taken_found n (suc size) [] x h = h
taken_found n (suc size) (e ∷ es) x h = (elim (nat_eq n e.0) as (λ b. cond b (Some e.1) (lookup (nat_eq n) (take size es)) ≡ Some x → cond b (Some e.1) (lookup (nat_eq n) es) ≡ Some x) [
  | true ↦ λ same. same
  | false ↦ λ on. taken_found n size es x on
]) h

not_same : (n m : ℕ) → n ≢ m → nat_eq n m ≡ false
not_same n m ne = elim (eqb_tells n m) as (λ _. nat_eq n m ≡ false) [ inl same ↦ absurd (ne same.1) | inr apart ↦ apart.0 ]

itself : (n : ℕ) → nat_eq n n ≡ true
itself n = elim (eqb_tells n n) as (λ _. nat_eq n n ≡ true) [ inl same ↦ same.0 | inr apart ↦ absurd (apart.1 refl) ]

other_removed : (n m : ℕ) (es : List Kept) → n ≢ m → lookup (nat_eq n) (remove_entry (nat_eq m) es) ≡ lookup (nat_eq n) es
other_removed n m [] ne = refl
other_removed n m (e ∷ es) ne =
    elim (eqb_tells m e.0) as (λ _. lookup (nat_eq n) (remove_entry (nat_eq m) (e ∷ es)) ≡ lookup (nat_eq n) (e ∷ es)) [
      | inl same ↦
          (let other : n ≢ e.0 = omega (arith, same.1, ne) in
          ap (λ (b : Bool). lookup (nat_eq n) (cond b es (e ∷ remove_entry (nat_eq m) es))) same.0
          ∙ sym (ap (λ (b : Bool). cond b (Some e.1) (lookup (nat_eq n) es)) (not_same n e.0 other)))
      | inr apart ↦
          ap (λ (b : Bool). lookup (nat_eq n) (cond b es (e ∷ remove_entry (nat_eq m) es))) apart.0
          ∙ ap (λ (o : Option Content). cond (nat_eq n e.0) (Some e.1) o) (other_removed n m es ne)
    ]

-- what is kept after an ask was kept before it, or is what was asked for
asked_keeps : (n m : ℕ) (x y : Content) (c : Caching) → kept_as n (after_ask m y c) ≡ Some x → (kept_as n c ≡ Some x) ⊎ ((n ≡ m) × (y ≡ x))
asked_keeps n m x y c h =
    let found : lookup (nat_eq n) ((m, y) ∷ remove_entry (nat_eq m) c.entries) ≡ Some x = taken_found n c.size ((m, y) ∷ remove_entry (nat_eq m) c.entries) x h in
    elim (eqb_tells n m) as (λ _. (kept_as n c ≡ Some x) ⊎ ((n ≡ m) × (y ≡ x))) [
      | inl same ↦
          (let first : Some y ≡ Some x = sym (ap (λ (b : Bool). cond b (Some y) (lookup (nat_eq n) (remove_entry (nat_eq m) c.entries))) same.0) ∙ found in
          let it : y ≡ x = cc in
          inr (same.1, it))
      | inr apart ↦
          inl (sym (other_removed n m c.entries apart.1)
          ∙ sym (ap (λ (b : Bool). cond b (Some y) (lookup (nat_eq n) (remove_entry (nat_eq m) c.entries))) apart.0) ∙ found)
    ]

-- Runs of asks, of which each is for a batch of some.
pub only_none : (held : List Held) (c : Caching) → KeepsOnly held c c
only_none held c = λ n x h. inl h

mapped_at : (held : List Held) (k : ℕ) (h : Held) → slice_index_or (asks_of held) k (h.no, h.packed.content) ≡ ((slice_index_or held k h).no, (slice_index_or held k h).packed.content)
mapped_at [] k h = refl
mapped_at (g ∷ held) zero h = refl
mapped_at (g ∷ held) (suc k) h = mapped_at held k h

asked_for : (held : List Held) (h : Held) → Contains held h → Contains (asks_of held) (h.no, h.packed.content)
asked_for held h there = (
  there.0,
  (let ask : Held → Kept = λ g. (g.no, g.packed.content) in let long : length (asks_of held) ≡ length held = length-map held ask in omega (arith, there.1, long)),
  mapped_at held there.0 h ∙ ap (λ (g : Held). (g.no, g.packed.content)) there.2,
)

pub only_more : (held : List Held) (h : Held) (old now : Caching) → Contains held h → KeepsOnly held old now
    → KeepsOnly held old (after_ask h.no h.packed.content now)
only_more held h old now there only = λ n x k.
    elim (asked_keeps n h.no x h.packed.content now k) as (λ _. (kept_as n old ≡ Some x) ⊎ Contains (asks_of held) (n, x)) [
      | inl before ↦ only n x before
      | inr this ↦ inr (subst (λ (i : ℕ). Contains (asks_of held) (i, x)) (sym this.0) (subst (λ (y : Content). Contains (asks_of held) (h.no, y)) this.1 (asked_for held h there)))
    ]

pub only_then : (held : List Held) (old mid new : Caching) → KeepsOnly held old mid → KeepsOnly held mid new → KeepsOnly held old new
only_then held old mid new one two = λ n x k.
    elim (two n x k) as (λ _. (kept_as n old ≡ Some x) ⊎ Contains (asks_of held) (n, x)) [ inl before ↦ one n x before | inr this ↦ inr this ]

-- batches of one number are one
abbrev pub AreNumbered : List Held → Type 0
AreNumbered held = (g h : Held) → Contains held g → Contains held h → g.no ≡ h.no → g.packed.content ≡ h.packed.content

if_some : (o : Option Content) (y : Content) → ((x : Content) → o ≡ Some x → x ≡ y) → IfSome o (λ kept. kept ≡ y)
if_some None y each = tt
if_some (Some x) y each = each x refl

some_if : (o : Option Content) (x y : Content) → o ≡ Some x → IfSome o (λ kept. kept ≡ y) → x ≡ y
some_if None x y e h = absurd cc
some_if (Some z) x y e h = let same : z ≡ x = cc in sym same ∙ h

pub agree_more : (held : List Held) (h : Held) (c : Caching) → Contains held h → AreNumbered held → AgreesWith held c
    → AgreesWith held (after_ask h.no h.packed.content c)
agree_more held h c there one agree k d at =
    let g : Held = get_or held k d in
    let mine : Contains held g = All-contains_itself held k d at in
    if_some (kept_as g.no (after_ask h.no h.packed.content c)) g.packed.content
    (λ x kept. elim (asked_keeps g.no h.no x h.packed.content c kept) as (λ _. x ≡ g.packed.content) [
      | inl before ↦ some_if (kept_as g.no c) x g.packed.content before (agree k d at)
      | inr this ↦ sym this.1 ∙ sym (one g h mine there this.0)
    ])

pub agree_at : (held : List Held) (h : Held) (c : Caching) → Contains held h → AgreesWith held c → Agrees h.no h.packed.content c
agree_at held h c there agree = subst (λ (g : Held). Agrees g.no g.packed.content c) there.2 (agree there.0 h there.1)

-- The same of a cache that was asked for a batch by the number and the bytes that it was handed.
pub only_asked : (held : List Held) (h : Held) (n : ℕ) (y : Content) (old new : Caching) → Contains held h → n ≡ h.no → y ≡ h.packed.content
    → new ≡ after_ask n y old → KeepsOnly held old new
only_asked held h n y old new there number content e =
    subst (λ (c : Caching). KeepsOnly held old c) (sym (e ∙ ap (λ (i : ℕ). after_ask i y old) number ∙ ap (λ (x : Content). after_ask h.no x old) content))
    (only_more held h old old there (only_none held old))

pub agree_asked : (held : List Held) (h : Held) (n : ℕ) (y : Content) (old new : Caching) → Contains held h → AreNumbered held → n ≡ h.no → y ≡ h.packed.content
    → new ≡ after_ask n y old → AgreesWith held old → AgreesWith held new
agree_asked held h n y old new there numbered number content e agree =
    subst (λ (c : Caching). AgreesWith held c) (sym (e ∙ ap (λ (i : ℕ). after_ask i y old) number ∙ ap (λ (x : Content). after_ask h.no x old) content))
    (agree_more held h old there numbered agree)

-- Kept batches stay where there is room.
kept_more : (n m : ℕ) (y : Content) (c : Caching) → length (remove_entry (nat_eq m) c.entries) + 1 ≤ c.size → is_some (kept_as n c) ≡ true
    → is_some (kept_as n (after_ask m y c)) ≡ true
kept_more n m y c room kept =
    let whole : (after_ask m y c).entries ≡ (m, y) ∷ remove_entry (nat_eq m) c.entries = take_all c.size ((m, y) ∷ remove_entry (nat_eq m) c.entries) (omega (arith, room)) in
    ap (λ (es : List Kept). is_some (lookup (nat_eq n) es)) whole
    ∙ elim (eqb_tells n m) as (λ _. is_some (lookup (nat_eq n) ((m, y) ∷ remove_entry (nat_eq m) c.entries)) ≡ true) [
      | inl same ↦ ap (λ (b : Bool). is_some (cond b (Some y) (lookup (nat_eq n) (remove_entry (nat_eq m) c.entries)))) same.0
      | inr apart ↦
          ap (λ (b : Bool). is_some (cond b (Some y) (lookup (nat_eq n) (remove_entry (nat_eq m) c.entries)))) apart.0
          ∙ ap (λ (o : Option Content). is_some o) (other_removed n m c.entries apart.1) ∙ kept
    ]

none_of : (o : Option Content) → is_none o ≡ not (is_some o)
none_of None = refl
none_of (Some x) = refl

none_fewer : (b : Bool) → b ≡ true → cond (not b) 1 0 ≤ 0
none_fewer true e = omega arith
none_fewer false e = absurd cc

fewer : (a b : Bool) → (a ≡ true → b ≡ true) → cond (not b) 1 0 ≤ cond (not a) 1 0
fewer true b h = none_fewer b (h refl)
fewer false true h = omega arith
fewer false false h = omega arith

missing : Caching → Kept → ℕ
missing c ask = cond (is_none (kept_as ask.0 c)) 1 0

missing_less : (c d : Caching) → ((n : ℕ) → is_some (kept_as n c) ≡ true → is_some (kept_as n d) ≡ true) → (ask : Kept) → missing d ask ≤ missing c ask
unfolding missing
missing_less c d keeps ask =
    let count : Bool → ℕ = λ b. cond b 1 0 in
    subst (λ (b : Bool). count b ≤ count (is_none (kept_as ask.0 c))) (sym (none_of (kept_as ask.0 d)))
    (subst (λ (b : Bool). count (not (is_some (kept_as ask.0 d))) ≤ count b) (sym (none_of (kept_as ask.0 c)))
    (fewer (is_some (kept_as ask.0 c)) (is_some (kept_as ask.0 d)) (keeps ask.0)))

count_one : (c : Caching) (ask : Kept) (asks : List Kept) → count_by (λ a. is_none (kept_as a.0 c)) (ask ∷ asks) ≡ missing c ask + count_by (λ a. is_none (kept_as a.0 c)) asks
unfolding missing
count_one c ask asks = sum_by-append (λ a. cond (is_none (kept_as a.0 c)) 1 0) (ask ∷ []) asks ∙ omega arith

count_less : (c d : Caching) → ((n : ℕ) → is_some (kept_as n c) ≡ true → is_some (kept_as n d) ≡ true) → (asks : List Kept)
    → count_by (λ a. is_none (kept_as a.0 d)) asks ≤ count_by (λ a. is_none (kept_as a.0 c)) asks
count_less c d keeps [] = omega arith
count_less c d keeps (ask ∷ asks) =
    omega (arith, count_one c ask asks, count_one d ask asks, missing_less c d keeps ask, count_less c d keeps asks)

removed_long : (m : ℕ) (es : List Kept) (o : Option Content) → lookup (nat_eq m) es ≡ o → length (remove_entry (nat_eq m) es) + 1 ≡ length es + cond (is_none o) 1 0
removed_long m es None e = let same : length (remove_entry (nat_eq m) es) ≡ length es = ap (λ (xs : List Kept). length xs) (absent_removed m es e) in omega (arith, same)
removed_long m es (Some x) e = let one : length (remove_entry (nat_eq m) es) + 1 ≡ length es = found_removed m es x e in omega (arith, one)

taken_few : (n : ℕ) (es : List Kept) → length (take n es) ≤ length es
taken_few n es = omega (arith, length-take n es)

stays : (asks : List Kept) (c : Caching) (n : ℕ) → together asks c ≤ c.size → is_some (kept_as n c) ≡ true → is_some (kept_as n (after_run asks c)) ≡ true
unfolding missing
stays [] c n room kept = kept
stays (ask ∷ asks) c n room kept =
    let d : Caching = after_ask ask.0 ask.1 c in
    let all = removed_long ask.0 c.entries (kept_as ask.0 c) refl in
    let one = count_one c ask asks in
    let fits : length (remove_entry (nat_eq ask.0) c.entries) + 1 ≤ c.size = omega (arith, all, one, room) in
    let few : length d.entries ≤ suc (length (remove_entry (nat_eq ask.0) c.entries)) = taken_few c.size ((ask.0, ask.1) ∷ remove_entry (nat_eq ask.0) c.entries) in
    let long : length d.entries ≤ length (remove_entry (nat_eq ask.0) c.entries) + 1 = omega (arith, few) in
    let less = count_less c d (λ k is. kept_more k ask.0 ask.1 c fits is) asks in
    stays asks d n (omega (arith, all, one, room, long, less)) (kept_more n ask.0 ask.1 c fits kept)

count_front : (c : Caching) (front back : List Kept) → count_by (λ a. is_none (kept_as a.0 c)) front ≤ count_by (λ a. is_none (kept_as a.0 c)) (front ++ back)
count_front c front back = omega (arith, sum_by-append (λ a. cond (is_none (kept_as a.0 c)) 1 0) front back)

pub not_loaded : (asks : List Kept) (c : Caching) → KeptAreNotLoaded asks c
not_loaded asks c room front back ask e kept =
    let part : count_by (λ a. is_none (kept_as a.0 c)) front ≤ count_by (λ a. is_none (kept_as a.0 c)) asks =
    subst (λ (xs : List Kept). count_by (λ a. is_none (kept_as a.0 c)) front ≤ count_by (λ a. is_none (kept_as a.0 c)) xs) (sym e) (count_front c front (ask ∷ back)) in
    ap (λ (b : Bool). cond b 0 1) (stays front c ask.0 (omega (arith, part, room)) kept)
