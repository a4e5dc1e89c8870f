-- The parts of a range cover its batches.
use Rattle.std.proofs.Common.{◌≡◌, ℕ, zero, suc, ◌+◌, ◌-◌, ◌*◌, ◌<◌, ◌≤◌, Bool, true, false, if◌then◌else◌, List, [], ◌∷◌, ◌++◌, Option, None, Some, length, map, take, drop, sum_by, refl, ap, sym, ◌∙◌, subst, arith, max, min}
use Rattle.std.specs.List.{All, slice_get}
use Rattle.std.specs.Option.{option_to_list, option_map}
use Rattle.std.proofs.lemmas.List.{append_assoc, append-nil, drop-append-le, drop-map, drop-take, length-drop, length-map, length-take, map-append, take-map}
use Rattle.std.proofs.lemmas.List.Elements.{All-append, All-cons, All-nil}
use Rattle.std.proofs.lemmas.List.Sums.{sum_by-append}
use Rattle.std.proofs.lemmas.Option.{slice_get-map, slice_get_past, slice_get_within}
use Rattle.std.proofs.Math.Nat.{add-suc, mul-le-mul_left, suc-mul}
use Rattle.std.proofs.Math.Seq.{take-add, take-append-add}
use Rattle.event_batch.specs.Contents.{Content, Spelled}
use Rattle.event_history.specs.declared.entry.Entry.{Entry}
use Rattle.event_history.specs.Choices.{reaches}
use Rattle.event_history.specs.Covers.{Cover, PartsCover, StandsIn, piece_end}
use Rattle.event_history.specs.Histories.{accepted, batch_count, content, first_of, is_sealed, row_count}
use Rattle.event_history.specs.Pieces.{Held, Piece, group_parts, group_piece, group_reaches, held_at, held_in, held_upto, one_if, parts_upto, piece_in, reached}
use Rattle.event_history.proofs.AnswerLemmas.{lt_false}
use Rattle.event_history.proofs.SnapshotLemmas.{batches_counted, not_lt, rows_before}

-- Parts and batches behind others.
module _ (n : ℕ) (qs : List Piece) (gs : List Held) (from : All (λ h. n ≤ h.no) gs) (more : Cover qs gs) where
  behind : (ps : List Piece) (hs : List Held) → All (λ p. piece_end p ≤ n) ps → Cover ps hs → Cover (ps ++ qs) (hs ++ gs)
  behind [] hs ends c = subst (λ (xs : List Held). Cover qs (xs ++ gs)) (sym c) more
  behind (p ∷ ps) hs ends c =
      let first : piece_end p ≤ n = ends 0 p (omega arith) in
      let others : All (λ q. piece_end q ≤ n) ps = λ k d h. ends (suc k) d (omega (arith, h)) in
      let later : All (λ h. piece_end p ≤ h.no) gs = λ k d h. omega (arith, from k d h, first) in (
        c.0,
        c.1 ++ gs,
        ap (λ (xs : List Held). xs ++ gs) c.2 ∙ append_assoc c.0 c.1 gs,
        c.3,
        All-append (λ h. piece_end p ≤ h.no) c.1 gs c.4 later,
        behind ps c.1 others c.5,
      )

-- An element, and what stands before and behind it.
cut_at : (xs : List Spelled) (j : ℕ) (x : Spelled) → slice_get xs j ≡ Some x → xs ≡ take j xs ++ x ∷ drop (suc j) xs
cut_at [] j x e = cc
cut_at (y ∷ xs) zero x e = let same : y ≡ x = cc in ap (λ (z : Spelled). z ∷ xs) same
cut_at (y ∷ xs) (suc j) x e = ap (λ (zs : List Spelled). y ∷ zs) (cut_at xs j x e)

-- of `size` elements from one on, the i-th
window : (xs : List Spelled) (s i more : ℕ) (x : Spelled) → slice_get xs (s + i) ≡ Some x
    → take (i + suc more) (drop s xs) ≡ take i (drop s xs) ++ x ∷ take more (drop (suc (s + i)) xs)
window xs s i more x e =
    let within : s + i < length xs = slice_get_within xs (s + i) x e in
    let front : List Spelled = take (s + i) xs in
    let back : List Spelled = drop (suc (s + i)) xs in
    let here : drop s xs ≡ take i (drop s xs) ++ x ∷ back =
    ap (λ (zs : List Spelled). drop s zs) (cut_at xs (s + i) x e)
    ∙ drop-append-le s front (x ∷ back) (omega (arith, length-take (s + i) xs, within))
    ∙ ap (λ (zs : List Spelled). zs ++ x ∷ back) (drop-take s i xs) in
    let long : length (take i (drop s xs)) ≡ i = omega (arith, length-take i (drop s xs), length-drop s xs, within) in
    ap (λ (zs : List Spelled). take (i + suc more) zs) here
    ∙ ap (λ (n : ℕ). take (n + suc more) (take i (drop s xs) ++ x ∷ back)) (sym long)
    ∙ take-append-add (take i (drop s xs)) (x ∷ back) (suc more)

-- Batches from one on.
held_from : ℕ → ℕ → List Entry → ℕ → ℕ → List Held
held_from low high before b zero = []
held_from low high before b (suc n) = held_from low high before b n ++ held_at (reaches low high before (b + n)) before (b + n)

-- Ids rise with the batches.
sums_up : (xs : List Spelled) (b c : ℕ) → b ≤ c → sum_by row_count (take b xs) ≤ sum_by row_count (take c xs)
sums_up xs zero c h = omega arith
sums_up xs (suc b) zero h = absurd (omega (arith, h))
sums_up [] (suc b) (suc c) h = omega arith
sums_up (x ∷ xs) (suc b) (suc c) h =
    omega (arith, sums_up xs b c (omega (arith, h)), sum_by-append row_count (x ∷ []) (take b xs), sum_by-append row_count (x ∷ []) (take c xs))

pub first_up : (before : List Entry) (b c : ℕ) → b ≤ c → first_of b before ≤ first_of c before
first_up before b c h = sums_up (accepted before) b c h

abbrev held_as : List Entry → ℕ → Spelled → Held
held_as before c packed = record { no = c; first = first_of c before; packed = packed }

module _ (before : List Entry) where
  held_one : (P : Held → Type 0) (c : ℕ) (o : Option Spelled) → ((packed : Spelled) → o ≡ Some packed → P (held_as before c packed)) → All P (held_in before c o)
  held_one P c None each = All-nil P
  held_one P c (Some packed) each = All-cons P (held_as before c packed) [] (each packed refl) (All-nil P)

  pub held_some : (P : Held → Type 0) (c : ℕ) (reach : Bool) → ((packed : Spelled) → slice_get (accepted before) c ≡ Some packed → P (record { no = c; first = first_of c before; packed = packed }))
      → All P (held_at reach before c)
  held_some P c true each = held_one P c (slice_get (accepted before) c) each
  held_some P c false each = All-nil P

  -- A batch stands in its own piece, and in that of its group.
  alone : (c : ℕ) (packed : Spelled) → slice_get (accepted before) c ≡ Some packed → StandsIn (piece_in before c) (held_as before c packed)
  alone c packed e = record {
    front = [];
    back = [];
    contents = ap (λ (o : Option Content). option_to_list o) (slice_get-map content (accepted before) c ∙ ap (λ (o : Option Spelled). option_map content o) e);
    number = omega arith;
    place = omega arith;
  }

  in_group : (size k i : ℕ) (packed : Spelled) → i < size → slice_get (accepted before) (k * size + i) ≡ Some packed
      → StandsIn (group_piece size k before) (held_as before (k * size + i) packed)
  in_group size k i packed h e =
      let all : List Spelled = accepted before in
      let more : ℕ = size - suc i in
      let front : List Spelled = take i (drop (k * size) all) in
      let back : List Spelled = take more (drop (suc (k * size + i)) all) in
      let sized : size ≡ i + suc more = omega (arith, h) in
      let within : k * size + i < length all = slice_get_within all (k * size + i) packed e in
      let long : length front ≡ i = omega (arith, length-take i (drop (k * size) all), length-drop (k * size) all, within) in
      let mapped : length (map content front) ≡ i = length-map front content ∙ long in
      record {
        front = map content front;
        back = map content back;
        contents =
            ap (λ (xs : List Content). take size xs) (drop-map content (k * size) all)
            ∙ take-map content size (drop (k * size) all)
            ∙ ap (λ (n : ℕ). map content (take n (drop (k * size) all))) sized
            ∙ ap (λ (xs : List Spelled). map content xs) (window all (k * size) i more packed e)
            ∙ map-append content front (packed ∷ back);
        number = omega (arith, mapped);
        place =
            ap (λ (xs : List Spelled). sum_by row_count xs) (take-add (k * size) i all)
            ∙ sum_by-append row_count (take (k * size) all) front
            ∙ ap (λ (n : ℕ). first_of (k * size) before + n) (sym (rows_before front));
      }

module _ (low high : ℕ) (before : List Entry) where
  held_split : (b n : ℕ) → held_upto low high before (b + n) ≡ held_upto low high before b ++ held_from low high before b n
  unfolding held_from
  held_split b zero =
      let none : b + zero ≡ b = omega arith in
      ap (λ (m : ℕ). held_upto low high before m) none ∙ sym (append-nil (held_upto low high before b))
  held_split b (suc n) =
      ap (λ (m : ℕ). held_upto low high before m) (add-suc b n)
      ∙ ap (λ (xs : List Held). xs ++ held_at (reaches low high before (b + n)) before (b + n)) (held_split b n)
      ∙ append_assoc (held_upto low high before b) (held_from low high before b n) _

  numbers_from : (b n : ℕ) → All (λ h. b ≤ h.no) (held_from low high before b n)
  unfolding held_from
  numbers_from b zero = All-nil (λ (h : Held). b ≤ h.no)
  numbers_from b (suc n) =
      All-append (λ (h : Held). b ≤ h.no) (held_from low high before b n) (held_at (reaches low high before (b + n)) before (b + n)) (numbers_from b n)
      (held_some before (λ h. b ≤ h.no) (b + n) (reaches low high before (b + n)) (λ packed e. omega arith))

  -- One batch.
  one_part : (c : ℕ) (reach : Bool) → Cover (one_if reach (piece_in before c)) (held_at reach before c)
  one_part c true =
      let mine : List Held = held_at true before c in
      let stand : All (StandsIn (piece_in before c)) mine = held_some before (StandsIn (piece_in before c)) c true (λ packed e. alone before c packed e) in
      (mine, [], sym (append-nil mine), stand, All-nil (λ (h : Held). piece_end (piece_in before c) ≤ h.no), refl)
  one_part c false = refl

  short : (o : Option Content) → length (option_to_list o) ≤ 1
  short None = omega arith
  short (Some c) = omega arith

  one_end : (c m : ℕ) (reach : Bool) → c + 1 ≤ m → All (λ p. piece_end p ≤ m) (one_if reach (piece_in before c))
  one_end c m true h =
      let one : length (piece_in before c).contents ≤ 1 = short (slice_get (map content (accepted before)) c) in
      All-cons (λ (p : Piece). piece_end p ≤ m) (piece_in before c) [] (omega (arith, h, one)) (All-nil (λ (p : Piece). piece_end p ≤ m))
  one_end c m false h = All-nil (λ (p : Piece). piece_end p ≤ m)

  -- The batches of a group, one by one.
  reached_ends : (b n m : ℕ) → b + n ≤ m → All (λ p. piece_end p ≤ m) (reached low high before b n)
  reached_ends b zero m h = All-nil (λ (p : Piece). piece_end p ≤ m)
  reached_ends b (suc n) m h =
      All-append (λ (p : Piece). piece_end p ≤ m) (reached low high before b n) (one_if (reaches low high before (b + n)) (piece_in before (b + n)))
      (reached_ends b n m (omega (arith, h))) (one_end (b + n) m (reaches low high before (b + n)) (omega (arith, h)))

  reached_covers : (b n : ℕ) → Cover (reached low high before b n) (held_from low high before b n)
  unfolding held_from
  reached_covers b zero = refl
  reached_covers b (suc n) =
      let there : Bool = reaches low high before (b + n) in
      behind (b + n) (one_if there (piece_in before (b + n))) (held_at there before (b + n))
      (held_some before (λ h. b + n ≤ h.no) (b + n) there (λ packed e. omega arith)) (one_part (b + n) there)
      (reached low high before b n) (held_from low high before b n) (reached_ends b n (b + n) (omega arith)) (reached_covers b n)

  -- A group as one.
  module _ (size k : ℕ) where
    all_stand : (n : ℕ) → n ≤ size → All (StandsIn (group_piece size k before)) (held_from low high before (k * size) n)
    unfolding held_from
    all_stand zero h = All-nil (StandsIn (group_piece size k before))
    all_stand (suc n) h =
        All-append (StandsIn (group_piece size k before)) (held_from low high before (k * size) n) (held_at (reaches low high before (k * size + n)) before (k * size + n))
        (all_stand n (omega (arith, h)))
        (held_some before (StandsIn (group_piece size k before)) (k * size + n) (reaches low high before (k * size + n))
        (λ packed e. in_group before size k n packed (omega (arith, h)) e))

    none_reach : (n : ℕ) → n ≤ size → group_reaches size low high before k ≡ false → held_from low high before (k * size) n ≡ []
    unfolding held_from
    none_reach zero h e = refl
    none_reach (suc n) h e =
        let far : min high (first_of (k * size + size) before) ≤ max low (first_of (k * size) before) =
        not_lt (max low (first_of (k * size) before)) (min high (first_of (k * size + size) before)) e in
        let out : reaches low high before (k * size + n) ≡ false =
        lt_false (max low (first_of (k * size + n) before)) (min high (first_of (k * size + n + 1) before))
        (omega (arith, far, first_up before (k * size) (k * size + n) (omega arith), first_up before (k * size + n + 1) (k * size + size) (omega (arith, h)))) in
        ap (λ (xs : List Held). xs ++ held_at (reaches low high before (k * size + n)) before (k * size + n)) (none_reach n (omega (arith, h)) e)
        ∙ ap (λ (b : Bool). held_at b before (k * size + n)) out

    sealed_covers : (reach : Bool) → group_reaches size low high before k ≡ reach → Cover (one_if reach (group_piece size k before)) (held_from low high before (k * size) size)
    sealed_covers true e =
        let mine : List Held = held_from low high before (k * size) size in
        (mine, [], sym (append-nil mine), all_stand size (omega arith), All-nil (λ (h : Held). piece_end (group_piece size k before) ≤ h.no), refl)
    sealed_covers false e = none_reach size (omega arith) e

    sealed_end : (reach : Bool) → All (λ p. piece_end p ≤ k * size + size) (one_if reach (group_piece size k before))
    sealed_end true =
        let few : length (group_piece size k before).contents ≤ size = omega (arith, length-take size (drop (k * size) (map content (accepted before)))) in
        All-cons (λ (p : Piece). piece_end p ≤ k * size + size) (group_piece size k before) [] (omega (arith, few)) (All-nil (λ (p : Piece). piece_end p ≤ k * size + size))
    sealed_end false = All-nil (λ (p : Piece). piece_end p ≤ k * size + size)

    either_covers : (sealed : Bool)
        → Cover (if sealed then one_if (group_reaches size low high before k) (group_piece size k before) else reached low high before (k * size) size) (held_from low high before (k * size) size)
    either_covers true = sealed_covers (group_reaches size low high before k) refl
    either_covers false = reached_covers (k * size) size

    either_end : (sealed : Bool)
        → All (λ p. piece_end p ≤ k * size + size) (if sealed then one_if (group_reaches size low high before k) (group_piece size k before) else reached low high before (k * size) size)
    either_end true = sealed_end (group_reaches size low high before k)
    either_end false = reached_ends (k * size) size (k * size + size) (omega arith)

  -- All groups.
  module _ (size : ℕ) where
    groups_end : (k m : ℕ) → k * size ≤ m → All (λ p. piece_end p ≤ m) (parts_upto size low high before k)
    groups_end zero m h = All-nil (λ (p : Piece). piece_end p ≤ m)
    groups_end (suc k) m h =
        let next : suc k * size ≡ k * size + size = omega (arith, suc-mul k size) in
        All-append (λ (p : Piece). piece_end p ≤ m) (parts_upto size low high before k) (group_parts size low high before k)
        (groups_end k m (omega (arith, h, next)))
        (λ i d at. omega (arith, either_end size k (is_sealed k before) i d at, h, next))

    groups_cover : (k : ℕ) → Cover (parts_upto size low high before k) (held_upto low high before (k * size))
    groups_cover zero = let none : zero * size ≡ zero = omega arith in ap (λ (m : ℕ). held_upto low high before m) none
    groups_cover (suc k) =
        let next : suc k * size ≡ k * size + size = omega (arith, suc-mul k size) in
        subst (λ (xs : List Held). Cover (parts_upto size low high before (suc k)) xs)
        (sym (ap (λ (m : ℕ). held_upto low high before m) next ∙ held_split (k * size) size))
        (behind (k * size) (group_parts size low high before k) (held_from low high before (k * size) size) (numbers_from (k * size) size)
        (either_covers size k (is_sealed k before)) (parts_upto size low high before k) (held_upto low high before (k * size))
        (groups_end k (k * size) (omega arith)) (groups_cover k))

  nothing_at : (c : ℕ) (reach : Bool) → batch_count before ≤ c → held_at reach before c ≡ []
  nothing_at c true h = ap (λ (o : Option Spelled). held_in before c o) (slice_get_past (accepted before) c (omega (arith, h, batches_counted before)))
  nothing_at c false h = refl

  no_more : (m : ℕ) → held_from low high before (batch_count before) m ≡ []
  unfolding held_from
  no_more zero = refl
  no_more (suc m) =
      ap (λ (xs : List Held). xs ++ held_at (reaches low high before (batch_count before + m)) before (batch_count before + m)) (no_more m)
      ∙ nothing_at (batch_count before + m) (reaches low high before (batch_count before + m)) (omega arith)

pub parts_cover : (before : List Entry) → PartsCover before
parts_cover before size low high h =
    let n : ℕ = batch_count before in
    let enough : n * 1 ≤ n * size = mul-le-mul_left n (let some : 1 ≤ size = omega (arith, h) in some) in
    let more : ℕ = n * size - n in
    let all : n * size ≡ n + more = omega (arith, enough) in
    subst (λ (xs : List Held). Cover (parts_upto size low high before n) xs)
    (ap (λ (m : ℕ). held_upto low high before m) all ∙ held_split low high before n more
    ∙ ap (λ (xs : List Held). held_upto low high before n ++ xs) (no_more low high before more)
    ∙ append-nil (held_upto low high before n))
    (groups_cover low high before size n)
