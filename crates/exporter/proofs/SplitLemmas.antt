-- The batches of a part, and those behind them.
use Rattle.std.proofs.Common.{◌≡◌, ℕ, zero, suc, ◌+◌, ◌<◌, ◌≤◌, Bool, true, false, ◌&&◌, List, [], ◌∷◌, ◌++◌, length, drop, map, nat_le, nat_lt, refl, ap, sym, ◌∙◌, subst, arith, get_or, drop-cons}
use Rattle.std.specs.List.{All, slice_index_or}
use Rattle.std.proofs.lemmas.List.{length-append}
use Rattle.event_batch.specs.Contents.{Content}
use Rattle.event_history.specs.Covers.{Cover, StandsIn, piece_end}
use Rattle.event_history.specs.Pieces.{Held, Piece}
use Rattle.event_history.proofs.AnswerLemmas.{le_true, lt_false, lt_true}
use Rattle.partition.specs.Parts.{piece_of}
use Rattle.partition.specs.declared.part.Part.{Part}
use Rattle.exporter.specs.Told.{belongs}

and_false : (b : Bool) → (b && false) ≡ false
and_false true = refl
and_false false = refl

stands_belongs : (p : Piece) (h : Held) → StandsIn p h → belongs p h ≡ true
stands_belongs p h s =
    let long : length p.contents ≡ length (s.front ++ h.packed.content ∷ s.back) = ap (λ (cs : List Content). length cs) s.contents in
    let within : h.no < piece_end p = omega (arith, long, length-append s.front (h.packed.content ∷ s.back), s.number) in
    ap (λ (b : Bool). b && nat_lt h.no (piece_end p)) (le_true p.batch h.no (omega (arith, s.number))) ∙ lt_true h.no (piece_end p) within

behind_belongs : (p : Piece) (h : Held) → piece_end p ≤ h.no → belongs p h ≡ false
behind_belongs p h e = ap (λ (b : Bool). nat_le p.batch h.no && b) (lt_false h.no (piece_end p) e) ∙ and_false (nat_le p.batch h.no)

abbrev First : (Held → Bool) → List Held → Type 0
First test rest = (d : Held) → 0 < length rest → test (slice_index_or rest 0 d) ≡ false

same_split : (test : Held → Bool) (mine rest front back : List Held) → mine ++ rest ≡ front ++ back → All (λ h. test h ≡ true) mine → First test rest
    → All (λ h. test h ≡ true) front → First test back → (mine ≡ front) × (rest ≡ back)
same_split test [] rest [] back e a b c d = (refl, e)
same_split test [] rest (y ∷ front) back e a b c d =
    let held : test y ≡ true = c 0 y (omega arith) in
    let out : test y ≡ false = subst (First test) e b y (omega arith) in
    absurd cc
same_split test (x ∷ mine) rest [] back e a b c d =
    let held : test x ≡ true = a 0 x (omega arith) in
    let out : test x ≡ false = subst (First test) (sym e) d x (omega arith) in
    absurd cc
same_split test (x ∷ mine) rest (y ∷ front) back e a b c d =
    let head : x ≡ y = cc in
    let tail : mine ++ rest ≡ front ++ back = cc in
    let others = same_split test mine rest front back tail (λ k h at. a (suc k) h (omega (arith, at))) b (λ k h at. c (suc k) h (omega (arith, at))) d in
    (ap (λ (z : Held). z ∷ mine) head ∙ ap (λ (zs : List Held). y ∷ zs) others.0, others.1)

pub cut : (p : Piece) (ps : List Piece) (held front back : List Held) → Cover (p ∷ ps) held → held ≡ front ++ back → All (λ h. belongs p h ≡ true) front
    → ((d : Held) → 0 < length back → belongs p (slice_index_or back 0 d) ≡ false) → All (StandsIn p) front × Cover ps back
cut p ps held front back c e mine rest =
    let same = same_split (belongs p) c.0 c.1 front back (sym c.2 ∙ e) (λ k d at. stands_belongs p (slice_index_or c.0 k d) (c.3 k d at))
    (λ d at. behind_belongs p (slice_index_or c.1 0 d) (c.4 0 d at)) mine rest in
    (subst (λ (hs : List Held). All (StandsIn p) hs) same.0 c.3, subst (λ (hs : List Held). Cover ps hs) same.1 c.5)

pub next_cover : (parts : List Part) (i : ℕ) (part : Part) (held : List Held) → i < length parts → part ≡ get_or parts i part → Cover (map piece_of (drop i parts)) held
    → Cover (piece_of part ∷ map piece_of (drop (i + 1) parts)) held
next_cover parts i part held at is c =
    let one : suc i ≡ i + 1 = omega arith in
    subst (λ (n : ℕ). Cover (piece_of part ∷ map piece_of (drop n parts)) held) one
    (subst (λ (ps : List Part). Cover (map piece_of ps) held) (drop-cons parts i part at ∙ ap (λ (x : Part). x ∷ drop (suc i) parts) (sym is)) c)

front_at : (xs ys : List Held) (k : ℕ) (d : Held) → k < length xs → slice_index_or (xs ++ ys) k d ≡ slice_index_or xs k d
front_at [] ys k d h = absurd (omega arith)
front_at (x ∷ xs) ys zero d h = refl
front_at (x ∷ xs) ys (suc k) d h = front_at xs ys k d (omega (arith, h))

back_at : (xs ys : List Held) (k : ℕ) (d : Held) → slice_index_or (xs ++ ys) (length xs + k) d ≡ slice_index_or ys k d
back_at [] ys k d = let same : 0 + k ≡ k = omega arith in ap (λ (n : ℕ). slice_index_or ys n d) same
back_at (x ∷ xs) ys k d =
    let same : length (x ∷ xs) + k ≡ suc (length xs + k) = omega arith in
    ap (λ (n : ℕ). slice_index_or (x ∷ (xs ++ ys)) n d) same ∙ back_at xs ys k d

pub all_front : (P : Held → Type 0) (held xs ys : List Held) → held ≡ xs ++ ys → All P held → All P xs
all_front P held xs ys e all k d at =
    subst P (front_at xs ys k d at) (subst (All P) e all k d (omega (arith, at, length-append xs ys)))

pub all_back : (P : Held → Type 0) (held xs ys : List Held) → held ≡ xs ++ ys → All P held → All P ys
all_back P held xs ys e all k d at =
    subst P (back_at xs ys k d) (subst (All P) e all (length xs + k) d (omega (arith, at, length-append xs ys)))
