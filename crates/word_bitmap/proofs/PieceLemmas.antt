-- Words that pieces stand for.
use Rattle.std.proofs.Common.{◌≡◌, ℕ, zero, suc, ◌+◌, ◌-◌, ◌<◌, ◌≤◌, true, false, cond, eqb, leb, List, [], ◌∷◌, ◌++◌, length, get_or, set, take, drop, min, replicate, refl, ap, sym, ◌∙◌, subst, inl, inr, arith}
use Rattle.std.specs.List.Sorted.{IsPartitionedBy, IsPartitionPoint}
use Rattle.std.proofs.lemmas.Bool.Decides.{nat_tests}
use Rattle.std.proofs.lemmas.Bool.{cases_lt}
use Rattle.std.proofs.lemmas.List.{append_assoc, append-nil, length-append, length-replicate, replicate-append-replicate, drop_more, drop_all, drop-append-le, drop-drop, length-drop, length-take-le, get_or-drop, get_or-take, get_or_append_left, get_or_default, get_or-replicate, take-append-drop, take-take, take-append-le, drop-take, take_all}
use Rattle.std.proofs.Math.Seq.{drop-append-add, drop-append_seam}
use Rattle.word_bitmap.specs.Words.{part, words_from, words_of, all_of, AreLaid, Within, IsLaid, reach}
use Rattle.word_bitmap.specs.declared.piece.Kind.{Kind}
use Rattle.word_bitmap.specs.declared.piece.Kind.TheVariants.{Fill, Literal}
use Rattle.word_bitmap.specs.declared.piece.Piece.{Piece}
use Rattle.word_bitmap.specs.declared.pieces.Pieces.{Pieces}

join : (n m k w : ℕ) → n + m ≡ k → replicate n w ++ replicate m w ≡ replicate k w
join n m k w e = replicate-append-replicate n m w ∙ ap (λ i. replicate i w) e

-- parts of a piece
pub within_more : (n m : ℕ) (k : Kind) (at to : ℕ) → n ≤ m → Within n k at to → Within m k at to
within_more n m (Fill w) at to l h = tt
within_more n m (Literal s) at to l h = (h.0, omega (arith, h.1))

pub within_first : (n : ℕ) (k : Kind) (at to end : ℕ) → to ≤ end → Within n k at end → Within n k at to
within_first n (Fill w) at to end l h = tt
within_first n (Literal s) at to end l h = (h.0, omega (arith, h.1))

pub within_rest : (n : ℕ) (k : Kind) (at to end : ℕ) → at ≤ to → Within n k at end → Within n k to end
within_rest n (Fill w) at to end l h = tt
within_rest n (Literal s) at to end l h = (omega (arith, h.0), h.1)

pub part_split : (ls : List ℕ) (n : ℕ) (k : Kind) (at mid to : ℕ) → at ≤ mid → mid ≤ to → Within n k at mid → part ls k at to ≡ part ls k at mid ++ part ls k mid to
part_split ls n (Fill w) at mid to l m h = sym (join (mid - at) (to - mid) (to - at) w (omega arith))
part_split ls n (Literal s) at mid to l m h =
    let xs = drop (at - s) ls in
    let whole : mid - at + (to - mid) ≡ to - at = omega arith in
    let place : at - s + (mid - at) ≡ mid - s = omega (arith, h.0) in
    sym (take-append-drop (mid - at) (take (to - at) xs))
    ∙ ap (λ ys. ys ++ drop (mid - at) (take (to - at) xs)) (take-take (mid - at) (to - at) xs (omega arith))
    ∙ ap (λ ys. take (mid - at) xs ++ ys) (ap (λ i. drop (mid - at) (take i xs)) (sym whole) ∙ drop-take (mid - at) (to - mid) xs ∙ ap (take (to - mid)) (drop-drop (mid - at) (at - s) ls ∙ ap (λ i. drop i ls) place))

pub length_part : (ls : List ℕ) (k : Kind) (at to : ℕ) → at ≤ to → Within (length ls) k at to → length (part ls k at to) ≡ to - at
length_part ls (Fill w) at to l h = length-replicate (to - at) w
length_part ls (Literal s) at to l h =
    length-take-le (to - at) (drop (at - s) ls) (omega (arith, length-drop (at - s) ls, h.0, h.1))

part_kept : (ls more : List ℕ) (k : Kind) (at to : ℕ) → at ≤ to → Within (length ls) k at to → part (ls ++ more) k at to ≡ part ls k at to
part_kept ls more (Fill w) at to l h = refl
part_kept ls more (Literal s) at to l h =
    ap (take (to - at)) (drop-append-le (at - s) ls more (omega (arith, h.0, h.1)))
    ∙ take-append-le (to - at) (drop (at - s) ls) more (omega (arith, length-drop (at - s) ls, h.0, h.1))

-- pieces with more literals
pub laid_more : (n m at : ℕ) (ps : List Piece) → n ≤ m → AreLaid n at ps → AreLaid m at ps
laid_more n m at [] l h = tt
laid_more n m at (p ∷ ps) l h = (h.0, within_more n m p.kind at p.end l h.1, laid_more n m p.end ps l h.2)

pub words_kept : (ls more : List ℕ) (at : ℕ) (ps : List Piece) → AreLaid (length ls) at ps → words_from (ls ++ more) at ps ≡ words_from ls at ps
words_kept ls more at [] h = refl
words_kept ls more at (p ∷ ps) h =
    ap (λ ws. ws ++ words_from (ls ++ more) p.end ps) (part_kept ls more p.kind at p.end h.0 h.1)
    ∙ ap (λ ws. part ls p.kind at p.end ++ ws) (words_kept ls more p.end ps h.2)

-- pieces reach as far as they begin at least
pub reach_le : (n at : ℕ) (ps : List Piece) → AreLaid n at ps → at ≤ reach at ps
reach_le n at [] h = omega arith
reach_le n at (p ∷ ps) h = let r = reach_le n p.end ps h.2 in omega (arith, h.0)

pub length_words : (ls : List ℕ) (at : ℕ) (ps : List Piece) → AreLaid (length ls) at ps → at + length (words_from ls at ps) ≡ reach at ps
length_words ls at [] h = omega arith
length_words ls at (p ∷ ps) h =
    let one = length-append (part ls p.kind at p.end) (words_from ls p.end ps) in
    let two = length_part ls p.kind at p.end h.0 h.1 in
    let more = length_words ls p.end ps h.2 in
    omega (arith, h.0)

-- a piece at the end
pub push_words : (ls : List ℕ) (at : ℕ) (ps : List Piece) (p : Piece) → words_from ls at (ps ++ p ∷ []) ≡ words_from ls at ps ++ part ls p.kind (reach at ps) p.end
push_words ls at [] p = append-nil (part ls p.kind at p.end)
push_words ls at (q ∷ ps) p =
    ap (λ ws. part ls q.kind at q.end ++ ws) (push_words ls q.end ps p)
    ∙ sym (append_assoc (part ls q.kind at q.end) (words_from ls q.end ps) (part ls p.kind (reach q.end ps) p.end))

pub push_laid : (n at : ℕ) (ps : List Piece) (p : Piece) → AreLaid n at ps → reach at ps ≤ p.end → Within n p.kind (reach at ps) p.end → AreLaid n at (ps ++ p ∷ [])
push_laid n at [] p h l w = (l, w, tt)
push_laid n at (q ∷ ps) p h l w = (h.0, h.1, push_laid n q.end ps p h.2 l w)

pub push_reach : (at : ℕ) (ps : List Piece) (p : Piece) → reach at (ps ++ p ∷ []) ≡ p.end
push_reach at [] p = refl
push_reach at (q ∷ ps) p = push_reach q.end ps p

-- the last piece, made longer
pub last_words : (ls : List ℕ) (n at : ℕ) (ps : List Piece) (j : ℕ) (p d : Piece) → AreLaid n at ps → j + 1 ≡ length ps → (get_or ps j d).kind ≡ p.kind → reach at ps ≤ p.end → words_from ls at (set ps j p) ≡ words_from ls at ps ++ part ls p.kind (reach at ps) p.end
last_words ls n at [] j p d h i e l = absurd (omega arith)
last_words ls n at (q ∷ []) zero p d h i e l =
    append-nil (part ls p.kind at p.end)
    ∙ ap (λ k. part ls k at p.end) (sym e)
    ∙ part_split ls n q.kind at q.end p.end h.0 l h.1
    ∙ ap (λ k. part ls q.kind at q.end ++ part ls k q.end p.end) e
    ∙ ap (λ ws. ws ++ part ls p.kind q.end p.end) (sym (append-nil (part ls q.kind at q.end)))
last_words ls n at (q ∷ []) (suc j) p d h i e l = absurd (omega arith)
last_words ls n at (q ∷ r ∷ ps) zero p d h i e l = absurd (omega arith)
last_words ls n at (q ∷ r ∷ ps) (suc j) p d h i e l =
    ap (λ ws. part ls q.kind at q.end ++ ws) (last_words ls n q.end (r ∷ ps) j p d h.2 (omega arith) e l)
    ∙ sym (append_assoc (part ls q.kind at q.end) (words_from ls q.end (r ∷ ps)) (part ls p.kind (reach q.end (r ∷ ps)) p.end))

within_longer : (n m : ℕ) (k : Kind) (at mid to : ℕ) → Within n k at mid → Within m k mid to → Within m k at to
within_longer n m (Fill w) at mid to h g = tt
within_longer n m (Literal s) at mid to h g = (h.0, g.1)

pub last_laid : (n m at : ℕ) (ps : List Piece) (j : ℕ) (p d : Piece) → AreLaid n at ps → n ≤ m → j + 1 ≡ length ps → (get_or ps j d).kind ≡ p.kind → reach at ps ≤ p.end → Within m p.kind (reach at ps) p.end → AreLaid m at (set ps j p)
last_laid n m at [] j p d h u i e l w = absurd (omega arith)
last_laid n m at (q ∷ []) zero p d h u i e l w = (omega (arith, h.0), within_longer n m p.kind at q.end p.end (subst (λ k. Within n k at q.end) e h.1) w, tt)
last_laid n m at (q ∷ []) (suc j) p d h u i e l w = absurd (omega arith)
last_laid n m at (q ∷ r ∷ ps) zero p d h u i e l w = absurd (omega arith)
last_laid n m at (q ∷ r ∷ ps) (suc j) p d h u i e l w = (h.0, within_more n m q.kind at q.end u h.1, last_laid n m q.end (r ∷ ps) j p d h.2 u (omega arith) e l w)

pub last_reach : (at : ℕ) (ps : List Piece) (j : ℕ) (p : Piece) → j + 1 ≡ length ps → reach at (set ps j p) ≡ p.end
last_reach at [] j p n = absurd (omega arith)
last_reach at (q ∷ []) zero p n = refl
last_reach at (q ∷ []) (suc j) p n = absurd (omega arith)
last_reach at (q ∷ r ∷ ps) zero p n = absurd (omega arith)
last_reach at (q ∷ r ∷ ps) (suc j) p n = last_reach q.end (r ∷ ps) j p (omega arith)

-- all pieces, with the newest
pub newest : (ps : List Piece) (ls : List ℕ) (closed word end : ℕ) → reach 0 ps ≡ closed → words_from ls 0 (ps ++ (record { kind = Fill word; end = end }) ∷ []) ≡ words_from ls 0 ps ++ replicate (end - closed) word
newest ps ls closed word end e = push_words ls 0 ps (record { kind = Fill word; end = end }) ∙ ap (λ c. words_from ls 0 ps ++ replicate (end - c) word) e

pub all_laid : (p : Pieces) → IsLaid p → AreLaid (length p.literals.items) 0 (all_of p)
all_laid p h = push_laid (length p.literals.items) 0 p.list.items (record { kind = Fill p.word; end = p.end }) h.laid (omega (arith, h.closed, h.order)) tt

pub all_reach : (p : Pieces) → reach 0 (all_of p) ≡ p.end
all_reach p = push_reach 0 p.list.items (record { kind = Fill p.word; end = p.end })

pub length_all : (p : Pieces) → IsLaid p → length (words_of p) ≡ p.end
length_all p h = let e = length_words p.literals.items 0 (all_of p) (all_laid p h) in omega (arith, e, all_reach p)

-- there is a piece where words are left
pub some_left : (at : ℕ) (ps : List Piece) (i : ℕ) → at < reach at (drop i ps) → i < length ps
some_left at [] zero l = absurd (omega arith)
some_left at [] (suc i) l = absurd (omega arith)
some_left at (p ∷ ps) zero l = omega arith
some_left at (p ∷ ps) (suc i) l = let h = some_left at ps i l in omega arith

-- the piece at a place, and what comes after it
pub at_piece : (ps : List Piece) (i : ℕ) (p : Piece) → i < length ps → p ≡ get_or ps i p → drop i ps ≡ p ∷ drop (i + 1) ps
at_piece ps i p u e = drop_more ps i p u ∙ ap (λ q. q ∷ drop (i + 1) ps) (sym e)

pub record After (ls : List ℕ) (n at : ℕ) (p : Piece) (ps left : List Piece) : Type 0 where
  pub order : at ≤ p.end
  pub within : Within n p.kind at p.end
  pub laid : AreLaid n p.end left
  pub reach : reach p.end left ≡ reach at ps
  pub words : words_from ls at ps ≡ part ls p.kind at p.end ++ words_from ls p.end left

pub after_piece : (ls : List ℕ) (n at : ℕ) (ps : List Piece) (i : ℕ) (p : Piece) → i < length ps → p ≡ get_or ps i p → AreLaid n at (drop i ps) → After ls n at p (drop i ps) (drop (i + 1) ps)
after_piece ls n at ps i p u e h =
    let left = at_piece ps i p u e in
    let has = subst (AreLaid n at) left h in
    record {
      order = has.0;
      within = has.1;
      laid = has.2;
      reach = ap (reach at) (sym left);
      words = ap (words_from ls at) left;
    }

-- the first words of a piece, and what comes after them
pub after_words : (ls : List ℕ) (n at to : ℕ) (ps : List Piece) (i : ℕ) (p : Piece) → i < length ps → p ≡ get_or ps i p → AreLaid n at (drop i ps) → at ≤ to → to ≤ p.end → AreLaid n to (drop (cond (eqb p.end to) (i + 1) i) ps) × (reach to (drop (cond (eqb p.end to) (i + 1) i) ps) ≡ reach at (drop i ps)) × (words_from ls at (drop i ps) ≡ part ls p.kind at to ++ words_from ls to (drop (cond (eqb p.end to) (i + 1) i) ps))
after_words ls n at to ps i p u e h m l =
    elim (cases_lt to p.end) [
      | inl less ↦
          let no : eqb p.end to ≡ false = grind (arith, nat_tests) in
          let here : (AreLaid n to (p ∷ rest)) × (reach to (p ∷ rest) ≡ reach at (drop i ps)) × (words_from ls at (drop i ps) ≡ part ls p.kind at to ++ words_from ls to (p ∷ rest)) =
          ((omega arith, within_rest n p.kind at to p.end m s.within, s.laid), s.reach, s.words ∙ ap (λ ws. ws ++ words_from ls p.end rest) (part_split ls n p.kind at to p.end m l (within_first n p.kind at to p.end l s.within)) ∙ append_assoc (part ls p.kind at to) (part ls p.kind to p.end) (words_from ls p.end rest)) in
          rw no (subst (λ qs. (AreLaid n to qs) × (reach to qs ≡ reach at (drop i ps)) × (words_from ls at (drop i ps) ≡ part ls p.kind at to ++ words_from ls to qs)) (sym (at_piece ps i p u e)) here)
      | inr over ↦
          let same : p.end ≡ to = omega arith in
          let yes : eqb p.end to ≡ true = grind (arith, nat_tests) in
          rw yes (subst (λ x. AreLaid n x rest) same s.laid, subst (λ x. reach x rest ≡ reach at (drop i ps)) same s.reach, subst (λ x. words_from ls at (drop i ps) ≡ part ls p.kind at x ++ words_from ls x rest) same s.words)
    ]
  where
    rest : List Piece
    rest = drop (i + 1) ps

    s : After ls n at p (drop i ps) rest
    s = after_piece ls n at ps i p u e h

-- pieces end in order
ends_rise : (n least : ℕ) (ps : List Piece) (i j : ℕ) (d : Piece) → AreLaid n least ps → i ≤ j → j < length ps → (get_or ps i d).end ≤ (get_or ps j d).end
ends_rise n least [] i j d h o l = absurd (omega arith)
ends_rise n least (r ∷ rs) zero zero d h o l = omega arith
ends_rise n least (r ∷ rs) zero (suc j) d h o l = ends_from rs r.end j (omega arith) h.2 d
  where
    ends_from : (rs : List Piece) (least j : ℕ) → j < length rs → AreLaid n least rs → (d : Piece) → least ≤ (get_or rs j d).end
    ends_from [] least j l h d = absurd (omega arith)
    ends_from (q ∷ rs) least zero l h d = h.0
    ends_from (q ∷ rs) least (suc j) l h d = let e = ends_from rs q.end j (omega arith) h.2 d in omega (arith, h.0)
ends_rise n least (r ∷ rs) (suc i) zero d h o l = absurd (omega arith)
ends_rise n least (r ∷ rs) (suc i) (suc j) d h o l = ends_rise n r.end rs i j d h.2 (omega arith) (omega arith)

pub partitioned : (n least : ℕ) (ps : List Piece) (at : ℕ) → AreLaid n least ps → IsPartitionedBy (λ (r : Piece). leb r.end at) ps
partitioned n least ps at h i j d o l t =
    let rise = ends_rise n least ps i j d h o l in
    grind (arith, nat_tests)

drop_nil : (n : ℕ) → (let none : List ℕ = [] in drop n none ≡ none)
drop_nil n = drop_all n [] (omega arith)

drop_part : (ls : List ℕ) (k : Kind) (from at end : ℕ) (more : List ℕ) → from ≤ at → at ≤ end → Within (length ls) k from end → drop (at - from) (part ls k from end ++ more) ≡ part ls k at end ++ more
drop_part ls k from at end more l m h =
    let first = within_first (length ls) k from at end m h in
    let long = length_part ls k from at l first in
    ap (λ ws. drop (at - from) (ws ++ more)) (part_split ls (length ls) k from at end l m first)
    ∙ ap (drop (at - from)) (append_assoc (part ls k from at) (part ls k at end) more)
    ∙ ap (λ n. drop n (part ls k from at ++ (part ls k at end ++ more))) (sym long)
    ∙ drop-append_seam (part ls k from at) (part ls k at end ++ more)

-- the words from `at` on, of which the first `k` pieces have ended
seek : (ls : List ℕ) (from at : ℕ) (ps : List Piece) (k : ℕ) → AreLaid (length ls) from ps → from ≤ at → at ≤ reach from ps → ((j : ℕ) (d : Piece) → j < k → (get_or ps j d).end ≤ at) → ((j : ℕ) (d : Piece) → k ≤ j → j < length ps → at ≤ (get_or ps j d).end) → k ≤ length ps → AreLaid (length ls) at (drop k ps) × (drop (at - from) (words_from ls from ps) ≡ words_from ls at (drop k ps)) × (reach at (drop k ps) ≡ reach from ps)
seek ls from at [] zero h l m before after w = (tt, drop_nil (at - from), omega arith)
seek ls from at [] (suc k) h l m before after w = absurd (omega arith)
seek ls from at (r ∷ rs) zero h l m before after w =
    let u : at ≤ r.end = after 0 r (omega arith) (omega arith) in
    ((omega arith, within_rest (length ls) r.kind from at r.end l h.1, h.2), drop_part ls r.kind from at r.end (words_from ls r.end rs) l (omega arith) h.1, refl)
seek ls from at (r ∷ rs) (suc k) h l m before after w =
    let past : r.end ≤ at = before 0 r (omega arith) in
    let more = seek ls r.end at rs k h.2 past m (λ j d u. before (suc j) d (omega arith)) (λ j d u v. after (suc j) d (omega arith) (omega arith)) (omega arith) in
    let e : length (part ls r.kind from r.end) + (at - r.end) ≡ at - from = omega (arith, length_part ls r.kind from r.end h.0 h.1, h.0) in
    (more.0, ap (λ n. drop n (part ls r.kind from r.end ++ words_from ls r.end rs)) (sym e) ∙ drop-append-add (part ls r.kind from r.end) (words_from ls r.end rs) (at - r.end) ∙ more.1, more.2)

get_all : (ps : List Piece) (o d : Piece) (j : ℕ) → j < length ps → get_or (ps ++ o ∷ []) j d ≡ get_or ps j d
get_all [] o d j l = absurd (omega arith)
get_all (p ∷ ps) o d zero l = refl
get_all (p ∷ ps) o d (suc j) l = get_all ps o d j (omega arith)

get_newest : (ps : List Piece) (o d : Piece) (j : ℕ) → length ps ≤ j → j < length (ps ++ o ∷ []) → get_or (ps ++ o ∷ []) j d ≡ o
get_newest [] o d zero l u = refl
get_newest [] o d (suc j) l u = absurd (omega arith)
get_newest (p ∷ ps) o d zero l u = absurd (omega arith)
get_newest (p ∷ ps) o d (suc j) l u = get_newest ps o d j (omega arith) (omega arith)

pub length_more : (ps : List Piece) (o : Piece) → length (ps ++ o ∷ []) ≡ length ps + 1
length_more [] o = refl
length_more (p ∷ ps) o = let h = length_more ps o in omega arith

-- the piece at an index, as the code finds it
pub piece_listed : (p : Pieces) (i : ℕ) (q : Piece) → i < length p.list.items → q ≡ get_or p.list.items i q → (d : Piece) → q ≡ get_or (all_of p) i d
piece_listed p i q l e d =
    e ∙ get_or_default p.list.items i q d l ∙ sym (get_all p.list.items (record { kind = Fill p.word; end = p.end }) d i l)

pub piece_newest : (p : Pieces) (i : ℕ) → i ≤ length p.list.items → length p.list.items ≤ i → (d : Piece) → record { kind = Fill p.word; end = p.end } ≡ get_or (all_of p) i d
piece_newest p i l m d =
    let more = length_more p.list.items (record { kind = Fill p.word; end = p.end }) in
    sym (get_newest p.list.items (record { kind = Fill p.word; end = p.end }) d i m (omega arith))

pub found : (p : Pieces) (at k : ℕ) → IsLaid p → at ≤ p.end → k ≤ length p.list.items → IsPartitionPoint (λ (r : Piece). leb r.end at ≡ true) (λ (r : Piece). leb r.end at ≡ false) p.list.items k → AreLaid (length p.literals.items) at (drop k (all_of p)) × (drop at (words_of p) ≡ words_from p.literals.items at (drop k (all_of p))) × (reach at (drop k (all_of p)) ≡ p.end)
found p at k h l w q =
    let from_start : at - 0 ≡ at = omega arith in
    let top : Piece = record { kind = Fill p.word; end = p.end } in
    let more = length_more p.list.items top in
    let s = seek p.literals.items 0 at (all_of p) k (all_laid p h) (omega arith) (omega (arith, all_reach p, l))
    (λ j d u. let t = q.0 j d (omega arith) u in let e = ap (λ (r : Piece). r.end) (get_all p.list.items top d j (omega arith)) in grind (arith, nat_tests))
    (λ j d u v. elim (cases_lt j (length p.list.items)) [
      | inl less ↦ (let t = q.1 j d u less in let e = ap (λ (r : Piece). r.end) (get_all p.list.items top d j less) in grind (arith, nat_tests))
      | inr over ↦ (let e = ap (λ (r : Piece). r.end) (get_newest p.list.items top d j over v) in omega (arith, e, l))
    ]) (omega arith) in
    (s.0, ap (λ n. drop n (words_of p)) (sym from_start) ∙ s.1, s.2 ∙ all_reach p)

-- words that are left at the end
pub none_left : (ls : List ℕ) (n at : ℕ) (ps : List Piece) (end : ℕ) → reach at ps ≡ end → AreLaid n at ps → end ≤ at → at ≡ end
none_left ls n at ps end r h l = let u = reach_le n at ps h in omega arith

pub empty_left : (ls : List ℕ) (at end : ℕ) (ps : List Piece) → AreLaid (length ls) at ps → reach at ps ≡ end → end ≤ at → words_from ls at ps ≡ []
empty_left ls at end ps h r l =
    let u = reach_le (length ls) at ps h in
    let long = length_words ls at ps h in
    no_words (words_from ls at ps) (omega arith)
  where
    no_words : (ws : List ℕ) → length ws ≡ 0 → ws ≡ []
    no_words [] e = refl
    no_words (w ∷ ws) e = absurd (omega arith)

-- a closed list of pieces
pub no_more : (n w : ℕ) (ws : List ℕ) → ws ++ replicate (n - n) w ≡ ws
no_more n w ws = let none : n - n ≡ 0 = omega arith in ap (λ k. ws ++ replicate k w) none ∙ append-nil ws

pub closed_words : (p : Pieces) → reach 0 p.list.items ≡ p.closed → p.closed ≡ p.end → words_of p ≡ words_from p.literals.items 0 p.list.items
closed_words p e f =
    newest p.list.items p.literals.items p.closed p.word p.end e
    ∙ ap (λ c. words_from p.literals.items 0 p.list.items ++ replicate (p.end - c) p.word) f
    ∙ no_more p.end p.word (words_from p.literals.items 0 p.list.items)

pub taken : (ls : List ℕ) (n : ℕ) (ps : List Piece) → n ≤ length ls → AreLaid n 0 ps → words_from ls 0 ps ≡ words_from (take n ls) 0 ps
taken ls n ps l h =
    let long = length-take-le n ls l in
    ap (λ ks. words_from ks 0 ps) (sym (take-append-drop n ls))
    ∙ words_kept (take n ls) (drop n ls) 0 ps (subst (λ m. AreLaid m 0 ps) (sym long) h)

-- literals that a piece takes
pub stretched : (ls : List ℕ) (n closed to word : ℕ) (ps qs : List Piece) → AreLaid n 0 ps → reach 0 ps ≡ closed → n ≤ closed → closed ≤ to → length ls ≡ n + (to - closed) → words_from ls 0 qs ≡ words_from ls 0 ps ++ part ls (Literal (closed - n)) (reach 0 ps) to → reach 0 qs ≡ to → words_from ls 0 (qs ++ (record { kind = Fill word; end = to }) ∷ []) ≡ words_from (take n ls) 0 ps ++ drop n ls
stretched ls n closed to word ps qs h e l m long w r =
    let place : closed - (closed - n) ≡ n = omega arith in
    newest qs ls to word to r
    ∙ no_more to word (words_from ls 0 qs)
    ∙ w
    ∙ ap (λ c. words_from ls 0 ps ++ part ls (Literal (closed - n)) c to) e
    ∙ ap (λ i. words_from ls 0 ps ++ take (to - closed) (drop i ls)) place
    ∙ ap (λ ws. words_from ls 0 ps ++ ws) (take_all (to - closed) (drop n ls) (omega (arith, length-drop n ls)))
    ∙ ap (λ ws. ws ++ drop n ls) (taken ls n ps (omega arith) h)

pub literal_within : (ls : List ℕ) (n closed to at : ℕ) → at ≡ closed → n ≤ closed → closed ≤ to → length ls ≡ n + (to - closed) → Within (length ls) (Literal (closed - n)) at to
literal_within ls n closed to at e l m long = (omega arith, omega arith)

-- literals behind those that the pieces read
pub behind : (ls more new : List ℕ) (ps : List Piece) (n : ℕ) → new ≡ ls ++ more → n ≡ length ls → (words_from (take n new) 0 ps ≡ words_from ls 0 ps) × (drop n new ≡ more)
behind ls more new ps n e f = (
  ap (λ ks. words_from ks 0 ps) (ap (take n) e ∙ ap (λ m. take m (ls ++ more)) f ∙ take-append-le (length ls) ls more (omega arith) ∙ take_all (length ls) ls (omega arith)),
  ap (drop n) e ∙ ap (λ m. drop m (ls ++ more)) f ∙ drop-append_seam ls more,
)

-- more of the newest word
pub grown : (p : Pieces) (word to : ℕ) → IsLaid p → p.word ≡ word → p.end ≤ to → words_from p.literals.items 0 (p.list.items ++ (record { kind = Fill p.word; end = to }) ∷ []) ≡ words_of p ++ replicate (to - p.end) word
grown p word to h e l =
    newest p.list.items p.literals.items p.closed p.word to h.closed
    ∙ ap (λ ws. words_from p.literals.items 0 p.list.items ++ ws) (sym (join (p.end - p.closed) (to - p.end) (to - p.closed) p.word (omega (arith, h.order))))
    ∙ sym (append_assoc (words_from p.literals.items 0 p.list.items) (replicate (p.end - p.closed) p.word) (replicate (to - p.end) p.word))
    ∙ ap (λ ws. ws ++ replicate (to - p.end) p.word) (sym (newest p.list.items p.literals.items p.closed p.word p.end h.closed))
    ∙ ap (λ w. words_of p ++ replicate (to - p.end) w) e

-- a piece is read while the index is within
pub after_at : (p : Pieces) (at i : ℕ) (q : Piece) → i < length (all_of p) → ((d : Piece) → q ≡ get_or (all_of p) i d) → AreLaid (length p.literals.items) at (drop i (all_of p)) → After p.literals.items (length p.literals.items) at q (drop i (all_of p)) (drop (i + 1) (all_of p))
after_at p at i q u e h = after_piece p.literals.items (length p.literals.items) at (all_of p) i q u (e q) h

pub index_within : (p : Pieces) (i : ℕ) → i ≤ length p.list.items → i < length (all_of p)
index_within p i l = let more = length_more p.list.items (record { kind = Fill p.word; end = p.end }) in omega arith

pub all_read : (p : Pieces) (at i : ℕ) (ls : List ℕ) → length p.list.items < i → (drop i (all_of p) ≡ []) × (words_from ls at (drop i (all_of p)) ≡ [])
all_read p at i ls l =
    let more = length_more p.list.items (record { kind = Fill p.word; end = p.end }) in
    let none : drop i (all_of p) ≡ [] = drop_all i (all_of p) (omega arith) in
    (none, ap (words_from ls at) none)

-- the piece that holds a place
pub past : (p : Pieces) (at k : ℕ) (q : Piece) → at < p.end → k ≤ length p.list.items → IsPartitionPoint (λ (r : Piece). leb r.end at ≡ true) (λ (r : Piece). leb r.end at ≡ false) p.list.items k → ((d : Piece) → q ≡ get_or (all_of p) k d) → at < q.end
past p at k q l w h e =
    let top : Piece = record { kind = Fill p.word; end = p.end } in
    let here = ap (λ (r : Piece). r.end) (e q) in
    elim (cases_lt k (length p.list.items)) [
      | inl less ↦ (let t = h.1 k q (omega arith) less in let f = ap (λ (r : Piece). r.end) (get_all p.list.items top q k less) in grind (arith, nat_tests))
      | inr over ↦ (let f = ap (λ (r : Piece). r.end) (get_newest p.list.items top q k over (index_within p k w)) in omega arith)
    ]

pub in_part : (ws xs rest : List ℕ) (at j : ℕ) → drop at ws ≡ xs ++ rest → at ≤ j → j - at < length xs → get_or ws j 0 ≡ get_or xs (j - at) 0
in_part ws xs rest at j e l u =
    let here : at + (j - at) ≡ j = omega arith in
    ap (λ k. get_or ws k 0) (sym here) ∙ sym (get_or-drop at ws (j - at) 0) ∙ ap (λ ys. get_or ys (j - at) 0) e ∙ get_or_append_left xs rest 0 (j - at) u

pub fill_word : (w n : ℕ) → 0 < n → get_or (replicate n w) 0 0 ≡ w
fill_word w n l = get_or-replicate n 0 w 0 l

pub literal_word : (ls : List ℕ) (s at to : ℕ) → at < to → get_or (take (to - at) (drop (at - s) ls)) 0 0 ≡ get_or ls (at - s) 0
literal_word ls s at to l =
    let same : at - s + 0 ≡ at - s = omega arith in
    get_or-take (to - at) (drop (at - s) ls) 0 0 (omega arith) ∙ get_or-drop (at - s) ls 0 0 ∙ ap (λ i. get_or ls i 0) same

pub record Held (p : Pieces) (at : ℕ) (q : Piece) : Type 0 where
  pub inside : at < q.end
  pub within : Within (length p.literals.items) q.kind at q.end
  pub word : get_or (words_of p) at 0 ≡ get_or (part p.literals.items q.kind at q.end) 0 0

pub held_at : (p : Pieces) (at k : ℕ) (q : Piece) → IsLaid p → at < p.end → k ≤ length p.list.items → IsPartitionPoint (λ (r : Piece). leb r.end at ≡ true) (λ (r : Piece). leb r.end at ≡ false) p.list.items k → ((d : Piece) → q ≡ get_or (all_of p) k d) → Held p at q
held_at p at k q h l w u e =
    let f = found p at k h (omega arith) w u in
    let a = after_at p at k q (index_within p k w) e f.0 in
    let i = past p at k q l w u e in
    let none : at - at ≡ 0 = omega arith in
    record {
      inside = i;
      within = a.within;
      word = in_part (words_of p) (part p.literals.items q.kind at q.end) (words_from p.literals.items q.end (drop (k + 1) (all_of p))) at at (f.1 ∙ a.words) (omega arith) (omega (arith, length_part p.literals.items q.kind at q.end a.order a.within)) ∙ ap (λ j. get_or (part p.literals.items q.kind at q.end) j 0) none;
    }

pub held_fill : (p : Pieces) (at w : ℕ) (q : Piece) → Held p at q → q.kind ≡ Fill w → w ≡ get_or (words_of p) at 0
held_fill p at w q h e =
    sym (fill_word w (q.end - at) (omega (arith, h.inside))) ∙ ap (λ k. get_or (part p.literals.items k at q.end) 0 0) (sym e) ∙ sym h.word

pub held_literal : (p : Pieces) (at s : ℕ) (q : Piece) → Held p at q → q.kind ≡ Literal s → (s ≤ at) × (at - s < length p.literals.items) × (get_or p.literals.items (at - s) 0 ≡ get_or (words_of p) at 0)
held_literal p at s q h e =
    let w = subst (λ k. Within (length p.literals.items) k at q.end) e h.within in
    (w.0, omega (arith, w.0, w.1, h.inside), sym (literal_word p.literals.items s at q.end h.inside) ∙ ap (λ k. get_or (part p.literals.items k at q.end) 0 0) (sym e) ∙ sym h.word)

-- words of 0, passed over
pub zeros_more : (ws xs rest : List ℕ) (from at to : ℕ) → drop at ws ≡ xs ++ rest → at ≤ to → length xs ≡ to - at → ((k : ℕ) → at + k < to → get_or xs k 0 ≡ 0) → ((j : ℕ) → from ≤ j → j < at → get_or ws j 0 ≡ 0) → (drop to ws ≡ rest) × ((j : ℕ) → from ≤ j → j < to → get_or ws j 0 ≡ 0)
zeros_more ws xs rest from at to e o long none clear = (
  (let split : at + length xs ≡ to = omega arith in ap (λ n. drop n ws) (sym split) ∙ sym (drop-drop (length xs) at ws) ∙ ap (drop (length xs)) e ∙ drop-append_seam xs rest),
  λ j f l. elim (cases_lt j at) [
    | inl before ↦ clear j f before
    | inr later ↦ in_part ws xs rest at j e later (omega arith) ∙ none (j - at) (omega arith)
  ],
)

pub zeros_until : (ws xs rest : List ℕ) (from at to end : ℕ) → drop at ws ≡ xs ++ rest → at ≤ to → to ≤ end → length xs ≡ end - at → ((k : ℕ) → at + k < to → get_or xs k 0 ≡ 0) → ((j : ℕ) → from ≤ j → j < at → get_or ws j 0 ≡ 0) → (j : ℕ) → from ≤ j → j < to → get_or ws j 0 ≡ 0
zeros_until ws xs rest from at to end e o m long none clear j f l = elim (cases_lt j at) [
  | inl before ↦ clear j f before
  | inr later ↦ in_part ws xs rest at j e later (omega arith) ∙ none (j - at) (omega arith)
]

-- one of two pieces is done with
pub step_past : (i j k l m n a b to : ℕ) → i < m → j < n → to ≡ min a b → k ≡ cond (eqb a to) (i + 1) i → l ≡ cond (eqb b to) (j + 1) j → (m - k) + (n - l) < (m - i) + (n - j)
step_past i j k l m n a b to u v e f g = elim (cases_lt to a) [
  | inl less ↦
      let yes : eqb b to ≡ true = grind (arith, nat_tests) in
      let no : eqb a to ≡ false = grind (arith, nat_tests) in
      let h = f ∙ ap (λ t. cond t (i + 1) i) no in
      let w = g ∙ ap (λ t. cond t (j + 1) j) yes in
      omega arith
  | inr over ↦
      let yes : eqb a to ≡ true = grind (arith, nat_tests) in
      let h = f ∙ ap (λ t. cond t (i + 1) i) yes in
      elim (cases_lt to b) [
        | inl less ↦ (let no : eqb b to ≡ false = grind (arith, nat_tests) in let w = g ∙ ap (λ t. cond t (j + 1) j) no in omega arith)
        | inr more ↦ (let too : eqb b to ≡ true = grind (arith, nat_tests) in let w = g ∙ ap (λ t. cond t (j + 1) j) too in omega arith)
      ]
]
