-- What was written, where a sink tells it.
use Rattle.std.proofs.Common.{◌≡◌, ℕ, ◌+◌, List, [], ◌∷◌, ◌++◌, Option, None, Some, length, take, drop, refl, ap, sym, ◌∙◌, arith, append_assoc}
use Rattle.std.specs.Io.KnownBytes.{append_known}
use Rattle.std.proofs.lemmas.List.{append-nil, take-append-drop, take-append-le, length-append}
use Rattle.std.proofs.Math.Seq.{take-length, take-append_seam, take-append-add}
use Rattle.vast_io.specs.Told.{WritesPart}

-- nothing more
pub append_known-nil : (known : Option (List ℕ)) → append_known known [] ≡ known
append_known-nil None = refl
append_known-nil (Some xs) = ap Some (append-nil xs)

-- one text behind another
pub append_known-append : (known : Option (List ℕ)) (a b : List ℕ) → append_known (append_known known a) b ≡ append_known known (a ++ b)
append_known-append None a b = refl
append_known-append (Some xs) a b = ap Some (append_assoc xs a b)

-- nothing was written
pub part_none : (before now : Option (List ℕ)) (text : List ℕ) → now ≡ before → WritesPart before now text
part_none before now text same = record { count = 0; within = omega arith; is = same ∙ sym (append_known-nil before) }

-- all of it was written
pub part_all : (before now : Option (List ℕ)) (text : List ℕ) → now ≡ append_known before text → WritesPart before now text
part_all before now text all = record { count = length text; within = omega arith; is = all ∙ ap (λ (t : List ℕ). append_known before t) (sym (take-length text)) }

-- a text was written, and then a part of another
pub part_behind : (before between now : Option (List ℕ)) (a b : List ℕ) → between ≡ append_known before a → WritesPart between now b → WritesPart before now (a ++ b)
part_behind before between now a b first rest =
    let behind : append_known between (take rest.count b) ≡ append_known (append_known before a) (take rest.count b) =
    ap (λ (k : Option (List ℕ)). append_known k (take rest.count b)) first in
    let joined : a ++ take rest.count b ≡ take (length a + rest.count) (a ++ b) = sym (take-append-add a b rest.count) in
    record {
      count = length a + rest.count;
      within = omega (arith, rest.within, length-append a b);
      is = rest.is ∙ behind ∙ append_known-append before a (take rest.count b) ∙ ap (λ (t : List ℕ). append_known before t) joined;
    }

-- a part of a text is a part of a longer one
pub part_longer : (before now : Option (List ℕ)) (a b : List ℕ) → WritesPart before now a → WritesPart before now (a ++ b)
part_longer before now a b part =
    record {
      count = part.count;
      within = omega (arith, part.within, length-append a b);
      is = part.is ∙ ap (λ (t : List ℕ). append_known before t) (sym (take-append-le part.count a b part.within));
    }

-- how far the writing of a text has come: these bytes are done, and those are the rest
pub record Written (text rest : List ℕ) (before now : Option (List ℕ)) : Type 0 where
  pub done : List ℕ
  pub split : text ≡ done ++ rest
  pub is : now ≡ append_known before done

pub written_start : (text : List ℕ) (before : Option (List ℕ)) → Written text text before before
written_start text before = record { done = []; split = refl; is = sym (append_known-nil before) }

-- n more bytes are done
pub written_more : (text rest after : List ℕ) (before now next : Option (List ℕ)) (n : ℕ) → Written text rest before now → next ≡ append_known now (take n rest) → after ≡ drop n rest → Written text after before next
written_more text rest after before now next n so more left =
    record {
      done = so.done ++ take n rest;
      split = so.split ∙ ap (λ (t : List ℕ). so.done ++ t) (sym (take-append-drop n rest))
          ∙ sym (append_assoc so.done (take n rest) (drop n rest)) ∙ ap (λ (t : List ℕ). (so.done ++ take n rest) ++ t) (sym left);
      is = more ∙ ap (λ (k : Option (List ℕ)). append_known k (take n rest)) so.is ∙ append_known-append before so.done (take n rest);
    }

-- a text of which so much is done was written in part
pub written_part : (text rest : List ℕ) (before now : Option (List ℕ)) → Written text rest before now → WritesPart before now text
written_part text rest before now so =
    let front : so.done ≡ take (length so.done) text =
    sym (ap (λ (t : List ℕ). take (length so.done) t) so.split ∙ take-append_seam so.done rest) in
    record {
      count = length so.done;
      within = omega (arith, ap length so.split, length-append so.done rest);
      is = so.is ∙ ap (λ (t : List ℕ). append_known before t) front;
    }

-- a text whose rest is empty was written whole
pub written_whole : (text rest : List ℕ) (before now : Option (List ℕ)) → Written text rest before now → length rest ≡ 0 → now ≡ append_known before text
written_whole text [] before now so nothing =
    so.is ∙ ap (λ (t : List ℕ). append_known before t) (sym (so.split ∙ append-nil so.done))
written_whole text (x ∷ rest) before now so nothing = absurd (omega arith)
