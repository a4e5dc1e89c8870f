-- How an index goes on standing for a growing column, and what its answers say of the cells.
use Rattle.std.proofs.Common.{◌≡◌, ℕ, zero, suc, ◌+◌, ◌-◌, ◌≤◌, Bool, true, false, not, ◌&&◌, List, [], ◌∷◌, ◌++◌, length, map, replicate, Option, None, Some, refl, ap, sym, ◌∙◌, subst, append_assoc, append-nil, arith}
use Rattle.std.proofs.lemmas.List.{map-append, length-append, length-replicate, length-map, replicate-append-replicate}
use Rattle.vast_value.specs.declared.cell.Cell.{Cell}
use Rattle.vast_value.specs.declared.kind.Kind.{Kind}
use Rattle.bits_law.specs.Keys.{meets, padded, answers, with_gap, with_key}
use Rattle.bits_law.specs.Bitwise.{bitwise, and_not}
use Rattle.bits_law.proofs.AnswerLemmas.{answers-same, answers-and, answers-and_not}
use Rattle.column_index.specs.Columns.{fits_kind, AreOf, Answers, key_in, keys_of, Covers}

module _ {K : Type 0} where
  missing : (t : K → Bool) (n : ℕ) → answers t (replicate n None) ≡ replicate n false
  missing t zero = refl
  missing t (suc n) = ap (λ (bits : List Bool). false ∷ bits) (missing t n)

  -- a gap is answered false
  pub gap_answers : (t : K → Bool) (held : List (Option K)) (n : ℕ) → answers t (with_gap held n) ≡ padded false (answers t held) n
  gap_answers t held n =
      map-append (meets t) held (replicate (n - length held) None)
      ∙ ap (λ (bits : List Bool). answers t held ++ bits) (missing t (n - length held))
      ∙ ap (λ (k : ℕ). answers t held ++ replicate (n - k) false) (sym (length-map held (meets t)))

  keyed : (key : Cell → Option K) (t : K → Bool) (cells : List (Option Cell)) → answers t (keys_of key cells) ≡ answers (λ x. meets t (key x)) cells
  keyed key t [] = refl
  keyed key t (None ∷ cells) = ap (λ (bits : List Bool). false ∷ bits) (keyed key t cells)
  keyed key t (Some x ∷ cells) = ap (λ (bits : List Bool). meets t (key x) ∷ bits) (keyed key t cells)

  pub covers_answers : (H : List (Option K) → Type 0) (key : Cell → Option K) (t : K → Bool) (bits : List Bool) (cells : List (Option Cell)) → Covers H (keys_of key cells) → ((held : List (Option K)) → H held → bits ≡ answers t held) → Answers bits (λ x. meets t (key x)) cells
  covers_answers H key t bits cells c f =
      ap (λ (b : List Bool). padded false b (length cells)) (f c.held c.holds)
      ∙ sym (gap_answers t c.held (length cells))
      ∙ ap (λ (n : ℕ). answers t (with_gap c.held n)) (sym (length-map cells (key_in key)))
      ∙ ap (answers t) c.rest ∙ keyed key t cells

  -- no more keys are held than there are
  short : (held keys : List (Option K)) → with_gap held (length keys) ≡ keys → length held ≤ length keys
  short held keys e =
      let none : Option K = None in
      omega (arith, ap length e, length-append held (replicate (length keys - length held) none), length-replicate (length keys - length held) none)

  gap_more : (held keys : List (Option K)) (n : ℕ) → with_gap held (length keys) ≡ keys → with_gap held (length keys + n) ≡ keys ++ replicate n None
  gap_more held keys n e =
      let few : length held ≤ length keys = short held keys e in
      let room : (length keys - length held) + n ≡ length keys + n - length held = omega (arith, few) in
      ap (λ (k : ℕ). held ++ replicate k None) (sym room)
      ∙ ap (λ (xs : List (Option K)). held ++ xs) (sym (replicate-append-replicate (length keys - length held) n None))
      ∙ sym (append_assoc held (replicate (length keys - length held) None) (replicate n None))
      ∙ ap (λ (xs : List (Option K)). xs ++ replicate n None) e

  -- rows without a key behind
  pub covers_more : (H : List (Option K) → Type 0) (keys : List (Option K)) (n : ℕ) → Covers H keys → Covers H (keys ++ replicate n None)
  covers_more H keys n c =
      let long : length (keys ++ replicate n None) ≡ length keys + n = length-append keys (replicate n None) ∙ ap (λ (k : ℕ). length keys + k) (length-replicate n None) in
      record {
        held = c.held;
        holds = c.holds;
        rest = ap (λ (k : ℕ). with_gap c.held k) long ∙ gap_more c.held keys n c.rest;
      }

  pub keys_gap : (key : Cell → Option K) (cells : List (Option Cell)) (n : ℕ) → keys_of key (cells ++ replicate n None) ≡ keys_of key cells ++ replicate n None
  keys_gap key cells n = map-append (key_in key) cells (replicate n None) ∙ ap (λ (xs : List (Option K)). keys_of key cells ++ xs) (none n)
    where
      none : (n : ℕ) → map (key_in key) (replicate n None) ≡ replicate n None
      none zero = refl
      none (suc n) = ap (λ (xs : List (Option K)). None ∷ xs) (none n)

  pub covers_gap : (H : List (Option K) → Type 0) (key : Cell → Option K) (cells : List (Option Cell)) (rows : ℕ) → Covers H (keys_of key cells) → Covers H (keys_of key (with_gap cells rows))
  covers_gap H key cells rows c =
      subst (Covers H) (sym (keys_gap key cells (rows - length cells))) (covers_more H (keys_of key cells) (rows - length cells) c)

  -- a cell that has no key
  pub covers_unset : (H : List (Option K) → Type 0) (key : Cell → Option K) (cells : List (Option Cell)) (row : ℕ) (x : Cell) → key x ≡ None → Covers H (keys_of key cells) → Covers H (keys_of key (with_key cells row x))
  covers_unset H key cells row x e c =
      let front : Covers H (keys_of key (with_gap cells row)) = covers_gap H key cells row c in
      let whole : Covers H (keys_of key (with_gap cells row) ++ None ∷ []) = covers_more H (keys_of key (with_gap cells row)) 1 front in
      let is : keys_of key (with_gap cells row) ++ None ∷ [] ≡ keys_of key (with_key cells row x) =
      ap (λ (k : Option K). keys_of key (with_gap cells row) ++ k ∷ []) (sym e) ∙ sym (map-append (key_in key) (with_gap cells row) (Some x ∷ [])) in
      subst (Covers H) is whole

  -- a cell that has one
  pub covers_put : (H H' : List (Option K) → Type 0) (key : Cell → Option K) (cells : List (Option Cell)) (row : ℕ) (x : Cell) (k : K) → length cells ≤ row → key x ≡ Some k → ((held : List (Option K)) → H held → H' (with_key held row k)) → Covers H (keys_of key cells) → Covers H' (keys_of key (with_key cells row x))
  covers_put H H' key cells row x k l e f c =
      let keys = keys_of key cells in
      let many : length keys ≡ length cells = length-map cells (key_in key) in
      let few : length c.held ≤ length keys = short c.held keys c.rest in
      let up : length keys + (row - length cells) ≡ row = omega (arith, many, l) in
      let fronts : with_gap c.held row ≡ keys_of key (with_gap cells row) =
      ap (λ (n : ℕ). with_gap c.held n) (sym up) ∙ gap_more c.held keys (row - length cells) c.rest ∙ sym (keys_gap key cells (row - length cells)) in
      let is : with_key c.held row k ≡ keys_of key (with_key cells row x) =
      ap (λ (xs : List (Option K)). xs ++ Some k ∷ []) fronts
      ∙ ap (λ (o : Option K). keys_of key (with_gap cells row) ++ o ∷ []) (sym e)
      ∙ sym (map-append (key_in key) (with_gap cells row) (Some x ∷ [])) in
      record {
        held = with_key c.held row k;
        holds = f c.held c.holds;
        rest = whole (with_key c.held row k) (keys_of key (with_key cells row x)) is;
      }
    where
      whole : (xs ys : List (Option K)) → xs ≡ ys → with_gap xs (length ys) ≡ ys
      whole xs ys e =
          let none : length ys - length xs ≡ 0 = omega (arith, ap length e) in
          ap (λ (n : ℕ). xs ++ replicate n None) none ∙ append-nil xs ∙ e

  -- the cells of another column behind
  pub covers_append : (H M H' : List (Option K) → Type 0) (key : Cell → Option K) (cells more : List (Option Cell)) → ((held behind : List (Option K)) → H held → M behind → H' (with_gap held (length cells) ++ behind)) → Covers H (keys_of key cells) → Covers M (keys_of key more) → Covers H' (keys_of key (cells ++ more))
  covers_append H M H' key cells more f c d =
      let keys = keys_of key cells in
      let behind = keys_of key more in
      let many : length keys ≡ length cells = length-map cells (key_in key) in
      let front : with_gap c.held (length cells) ≡ keys = ap (λ (n : ℕ). with_gap c.held n) (sym many) ∙ c.rest in
      let parts : keys_of key (cells ++ more) ≡ keys ++ behind = map-append (key_in key) cells more in
      let few : length d.held ≤ length behind = short d.held behind d.rest in
      let long : length (keys_of key (cells ++ more)) - length (keys ++ d.held) ≡ length behind - length d.held =
      omega (arith, ap length parts, length-append keys behind, length-append keys d.held) in
      record {
        held = with_gap c.held (length cells) ++ d.held;
        holds = f c.held d.held c.holds d.holds;
        rest = ap (λ (xs : List (Option K)). with_gap (xs ++ d.held) (length (keys_of key (cells ++ more)))) front
            ∙ ap (λ (n : ℕ). (keys ++ d.held) ++ replicate n None) long
            ∙ append_assoc keys d.held (replicate (length behind - length d.held) None)
            ∙ ap (λ (xs : List (Option K)). keys ++ xs) d.rest
            ∙ sym parts;
      }

  pub covers_none : (H : List (Option K) → Type 0) → H [] → Covers H []
  covers_none H h = record { held = []; holds = h; rest = refl }

-- tests that agree on the cells of a kind have one answer
pub answered : (bits : List Bool) (test q : Cell → Bool) (kind : Kind) (cells : List (Option Cell)) → AreOf kind cells → ((x : Cell) → fits_kind kind x ≡ true → test x ≡ q x) → Answers bits test cells → Answers bits q cells
answered bits test q kind cells are f e = e ∙ answers-same test q cells (λ row x l g. f x (are row x g))

never : (cells : List (Option Cell)) → replicate (length cells) false ≡ answers (λ _. false) cells
never [] = refl
never (None ∷ cells) = ap (λ (bits : List Bool). false ∷ bits) (never cells)
never (Some x ∷ cells) = ap (λ (bits : List Bool). false ∷ bits) (never cells)

pub none_answers : (bits : List Bool) (cells : List (Option Cell)) → bits ≡ [] → Answers bits (λ _. false) cells
none_answers bits cells e =
    let all : length cells - 0 ≡ length cells = omega arith in
    ap (λ (b : List Bool). padded false b (length cells)) e ∙ ap (λ (n : ℕ). replicate n false) all ∙ never cells

-- no row is answered where no cell of the kind passes
pub none_answered : (bits : List Bool) (q : Cell → Bool) (kind : Kind) (cells : List (Option Cell)) → bits ≡ [] → AreOf kind cells → ((x : Cell) → fits_kind kind x ≡ true → q x ≡ false) → Answers bits q cells
none_answered bits q kind cells e are f = answered bits (λ _. false) q kind cells are (λ x h. sym (f x h)) (none_answers bits cells e)

-- a test that no key meets
pub never_met : {K : Type 0} (key : Cell → Option K) (bits : List Bool) (cells : List (Option Cell)) → bits ≡ [] → Answers bits (λ x. meets (λ _. false) (key x)) cells
never_met key bits cells e = none_answers bits cells e ∙ answers-same (λ _. false) (λ x. meets (λ _. false) (key x)) cells (λ row x l g. sym (unmet (key x)))
  where
    unmet : {K : Type 0} (o : Option K) → meets (λ _. false) o ≡ false
    unmet None = refl
    unmet (Some k) = refl

-- the rows that have a key and aren't among others
pub others_answers : {K : Type 0} (p : K → Bool) (held : List (Option K)) (set rows others : List Bool) → others ≡ bitwise and_not set rows → set ≡ answers (λ _. true) held → rows ≡ answers p held → others ≡ answers (λ k. not (p k)) held
others_answers p held set rows others e f g =
    e ∙ ap (λ (bits : List Bool). bitwise and_not bits rows) f ∙ ap (bitwise and_not (answers (λ _. true) held)) g ∙ answers-and_not (λ _. true) p held

-- answers joined bit by bit
pub everywhere : (bits : List Bool) (p q : Cell → Bool) (cells : List (Option Cell)) → ((x : Cell) → p x ≡ q x) → Answers bits p cells → Answers bits q cells
everywhere bits p q cells f e = e ∙ answers-same p q cells (λ row x l g. f x)

padded_bitwise : (f : Bool → Bool → Bool) (a b : List Bool) (n : ℕ) → f false false ≡ false → length a ≡ length b → padded false (bitwise f a b) n ≡ bitwise f (padded false a n) (padded false b n)
padded_bitwise f a b n z e =
    ap (λ (k : ℕ). bitwise f a b ++ replicate (n - k) false) (same_length f a b e)
    ∙ joined f a b (n - length a) z e
    ∙ ap (λ (k : ℕ). bitwise f (padded false a n) (b ++ replicate (n - k) false)) e
  where
    same_length : (f : Bool → Bool → Bool) (a b : List Bool) → length a ≡ length b → length (bitwise f a b) ≡ length a
    same_length f [] b e = refl
    same_length f (x ∷ a) [] e = absurd (omega (arith, e))
    same_length f (x ∷ a) (y ∷ b) e = ap suc (same_length f a b (omega (arith, e)))

    zeros : (f : Bool → Bool → Bool) (n : ℕ) → f false false ≡ false → replicate n false ≡ bitwise f (replicate n false) (replicate n false)
    zeros f zero z = refl
    zeros f (suc n) z = ap (λ (b : Bool). b ∷ replicate n false) (sym z) ∙ ap (λ (bits : List Bool). f false false ∷ bits) (zeros f n z)

    joined : (f : Bool → Bool → Bool) (a b : List Bool) (n : ℕ) → f false false ≡ false → length a ≡ length b → bitwise f a b ++ replicate n false ≡ bitwise f (a ++ replicate n false) (b ++ replicate n false)
    joined f [] [] n z e = zeros f n z
    joined f [] (y ∷ b) n z e = absurd (omega (arith, e))
    joined f (x ∷ a) [] n z e = absurd (omega (arith, e))
    joined f (x ∷ a) (y ∷ b) n z e = ap (λ (bits : List Bool). f x y ∷ bits) (joined f a b n z (omega (arith, e)))

pub both_answers : (a b bits : List Bool) (p q : Cell → Bool) (cells : List (Option Cell)) → bits ≡ bitwise ◌&&◌ a b → length a ≡ length b → Answers a p cells → Answers b q cells → Answers bits (λ x. p x && q x) cells
both_answers a b bits p q cells e l f g =
    ap (λ (xs : List Bool). padded false xs (length cells)) e ∙ padded_bitwise ◌&&◌ a b (length cells) refl l
    ∙ ap (λ (xs : List Bool). bitwise ◌&&◌ xs (padded false b (length cells))) f ∙ ap (bitwise ◌&&◌ (answers p cells)) g ∙ answers-and p q cells

pub without_answers : (a b bits : List Bool) (p q : Cell → Bool) (cells : List (Option Cell)) → bits ≡ bitwise and_not a b → length a ≡ length b → Answers a p cells → Answers b q cells → Answers bits (λ x. p x && not (q x)) cells
without_answers a b bits p q cells e l f g =
    ap (λ (xs : List Bool). padded false xs (length cells)) e ∙ padded_bitwise and_not a b (length cells) refl l
    ∙ ap (λ (xs : List Bool). bitwise and_not xs (padded false b (length cells))) f ∙ ap (bitwise and_not (answers p cells)) g ∙ answers-and_not p q cells
