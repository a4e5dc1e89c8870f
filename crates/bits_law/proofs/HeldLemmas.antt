-- Lines of bits, as the lists that a table shows.
use Rattle.std.proofs.Common.{◌≡◌, ℕ, suc, ◌+◌, ◌-◌, ◌<◌, ◌≤◌, Bool, true, false, List, [], ◌∷◌, ◌++◌, length, get_or, replicate, refl, ap, ap₂, sym, ◌∙◌, inl, inr, arith}
use Rattle.std.proofs.lemmas.Bool.{cases_lt}
use Rattle.std.proofs.lemmas.List.{ext_get_or, length-append, length-replicate, get_or-replicate, get_or_append_left, get_or-append_right}
use Rattle.std.proofs.lemmas.List.FromFn.{length-map-range_with_len, get_or-map-range_with_len, map-range_with_len_more}
use Rattle.bits_law.specs.Keys.{padded, placed}
use Rattle.bits_law.specs.Contents.{Contents, IsPlaced, IsPadded, IsJoined, IsEven}
use Rattle.bits_law.specs.Blocks.{line_of, held, line_bit, AreSame, IsSet, AreJoined}

pub length_line : (bit : ℕ → ℕ → Bool) (rows line : ℕ) → length (line_of bit rows line) ≡ rows
length_line bit rows line = length-map-range_with_len (bit line) 0 rows

pub get_line : (bit : ℕ → ℕ → Bool) (rows line i : ℕ) → i < rows → get_or (line_of bit rows line) i false ≡ bit line i
get_line bit rows line i l = let at : 0 + i ≡ i = omega arith in get_or-map-range_with_len (bit line) 0 rows i i false l at

-- the columns of what lines hold
pub held_wide : (bit : ℕ → ℕ → Bool) (width rows : ℕ) → length (held bit width rows).columns ≡ width
held_wide bit width rows = length-map-range_with_len (λ j. line_of bit rows (j + 1)) 0 width

pub held_column : (bit : ℕ → ℕ → Bool) (width rows j : ℕ) → j < width → get_or (held bit width rows).columns j [] ≡ line_of bit rows (j + 1)
held_column bit width rows j l = let at : 0 + j ≡ j = omega arith in get_or-map-range_with_len (λ j. line_of bit rows (j + 1)) 0 width j j [] l at

pub held_present : (bit : ℕ → ℕ → Bool) (width rows : ℕ) → length (held bit width rows).present ≡ rows
held_present bit width rows = length_line bit rows 0

pub held_even : (bit : ℕ → ℕ → Bool) (width rows : ℕ) → IsEven (held bit width rows)
held_even bit width rows j l =
    let under : j < width = omega (arith, held_wide bit width rows) in
    ap length (held_column bit width rows j under) ∙ length_line bit rows (j + 1) ∙ sym (held_present bit width rows)

-- lines that are the same
pub line_same : (old new : ℕ → ℕ → Bool) (line rows : ℕ) → ((row : ℕ) → row < rows → new line row ≡ old line row) → line_of new rows line ≡ line_of old rows line
line_same old new line rows same = ext_get_or false (line_of new rows line) (line_of old rows line) (length_line new rows line ∙ sym (length_line old rows line)) (λ i u.
    let under : i < rows = omega (arith, length_line new rows line) in
    get_line new rows line i under ∙ same i under ∙ sym (get_line old rows line i under))

pub held_same : (old new : ℕ → ℕ → Bool) (width rows : ℕ) → AreSame old new width → held new width rows ≡ held old width rows
held_same old new width rows same = both _ _ _ _ (line_same old new 0 rows (λ row l. same 0 row (omega arith)))
    (ext_get_or [] (held new width rows).columns (held old width rows).columns (held_wide new width rows ∙ sym (held_wide old width rows)) (λ j u.
    let under : j < width = omega (arith, held_wide new width rows) in
    held_column new width rows j under ∙ line_same old new (j + 1) rows (λ row l. same (j + 1) row (omega arith)) ∙ sym (held_column old width rows j under)))
  where
    contents : List Bool → List (List Bool) → Contents
    contents p c = record { present = p; columns = c }

    both : (p q : List Bool) (c d : List (List Bool)) → p ≡ q → c ≡ d → contents p c ≡ contents q d
    both p q c d e f = ap₂ contents e f

-- a line grows
line_padded : (old new : ℕ → ℕ → Bool) (line rows to : ℕ) → rows ≤ to → ((row : ℕ) → row < rows → new line row ≡ old line row) → ((row : ℕ) → rows ≤ row → row < to → new line row ≡ false) → line_of new to line ≡ padded false (line_of old rows line) to
line_padded old new line rows to more same gap =
    ext_get_or false (line_of new to line) (padded false xs to) (length_line new to line ∙ sym long) (λ i l.
    let under : i < to = omega (arith, length_line new to line) in
    get_line new to line i under ∙ elim (cases_lt i rows) [
      | inl less ↦ same i less ∙ sym (get_line old rows line i less) ∙ sym (get_or_append_left xs (replicate (to - length xs) false) false i (omega (arith, wide)))
      | inr beyond ↦ gap i beyond under ∙ sym (get_or-replicate (to - length xs) (i - rows) false false (omega (arith, wide))) ∙ sym (get_or-append_right xs (replicate (to - length xs) false) rows i false wide beyond)
    ])
  where
    xs : List Bool
    xs = line_of old rows line

    wide : length xs ≡ rows
    wide = length_line old rows line

    long : length (padded false xs to) ≡ to
    long = length-append xs (replicate (to - length xs) false) ∙ omega (arith, wide, length-replicate (to - length xs) false)

line_placed : (old new : ℕ → ℕ → Bool) (line rows row : ℕ) (bit : Bool) → rows ≤ row → ((i : ℕ) → i < rows → new line i ≡ old line i) → ((i : ℕ) → rows ≤ i → i < row → new line i ≡ false) → new line row ≡ bit → line_of new (row + 1) line ≡ placed false (line_of old rows line) row bit
line_placed old new line rows row bit after same gap here =
    let at : 0 + row ≡ row = omega arith in
    map-range_with_len_more (new line) 0 row row at
    ∙ ap (λ xs. xs ++ new line row ∷ []) (line_padded old new line rows row after same gap)
    ∙ ap (λ b. padded false (line_of old rows line) row ++ b ∷ []) here

line_joined : (old other new : ℕ → ℕ → Bool) (line n m : ℕ) → ((i : ℕ) → i < n → new line i ≡ old line i) → ((i : ℕ) → i < m → new line (n + i) ≡ other line i) → line_of new (n + m) line ≡ line_of old n line ++ line_of other m line
line_joined old other new line n m same more =
    ext_get_or false (line_of new (n + m) line) (xs ++ ys) (length_line new (n + m) line ∙ sym long) (λ i l.
    let under : i < n + m = omega (arith, length_line new (n + m) line) in
    get_line new (n + m) line i under ∙ elim (cases_lt i n) [
      | inl less ↦ same i less ∙ sym (get_line old n line i less) ∙ sym (get_or_append_left xs ys false i (omega (arith, length_line old n line)))
      | inr beyond ↦
          let back : n + (i - n) ≡ i = omega arith in
          ap (new line) (sym back) ∙ more (i - n) (omega arith)
          ∙ sym (get_line other m line (i - n) (omega arith))
          ∙ sym (get_or-append_right xs ys n i false (length_line old n line) beyond)
    ])
  where
    xs : List Bool
    xs = line_of old n line

    ys : List Bool
    ys = line_of other m line

    long : length (xs ++ ys) ≡ n + m
    long = length-append xs ys ∙ omega (arith, length_line old n line, length_line other m line)

-- a gap
pub padded_is : (old new : ℕ → ℕ → Bool) (width rows to : ℕ) → rows ≤ to → AreSame old new width → ((line row : ℕ) → line ≤ width → rows ≤ row → old line row ≡ false) → IsPadded (held old width rows) (held new width to) to
padded_is old new width rows to more same clear = record {
  present = line_padded old new 0 rows to more (λ i l. same 0 i (omega arith)) (λ i l u. same 0 i (omega arith) ∙ clear 0 i (omega arith) l);
  each = record {
    wide = held_wide new width to ∙ sym (held_wide old width rows);
    column = λ j u.
        let under : j < width = omega (arith, held_wide old width rows) in
        held_column new width to j under
        ∙ line_padded old new (j + 1) rows to more (λ i l. same (j + 1) i (omega arith)) (λ i l u. same (j + 1) i (omega arith) ∙ clear (j + 1) i (omega arith) l)
        ∙ ap (λ xs. padded false xs to) (sym (held_column old width rows j under));
  };
}

-- a key is put
module _ (old new : ℕ → ℕ → Bool) (width rows row : ℕ) (bit : ℕ → Bool) (after : rows ≤ row) (set : IsSet old new width row bit) (clear : (line row : ℕ) → line ≤ width → rows ≤ row → old line row ≡ false) where
  line_is : (line : ℕ) (b : Bool) → line ≤ width → line_bit bit line ≡ b → line_of new (row + 1) line ≡ placed false (line_of old rows line) row b
  line_is line b l e =
      line_placed old new line rows row b after
      (λ i u. set.other line i l (omega arith))
      (λ i u v. set.other line i l (omega arith) ∙ clear line i l u)
      (set.here line l ∙ e)

  pub placed_is : IsPlaced (held old width rows) (held new width (row + 1)) row bit
  placed_is = record {
    present = line_is 0 true (omega arith) refl;
    each = record {
      wide = held_wide new width (row + 1) ∙ sym (held_wide old width rows);
      column = λ j u.
          let under : j < width = omega (arith, held_wide old width rows) in
          let next : j + 1 ≡ suc j = omega arith in
          held_column new width (row + 1) j under
          ∙ line_is (j + 1) (bit j) (omega arith) (ap (line_bit bit) next)
          ∙ ap (λ xs. placed false xs row (bit j)) (sym (held_column old width rows j under));
    };
  }

  pub placed_clear : (line r : ℕ) → line ≤ width → row + 1 ≤ r → new line r ≡ false
  placed_clear line r l u = set.other line r l (omega arith) ∙ clear line r l (omega arith)

-- the rows of another table are added
pub joined_is : (old other new : ℕ → ℕ → Bool) (width rows more : ℕ) → AreJoined old other new width rows → IsJoined (held old width rows) (held other width more) (held new width (rows + more))
joined_is old other new width rows more joined = record {
  present = line_joined old other new 0 rows more (λ i u. joined.before 0 i (omega arith) u) (λ i u. joined.behind 0 i (omega arith));
  each = record {
    wide = held_wide new width (rows + more) ∙ sym (held_wide old width rows);
    column = λ j u.
        let under : j < width = omega (arith, held_wide old width rows) in
        held_column new width (rows + more) j under
        ∙ line_joined old other new (j + 1) rows more (λ i u. joined.before (j + 1) i (omega arith) u) (λ i u. joined.behind (j + 1) i (omega arith))
        ∙ ap (λ xs. xs ++ line_of other more (j + 1)) (sym (held_column old width rows j under))
        ∙ ap (λ xs. get_or (held old width rows).columns j [] ++ xs) (sym (held_column other width more j under));
  };
}
