-- What is asked of lines, in words.
use Rattle.std.proofs.Common.{◌≡◌, ℕ, zero, suc, ◌+◌, ◌-◌, ◌*◌, ◌/◌, ◌%◌, ◌^◌, ◌<◌, ◌≤◌, min, Bool, true, false, cond, eqb, ltb, not, ◌&&◌, ◌||◌, List, [], ◌++◌, length, get_or, take, drop, refl, ap, sym, ◌∙◌, inl, inr, arith}
use Rattle.std.proofs.lemmas.Bool.{cases_lt, lt-ltb, le-ltb}
use Rattle.std.proofs.Math.Nat.{div-one}
use Rattle.std.proofs.lemmas.List.{ext_get_or, length-append, get_or_append_left, get_or-append_right, get_or-take, get_or-drop, length-take, length-drop, take_all}
use Rattle.std.proofs.lemmas.List.FromFn.{length-map-range_with_len, get_or-map-range_with_len}
use Rattle.bits_law.specs.Bitwise.{bitwise, bits_below}
use Rattle.bits_law.specs.Numbers.{has_bit, then_bit, number_at, holds, IsAnswer}
use Rattle.bits_law.specs.declared.slices.Order.{Order}
use Rattle.bits_law.specs.Blocks.{Lines, blocks, word_at, waiting, bit_at, block_in, bit_in, line_of, held, asked_rows, number_in}
use Rattle.bits_law.proofs.WordBits.{bit-none, length_below, get_below}
use Rattle.bits_law.proofs.BitwiseLemmas.{length-bitwise, get_or-bitwise}
use Rattle.bits_law.proofs.NumberLemmas.{number_at-more, below_more, equal_more, half_key}
use Rattle.bits_law.proofs.StoreLemmas.{bit_stored, bit_waiting}
use Rattle.bits_law.proofs.HeldLemmas.{length_line, get_line, held_wide, held_column}

-- one bit of the halves, after one more word
pub below_step : (a bit s : Bool) (p k half : ℕ) → bit ≡ eqb (k % 2) 1 → k / 2 ≡ half → cond bit ((a && ltb p half) || ((a && eqb p half) && not s)) (a && ltb p half) ≡ (a && ltb (then_bit p s) k)
below_step true bit s p k half b h = ap (λ h. cond bit (ltb p h || (eqb p h && not s)) (ltb p h)) (sym h) ∙ below_more p k s bit b
below_step false true s p k half b h = refl
below_step false false s p k half b h = refl

pub equal_step : (a bit s : Bool) (p k half : ℕ) → bit ≡ eqb (k % 2) 1 → k / 2 ≡ half → ((a && eqb p half) && cond bit s (not s)) ≡ (a && eqb (then_bit p s) k)
equal_step true bit s p k half b h = ap (λ h. eqb p h && cond bit s (not s)) (sym h) ∙ equal_more p k s bit b
equal_step false bit s p k half b h = refl

-- the halves at one bit, once `j` words are read
pub record AreHalves (words : List ℕ) (first count key among less same j : ℕ) : Type 0 where
  pub below : (i : ℕ) → i < 64 → has_bit less i ≡ (has_bit among i && ltb (number_in words first j i) (key / 2 ^ (count - j)))
  pub equal : (i : ℕ) → i < 64 → has_bit same i ≡ (has_bit among i && eqb (number_in words first j i) (key / 2 ^ (count - j)))

pub halves_more : (words : List ℕ) (first count key among below equal next_below next_equal word j : ℕ) (bit : Bool) → j < count → bit ≡ eqb (key / 2 ^ (count - 1 - j) % 2) 1 → word ≡ get_or words (first + j) 0 → ((i : ℕ) → i < 64 → has_bit next_below i ≡ cond bit (has_bit below i || (has_bit equal i && not (has_bit word i))) (has_bit below i)) → ((i : ℕ) → i < 64 → has_bit next_equal i ≡ (has_bit equal i && cond bit (has_bit word i) (not (has_bit word i)))) → AreHalves words first count key among below equal j → AreHalves words first count key among next_below next_equal (j + 1)
halves_more words first count key among below equal next_below next_equal word j bit l b w nb ne h = record {
  below = λ i u.
      nb i u
      ∙ ap (λ x. cond bit (x || (has_bit equal i && not (has_bit word i))) x) (h.below i u)
      ∙ ap (λ x. cond bit (under i || (x && not (has_bit word i))) (under i)) (h.equal i u)
      ∙ below_step (has_bit among i) bit (has_bit word i) (number_in words first j i) (key / 2 ^ (count - (j + 1))) (key / 2 ^ (count - j)) here (half_key key count j l)
      ∙ ap (λ n. has_bit among i && ltb n (key / 2 ^ (count - (j + 1)))) (next i);
  equal = λ i u.
      ne i u
      ∙ ap (λ x. x && cond bit (has_bit word i) (not (has_bit word i))) (h.equal i u)
      ∙ equal_step (has_bit among i) bit (has_bit word i) (number_in words first j i) (key / 2 ^ (count - (j + 1))) (key / 2 ^ (count - j)) here (half_key key count j l)
      ∙ ap (λ n. has_bit among i && eqb n (key / 2 ^ (count - (j + 1)))) (next i);
}
  where
    under : ℕ → Bool
    under i = has_bit among i && ltb (number_in words first j i) (key / 2 ^ (count - j))

    here : bit ≡ eqb (key / 2 ^ (count - (j + 1)) % 2) 1
    here = let m : count - 1 - j ≡ count - (j + 1) = omega arith in b ∙ ap (λ m. eqb (key / 2 ^ m % 2) 1) m

    next : (i : ℕ) → then_bit (number_in words first j i) (has_bit word i) ≡ number_in words first (j + 1) i
    next i =
        let more : suc j ≡ j + 1 = omega arith in
        ap (λ v. then_bit (number_in words first j i) (has_bit v i)) w ∙ ap (λ n. number_in words first n i) more

-- once no number is equal to the key's first bits, the words below decide nothing
settled : (words : List ℕ) (first count key i j d : ℕ) (a : Bool) → j + d ≤ count → (a && eqb (number_in words first j i) (key / 2 ^ (count - j))) ≡ false → ((a && ltb (number_in words first (j + d) i) (key / 2 ^ (count - (j + d)))) ≡ (a && ltb (number_in words first j i) (key / 2 ^ (count - j)))) × ((a && eqb (number_in words first (j + d) i) (key / 2 ^ (count - (j + d)))) ≡ false)
settled words first count key i j zero a l e =
    let at : j + 0 ≡ j = omega arith in
    (ap (λ n. a && ltb (number_in words first n i) (key / 2 ^ (count - n))) at, ap (λ n. a && eqb (number_in words first n i) (key / 2 ^ (count - n))) at ∙ e)
settled words first count key i j (suc d) a l e =
    let m : j + d < count = omega arith in
    let before = settled words first count key i j d a (omega arith) e in
    let more : j + suc d ≡ suc (j + d) = omega arith in
    let next : j + d + 1 ≡ suc (j + d) = omega arith in
    let half = half_key key count (j + d) m ∙ refl in
    let k : ℕ = key / 2 ^ (count - (j + d + 1)) in
    let p : ℕ = number_in words first (j + d) i in
    let h : ℕ = key / 2 ^ (count - (j + d)) in
    let s : Bool = has_bit (get_or words (first + (j + d)) 0) i in
    let bit : Bool = eqb (k % 2) 1 in (
      ap (λ n. a && ltb (number_in words first n i) (key / 2 ^ (count - n))) more
          ∙ ap (λ n. a && ltb (then_bit p s) (key / 2 ^ (count - n))) (sym next)
          ∙ sym (below_step a bit s p k h refl half)
          ∙ ap (λ x. cond bit ((a && ltb p h) || (x && not s)) (a && ltb p h)) before.1
          ∙ same bit (a && ltb p h)
          ∙ before.0,
      ap (λ n. a && eqb (number_in words first n i) (key / 2 ^ (count - n))) more
          ∙ ap (λ n. a && eqb (then_bit p s) (key / 2 ^ (count - n))) (sym next)
          ∙ sym (equal_step a bit s p k h refl half)
          ∙ ap (λ x. x && cond bit s (not s)) before.1,
    )
  where
    same : (bit x : Bool) → cond bit (x || false) x ≡ x
    same true true = refl
    same true false = refl
    same false x = refl

-- the halves of the whole key
pub halves_all : (words : List ℕ) (first count key among below equal j : ℕ) → j ≡ count → AreHalves words first count key among below equal j → ((i : ℕ) → i < 64 → has_bit below i ≡ (has_bit among i && ltb (number_in words first count i) key)) × ((i : ℕ) → i < 64 → has_bit equal i ≡ (has_bit among i && eqb (number_in words first count i) key))
halves_all words first count key among below equal j e h = (
  λ i u. h.below i u ∙ ap (λ n. has_bit among i && ltb (number_in words first n i) (key / 2 ^ (count - n))) e ∙ ap (λ k. has_bit among i && ltb (number_in words first count i) k) whole,
  λ i u. h.equal i u ∙ ap (λ n. has_bit among i && eqb (number_in words first n i) (key / 2 ^ (count - n))) e ∙ ap (λ k. has_bit among i && eqb (number_in words first count i) k) whole,
)
  where
    whole : key / 2 ^ (count - count) ≡ key
    whole = let none : count - count ≡ 0 = omega arith in ap (λ n. key / 2 ^ n) none ∙ div-one key

pub halves_settled : (words : List ℕ) (first count key among below equal j : ℕ) → j ≤ count → equal ≡ 0 → AreHalves words first count key among below equal j → AreHalves words first count key among below equal count
halves_settled words first count key among below equal j l e h = record {
  below = λ i u. h.below i u ∙ sym (over i u).0 ∙ ap (λ n. has_bit among i && ltb (number_in words first n i) (key / 2 ^ (count - n))) end;
  equal = λ i u. gone i ∙ sym (over i u).1 ∙ ap (λ n. has_bit among i && eqb (number_in words first n i) (key / 2 ^ (count - n))) end;
}
  where
    gone : (i : ℕ) → has_bit equal i ≡ false
    gone i = ap (λ w. has_bit w i) e ∙ bit-none i

    end : j + (count - j) ≡ count
    end = omega arith

    over : (i : ℕ) → i < 64 → ((has_bit among i && ltb (number_in words first (j + (count - j)) i) (key / 2 ^ (count - (j + (count - j))))) ≡ (has_bit among i && ltb (number_in words first j i) (key / 2 ^ (count - j)))) × ((has_bit among i && eqb (number_in words first (j + (count - j)) i) (key / 2 ^ (count - (j + (count - j))))) ≡ false)
    over i u = settled words first count key i j (count - j) (has_bit among i) (omega arith) (sym (h.equal i u) ∙ gone i)

-- a relation is asked of the rows that are among those that count
pub related_bit : (a x b e : Bool) (rel : Order) (n key : ℕ) → b ≡ (a && ltb n key) → e ≡ (a && eqb n key) → (b ≡ ltb n key → e ≡ eqb n key → x ≡ holds rel n key) → (a && x) ≡ (a && holds rel n key)
related_bit true x b e rel n key p q h = h p q
related_bit false x b e rel n key p q h = refl

-- the answers of the blocks so far
pub record IsBegun (bits : List Bool) (test : ℕ → Bool) (rows block : ℕ) : Type 0 where
  pub long : length bits ≡ min (64 * block) rows
  pub each : (row : ℕ) → row < 64 * block → row < rows → get_or bits row false ≡ test row

pub begun_none : (bits : List Bool) (test : ℕ → Bool) (rows : ℕ) → bits ≡ [] → IsBegun bits test rows 0
begun_none bits test rows e = record { long = ap length e ∙ omega arith; each = λ row l u. absurd (omega arith) }

pub begun_more : (bits more : List Bool) (test : ℕ → Bool) (rows block word n : ℕ) → block < blocks rows → n ≡ min (rows - 64 * block) 64 → more ≡ bits ++ bits_below word n → ((i : ℕ) → i < 64 → 64 * block + i < rows → has_bit word i ≡ test (64 * block + i)) → IsBegun bits test rows block → IsBegun more test rows (block + 1)
begun_more bits more test rows block word n l is e h b = record {
  long = ap length e ∙ length-append bits (bits_below word n) ∙ omega (arith, b.long, length_below word n);
  each = λ row u v. ap (λ xs. get_or xs row false) e ∙ elim (cases_lt row (64 * block)) [
    | inl less ↦ get_or_append_left bits (bits_below word n) false row (omega (arith, b.long)) ∙ b.each row less v
    | inr here ↦
        let back : 64 * block + (row - 64 * block) ≡ row = omega arith in
        get_or-append_right bits (bits_below word n) (64 * block) row false (omega (arith, b.long)) here
        ∙ get_below word n (row - 64 * block) (omega arith)
        ∙ h (row - 64 * block) (omega arith) (omega arith)
        ∙ ap test back
  ];
}

pub begun_length : (bits : List Bool) (test : ℕ → Bool) (rows block : ℕ) → blocks rows ≤ block → IsBegun bits test rows block → length bits ≡ rows
begun_length bits test rows block l b = omega (arith, b.long)

pub begun_line : (bits : List Bool) (bit : ℕ → ℕ → Bool) (rows line block : ℕ) → blocks rows ≤ block → IsBegun bits (bit line) rows block → bits ≡ line_of bit rows line
begun_line bits bit rows line block l b =
    ext_get_or false bits (line_of bit rows line) (begun_length bits (bit line) rows block l b ∙ sym (length_line bit rows line)) (λ i u.
    let under : i < rows = omega (arith, begun_length bits (bit line) rows block l b) in
    b.each i (omega arith) under ∙ sym (get_line bit rows line i under))

pub begun_answer : (bits : List Bool) (bit : ℕ → ℕ → Bool) (rows block : ℕ) (all : Bool) (test : ℕ → Bool) → blocks rows ≤ block → IsBegun bits (λ row. (all || bit 0 row) && test row) rows block → IsAnswer bits (asked_rows bit rows all) test
begun_answer bits bit rows block all test l b = record {
  rows = begun_length bits (λ row. (all || bit 0 row) && test row) rows block l b ∙ sym wide;
  each = λ row u.
      let under : row < rows = omega (arith, wide) in
      let at : 0 + row ≡ row = omega arith in
      b.each row (omega arith) under
      ∙ ap (λ x. x && test row) (sym (get_or-map-range_with_len (λ row. all || bit 0 row) 0 rows row row false under at));
}
  where
    wide : length (asked_rows bit rows all) ≡ rows
    wide = length-map-range_with_len (λ row. all || bit 0 row) 0 rows

-- the bit of a block's word is that of its row
pub row_bit : (stored last : Lines) (line block i word : ℕ) → i < 64 → word ≡ get_or (block_in stored last block) line 0 → has_bit word i ≡ bit_in stored last line (64 * block + i)
row_bit stored last line block i word l e =
    let q : block ≡ (64 * block + i) / 64 = omega arith in
    let r : i ≡ (64 * block + i) % 64 = omega arith in
    ap (λ w. has_bit w i) e
    ∙ ap (λ b. has_bit (get_or (block_in stored last b) line 0) i) q ∙ ap (has_bit (get_or (block_in stored last ((64 * block + i) / 64)) line 0)) r

pub asked_bit : (stored last : Lines) (first count key block i word : ℕ) (all : Bool) (rel : Order) → i < 64 → has_bit word i ≡ ((all || has_bit (get_or (block_in stored last block) 0 0) i) && holds rel (number_in (block_in stored last block) first count i) key) → has_bit word i ≡ ((all || bit_in stored last 0 (64 * block + i)) && holds rel (number_in (block_in stored last ((64 * block + i) / 64)) first count ((64 * block + i) % 64)) key)
asked_bit stored last first count key block i word all rel l e =
    let q : block ≡ (64 * block + i) / 64 = omega arith in
    let r : i ≡ (64 * block + i) % 64 = omega arith in
    e
    ∙ ap (λ b. (all || has_bit (get_or (block_in stored last b) 0 0) i) && holds rel (number_in (block_in stored last b) first count i) key) q
    ∙ ap (λ k. (all || has_bit (get_or (block_in stored last ((64 * block + i) / 64)) 0 0) k) && holds rel (number_in (block_in stored last ((64 * block + i) / 64)) first count k) key) r

-- the blocks and the last one show what the store holds
pub shown_bit : (stored last : Lines) (keys : List ℕ) (taken rows : ℕ) → rows ≤ 64 * length stored.blocks + 64 → ((line i : ℕ) → line ≤ stored.width → i < 64 → has_bit (word_at last 0 line) i ≡ waiting keys stored.width taken line i) → (line row : ℕ) → line ≤ stored.width → row < rows → bit_in stored last line row ≡ bit_at stored keys taken line row
shown_bit stored last keys taken rows near is line row l u = elim (cases_lt (row / 64) (length stored.blocks)) [
  | inl less ↦
      ap (λ b. has_bit (get_or (cond b (get_or stored.blocks (row / 64) []) (get_or last.blocks 0 [])) line 0) (row % 64)) (lt-ltb (row / 64) (length stored.blocks) less)
      ∙ sym (bit_stored stored keys taken line row less)
  | inr more ↦
      ap (λ b. has_bit (get_or (cond b (get_or stored.blocks (row / 64) []) (get_or last.blocks 0 [])) line 0) (row % 64)) (le-ltb (row / 64) (length stored.blocks) more)
      ∙ is line (row % 64) l (omega arith)
      ∙ sym (bit_waiting stored keys taken line row (omega arith))
]

module _ (bit seen : ℕ → ℕ → Bool) (width rows : ℕ) (same : (line row : ℕ) → line ≤ width → row < rows → seen line row ≡ bit line row) where
  pub line_seen : (line : ℕ) → line ≤ width → line_of seen rows line ≡ line_of bit rows line
  line_seen line l = ext_get_or false (line_of seen rows line) (line_of bit rows line) (length_line seen rows line ∙ sym (length_line bit rows line)) (λ i u.
      let under : i < rows = omega (arith, length_line seen rows line) in
      get_line seen rows line i under ∙ same line i l under ∙ sym (get_line bit rows line i under))

  rows_seen : (all : Bool) → asked_rows seen rows all ≡ asked_rows bit rows all
  rows_seen all =
      let wide = length-map-range_with_len (λ row. all || seen 0 row) 0 rows in
      let wide_too = length-map-range_with_len (λ row. all || bit 0 row) 0 rows in
      ext_get_or false (asked_rows seen rows all) (asked_rows bit rows all) (wide ∙ sym wide_too) (λ i u.
      let under : i < rows = omega (arith, wide) in
      let at : 0 + i ≡ i = omega arith in
      get_or-map-range_with_len (λ row. all || seen 0 row) 0 rows i i false under at
      ∙ ap (λ b. all || b) (same 0 i (omega arith) under)
      ∙ sym (get_or-map-range_with_len (λ row. all || bit 0 row) 0 rows i i false under at))

  -- the number of a run of columns
  number_held : (block : List ℕ) (from count row : ℕ) → ((line : ℕ) → has_bit (get_or block line 0) (row % 64) ≡ seen line row) → from + count ≤ width → row < rows → number_in block (from + 1) count (row % 64) ≡ number_at (take count (drop from (held bit width rows).columns)) row
  number_held block from count row is w l =
      first_columns count (omega arith) ∙ ap (λ cs. number_at cs row) (take_all count slices (omega (arith, wide)))
    where
      columns : List (List Bool)
      columns = (held bit width rows).columns

      slices : List (List Bool)
      slices = take count (drop from columns)

      wide : length slices ≡ count
      wide = length-take count (drop from columns) ∙ omega (arith, length-drop from columns, held_wide bit width rows)

      slice_bit : (j : ℕ) → j < count → has_bit (get_or block (from + 1 + j) 0) (row % 64) ≡ get_or (get_or slices j []) row false
      slice_bit j u =
          let at : from + 1 + j ≡ from + j + 1 = omega arith in
          is (from + 1 + j) ∙ ap (λ k. seen k row) at ∙ same (from + j + 1) row (omega arith) l
          ∙ sym (get_line bit rows (from + j + 1) row l)
          ∙ ap (λ xs. get_or xs row false) (sym (get_or-take count (drop from columns) j [] u ∙ get_or-drop from columns j [] ∙ held_column bit width rows (from + j) (omega arith)))

      first_columns : (n : ℕ) → n ≤ count → number_in block (from + 1) n (row % 64) ≡ number_at (take n slices) row
      first_columns zero u = refl
      first_columns (suc n) u =
          let more : n + 1 ≡ suc n = omega arith in
          ap (λ x. then_bit x (has_bit (get_or block (from + 1 + n) 0) (row % 64))) (first_columns n (omega arith))
          ∙ ap (then_bit (number_at (take n slices) row)) (slice_bit n (omega arith))
          ∙ sym (number_at-more slices n row (omega (arith, wide)))
          ∙ ap (λ n. number_at (take n slices) row) more

  -- what is asked of words is asked of the columns
  pub answer_held : (answer : List Bool) (block : ℕ → List ℕ) (from count key : ℕ) (rel : Order) (all : Bool) → ((line row : ℕ) → has_bit (get_or (block row) line 0) (row % 64) ≡ seen line row) → from + count ≤ width → IsAnswer answer (asked_rows seen rows all) (λ row. holds rel (number_in (block row) (from + 1) count (row % 64)) key) → IsAnswer answer (asked_rows bit rows all) (λ row. holds rel (number_at (take count (drop from (held bit width rows).columns)) row) key)
  answer_held answer block from count key rel all is w a = record {
    rows = a.rows ∙ ap length (rows_seen all);
    each = λ row l.
        let under : row < rows = omega (arith, length-map-range_with_len (λ row. all || bit 0 row) 0 rows) in
        a.each row (omega (arith, ap length (rows_seen all)))
        ∙ ap (λ n. get_or (asked_rows seen rows all) row false && holds rel n key) (number_held (block row) from count row (λ line. is line row) w under)
        ∙ ap (λ xs. get_or xs row false && holds rel (number_at (take count (drop from (held bit width rows).columns)) row) key) (rows_seen all);
  }

-- of all rows, those that are among some
pub answer_among : (answer among all : List Bool) (bit : ℕ → ℕ → Bool) (rows : ℕ) (test : ℕ → Bool) → length among ≡ rows → answer ≡ bitwise ◌&&◌ among all → IsAnswer all (asked_rows bit rows true) test → IsAnswer answer among test
answer_among answer among all bit rows test l e a = record {
  rows = ap length e ∙ length-bitwise ◌&&◌ among all same;
  each = λ row u.
      let at : 0 + row ≡ row = omega arith in
      ap (λ xs. get_or xs row false) e
      ∙ get_or-bitwise ◌&&◌ among all row u same
      ∙ ap (λ b. get_or among row false && b) (a.each row (omega (arith, wide)) ∙ ap (λ b. b && test row) (get_or-map-range_with_len (λ row. true) 0 rows row row false (omega arith) at));
}
  where
    wide : length (asked_rows bit rows true) ≡ rows
    wide = length-map-range_with_len (λ row. true) 0 rows

    same : length among ≡ length all
    same = l ∙ sym wide ∙ sym a.rows
