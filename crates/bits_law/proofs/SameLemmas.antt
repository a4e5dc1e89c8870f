-- Lines that have a key's bits at each row that is asked.
use Rattle.std.proofs.Common.{◌≡◌, ℕ, zero, suc, ◌+◌, ◌-◌, ◌*◌, ◌/◌, ◌%◌, ◌^◌, ◌<◌, ◌≤◌, min, Bool, true, false, cond, eqb, not, ◌&&◌, ◌||◌, List, [], get_or, refl, ap, sym, ◌∙◌, subst, arith}
use Rattle.std.specs.Prelude.{bit_and, bit_or}
use Rattle.std.specs.Int.{bit_not, w64, leading_zeros}
use Rattle.std.proofs.lemmas.Nat.{leading_length}
use Rattle.std.proofs.lemmas.Nat.Bits.{bit_at_above}
use Rattle.bits_law.specs.declared.head.Head.{Head}
use Rattle.bits_law.specs.Numbers.{has_bit}
use Rattle.bits_law.specs.Blocks.{Lines, word_at}
use Rattle.bits_law.specs.Packed.{column_word, line_word, no_head}
use Rattle.bits_law.proofs.WordBits.{bit-none, bit-and, bit-or, bit-not, up_high, down}
use Rattle.bits_law.proofs.AskLemmas.{AreHalves, halves_more}

or_false : (a b : Bool) → (a || b) ≡ false → (a ≡ false) × (b ≡ false)
or_false true b e = cc
or_false false b e = (refl, e)

same_bits : (a b : Bool) → ((a && not b) || (b && not a)) ≡ false → a ≡ b
same_bits true true e = refl
same_bits true false e = cc
same_bits false true e = cc
same_bits false false e = refl

holds_too : (a b : Bool) → (a && not b) ≡ false → a ≡ true → b ≡ true
holds_too true true e t = refl
holds_too true false e t = cc
holds_too false b e t = cc

-- ---- one column

other_bit : (full key c : ℕ) → full < 2 ^ 64 → key < 2 ^ 64 → c < 64
    → has_bit (bit_or (bit_and full (bit_not w64 key)) (bit_and key (bit_not w64 full))) c ≡ ((has_bit full c && not (has_bit key c)) || (has_bit key c && not (has_bit full c)))
other_bit full key c f k l =
    bit-or (bit_and full (bit_not w64 key)) (bit_and key (bit_not w64 full)) c
    ∙ ap (λ (b : Bool). b || has_bit (bit_and key (bit_not w64 full)) c) (bit-and full (bit_not w64 key) c ∙ ap (λ (b : Bool). has_bit full c && b) (bit-not key c k l))
    ∙ ap (λ (b : Bool). (has_bit full c && not (has_bit key c)) || b) (bit-and key (bit_not w64 full) c ∙ ap (λ (b : Bool). has_bit key c && b) (bit-not full c f l))

apart_parts : (literal full key c : ℕ) → full < 2 ^ 64 → key < 2 ^ 64 → c < 64
    → has_bit (bit_or literal (bit_or (bit_and full (bit_not w64 key)) (bit_and key (bit_not w64 full)))) c ≡ false → (has_bit literal c ≡ false) × (has_bit full c ≡ has_bit key c)
apart_parts literal full key c f k l e =
    let parts = or_false (has_bit literal c) _ (sym (bit-or literal (bit_or (bit_and full (bit_not w64 key)) (bit_and key (bit_not w64 full))) c) ∙ e) in
    (parts.0, same_bits (has_bit full c) (has_bit key c) (sym (other_bit full key c f k l) ∙ parts.1))

column_is : (present : ℕ) (words : List ℕ) (head : Head) (bit : Bool) (c i : ℕ) → has_bit head.literal c ≡ false → has_bit head.full c ≡ bit → (bit ≡ true → has_bit present i ≡ true)
    → has_bit (column_word present words head c) i ≡ bit
column_is present words head true c i l f p = rw (l, f) (p refl)
column_is present words head false c i l f p = rw (l, f) (bit-none i)

-- the rows that are asked have a key
pub column_known : (literal full present among key : ℕ) (words : List ℕ) (head : Head) (c i : ℕ) → present < 2 ^ 64 → full < 2 ^ 64 → key < 2 ^ 64 → c < 64 → i < 64
    → head.literal ≡ literal → head.full ≡ full → bit_and among (bit_not w64 present) ≡ 0
    → has_bit (bit_or literal (bit_or (bit_and full (bit_not w64 key)) (bit_and key (bit_not w64 full)))) c ≡ false → has_bit among i ≡ true
    → has_bit (column_word present words head c) i ≡ has_bit key c
column_known literal full present among key words head c i p f k l u is_literal is_full none e a =
    let parts = apart_parts literal full key c f k l e in
    let out : (has_bit among i && not (has_bit present i)) ≡ false =
    ap (λ (b : Bool). has_bit among i && b) (sym (bit-not present i p u)) ∙ sym (bit-and among (bit_not w64 present) i) ∙ ap (λ (n : ℕ). has_bit n i) none ∙ bit-none i in
    column_is present words head (has_bit key c) c i (ap (λ (n : ℕ). has_bit n c) is_literal ∙ parts.0) (ap (λ (n : ℕ). has_bit n c) is_full ∙ parts.1) (λ t. holds_too (has_bit among i) (has_bit present i) out a)

-- any rows are asked
pub column_clear : (literal full present key : ℕ) (words : List ℕ) (head : Head) (c i : ℕ) → full < 2 ^ 64 → key < 2 ^ 64 → c < 64 → head.literal ≡ literal → head.full ≡ full
    → has_bit (bit_or (bit_or literal (bit_or (bit_and full (bit_not w64 key)) (bit_and key (bit_not w64 full)))) full) c ≡ false
    → has_bit (column_word present words head c) i ≡ has_bit key c
column_clear literal full present key words head c i f k l is_literal is_full e =
    let apart = bit_or literal (bit_or (bit_and full (bit_not w64 key)) (bit_and key (bit_not w64 full))) in
    let both = or_false (has_bit apart c) (has_bit full c) (sym (bit-or apart full c) ∙ e) in
    let parts = apart_parts literal full key c f k l both.0 in
    column_is present words head (has_bit key c) c i (ap (λ (n : ℕ). has_bit n c) is_literal ∙ parts.0) (ap (λ (n : ℕ). has_bit n c) is_full ∙ parts.1)
    (λ t. let no = sym both.1 ∙ parts.1 ∙ t in cc)

-- ---- lines

leading_clear : (w p : ℕ) → w < 2 ^ 64 → p < 64 → 63 - p < leading_zeros w64 w → has_bit w p ≡ false
leading_clear w p small below zeros =
    let top = leading_length 64 w small in
    ap (λ (x : ℕ). eqb x 1) (bit_at_above w top.0 p top.2 (omega (arith, top.1, zeros, below)))

pub line_known : (n : ℕ) (present : List ℕ) (heads : List Head) (words : List ℕ) (block line column shift key apart lead k i : ℕ)
    → line ≡ column + 1 → shift ≡ column % 64 → lead ≡ leading_zeros w64 (apart * 2 ^ shift % 2 ^ 64) → k < lead → k < 64 - shift
    → ((c : ℕ) → c < 64 → has_bit apart c ≡ false → has_bit (column_word (get_or present block 0) words (get_or heads (block * n + column / 64) no_head) c) i ≡ has_bit (key / 2 ^ shift) c)
    → has_bit (line_word n present heads words block (line + k)) i ≡ has_bit key (63 - k)
line_known n present heads words block line column shift key apart lead k i is at z below inside agree =
    let small : shift < 64 = omega (arith, at) in
    let c = 63 - shift - k in
    let place : c ≡ 63 - k - shift = omega (arith, inside) in
    let clear : has_bit apart c ≡ false =
    ap (λ (x : ℕ). has_bit apart x) place ∙ sym (up_high apart shift (63 - k) (omega (arith, inside)) (omega arith))
    ∙ leading_clear (apart * 2 ^ shift % 2 ^ 64) (63 - k) (omega arith) (omega arith) (omega (arith, z, below, inside)) in
    let next : line + k ≡ suc (column + k) = omega (arith, is) in
    let same_part : (column + k) / 64 ≡ column / 64 = omega (arith, at, inside) in
    let same_place : 63 - (column + k) % 64 ≡ c = omega (arith, at, inside) in
    let back : shift + c ≡ 63 - k = omega (arith, inside) in
    ap (λ (l : ℕ). has_bit (line_word n present heads words block l) i) next
    ∙ ap (λ (q : ℕ). has_bit (column_word (get_or present block 0) words (get_or heads (block * n + q) no_head) (63 - (column + k) % 64)) i) same_part
    ∙ ap (λ (q : ℕ). has_bit (column_word (get_or present block 0) words (get_or heads (block * n + column / 64) no_head) q) i) same_place
    ∙ agree c (omega (arith, inside)) clear ∙ down key shift c ∙ ap (λ (q : ℕ). has_bit key q) back

-- ---- the halves where lines are passed over

skip_below : (e w bit b : Bool) → (e ≡ true → w ≡ bit) → b ≡ cond bit (b || (e && not w)) b
skip_below false w true true h = refl
skip_below false w true false h = refl
skip_below false w false b h = refl
skip_below true w true b h = rw (h refl) (or_none b)
  where
    or_none : (x : Bool) → x ≡ (x || false)
    or_none true = refl
    or_none false = refl
skip_below true w false b h = refl

skip_equal : (e w bit : Bool) → (e ≡ true → w ≡ bit) → e ≡ (e && cond bit w (not w))
skip_equal false w bit h = refl
skip_equal true w true h = sym (h refl)
skip_equal true w false h = rw (h refl) refl

asked_equal : (a e x : Bool) → e ≡ (a && x) → e ≡ true → a ≡ true
asked_equal true e x is t = refl
asked_equal false e x is t = let no = sym is ∙ t in cc

skip_one : (words : List ℕ) (first count key among below equal j : ℕ) → j < count
    → ((i : ℕ) → i < 64 → has_bit among i ≡ true → has_bit (get_or words (first + j) 0) i ≡ eqb (key / 2 ^ (count - 1 - j) % 2) 1)
    → AreHalves words first count key among below equal j → AreHalves words first count key among below equal (j + 1)
skip_one words first count key among below equal j l agree h =
    let word = get_or words (first + j) 0 in
    let bit = eqb (key / 2 ^ (count - 1 - j) % 2) 1 in
    let same : (i : ℕ) → i < 64 → has_bit equal i ≡ true → has_bit word i ≡ bit = λ i u t. agree i u (asked_equal (has_bit among i) (has_bit equal i) _ (h.equal i u) t) in
    halves_more words first count key among below equal below equal word j bit l refl refl
    (λ i u. skip_below (has_bit equal i) (has_bit word i) bit (has_bit below i) (same i u)) (λ i u. skip_equal (has_bit equal i) (has_bit word i) bit (same i u)) h

pub halves_skip : (words : List ℕ) (first count key among below equal j d : ℕ) → j + d ≤ count
    → ((k i : ℕ) → k < d → i < 64 → has_bit among i ≡ true → has_bit (get_or words (first + (j + k)) 0) i ≡ eqb (key / 2 ^ (count - 1 - (j + k)) % 2) 1)
    → AreHalves words first count key among below equal j → AreHalves words first count key among below equal (j + d)
halves_skip words first count key among below equal j zero l agree h =
    let same : j ≡ j + 0 = omega arith in subst (λ (n : ℕ). AreHalves words first count key among below equal n) same h
halves_skip words first count key among below equal j (suc d) l agree h =
    let same : (j + d) + 1 ≡ j + suc d = omega arith in
    subst (λ (n : ℕ). AreHalves words first count key among below equal n) same
    (skip_one words first count key among below equal (j + d) (omega arith) (λ i u a. agree d i (omega arith) u a)
    (halves_skip words first count key among below equal j d (omega arith) (λ k i m u a. agree k i (omega arith) u a) h))

-- lines that are seen to have the key's bits are passed over, as far as they are asked
pub passed_over : (blocks : Lines) (block first count key among below equal j same to : ℕ) → key < 2 ^ 64 → count ≤ 64 → first + count ≤ blocks.width + 1 → j < count → to ≡ min count (j + same)
    → ((k i : ℕ) → k < same → (first + j) + k ≤ blocks.width → i < 64 → has_bit among i ≡ true → has_bit (word_at blocks block ((first + j) + k)) i ≡ has_bit (key * 2 ^ (64 - (count - j)) % 2 ^ 64) (63 - k))
    → AreHalves (get_or blocks.blocks block []) first count key among below equal j → AreHalves (get_or blocks.blocks block []) first count key among below equal to
passed_over blocks block first count key among below equal j same to small few inside l is agree h =
    let d = to - j in
    let end : j + d ≡ to = omega (arith, is) in
    subst (λ (n : ℕ). AreHalves (get_or blocks.blocks block []) first count key among below equal n) end
    (halves_skip (get_or blocks.blocks block []) first count key among below equal j d (omega (arith, is))
    (λ k i m u a.
    let line : first + (j + k) ≡ (first + j) + k = omega arith in
    let place : (63 - k) - (64 - (count - j)) ≡ count - 1 - (j + k) = omega (arith, is, m) in
    ap (λ (n : ℕ). has_bit (get_or (get_or blocks.blocks block []) n 0) i) line
    ∙ agree k i (omega (arith, is, m)) (omega (arith, is, m, inside)) u a
    ∙ up_high key (64 - (count - j)) (63 - k) (omega (arith, is, m)) (omega arith) ∙ ap (λ (n : ℕ). has_bit key n) place) h)
