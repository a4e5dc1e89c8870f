-- Blocks of rows and their packing, computed for small ones.
use Rattle.std.proofs.Common.{◌≡◌, ◌^◌, true, false, [], ◌∷◌, refl}
use Rattle.bits_law.specs.Blocks.{waiting, bit_at, number_in, blocks, parts}
use Rattle.bits_law.specs.Packed.{moved, column_word, line_word}

-- 64 rows fill a block, and one more begins another; 65 columns need two words
whole_blocks : (blocks 64 ≡ 1) × (blocks 65 ≡ 2) × (parts 64 ≡ 1) × (parts 65 ≡ 2)
whole_blocks = (refl, refl, refl, refl)

-- columns 3 and 0 are literal, and the first of these repeats the word of the second; column 1 is full, and column 2 is clear
one_head : (column_word 7 (5 ∷ 6 ∷ []) (record { literal = 9; own = 1; full = 2; from = 1 }) 3 ≡ 6) × (column_word 7 (5 ∷ 6 ∷ []) (record { literal = 9; own = 1; full = 2; from = 1 }) 0 ≡ 6) × (column_word 7 (5 ∷ 6 ∷ []) (record { literal = 9; own = 1; full = 2; from = 1 }) 1 ≡ 7) × (column_word 7 (5 ∷ 6 ∷ []) (record { literal = 9; own = 1; full = 2; from = 1 }) 2 ≡ 0)
unfolding lib.Count.ones
one_head = (refl, refl, refl, refl)

-- where both have their own, the word of the column above stands first, and a head that is moved has them further on
two_words : (column_word 7 (5 ∷ 6 ∷ []) (record { literal = 9; own = 9; full = 2; from = 0 }) 3 ≡ 5) × (column_word 7 (5 ∷ 6 ∷ []) (record { literal = 9; own = 9; full = 2; from = 0 }) 0 ≡ 6) × (column_word 7 (4 ∷ 5 ∷ 6 ∷ []) (moved 1 (record { literal = 9; own = 9; full = 2; from = 0 })) 3 ≡ 5)
unfolding lib.Count.ones
two_words = (refl, refl, refl)

-- line 0 is the rows that have a key, and line 1 the column of a head's highest bit
two_lines : (line_word 1 (7 ∷ []) (record { literal = 2 ^ 63; own = 2 ^ 63; full = 0; from = 0 } ∷ []) (5 ∷ []) 0 0 ≡ 7) × (line_word 1 (7 ∷ []) (record { literal = 2 ^ 63; own = 2 ^ 63; full = 0; from = 0 } ∷ []) (5 ∷ []) 0 1 ≡ 5)
unfolding lib.Count.ones
two_lines = (refl, refl)

-- a row that waits and has no key has no bit, whatever stands there; the first column is a key's highest bit
keys_that_wait : (waiting (2 ^ 63 ∷ 2 ^ 63 ∷ []) 1 1 0 0 ≡ true) × (waiting (2 ^ 63 ∷ 2 ^ 63 ∷ []) 1 1 1 0 ≡ true) × (waiting (2 ^ 63 ∷ 2 ^ 63 ∷ []) 1 1 1 1 ≡ false)
keys_that_wait = (refl, refl, refl)

-- row 65 is the second of the keys behind one block, and row 1 is in it
behind_a_block : (bit_at (record { width = 1; blocks = (2 ∷ 2 ∷ []) ∷ [] }) (0 ∷ 2 ^ 63 ∷ []) 2 1 65 ≡ true) × (bit_at (record { width = 1; blocks = (2 ∷ 2 ∷ []) ∷ [] }) (0 ∷ 2 ^ 63 ∷ []) 2 1 64 ≡ false) × (bit_at (record { width = 1; blocks = (2 ∷ 2 ∷ []) ∷ [] }) (0 ∷ 2 ^ 63 ∷ []) 2 1 1 ≡ true) × (bit_at (record { width = 1; blocks = (2 ∷ 2 ∷ []) ∷ [] }) (0 ∷ 2 ^ 63 ∷ []) 2 1 129 ≡ false)
behind_a_block = (refl, refl, refl, refl)

-- at bit 1 the words 2, 0 and 3 spell 101, the first one highest
spelled : number_in (9 ∷ 2 ∷ 0 ∷ 3 ∷ []) 1 3 1 ≡ 5
spelled = refl
