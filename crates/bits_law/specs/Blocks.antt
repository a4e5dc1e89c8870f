-- Rows in blocks of 64: each line of bits has a word in each block. Line 0 says which rows have a key, and line j + 1
-- is column j.
use Rattle.std.specs.Prelude.{◌≡◌, ◌≢◌, ℕ, zero, suc, ◌+◌, ◌-◌, ◌*◌, ◌/◌, ◌%◌, ◌^◌, ◌<◌, ◌≤◌, Bool, true, false, ◌||◌, ◌&&◌, List, [], length, get_or, map, nat_eq, nat_lt, if◌then◌else◌}
use Rattle.std.specs.List.{range_with_len}
use Rattle.bits_law.specs.Contents.{Contents}
use Rattle.bits_law.specs.Numbers.{has_bit, then_bit}

-- how many blocks hold `rows` rows
abbrev pub blocks : ℕ → ℕ
blocks rows = (rows + 63) / 64

-- how many words of 64 bits hold a key of `width` bits
abbrev pub parts : ℕ → ℕ
parts width = (width + 63) / 64

-- blocks of `width` columns, each a list of the words of its lines
pub record Lines : Type 0 where
  pub width : ℕ
  pub blocks : List (List ℕ)

-- the word of a line in a block
abbrev pub word_at : Lines → ℕ → ℕ → ℕ
word_at lines block line = get_or (get_or lines.blocks block []) line 0

-- the bit of a line at place `i` of up to 64 keys, of which `taken` says which there are; a key has a word for each 64
-- columns, and the first column's bit is the highest
abbrev pub waiting : List ℕ → ℕ → ℕ → ℕ → ℕ → Bool
waiting keys width taken zero i = has_bit taken i
waiting keys width taken (suc j) i = has_bit taken i && has_bit (get_or keys (i * parts width + j / 64) 0) (63 - j % 64)

-- the bit of a line at a row: of its block, or of the keys that wait behind the blocks
abbrev pub bit_at : Lines → List ℕ → ℕ → ℕ → ℕ → Bool
bit_at lines keys taken line row = if nat_lt (row / 64) (length lines.blocks) then has_bit (word_at lines (row / 64) line) (row % 64) else (nat_eq (row / 64) (length lines.blocks) && waiting keys lines.width taken line (row % 64))

-- a line's bits at `rows` rows
abbrev pub line_of : (ℕ → ℕ → Bool) → ℕ → ℕ → List Bool
line_of bit rows line = map (bit line) (range_with_len 0 rows)

-- what the lines hold
abbrev pub held : (ℕ → ℕ → Bool) → ℕ → ℕ → Contents
held bit width rows = record {
  present = line_of bit rows 0;
  columns = map (λ j. line_of bit rows (j + 1)) (range_with_len 0 width);
}

-- no bit is set past the rows or where there is no key, and the last of them stand in the first `count` blocks or wait behind them
pub record IsLaid (bit : ℕ → ℕ → Bool) (width rows count : ℕ) : Type 0 where
  pub clear : (line row : ℕ) → line ≤ width → rows ≤ row → bit line row ≡ false
  pub within : (line row : ℕ) → line ≤ width → bit 0 row ≡ false → bit line row ≡ false
  pub short : rows ≤ 2 ^ 40
  pub behind : 64 * count ≤ rows
  pub near : rows ≤ 64 * count + 64

-- no bit of the lines changes
abbrev pub AreSame : (ℕ → ℕ → Bool) → (ℕ → ℕ → Bool) → ℕ → Type 0
AreSame old new width = (line row : ℕ) → line ≤ width → new line row ≡ old line row

-- what a row sets in the lines: that it has a key, and the bits of the key
abbrev pub line_bit : (ℕ → Bool) → ℕ → Bool
line_bit bit zero = true
line_bit bit (suc j) = bit j

-- the first `done` words of a key are written at place `at` among keys of `n` words
pub record IsWritten (old new : List ℕ) (n at done : ℕ) (bit : ℕ → Bool) : Type 0 where
  pub long : length new ≡ length old
  pub before : (k : ℕ) → k < at * n → get_or new k 0 ≡ get_or old k 0
  pub after : (k : ℕ) → at * n + n ≤ k → get_or new k 0 ≡ get_or old k 0
  pub here : (part p : ℕ) → part < done → p < 64 → has_bit (get_or new (at * n + part) 0) (63 - p) ≡ bit (64 * part + p)

-- a row's bits are those of a key, and no others change
pub record IsSet (old new : ℕ → ℕ → Bool) (width row : ℕ) (bit : ℕ → Bool) : Type 0 where
  pub here : (line : ℕ) → line ≤ width → new line row ≡ line_bit bit line
  pub other : (line r : ℕ) → line ≤ width → r ≢ row → new line r ≡ old line r

-- other lines go on from row `rows`
pub record AreJoined (old other new : ℕ → ℕ → Bool) (width rows : ℕ) : Type 0 where
  pub before : (line row : ℕ) → line ≤ width → row < rows → new line row ≡ old line row
  pub behind : (line row : ℕ) → line ≤ width → new line (rows + row) ≡ other line row

-- the first `more` rows of other lines go on from row `rows`, and no bit is set past them
pub record AreJoinedFor (old other new : ℕ → ℕ → Bool) (width rows more : ℕ) : Type 0 where
  pub before : (line row : ℕ) → line ≤ width → row < rows → new line row ≡ old line row
  pub behind : (line row : ℕ) → line ≤ width → row < more → new line (rows + row) ≡ other line row
  pub clear : (line row : ℕ) → line ≤ width → more ≤ row → new line (rows + row) ≡ false

-- a block of some, or of the one behind them
abbrev pub block_in : Lines → Lines → ℕ → List ℕ
block_in stored last block = if nat_lt block (length stored.blocks) then get_or stored.blocks block [] else get_or last.blocks 0 []

-- the bit of a line at a row of these blocks
abbrev pub bit_in : Lines → Lines → ℕ → ℕ → Bool
bit_in stored last line row = has_bit (get_or (block_in stored last (row / 64)) line 0) (row % 64)

-- the number that `count` words from `first` on spell at bit `i`, the highest first
abbrev pub number_in : List ℕ → ℕ → ℕ → ℕ → ℕ
number_in words first zero i = 0
number_in words first (suc count) i = then_bit (number_in words first count i) (has_bit (get_or words (first + count) 0) i)

-- the rows that are asked: all, or those that have a key
abbrev pub asked_rows : (ℕ → ℕ → Bool) → ℕ → Bool → List Bool
asked_rows bit rows all = map (λ row. all || bit 0 row) (range_with_len 0 rows)
