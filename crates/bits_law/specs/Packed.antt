-- How blocks are packed: columns that are equal in all rows of a block keep no word.
use Rattle.std.specs.Prelude.{◌≡◌, ℕ, zero, suc, ◌+◌, ◌-◌, ◌*◌, ◌/◌, ◌%◌, ◌^◌, ◌<◌, ◌≤◌, Bool, true, ◌&&◌, List, length, get_or, take, map, if◌then◌else◌, count_ones}
use Rattle.std.specs.List.{range_with_len}
use Rattle.bits_law.specs.declared.head.Head.{Head}
use Rattle.bits_law.specs.Numbers.{has_bit}
use Rattle.bits_law.specs.Blocks.{Lines, parts, word_at, waiting}

-- the head of columns that have no bit
abbrev pub no_head : Head
no_head = record { literal = 0; own = 0; full = 0; from = 0 }

-- a head whose words stand `by` words further on
abbrev pub moved : ℕ → Head → Head
moved by head = record head { from = head.from + by }

-- the word of the column at bit `c`: a literal one has its own or that of the first column below it that has one, and
-- those of the columns above it stand before it
abbrev pub column_word : ℕ → List ℕ → Head → ℕ → ℕ
column_word present words head c = if has_bit head.literal c then get_or words (head.from + count_ones (head.own / 2 ^ c / 2)) 0 else (if has_bit head.full c then present else 0)

-- the word of a line, from the heads
abbrev pub line_word : ℕ → List ℕ → List Head → List ℕ → ℕ → ℕ → ℕ
line_word n present heads words block zero = get_or present block 0
line_word n present heads words block (suc j) = column_word (get_or present block 0) words (get_or heads (block * n + j / 64) no_head) (63 - j % 64)

-- the blocks that are packed
abbrev pub unpacked : ℕ → List ℕ → List Head → List ℕ → Lines
unpacked width present heads words = record {
  width = width;
  blocks = map (λ block. map (line_word (parts width) present heads words block) (range_with_len 0 (width + 1))) (range_with_len 0 (length present));
}

-- the words of a head's literal columns are kept
pub record IsInside (head : Head) (words : List ℕ) : Type 0 where
  pub begins : head.from ≤ length words
  pub kept : (c : ℕ) → c < 64 → has_bit head.literal c ≡ true → head.from + count_ones (head.own / 2 ^ c / 2) < length words

-- a head for each 64 columns of each block
pub record ArePacked (width : ℕ) (present : List ℕ) (heads : List Head) (words : List ℕ) : Type 0 where
  pub narrow : width ≤ 2 ^ 32
  pub long : length heads ≡ length present * parts width
  pub inside : (k : ℕ) → k < length heads → IsInside (get_or heads k no_head) words

-- the second list begins with the first
abbrev pub Begins : {A : Type 0} → List A → List A → Type 0
Begins old new = take (length old) new ≡ old

-- the columns of `own` from bit `c` up have their words behind the old ones
pub record AreFilled (old new : List ℕ) (own c : ℕ) (word : ℕ → ℕ → Bool) : Type 0 where
  pub long : length new ≡ length old + count_ones (own / 2 ^ c)
  pub before : Begins old new
  pub each : (p i : ℕ) → c ≤ p → p < 64 → i < 64 → has_bit own p ≡ true → has_bit (get_or new (length old + count_ones (own / 2 ^ p / 2)) 0) i ≡ word p i

-- the first `done` bytes of a plane are those of each key, the lowest byte being byte 0
pub record IsPlane (plane keys : List ℕ) (byte done : ℕ) : Type 0 where
  pub each : (i : ℕ) → i < done → get_or plane i 0 ≡ get_or keys i 0 / 2 ^ (8 * byte) % 256

-- a head stands for 64 columns of keys
pub record IsHead (head : Head) (words : List ℕ) (key : ℕ → ℕ) (taken : ℕ) : Type 0 where
  pub inside : IsInside head words
  pub bits : (c i : ℕ) → c < 64 → i < 64 → has_bit (column_word taken words head c) i ≡ (has_bit taken i && has_bit (key i) c)

-- the heads of the first `done` parts are added
pub record AreHeads (old new : List Head) (words keys : List ℕ) (n done taken : ℕ) : Type 0 where
  pub long : length new ≡ length old + done
  pub before : Begins old new
  pub each : (part : ℕ) → part < done → IsHead (get_or new (length old + part) no_head) words (λ i. get_or keys (i * n + part) 0) taken

-- a block of keys is added to the lists that hold blocks, and blocks without a key behind it up to `count` blocks
pub record AreAdded (present new_present : List ℕ) (heads new_heads : List Head) (words keys : List ℕ) (n taken count : ℕ) : Type 0 where
  pub blocks : length new_present ≡ count
  pub first : get_or new_present (length present) 0 ≡ taken
  pub no_rows : (block : ℕ) → length present < block → get_or new_present block 0 ≡ 0
  pub long : length new_heads ≡ count * n
  pub made : (part : ℕ) → part < n → IsHead (get_or new_heads (length heads + part) no_head) words (λ i. get_or keys (i * n + part) 0) taken
  pub no_heads : (k : ℕ) → length heads + n ≤ k → get_or new_heads k no_head ≡ no_head

-- a block of keys is stored, and blocks without a key behind it up to `count` blocks
pub record IsStored (old new : Lines) (keys : List ℕ) (taken count : ℕ) : Type 0 where
  pub wide : new.width ≡ old.width
  pub long : length new.blocks ≡ count
  pub before : (block line : ℕ) → block < length old.blocks → line ≤ old.width → word_at new block line ≡ word_at old block line
  pub here : (line i : ℕ) → line ≤ old.width → i < 64 → has_bit (word_at new (length old.blocks) line) i ≡ waiting keys old.width taken line i
  pub gap : (block line : ℕ) → length old.blocks < block → word_at new block line ≡ 0

-- other blocks stand behind
pub record AreBehind (old other new : Lines) : Type 0 where
  pub wide : new.width ≡ old.width
  pub long : length new.blocks ≡ length old.blocks + length other.blocks
  pub before : (block line : ℕ) → block < length old.blocks → line ≤ old.width → word_at new block line ≡ word_at old block line
  pub behind : (block line : ℕ) → line ≤ old.width → word_at new (length old.blocks + block) line ≡ word_at other block line
