-- What a table of bitmaps holds, and the keys that it stands for.
use Rattle.std.specs.Prelude.{◌≡◌, ℕ, ◌<◌, Bool, true, false, List, [], length, get_or, Option, ◌++◌}
use Rattle.bits_law.specs.Keys.{padded, placed, answers, EachKey}

-- which rows have a key, and the columns of bits that the keys set
pub record Contents : Type 0 where
  pub present : List Bool
  pub columns : List (List Bool)

-- the table stands for the keys: it has `width` columns, and column j says at each row whether its key sets bit j
pub record StandsFor {K : Type 0} (width : ℕ) (bit : ℕ → K → Bool) (keys : List (Option K)) (table : Contents) : Type 0 where
  pub wide : length table.columns ≡ width
  pub present : table.present ≡ answers (λ _. true) keys
  pub column : (j : ℕ) → j < width → get_or table.columns j [] ≡ answers (bit j) keys

-- the table stands for keys that each meet a condition: what an index of such keys holds
pub record HoldsKeys {K : Type 0} (width : ℕ) (bit : ℕ → K → Bool) (IsKey : K → Type 0) (table : Contents) (keys : List (Option K)) : Type 0 where
  pub stands : StandsFor width bit keys table
  pub each : EachKey IsKey keys

-- each list of the new table comes from that of the old one
pub record EachColumn (old new : Contents) (change : ℕ → List Bool → List Bool) : Type 0 where
  pub wide : length new.columns ≡ length old.columns
  pub column : (j : ℕ) → j < length old.columns → get_or new.columns j [] ≡ change j (get_or old.columns j [])

-- a key is placed at `row` that sets these bits
pub record IsPlaced (old new : Contents) (row : ℕ) (bit : ℕ → Bool) : Type 0 where
  pub present : new.present ≡ placed false old.present row true
  pub each : EachColumn old new (λ j column. placed false column row (bit j))

-- a gap is added, up to `rows` rows
pub record IsPadded (old new : Contents) (rows : ℕ) : Type 0 where
  pub present : new.present ≡ padded false old.present rows
  pub each : EachColumn old new (λ _ column. padded false column rows)

-- the rows of another table are added
pub record IsJoined (old other new : Contents) : Type 0 where
  pub present : new.present ≡ old.present ++ other.present
  pub each : EachColumn old new (λ j column. column ++ get_or other.columns j [])

-- each column has a bit for each row
abbrev pub IsEven : Contents → Type 0
IsEven table = (j : ℕ) → j < length table.columns → length (get_or table.columns j []) ≡ length table.present
