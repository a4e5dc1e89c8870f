-- The objects in memory: what is left or written, and which calls fail.
use Rattle.std.specs.Prelude.{ℕ, ◌+◌, ◌-◌, ◌^◌, Bool, false, ◌||◌, if◌then◌else◌, List, [], ◌∷◌, Option, length, min, ◌==◌}
use Rattle.std.specs.List.{list_any, find}
use Rattle.std.specs.Option.{option_map}
use Rattle.std.specs.Str.{bytes_eq}
use Rattle.vast_io.specs.declared.memory.File.{File}

-- a source in memory: the bytes left, the most bytes a call gives, the numbers of the calls that fail, and how many
-- calls and faults there were
pub record Supply : Type 0 where
  pub left : List ℕ
  pub piece : ℕ
  pub fails : List ℕ
  pub calls : ℕ
  pub faults : ℕ

-- a sink in memory: the bytes written, the room for all of them, and the rest as in a source
pub record Intake : Type 0 where
  pub written : List ℕ
  pub room : ℕ
  pub piece : ℕ
  pub fails : List ℕ
  pub calls : ℕ
  pub faults : ℕ

-- the call with this number fails
abbrev pub fails_at : List ℕ → ℕ → Bool
fails_at fails call = list_any (λ n. n == call) fails

-- one more, up to the end of the type
abbrev pub next_number : ℕ → ℕ
next_number n = min (n + 1) (2 ^ 64 - 1)

-- a sink refuses a piece that is not empty where the call is to fail, or where it has no room
abbrev pub refuses : Intake → List ℕ → Bool
refuses s [] = false
refuses s (x ∷ xs) = fails_at s.fails s.calls || (s.piece == 0 || s.room == length s.written)

-- how many bytes a sink takes that does not refuse
abbrev pub taken_count : Intake → ℕ → ℕ
taken_count s wanted = min wanted (min s.piece (s.room - length s.written))

-- how many bytes a source gives that does not fail
abbrev pub given_count : Supply → ℕ → ℕ
given_count s wanted = min wanted (min s.piece (length s.left))

-- the count of faults after a call
abbrev pub faults_after : ℕ → Bool → ℕ
faults_after faults failed = if failed then next_number faults else faults

-- the bytes under a name, if there is such a file
abbrev pub held : List File → List ℕ → Option (List ℕ)
held files name = option_map (λ file. file.bytes) (find (λ file. bytes_eq file.name name) files)

-- which reads of the source of that file fail
abbrev pub failing_reads : List File → List ℕ → Option (List ℕ)
failing_reads files name = option_map (λ file. file.fails.items) (find (λ file. bytes_eq file.name name) files)
