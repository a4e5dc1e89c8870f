-- The words of a command.
use Rattle.std.specs.Prelude.{ℕ, List, [], ◌∷◌, Option, None, Some, if◌then◌else◌, codes}
use Rattle.std.specs.Str.{bytes_eq}
use Rattle.vast.specs.declared.words.Command.{Command}
use Rattle.vast.specs.declared.words.Command.TheVariants as command

-- a command by the bytes of its words: `scan FILE QUERY`, `check FILE` or `steps SCRIPT`
pub data Wanted : Type 0 where
  Scan : List ℕ → List ℕ → Wanted
  Check : List ℕ → Wanted
  Steps : List ℕ → Wanted

abbrev pub scan_words : List ℕ → List ℕ → List ℕ → Option Wanted
scan_words command file query = if bytes_eq command (codes "scan") then Some (Scan file query) else None

abbrev pub file_words : List ℕ → List ℕ → Option Wanted
file_words command file =
    if bytes_eq command (codes "check") then Some (Check file) else (if bytes_eq command (codes "steps") then Some (Steps file) else None)

-- The commands that there are: exactly three words, the first of which is `scan`, or two, the first of which is `check` or
-- `steps`.
abbrev pub command_of : List (List ℕ) → Option Wanted
command_of (command ∷ (file ∷ [])) = file_words command file
command_of (command ∷ (file ∷ (query ∷ []))) = scan_words command file query
command_of _ = None

abbrev pub file_of : Wanted → List ℕ
file_of (Scan file query) = file
file_of (Check file) = file
file_of (Steps script) = script

-- a command as the program has it
abbrev pub wanted_of : Command → Wanted
wanted_of (command.Scan file query) = Scan file.now query.now
wanted_of (command.Check file) = Check file.now
wanted_of (command.Steps script) = Steps script.now
